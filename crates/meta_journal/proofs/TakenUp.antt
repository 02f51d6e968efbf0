-- A journal that was read is what its disk holds, of either version.
use Rattle.std.proofs.Common.{◌≡◌, ◌≢◌, ℕ, ◌+◌, ◌-◌, ◌<◌, ◌≤◌, min, Bool, true, false, inl, inr, List, [], ◌∷◌, length, take, drop, refl, sym, ◌∙◌, ap, subst, arith, length-append, length-take, length-drop}
use Rattle.std.specs.Prelude.{Result, Ok, Err, ◌&&◌, slice_index, replicate}
use Rattle.std.proofs.lemmas.Bool.{cases_eq}
use Rattle.std.proofs.lemmas.Bool.Decides.{nat_tests}
use Rattle.std.proofs.lemmas.List.{take_at, take-take, get_or_at, get_or-take, get_or-drop, drop-drop}
use Rattle.std.proofs.lemmas.Slice.Eq.{bytes_eq-Decides}
use Rattle.fam_disk.specs.Crash.{IsTorn, written}
use Rattle.fam_disk.specs.Torn.{torn_written}
use Rattle.fam_model.specs.declared.change.Change.{Change}
use Rattle.fam_model.specs.declared.rows.Rows.{Rows}
use Rattle.fam_model.specs.Journal.{rows_from, rows_of}
use Rattle.fam_model.specs.Rows.{common_rows}
use Rattle.meta_codec.proofs.Spelled.{IsBytes}
use Rattle.meta_journal.specs.Image.{AreLawful, HasChanges, IsImage}
use Rattle.meta_journal.specs.Layout.{part, Holds, stands_at, magic, has_header, is_fresh, is_first_version, area_in_use, area_start, area_bytes, disk_place, records, records_end}
use Rattle.meta_journal.specs.Opened.{HasRowsOf}
use Rattle.meta_journal.specs.Opening.{summed}
use Rattle.meta_journal.specs.Reading.{Contents, journal, area_contents, on_disk, is_missing, HasRows}
use Rattle.meta_journal.specs.declared.area.Area.{Area}
use Rattle.meta_journal.specs.declared.doubt.Doubt.TheVariants.{Nothing}
use Rattle.meta_journal.specs.declared.reading.Records.{Records}
use Rattle.meta_journal.proofs.Adding.{rows_read}
use Rattle.meta_journal.proofs.Images.{start_place}
use Rattle.meta_journal.proofs.Parts.{holds_above, holds_below, byte_is, holds_front}
use Rattle.meta_journal.proofs.ReadBack.{stands_there}
use Rattle.meta_journal.proofs.Settling.{byte_above, start_min}

-- what was summed
pub record Sums (rows : Rows) (read : Result Contents ℕ) (records : Records) : Type 0 where
  pub contents : Contents
  pub is : read ≡ Ok contents
  pub rows_are : rows_from rows contents.changes ≡ records.rows
  pub place : contents.place ≡ records.place

pub sums : (rows : Rows) (read : Result Contents ℕ) (records : Records) → summed rows read ≡ Ok records → Sums rows read records
sums rows (Ok contents) records is =
    let made : Records = record { rows = rows_from rows contents.changes; place = contents.place } in
    let same : made ≡ records = cc in
    record { contents = contents; is = refl; rows_are = ap (λ (r : Records). r.rows) same; place = ap (λ (r : Records). r.place) same }
sums rows (Err place) records is = absurd cc

pub sums_damaged : (rows : Rows) (read : Result Contents ℕ) (place : ℕ) → summed rows read ≡ Err place → read ≡ Err place
sums_damaged rows (Ok contents) place is = absurd cc
sums_damaged rows (Err other) place is = let same : other ≡ place = cc in ap (λ (p : ℕ). Err p) same

-- what the header and the length of a disk say
pub record Seen (limit : ℕ) (area : Area) (is_first : Bool) (c : List ℕ) : Type 0 where
  pub old : is_fresh c ≡ false
  pub header : has_header c ≡ true
  pub area_is : area_in_use c ≡ area
  pub version : is_first_version c ≡ is_first
  pub there : is_missing limit area c ≡ false

pub reads_as : (limit : ℕ) (area : Area) (is_first : Bool) (c : List ℕ) → Seen limit area is_first c
    → journal limit c ≡ on_disk limit area (area_contents is_first (area_bytes limit area c))
reads_as limit area is_first c seen = rw (seen.old, seen.header, seen.area_is, seen.version, seen.there) refl

three_held : (a b c : Bool) → (a && b && c) ≡ true → (a ≡ true) × (b ≡ true) × (c ≡ true)
three_held true true true is = (refl, refl, refl)
three_held true true false is = absurd cc
three_held true false c is = absurd cc
three_held false b c is = absurd cc

-- the bytes of a header that are always the same
pub record HasFrame (c : List ℕ) : Type 0 where
  pub magic : Holds 0 magic c
  pub gap : Holds 5 (replicate 3 0) c
  pub rest : Holds 9 (replicate 7 0) c

pub has_frame : (c : List ℕ) → has_header c ≡ true → HasFrame c
has_frame c header =
    let parts = three_held (stands_at 0 magic c) (stands_at 5 (replicate 3 0) c) (stands_at 9 (replicate 7 0) c) header in
    record {
      magic = (bytes_eq-Decides (part 0 4 c) magic).0 parts.0;
      gap = (bytes_eq-Decides (part 5 3 c) (replicate 3 0)).0 parts.1;
      rest = (bytes_eq-Decides (part 9 7 c) (replicate 7 0)).0 parts.2;
    }

framed : (c : List ℕ) → HasFrame c → has_header c ≡ true
framed c frame = rw (frame.magic, frame.gap, frame.rest) refl

long : (limit : ℕ) (area : Area) (c : List ℕ) → is_missing limit area c ≡ false → area_start limit area < length c
long limit area c there = grind (arith, nat_tests, there)

old_long : (c : List ℕ) → is_fresh c ≡ false → 17 ≤ length c
old_long c old = grind (arith, nat_tests, old)

-- what stands in an area that was read
pub record IsRead (limit : ℕ) (area : Area) (c : List ℕ) (contents : Contents) : Type 0 where
  pub place : records_end contents.changes ≡ contents.place
  pub room : contents.place < limit
  pub lawful : AreLawful common_rows contents.changes
  pub has : HasChanges limit area contents.changes c

pub is_read : (limit : ℕ) (area : Area) (is_first : Bool) (c : List ℕ) (contents : Contents) → 17 ≤ limit → area_start limit area < length c → IsBytes (area_bytes limit area c)
    → area_contents is_first (area_bytes limit area c) ≡ Ok contents → IsRead limit area c contents
is_read limit area is_first c contents low there fits read =
    let start : ℕ = area_start limit area in
    let b : List ℕ = area_bytes limit area c in
    let size : length b ≡ min (limit - 16) (length c - start) = length-take (limit - 16) (drop start c) ∙ ap (λ (n : ℕ). min (limit - 16) n) (length-drop start c) in
    let some : 0 < length b = omega (arith, size) in
    let s = stands_there (length b) is_first common_rows 16 b contents fits some (omega arith) read in
    let n : ℕ = length (records contents.changes) in
    let inside : n < length b = omega (arith, ap length s.parts, length-append (records contents.changes) (s.gate ∷ s.rest)) in
    let front : take n b ≡ records contents.changes = ap (λ (l : List ℕ). take n l) s.parts ∙ take_at (records contents.changes) (s.gate ∷ s.rest) n refl in
    let gate : slice_index b n ≡ s.gate = ap (λ (l : List ℕ). slice_index l n) s.parts ∙ get_or_at (records contents.changes) s.gate s.rest 0 n refl in
    let same_gate : slice_index b n ≡ slice_index c (start + n) = get_or-take (limit - 16) (drop start c) n 0 (omega (arith, size)) ∙ get_or-drop start c n 0 in
    let at : disk_place limit area (records_end contents.changes) ≡ start + n = start_place limit area n in
    record {
      place = sym s.place_is;
      room = omega (arith, s.place_is, size);
      lawful = s.lawful;
      has = record {
        front = sym (take-take n (limit - 16) (drop start c) (omega (arith, size))) ∙ front;
        end = record {
          inside = omega (arith, at, size);
          shut = λ is_open. s.shut (sym gate ∙ same_gate ∙ ap (λ (i : ℕ). slice_index c i) (sym at) ∙ is_open);
        };
      };
    }

-- The version is written

-- the area of a disk whose fifth byte was written
area_kept : (limit : ℕ) (area : Area) (changes : List Change) (c d : List ℕ) → 16 ≤ limit → HasChanges limit area changes c → IsTorn 4 1 c d → HasChanges limit area changes d
area_kept limit area changes c d low has torn =
    let at = disk_place limit area (records_end changes) in
    let start = start_min limit area low in
    let behind : 16 ≤ at = omega (arith, start_place limit area (length (records changes)), start) in
    record {
      front = holds_above (area_start limit area) 4 1 (records changes) c d has.front (omega (arith, start)) torn;
      end = record {
        inside = omega (arith, has.end.inside, torn.no_shorter);
        shut = λ is_open. has.end.shut (sym (byte_above at 4 1 c d (omega (arith, behind)) has.end.inside torn) ∙ is_open);
      };
    }

frame_kept : (c d : List ℕ) → HasFrame c → IsTorn 4 1 c d → HasFrame d
frame_kept c d frame torn =
    record {
      magic = holds_below 0 4 1 magic c d frame.magic (omega arith) torn;
      gap = holds_above 5 4 1 (replicate 3 0) c d frame.gap (omega arith) torn;
      rest = holds_above 9 4 1 (replicate 7 0) c d frame.rest (omega arith) torn;
    }

-- an image of a journal of no matter what version
pub record IsEither (limit used : ℕ) (area : Area) (is_first : Bool) (contents : Contents) (c : List ℕ) : Type 0 where
  pub seen : Seen limit area is_first c
  pub reads : area_contents is_first (area_bytes limit area c) ≡ Ok contents
  pub read : IsRead limit area c contents
  pub place : contents.place ≡ used

second_image : (limit : ℕ) (area : Area) (contents : Contents) (c : List ℕ) → HasFrame c → slice_index c 4 ≢ 1 → area_in_use c ≡ area → IsRead limit area c contents
    → IsImage limit contents.place area Nothing contents.changes c
second_image limit area contents c frame second area_is read =
    record {
      place = read.place;
      room = read.room;
      lawful = read.lawful;
      header = record { magic = frame.magic; gap = frame.gap; rest = frame.rest; version = second };
      held = (area_is, read.has);
    }

not_first : (c : List ℕ) → is_first_version c ≡ false → slice_index c 4 ≢ 1
not_first c version = grind (arith, nat_tests, version)

-- a journal of the second version
pub image_of : (limit : ℕ) (area : Area) (contents : Contents) (c : List ℕ) → Seen limit area false c → IsRead limit area c contents
    → IsImage limit contents.place area Nothing contents.changes c
image_of limit area contents c seen read = second_image limit area contents c (has_frame c seen.header) (not_first c seen.version) seen.area_is read

pub rows_of_image : (limit : ℕ) (area : Area) (contents : Contents) (c : List ℕ) → IsImage limit contents.place area Nothing contents.changes c → HasRows limit (rows_of contents.changes) c
rows_of_image limit area contents c image =
    rows_read limit area contents.changes c (omega (arith, image.place, image.room)) image.lawful image.header image.held.0 image.held.1

-- a fifth byte that was torn
torn_read : (limit : ℕ) (area : Area) (contents : Contents) (c d : List ℕ) → 17 ≤ limit → IsRead limit area c contents → IsTorn 4 1 c d → IsRead limit area d contents
torn_read limit area contents c d low read torn =
    record { place = read.place; room = read.room; lawful = read.lawful; has = area_kept limit area contents.changes c d (omega arith) read.has torn }

torn_area : (area : Area) (c d : List ℕ) → 17 ≤ length c → area_in_use c ≡ area → IsTorn 4 1 c d → area_in_use d ≡ area
torn_area area c d many area_is torn =
    let same : slice_index d 8 ≡ slice_index c 8 = byte_above 8 4 1 c d (omega arith) (omega arith) torn in
    rw same area_is

same_area : (limit : ℕ) (area : Area) (c d : List ℕ) → 16 ≤ limit → IsTorn 4 1 c d → area_bytes limit area d ≡ area_bytes limit area c
same_area limit area c d low torn =
    let start : ℕ = area_start limit area in
    let behind : 16 ≤ start = start_min limit area low in
    let k : ℕ = start - 5 in
    let is : 5 + k ≡ start = omega arith in
    let from : (l : List ℕ) → drop start l ≡ drop k (drop 5 l) = λ l. ap (λ (m : ℕ). drop m l) (sym is) ∙ sym (drop-drop k 5 l) in
    ap (λ (l : List ℕ). take (limit - 16) l) (from d ∙ ap (λ (l : List ℕ). drop k l) torn.back ∙ sym (from c))

-- a crash leaves the same rows while the version is written
pub version_torn : (limit used : ℕ) (area : Area) (contents : Contents) (c d : List ℕ) → 17 ≤ limit → IsEither limit used area true contents c → IsTorn 4 1 c d
    → HasRows limit (rows_of contents.changes) d
version_torn limit used area contents c d low either torn =
    let many : 17 ≤ length c = old_long c either.seen.old in
    let frame = frame_kept c d (has_frame c either.seen.header) torn in
    let area_is = torn_area area c d many either.seen.area_is torn in
    let read = torn_read limit area contents c d low either.read torn in
    elim (cases_eq (slice_index d 4) 1) [
      | inl first ↦
          let letter : slice_index d 0 ≡ 70 = byte_is 0 70 d (holds_front 0 (70 ∷ []) (65 ∷ 77 ∷ 74 ∷ []) d frame.magic) in
          let old : is_fresh d ≡ false = grind (arith, nat_tests, letter, many, torn.no_shorter) in
          let there : is_missing limit area d ≡ false = grind (arith, nat_tests, long limit area c either.seen.there, torn.no_shorter) in
          let version : is_first_version d ≡ true = grind (arith, nat_tests, first) in
          let seen : Seen limit area true d = record { old = old; header = framed d frame; area_is = area_is; version = version; there = there } in (
            contents,
            reads_as limit area true d seen ∙ ap (λ (b : List ℕ). on_disk limit area (area_contents true b)) (same_area limit area c d (omega arith) torn)
                ∙ ap (λ (r : Result Contents ℕ). on_disk limit area r) either.reads,
            refl,
          )
      | inr second ↦ rows_of_image limit area contents d (second_image limit area contents d frame second area_is read)
    ]

two_is_not_one : (b : ℕ) → b ≡ 2 → b ≢ 1
two_is_not_one b two one = omega arith

fifth : (c : List ℕ) → 17 ≤ length c → slice_index (written 4 (2 ∷ []) c) 4 ≡ 2
fifth [] many = absurd (omega arith)
fifth (a ∷ []) many = absurd (omega arith)
fifth (a ∷ b ∷ []) many = absurd (omega arith)
fifth (a ∷ b ∷ c ∷ []) many = absurd (omega arith)
fifth (a ∷ b ∷ c ∷ d ∷ l) many = refl

-- once it is written the journal is one of the second version
pub version_written : (limit used : ℕ) (area : Area) (contents : Contents) (c : List ℕ) → 17 ≤ limit → IsEither limit used area true contents c
    → IsImage limit contents.place area Nothing contents.changes (written 4 (2 ∷ []) c)
version_written limit used area contents c low either =
    let many : 17 ≤ length c = old_long c either.seen.old in
    let d : List ℕ = written 4 (2 ∷ []) c in
    let torn : IsTorn 4 1 c d = torn_written 4 (2 ∷ []) c in
    second_image limit area contents d (frame_kept c d (has_frame c either.seen.header) torn) (two_is_not_one (slice_index d 4) (fifth c many))
    (torn_area area c d many either.seen.area_is torn) (torn_read limit area contents c d low either.read torn)

-- The rows of what was read

pub either_reads : (limit used : ℕ) (area : Area) (is_first : Bool) (contents : Contents) (c : List ℕ) → IsEither limit used area is_first contents c → journal limit c ≡ Ok contents
either_reads limit used area is_first contents c either =
    reads_as limit area is_first c either.seen ∙ ap (λ (r : Result Contents ℕ). on_disk limit area r) either.reads

pub either_rows : (limit : ℕ) (contents : Contents) (c image : List ℕ) → journal limit c ≡ Ok contents → HasRows limit (rows_of contents.changes) image → HasRowsOf limit c image
either_rows limit contents c image reads has other read =
    let same : Ok contents ≡ Ok other = sym reads ∙ read in
    let is : contents ≡ other = cc in
    subst (λ (k : Contents). HasRows limit (rows_of k.changes) image) is has
