-- What a crash leaves while a record is added.
use Rattle.std.proofs.Common.{◌≡◌, ℕ, ◌+◌, ◌-◌, ◌<◌, ◌≤◌, ◌≢◌, inl, inr, false, List, [], ◌∷◌, ◌++◌, length, take, drop, refl, sym, ◌∙◌, ap, subst, arith, append_assoc, length-append}
use Rattle.std.specs.Prelude.{◌⊎◌, Option, Some, None, is_some, option_map, IsTrue, IsSome, unwrap_or, slice_index, replicate}
use Rattle.std.proofs.lemmas.Bool.{cases_eq}
use Rattle.std.proofs.lemmas.List.{append-nil}
use Rattle.fam_disk.specs.Crash.{DiskState, IsTorn, IsSynced, Leaves, LeavesOnly, Passes, written}
use Rattle.fam_disk.proofs.Moments.{now_after, written_after, started, goes_on}
use Rattle.fam_disk.specs.Torn.{torn_same, torn_written}
use Rattle.fam_model.specs.declared.change.Change.{Change}
use Rattle.fam_model.specs.declared.rows.Rows.{Rows}
use Rattle.fam_model.specs.Directory.{after}
use Rattle.fam_model.specs.Rows.{common_rows}
use Rattle.fam_model.specs.Journal.{record_length, rows_from, rows_of}
use Rattle.fam_model.specs.Lawful.{is_lawful_change}
use Rattle.meta_codec.specs.Body.{HasBody}
use Rattle.meta_journal.specs.declared.area.Area.{Area}
use Rattle.meta_journal.specs.declared.area.Area.TheVariants.{First, Second}
use Rattle.meta_journal.specs.declared.doubt.Doubt.{Doubt}
use Rattle.meta_journal.specs.declared.doubt.Doubt.TheVariants.{Nothing, OfChange, OfArea}
use Rattle.meta_journal.specs.Image.{HasHeader, IsClosed, HasChanges, HasChangesAndDoubt, AreLawful, IsAddable, IsImage}
use Rattle.meta_journal.specs.Layout.{Holds, magic, area_in_use, area_start, disk_place, records_end, records, record_bytes}
use Rattle.meta_journal.specs.Reading.{HasRows, records_from}
use Rattle.meta_journal.specs.State.{HasRowsOrAfter, changes_before, changes_in}
use Rattle.meta_journal.proofs.Images.{image_reads, start_place, count_fits}
use Rattle.meta_journal.proofs.Parts.{holds_below, holds_above, holds_written, holds_both, holds_inside, holds_front, holds_back, byte_stands, byte_is}
use Rattle.meta_journal.proofs.Records.{body_is_counted, records_read}

-- Rows and records with one change more

pub rows_from-push : (rows : Rows) (changes : List Change) (change : Change) → rows_from rows (changes ++ change ∷ []) ≡ after (rows_from rows changes) change
rows_from-push rows [] change = refl
rows_from-push rows (c ∷ cs) change = rows_from-push (after rows c) cs change

records-push : (changes : List Change) (change : Change) → records (changes ++ change ∷ []) ≡ records changes ++ 1 ∷ record_bytes change
records-push [] change = append-nil (1 ∷ record_bytes change)
records-push (c ∷ cs) change =
    ap (λ (l : List ℕ). (1 ∷ record_bytes c) ++ l) (records-push cs change) ∙ sym (append_assoc (1 ∷ record_bytes c) (records cs) (1 ∷ record_bytes change))

pub records_end-push : (changes : List Change) (change : Change) → records_end (changes ++ change ∷ []) ≡ records_end changes + record_length change
records_end-push changes change =
    omega (arith, body_is_counted change, ap length (records-push changes change), length-append (records changes) (1 ∷ record_bytes change))

lawful-push : (rows : Rows) (changes : List Change) (change : Change) → AreLawful rows changes
    → IsTrue (is_lawful_change (rows_from rows changes) change) → HasBody change → AreLawful rows (changes ++ change ∷ [])
lawful-push rows [] change lawful next has_body = (next, has_body, tt)
lawful-push rows (c ∷ cs) change (lawful, body_fits, others) next has_body =
    (lawful, body_fits, lawful-push (after rows c) cs change others next has_body)

pub zero_is_not_one : (b : ℕ) → b ≡ 0 → b ≡ 1 → ⊥
zero_is_not_one b zero one = omega arith

-- Bytes in front of a write

pub byte_below : (i w n : ℕ) (old new : List ℕ) → i < w → i < length old → IsTorn w n old new → slice_index new i ≡ slice_index old i
byte_below i w n old new below inside torn =
    byte_is i (slice_index old i) new (holds_below i w n (slice_index old i ∷ []) old new (byte_stands i old inside) (omega arith) torn)

pub header_long : (image : List ℕ) → HasHeader image → 16 ≤ length image
header_long image header = omega (arith, holds_inside 9 0 (replicate 6 0) image header.rest)

pub header_below : (w n : ℕ) (old new : List ℕ) → 16 ≤ w → HasHeader old → IsTorn w n old new → HasHeader new
header_below w n old new below header torn =
    let long = header_long old header in
    record {
      magic = holds_below 0 w n magic old new header.magic (omega arith) torn;
      gap = holds_below 5 w n (replicate 3 0) old new header.gap (omega arith) torn;
      rest = holds_below 9 w n (replicate 7 0) old new header.rest (omega arith) torn;
      version = λ first. header.version (sym (byte_below 4 w n old new (omega arith) (omega arith) torn) ∙ first);
    }

pub area_below : (w n : ℕ) (old new : List ℕ) → 16 ≤ w → HasHeader old → IsTorn w n old new → area_in_use new ≡ area_in_use old
area_below w n old new below header torn =
    let long = header_long old header in
    rw (byte_below 8 w n old new (omega arith) (omega arith) torn) refl

pub start_low : (limit : ℕ) (area : Area) (n : ℕ) → n < limit → 16 ≤ n → 16 ≤ area_start limit area
start_low limit First n room low = omega arith
start_low limit Second n room low = omega arith

-- an open gate with a whole record, and a closed one behind it
longer : (limit : ℕ) (area : Area) (changes : List Change) (change : Change) (image : List ℕ) → Holds (area_start limit area) (records changes) image
    → Holds (disk_place limit area (records_end changes)) (1 ∷ []) image → Holds (disk_place limit area (records_end changes) + 1) (record_bytes change ++ 0 ∷ []) image
    → HasChanges limit area (changes ++ change ∷ []) image
longer limit area changes change image front is_open record_there =
    let gate = disk_place limit area (records_end changes) in
    let at : gate ≡ area_start limit area + length (records changes) = start_place limit area (length (records changes)) in
    let size : length (record_bytes change) + 1 ≡ record_length change = omega (arith, body_is_counted change) in
    let next_gate = gate + 1 + length (record_bytes change) in
    let shut_at : Holds next_gate (0 ∷ []) image = holds_back (gate + 1) (record_bytes change) (0 ∷ []) image record_there in
    let opened : Holds gate (1 ∷ record_bytes change) image =
    holds_both gate (1 ∷ []) (record_bytes change) image is_open (holds_front (gate + 1) (record_bytes change) (0 ∷ []) image record_there) in
    let all : Holds (area_start limit area) (records changes ++ 1 ∷ record_bytes change) image =
    holds_both (area_start limit area) (records changes) (1 ∷ record_bytes change) image front (subst (λ (i : ℕ). Holds i (1 ∷ record_bytes change) image) at opened) in
    let end_at : next_gate ≡ disk_place limit area (records_end (changes ++ change ∷ [])) = omega (arith, records_end-push changes change, size) in
    record {
      front = subst (λ (l : List ℕ). Holds (area_start limit area) l image) (sym (records-push changes change)) all;
      end = subst (λ (i : ℕ). IsClosed i image) end_at (record {
        inside = omega (arith, holds_inside next_gate 0 [] image shut_at);
        shut = λ is_open. zero_is_not_one (slice_index image next_gate) (byte_is next_gate 0 image shut_at) is_open;
      });
    }

pub gate_place : (limit used : ℕ) (area : Area) (changes : List Change) → records_end changes ≡ used → disk_place limit area used ≡ area_start limit area + length (records changes)
gate_place limit used area changes at = omega (arith, at, start_place limit area (length (records changes)))

-- changes are read where they stand in the area in use
pub rows_read : (limit : ℕ) (area : Area) (other : List Change) (image : List ℕ) → records_end other < limit → AreLawful common_rows other → HasHeader image
    → area_in_use image ≡ area → HasChanges limit area other image → HasRows limit (rows_of other) image
rows_read limit area other image room lawful header used_area has =
    (record { changes = other; place = records_end other }, image_reads limit other room lawful area image header used_area has, refl)

module _ (limit used : ℕ) (area : Area) (changes : List Change) (change : Change) where
  abbrev gate : ℕ
  gate = disk_place limit area used

  -- an image before the record is written, and where it is written
  abbrev pub Before : List ℕ → Type 0
  Before image = IsImage limit used area Nothing changes image

  pub record Staged (image : List ℕ) : Type 0 where
    pub before : Before image
    pub staged : Holds (gate + 1) (record_bytes change ++ 0 ∷ []) image

  gate_is : (image : List ℕ) → Before image → gate ≡ area_start limit area + length (records changes)
  gate_is image before = omega (arith, before.place, start_place limit area (length (records changes)))

  closed_at : (old image : List ℕ) → Before old → gate < length image → (slice_index image gate ≢ 1) → IsClosed (disk_place limit area (records_end changes)) image
  closed_at old image before inside shut = subst (λ (i : ℕ). IsClosed (disk_place limit area i) image) (sym before.place) (record { inside = inside; shut = shut })

  gate_closed : (image : List ℕ) → Before image → IsClosed gate image
  gate_closed image before = subst (λ (i : ℕ). IsClosed (disk_place limit area i) image) before.place before.held.1.end

  pub torn_behind : (n : ℕ) (old new : List ℕ) → Before old → IsTorn (gate + 1) n old new → Before new
  torn_behind n old new before torn =
      let at = gate_is old before in
      let low : 16 ≤ gate + 1 = omega (arith, start_low limit area used before.room (omega (arith, before.place))) in
      let has = before.held.1 in
      let inside : gate < length old = (gate_closed old before).inside in
      record {
        place = before.place;
        room = before.room;
        lawful = before.lawful;
        header = header_below (gate + 1) n old new low before.header torn;
        held = (
          area_below (gate + 1) n old new low before.header torn ∙ before.held.0,
          record {
            front = holds_below (area_start limit area) (gate + 1) n (records changes) old new has.front (omega arith) torn;
            end = closed_at old new before (omega (arith, torn.no_shorter, inside)) (λ is_open. (gate_closed old before).shut (sym (byte_below gate (gate + 1) n old new (omega arith) inside torn) ∙ is_open));
          },
        );
      }

  -- the record, once it is on the disk
  pub staged_by : (old : List ℕ) → Before old → Staged (written (gate + 1) (record_bytes change ++ 0 ∷ []) old)
  staged_by old before =
      let bytes = record_bytes change ++ 0 ∷ [] in
      record {
        before = torn_behind (length bytes) old (written (gate + 1) bytes old) before (torn_written (gate + 1) bytes old);
        staged = holds_written (gate + 1) bytes old (omega (arith, (gate_closed old before).inside));
      }

  -- the gate, torn
  pub torn_gate : IsAddable changes change → used + record_length change < limit → (old new : List ℕ) → Staged old → IsTorn gate 1 old new → IsImage limit used area (OfChange change) changes new
  torn_gate addable room old new is_staged torn =
      let before = is_staged.before in
      let at = gate_is old before in
      let low : 16 ≤ gate = omega (arith, start_low limit area used before.room (omega (arith, before.place))) in
      let same_gate : gate ≡ disk_place limit area (records_end changes) = ap (disk_place limit area) (sym before.place) in
      record {
        place = before.place;
        room = before.room;
        lawful = before.lawful;
        header = header_below gate 1 old new low before.header torn;
        held = (
          area_below gate 1 old new low before.header torn ∙ before.held.0,
          addable,
          record {
            front = holds_below (area_start limit area) gate 1 (records changes) old new before.held.1.front (omega arith) torn;
            doubtful = subst (λ (i : ℕ). Holds (i + 1) (record_bytes change ++ 0 ∷ []) new) same_gate
                (holds_above (gate + 1) gate 1 (record_bytes change ++ 0 ∷ []) old new is_staged.staged (omega arith) torn);
            room = omega (arith, before.place, room);
          },
        );
      }

  -- the gate, once it is open on the disk
  pub added_by : IsAddable changes change → used + record_length change < limit → (old : List ℕ) → Staged old
      → IsImage limit (used + record_length change) area Nothing (changes ++ change ∷ []) (written gate (1 ∷ []) old)
  added_by addable room old is_staged =
      let before = is_staged.before in
      let new = written gate (1 ∷ []) old in
      let torn = torn_written gate (1 ∷ []) old in
      let at = gate_is old before in
      let low : 16 ≤ gate = omega (arith, start_low limit area used before.room (omega (arith, before.place))) in
      let inside = (gate_closed old before).inside in
      let same_gate : gate ≡ disk_place limit area (records_end changes) = ap (disk_place limit area) (sym before.place) in
      let record_at : Holds (gate + 1) (record_bytes change ++ 0 ∷ []) new =
      holds_above (gate + 1) gate 1 (record_bytes change ++ 0 ∷ []) old new is_staged.staged (omega arith) torn in
      record {
        place = omega (arith, records_end-push changes change, before.place);
        room = room;
        lawful = lawful-push common_rows changes change before.lawful addable.0 addable.1;
        header = header_below gate 1 old new low before.header torn;
        held = (
          area_below gate 1 old new low before.header torn ∙ before.held.0,
          longer limit area changes change new
              (holds_below (area_start limit area) gate 1 (records changes) old new before.held.1.front (omega arith) torn)
              (subst (λ (i : ℕ). Holds i (1 ∷ []) new) same_gate (holds_written gate (1 ∷ []) old (omega (arith, inside))))
              (subst (λ (i : ℕ). Holds (i + 1) (record_bytes change ++ 0 ∷ []) new) same_gate record_at),
        );
      }

  -- What these images read as

  pub before_reads : (image : List ℕ) → Before image → HasRowsOrAfter limit changes change image
  before_reads image before = inl (rows_read limit area changes image (omega (arith, before.room, before.place)) before.lawful before.header before.held.0 before.held.1)

  pub added_reads : used + record_length change < limit → (image : List ℕ) → IsImage limit (used + record_length change) area Nothing (changes ++ change ∷ []) image
      → HasRowsOrAfter limit changes change image
  added_reads room image added =
      inr (subst (λ (rows : Rows). HasRows limit rows image) (rows_from-push common_rows changes change)
      (rows_read limit area (changes ++ change ∷ []) image (omega (arith, room, added.place)) added.lawful added.header added.held.0 added.held.1))

  -- a gate in doubt is open or closed
  pub doubt_settles : (image : List ℕ) → HasChangesAndDoubt limit area changes change image → HasChanges limit area changes image ⊎ HasChanges limit area (changes ++ change ∷ []) image
  doubt_settles image has =
      let at = disk_place limit area (records_end changes) in
      let inside : at < length image = record_inside at image has.doubtful in
      elim (cases_eq (slice_index image at) 1) [
        | inl is_open ↦ inr (longer limit area changes change image has.front (subst (λ (b : ℕ). Holds at (b ∷ []) image) is_open (byte_stands at image inside)) has.doubtful)
        | inr shut ↦ inl (record { front = has.front; end = record { inside = inside; shut = shut } })
      ]
    where
      record_inside : (at : ℕ) (image : List ℕ) → Holds (at + 1) (record_bytes change ++ 0 ∷ []) image → at < length image
      record_inside at image holds = omega (arith, holds_inside (at + 1) _ _ image holds)

  pub doubtful_reads : (image : List ℕ) → IsImage limit used area (OfChange change) changes image → HasRowsOrAfter limit changes change image
  doubtful_reads image doubtful =
      let held = doubtful.held in
      elim (doubt_settles image held.2) [
        | inl has ↦ inl (rows_read limit area changes image (omega (arith, doubtful.room, doubtful.place)) doubtful.lawful doubtful.header held.0 has)
        | inr has ↦
            inr (subst (λ (rows : Rows). HasRows limit rows image) (rows_from-push common_rows changes change)
            (rows_read limit area (changes ++ change ∷ []) image (omega (arith, held.2.room, records_end-push changes change))
            (lawful-push common_rows changes change doubtful.lawful held.1.0 held.1.1) doubtful.header held.0 has))
      ]

-- The acknowledged changes of an image

pub acknowledged_is : (limit used : ℕ) (area : Area) (changes : List Change) (image : List ℕ) → records_end changes ≡ used → AreLawful common_rows changes
    → Holds (area_start limit area) (records changes) image → changes_before limit area used image ≡ changes
acknowledged_is limit used area changes image place lawful holds =
    let size : used - 16 ≡ length (records changes) = omega arith in
    let is : take (used - 16) (drop (area_start limit area) image) ≡ records changes = ap (λ (n : ℕ). take n (drop (area_start limit area) image)) size ∙ holds in
    ap (λ (bytes : List ℕ). changes_in (records_from (length bytes) false common_rows 16 (bytes ++ 0 ∷ []))) is
    ∙ ap changes_in (records_read changes (length (records changes)) common_rows 16 0 [] (λ one. zero_is_not_one 0 refl one) lawful (count_fits changes))

-- An invariant of images with known changes is one with the acknowledged changes

pub front_of : (limit used : ℕ) (area : Area) (doubt : Doubt) (changes : List Change) (image : List ℕ) → IsImage limit used area doubt changes image
    → Holds (area_start limit area) (records changes) image
front_of limit used area Nothing changes image is = is.held.1.front
front_of limit used area (OfChange change) changes image is = is.held.2.front
front_of limit used area OfArea changes image is = is.held.0.front

pub told_is : (content : Option (List ℕ)) → IsSome content → (bytes : List ℕ) × (content ≡ Some bytes)
told_is None told = absurd (cc)
told_is (Some bytes) told = (bytes, refl)

pub told_of : (content : Option (List ℕ)) (bytes : List ℕ) → content ≡ Some bytes → IsSome content
told_of None bytes is = absurd (cc)
told_of (Some other) bytes is = refl

pub told_before : (new old : Option (List ℕ)) (bytes : List ℕ) → is_some new ≡ is_some old → new ≡ Some bytes → IsSome old
told_before new old bytes tells is = sym tells ∙ told_of new bytes is

-- the acknowledged changes are those that the images have
pub known_acknowledged : (disk : DiskState) (limit used : ℕ) (area : Area) (doubt : Doubt) (changes : List Change)
    → ((bytes : List ℕ) → disk.content ≡ Some bytes → disk.images disk.moment bytes)
    → Leaves disk disk.moment (IsImage limit used area doubt changes) → IsSome disk.content
    → changes_before limit area used (unwrap_or disk.content []) ≡ changes
known_acknowledged disk limit used area doubt changes reads images tells =
    let told = told_is disk.content tells in
    let read = images told.0 (reads told.0 told.1) in
    ap (λ (content : Option (List ℕ)). changes_before limit area used (unwrap_or content [])) told.1
    ∙ acknowledged_is limit used area changes told.0 read.place read.lawful (front_of limit used area doubt changes told.0 read)

pub sound_from : (disk : DiskState) (limit used : ℕ) (area : Area) (doubt : Doubt) (changes : List Change)
    → ((t : ℕ) (image : List ℕ) → disk.images t image → IsSome disk.content)
    → ((bytes : List ℕ) → disk.content ≡ Some bytes → disk.images disk.moment bytes)
    → Leaves disk disk.moment (IsImage limit used area doubt changes)
    → Leaves disk disk.moment (IsImage limit used area doubt (changes_before limit area used (unwrap_or disk.content [])))
sound_from disk limit used area doubt changes tells reads images image left =
    let told = told_is disk.content (tells disk.moment image left) in
    let read = images told.0 (reads told.0 told.1) in
    let same : changes_before limit area used (unwrap_or disk.content []) ≡ changes =
    ap (λ (content : Option (List ℕ)). changes_before limit area used (unwrap_or content [])) told.1
    ∙ acknowledged_is limit used area changes told.0 read.place read.lawful (front_of limit used area doubt changes told.0 read) in
    subst (λ (cs : List Change). IsImage limit used area doubt cs image) (sym same) (images image left)

-- The two writes of an append, by the states of the disk
module _ (limit used : ℕ) (area : Area) (changes : List Change) (change : Change) (addable : IsAddable changes change) (room : used + record_length change < limit)
    (place : ℕ) (place_is : place ≡ disk_place limit area used) (bytes : List ℕ) (spelled : bytes ≡ record_bytes change ++ 0 ∷ []) where
  abbrev pub Reads : DiskState → Type 0
  Reads disk = (d : List ℕ) → disk.content ≡ Some d → disk.images disk.moment d

  abbrev pub Was : DiskState → Type 0
  Was disk = Leaves disk disk.moment (Before limit used area changes change)

  abbrev pub IsStaged : DiskState → Type 0
  IsStaged disk = Leaves disk disk.moment (Staged limit used area changes change)

  abbrev pub P : List ℕ → Type 0
  P = HasRowsOrAfter limit changes change

  still_before : (n : ℕ) (old new : List ℕ) → Before limit used area changes change old → IsTorn (place + 1) n old new → Before limit used area changes change new
  still_before n old new before torn = torn_behind limit used area changes change n old new before (subst (λ (i : ℕ). IsTorn (i + 1) n old new) place_is torn)

  pub record_fits : (disk : DiskState) → Reads disk → Was disk → (d : List ℕ) → disk.content ≡ Some d → place + 1 ≤ length d
  record_fits disk reads was d told = omega (arith, (gate_closed limit used area changes change d (was d (reads d told))).inside, place_is)

  pub record_failed : (n : ℕ) (old new : DiskState) → Was old → Passes (IsTorn (place + 1) n) old new → Was new
  record_failed n old new was passes =
      now_after (IsTorn (place + 1) n) old new (Before limit used area changes change) (Before limit used area changes change) passes (torn_same (place + 1) n) was
      (still_before n)

  pub record_moments : (n : ℕ) (old new : DiskState) → Was old → Passes (IsTorn (place + 1) n) old new → LeavesOnly P old new
  record_moments n old new was passes =
      goes_on (IsTorn (place + 1) n) P (Before limit used area changes change) old old new
      (started P old (λ image left. before_reads limit used area changes change image (was image left))) passes was
      (λ d c before torn. before_reads limit used area changes change c (still_before n d c before torn))

  before_has : (image : List ℕ) → Before limit used area changes change image → HasRows limit (rows_of changes) image
  before_has image before = rows_read limit area changes image (omega (arith, before.room, before.place)) before.lawful before.header before.held.0 before.held.1

  -- the record alone makes no difference
  pub record_unseen : (n : ℕ) (old new : DiskState) → Was old → Passes (IsTorn (place + 1) n) old new → LeavesOnly (HasRows limit (rows_of changes)) old new
  record_unseen n old new was passes =
      goes_on (IsTorn (place + 1) n) (HasRows limit (rows_of changes)) (Before limit used area changes change) old old new
      (started (HasRows limit (rows_of changes)) old (λ image left. before_has image (was image left))) passes was
      (λ d c before torn. before_has c (still_before n d c before torn))

  pub record_written : (old new : DiskState) → Reads old → Was old → IsSynced new → new.content ≡ option_map (written (place + 1) bytes) old.content → IsStaged new
  record_written old new reads was synced content =
      written_after (place + 1) bytes old new (Before limit used area changes change) (Staged limit used area changes change) reads synced content was
      (λ d before. subst (λ (i : ℕ). Staged limit used area changes change (written (i + 1) bytes d)) (sym place_is)
      (subst (λ (b : List ℕ). Staged limit used area changes change (written (disk_place limit area used + 1) b d)) (sym spelled)
      (staged_by limit used area changes change d before)))

  pub gate_fits : (disk : DiskState) → Reads disk → IsStaged disk → (d : List ℕ) → disk.content ≡ Some d → place ≤ length d
  gate_fits disk reads staged d told = omega (arith, (gate_closed limit used area changes change d (staged d (reads d told)).before).inside, place_is)

  opened_torn : (old new : List ℕ) → Staged limit used area changes change old → IsTorn place 1 old new → IsImage limit used area (OfChange change) changes new
  opened_torn old new staged torn = torn_gate limit used area changes change addable room old new staged (subst (λ (i : ℕ). IsTorn i 1 old new) place_is torn)

  pub gate_failed : (old new : DiskState) → IsStaged old → Passes (IsTorn place 1) old new → Leaves new new.moment (IsImage limit used area (OfChange change) changes)
  gate_failed old new staged passes =
      now_after (IsTorn place 1) old new (Staged limit used area changes change) (IsImage limit used area (OfChange change) changes) passes (torn_same place 1) staged opened_torn

  pub gate_moments : (first old new : DiskState) → LeavesOnly P first old → IsStaged old → Passes (IsTorn place 1) old new → LeavesOnly P first new
  gate_moments first old new so_far staged passes =
      goes_on (IsTorn place 1) P (Staged limit used area changes change) first old new so_far passes staged
      (λ d c is torn. doubtful_reads limit used area changes change c (opened_torn d c is torn))

  pub gate_opened : (old new : DiskState) → Reads old → IsStaged old → IsSynced new → new.content ≡ option_map (written place (1 ∷ [])) old.content
      → Leaves new new.moment (IsImage limit (used + record_length change) area Nothing (changes ++ change ∷ []))
  gate_opened old new reads staged synced content =
      written_after place (1 ∷ []) old new (Staged limit used area changes change) (IsImage limit (used + record_length change) area Nothing (changes ++ change ∷ [])) reads synced content staged
      (λ d is. subst (λ (i : ℕ). IsImage limit (used + record_length change) area Nothing (changes ++ change ∷ []) (written i (1 ∷ []) d)) (sym place_is)
      (added_by limit used area changes change addable room d is))
