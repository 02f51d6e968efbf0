-- What a crash leaves while a doubt is settled.
use Rattle.std.proofs.Common.{◌≡◌, ℕ, ◌+◌, ◌<◌, ◌≤◌, inl, inr, List, [], ◌∷◌, ◌++◌, length, refl, sym, ◌∙◌, ap, subst, arith}
use Rattle.std.specs.Prelude.{◌⊎◌, Option, Some, None, is_some, unwrap_or, slice_index, replicate, option_map, ◌==◌, if◌then◌else◌}
use Rattle.fam_disk.proofs.Moments.{now_after, written_after, started, goes_on}
use Rattle.fam_disk.specs.Crash.{DiskState, IsTorn, IsSynced, Leaves, LeavesOnly, Passes, written}
use Rattle.fam_disk.specs.Torn.{torn_same, torn_written}
use Rattle.fam_model.specs.declared.change.Change.{Change}
use Rattle.fam_model.specs.declared.rows.Rows.{Rows}
use Rattle.fam_model.specs.Journal.{rows_of}
use Rattle.meta_journal.specs.declared.area.Area.{Area}
use Rattle.meta_journal.specs.declared.area.Area.TheVariants.{First, Second}
use Rattle.meta_journal.specs.declared.doubt.Doubt.{Doubt}
use Rattle.meta_journal.specs.declared.doubt.Doubt.TheVariants.{Nothing, OfChange, OfArea}
use Rattle.meta_journal.specs.Image.{HasHeader, IsClosed, HasChanges, IsImage, other_area}
use Rattle.meta_journal.specs.Layout.{Holds, magic, area_byte, area_in_use, area_start, disk_place, records_end, records, record_bytes}
use Rattle.meta_journal.specs.Reading.{HasRows}
use Rattle.meta_journal.specs.State.{changes_before, HasRowsInDoubt}
use Rattle.meta_journal.specs.Settling.{settling_byte}
use Rattle.meta_journal.proofs.Adding.{byte_below, header_below, header_long, area_below, start_low, rows_read, gate_place, zero_is_not_one, acknowledged_is, front_of, doubtful_reads}
use Rattle.meta_journal.proofs.Parts.{holds_below, holds_above, holds_written, holds_inside, byte_stands, byte_is}

pub byte_above : (i w n : ℕ) (old new : List ℕ) → w + n ≤ i → i < length old → IsTorn w n old new → slice_index new i ≡ slice_index old i
byte_above i w n old new above inside torn =
    byte_is i (slice_index old i) new (holds_above i w n (slice_index old i ∷ []) old new (byte_stands i old inside) above torn)

-- Closing the gate of a change in doubt

module _ (limit used : ℕ) (area : Area) (changes : List Change) (change : Change) where
  abbrev gate : ℕ
  gate = disk_place limit area used

  abbrev InDoubt : List ℕ → Type 0
  InDoubt = IsImage limit used area (OfChange change) changes

  pub gate_stays_in_doubt : (old new : List ℕ) → InDoubt old → IsTorn gate 1 old new → InDoubt new
  gate_stays_in_doubt old new is torn =
      let at : gate ≡ area_start limit area + length (records changes) = gate_place limit used area changes is.place in
      let low : 16 ≤ gate = omega (arith, start_low limit area used is.room (omega (arith, is.place))) in
      let same_gate : gate ≡ disk_place limit area (records_end changes) = ap (disk_place limit area) (sym is.place) in
      let held = is.held in
      record {
        place = is.place;
        room = is.room;
        lawful = is.lawful;
        header = header_below gate 1 old new low is.header torn;
        held = (
          area_below gate 1 old new low is.header torn ∙ held.0,
          held.1,
          record {
            front = holds_below (area_start limit area) gate 1 (records changes) old new held.2.front (omega arith) torn;
            doubtful = holds_above (disk_place limit area (records_end changes) + 1) gate 1 (record_bytes change ++ 0 ∷ []) old new held.2.doubtful (omega arith) torn;
            room = held.2.room;
          },
        );
      }

  pub gate_closes : (old : List ℕ) → InDoubt old → gate ≤ length old → IsImage limit used area Nothing changes (written gate (0 ∷ []) old)
  gate_closes old is inside =
      let new = written gate (0 ∷ []) old in
      let torn = torn_written gate (0 ∷ []) old in
      let still = gate_stays_in_doubt old new is torn in
      let shut_at : Holds gate (0 ∷ []) new = holds_written gate (0 ∷ []) old inside in
      record {
        place = is.place;
        room = is.room;
        lawful = is.lawful;
        header = still.header;
        held = (
          still.held.0,
          record {
            front = still.held.2.front;
            end = subst (λ (i : ℕ). IsClosed (disk_place limit area i) new) (sym is.place)
                (record {
                  inside = omega (arith, holds_inside gate 0 [] new shut_at);
                  shut = λ is_open. zero_is_not_one (slice_index new gate) (byte_is gate 0 new shut_at) is_open;
                });
          },
        );
      }

-- Settling which area is in use

pub start_min : (limit : ℕ) (area : Area) → 16 ≤ limit → 16 ≤ area_start limit area
start_min limit First low = omega arith
start_min limit Second low = omega arith

one_of_them : (a b : Area) → (a ≡ b) ⊎ (a ≡ other_area b)
one_of_them First First = inl refl
one_of_them First Second = inr refl
one_of_them Second First = inr refl
one_of_them Second Second = inl refl

pub by_byte : (side : Area) (b : ℕ) → b ≡ area_byte side → (if b == 1 then Second else First) ≡ side
by_byte First b is = rw is refl
by_byte Second b is = rw is refl

module _ (limit used : ℕ) (area : Area) (changes : List Change) where
  abbrev pub OneOfTwo : List ℕ → Type 0
  OneOfTwo = IsImage limit used area OfArea changes

  pub area_untouched : (side : Area) (other : List Change) (old new : List ℕ) → 16 ≤ limit → HasChanges limit side other old → IsTorn 8 1 old new → HasChanges limit side other new
  area_untouched side other old new low has torn =
      let at = disk_place limit side (records_end other) in
      let start = start_min limit side low in
      record {
        front = holds_above (area_start limit side) 8 1 (records other) old new has.front (omega (arith, start)) torn;
        end = record {
          inside = omega (arith, has.end.inside, torn.no_shorter);
          shut = λ is_open. has.end.shut (sym (byte_above at 8 1 old new (omega (arith, start)) has.end.inside torn) ∙ is_open);
        };
      }

  pub header_untouched : (old new : List ℕ) → HasHeader old → IsTorn 8 1 old new → HasHeader new
  header_untouched old new header torn =
      let long = header_long old header in
      record {
        magic = holds_below 0 8 1 magic old new header.magic (omega arith) torn;
        gap = holds_below 5 8 1 (replicate 3 0) old new header.gap (omega arith) torn;
        rest = holds_above 9 8 1 (replicate 7 0) old new header.rest (omega arith) torn;
        version = λ first. header.version (sym (byte_below 4 8 1 old new (omega arith) (omega arith) torn) ∙ first);
      }

  pub area_stays_in_doubt : (old new : List ℕ) → OneOfTwo old → IsTorn 8 1 old new → OneOfTwo new
  area_stays_in_doubt old new is torn =
      let low : 16 ≤ limit = omega (arith, is.room, is.place) in
      record {
        place = is.place;
        room = is.room;
        lawful = is.lawful;
        header = header_untouched old new is.header torn;
        held = (
          area_untouched area changes old new low is.held.0 torn,
          record {
            other = is.held.1.other;
            same_rows = is.held.1.same_rows;
            lawful = is.held.1.lawful;
            room = is.held.1.room;
            has = area_untouched (other_area area) is.held.1.other old new low is.held.1.has torn;
          },
        );
      }

  -- the byte of an area, once it is on the disk
  pub area_settles : (side : Area) (old : List ℕ) → OneOfTwo old → area_in_use (written 8 (area_byte side ∷ []) old) ≡ side
  area_settles side old is =
      let long = header_long old is.header in
      by_byte side _ (byte_is 8 (area_byte side) (written 8 (area_byte side ∷ []) old) (holds_written 8 (area_byte side ∷ []) old (omega arith)))

  pub one_of_two_reads : (image : List ℕ) → OneOfTwo image → HasRows limit (rows_of changes) image
  one_of_two_reads image is =
      let held = is.held in
      elim (one_of_them (area_in_use image) area) [
        | inl here ↦ rows_read limit area changes image (omega (arith, is.room, is.place)) is.lawful is.header here held.0
        | inr there ↦
            subst (λ (rows : Rows). HasRows limit rows image) held.1.same_rows
            (rows_read limit (other_area area) held.1.other image held.1.room held.1.lawful is.header there held.1.has)
      ]

  -- the area in use, once its byte is on the disk
  pub area_settled : (old : List ℕ) → OneOfTwo old → IsImage limit used area Nothing changes (written 8 (area_byte area ∷ []) old)
  area_settled old is =
      let new = written 8 (area_byte area ∷ []) old in
      let still = area_stays_in_doubt old new is (torn_written 8 (area_byte area ∷ []) old) in
      record { place = is.place; room = is.room; lawful = is.lawful; header = still.header; held = (area_settles area old is, still.held.0) }

  -- and the other one
  pub area_switched : (old : List ℕ) (is : OneOfTwo old) → IsImage limit (records_end is.held.1.other) (other_area area) Nothing is.held.1.other (written 8 (area_byte (other_area area) ∷ []) old)
  unfolding area_stays_in_doubt
  area_switched old is =
      let new = written 8 (area_byte (other_area area) ∷ []) old in
      let still = area_stays_in_doubt old new is (torn_written 8 (area_byte (other_area area) ∷ []) old) in
      let other = is.held.1 in
      record { place = refl; room = other.room; lawful = other.lawful; header = still.header; held = (area_settles (other_area area) old is, still.held.1.has) }

-- The acknowledged changes stay

pub still_acknowledged : (old new : DiskState) (limit used : ℕ) (area : Area) (doubt : Doubt) → is_some new.content ≡ is_some old.content
    → ((bytes : List ℕ) → new.content ≡ Some bytes → new.images new.moment bytes)
    → Leaves new new.moment (IsImage limit used area doubt (changes_before limit area used (unwrap_or old.content [])))
    → changes_before limit area used (unwrap_or new.content []) ≡ changes_before limit area used (unwrap_or old.content [])
still_acknowledged old new limit used area doubt tells reads images = by_content old.content new.content tells reads images
  where
    by_content : (a b : Option (List ℕ)) → is_some b ≡ is_some a → ((bytes : List ℕ) → b ≡ Some bytes → new.images new.moment bytes)
        → Leaves new new.moment (IsImage limit used area doubt (changes_before limit area used (unwrap_or a [])))
        → changes_before limit area used (unwrap_or b []) ≡ changes_before limit area used (unwrap_or a [])
    by_content a (Some bytes) tells reads images =
        let read = images bytes (reads bytes refl) in
        acknowledged_is limit used area (changes_before limit area used (unwrap_or a [])) bytes read.place read.lawful (front_of limit used area doubt _ bytes read)
    by_content None None tells reads images = refl
    by_content (Some bytes) None tells reads images = absurd (cc)

-- A doubt, whichever it is, while the byte that settles it is written

abbrev pair : ℕ → ℕ → Option (ℕ × ℕ)
pair a b = Some (a, b)

same_pair : (a b c d : ℕ) → pair a b ≡ pair c d → (a ≡ c) × (b ≡ d)
same_pair a b c d is = (ap first is, ap second is)
  where
    first : Option (ℕ × ℕ) → ℕ
    first None = 0
    first (Some x) = x.0

    second : Option (ℕ × ℕ) → ℕ
    second None = 0
    second (Some x) = x.1

module _ (limit used : ℕ) (area : Area) (changes : List Change) where
  abbrev pub Held : Doubt → List ℕ → Type 0
  Held doubt = IsImage limit used area doubt changes

  pub reads_in_doubt : (doubt : Doubt) (image : List ℕ) → Held doubt image → HasRowsInDoubt limit changes doubt image
  reads_in_doubt Nothing image is = rows_read limit area changes image (omega (arith, is.room, is.place)) is.lawful is.header is.held.0 is.held.1
  reads_in_doubt (OfChange doubt) image is = doubtful_reads limit used area changes doubt image is
  reads_in_doubt OfArea image is = one_of_two_reads limit used area changes image is

  pub byte_fits : (doubt : Doubt) (place byte : ℕ) → Some (place, byte) ≡ settling_byte limit area used doubt → (image : List ℕ) → Held doubt image → place ≤ length image
  byte_fits Nothing place byte is image held = absurd (cc)
  byte_fits (OfChange doubt) place byte is image held =
      omega (arith, (same_pair _ _ _ _ is).0, held.place, record_inside doubt image held.held.2.doubtful)
    where
      record_inside : (doubt : Change) (image : List ℕ) → Holds (disk_place limit area (records_end changes) + 1) (record_bytes doubt ++ 0 ∷ []) image
          → disk_place limit area (records_end changes) < length image
      record_inside doubt image holds = omega (arith, holds_inside (disk_place limit area (records_end changes) + 1) _ _ image holds)
  byte_fits OfArea place byte is image held = omega (arith, (same_pair _ _ _ _ is).0, header_long image held.header)

  pub settling_torn : (doubt : Doubt) (place byte : ℕ) → Some (place, byte) ≡ settling_byte limit area used doubt → (old new : List ℕ) → Held doubt old → IsTorn place 1 old new → Held doubt new
  settling_torn Nothing place byte is old new held torn = absurd (cc)
  settling_torn (OfChange doubt) place byte is old new held torn =
      gate_stays_in_doubt limit used area changes doubt old new held (subst (λ (p : ℕ). IsTorn p 1 old new) (same_pair _ _ _ _ is).0 torn)
  settling_torn OfArea place byte is old new held torn =
      area_stays_in_doubt limit used area changes old new held (subst (λ (p : ℕ). IsTorn p 1 old new) (same_pair _ _ _ _ is).0 torn)

  settled_at : (place place' byte byte' : ℕ) → (place ≡ place') × (byte ≡ byte') → (old : List ℕ) → Held Nothing (written place' (byte' ∷ []) old) → Held Nothing (written place (byte ∷ []) old)
  settled_at place place' byte byte' same old held =
      subst (λ (p : ℕ). Held Nothing (written p (byte ∷ []) old)) (sym same.0) (subst (λ (b : ℕ). Held Nothing (written place' (b ∷ []) old)) (sym same.1) held)

  pub settled_by : (doubt : Doubt) (place byte : ℕ) → Some (place, byte) ≡ settling_byte limit area used doubt → (old : List ℕ) → Held doubt old → Held Nothing (written place (byte ∷ []) old)
  settled_by Nothing place byte is old held = absurd (cc)
  settled_by (OfChange doubt) place byte is old held =
      settled_at place (disk_place limit area used) byte 0 (same_pair _ _ _ _ is) old
      (gate_closes limit used area changes doubt old held (omega (arith, byte_fits (OfChange doubt) place byte is old held, (same_pair _ _ _ _ is).0)))
  settled_by OfArea place byte is old held =
      settled_at place 8 byte (area_byte area) (same_pair _ _ _ _ is) old (area_settled limit used area changes old held)

  module _ (doubt : Doubt) (place byte : ℕ) (settles : Some (place, byte) ≡ settling_byte limit area used doubt) (old new : DiskState) where
    pub fits_there : ((d : List ℕ) → old.content ≡ Some d → old.images old.moment d) → Leaves old old.moment (Held doubt) → (d : List ℕ) → old.content ≡ Some d → place ≤ length d
    fits_there reads now d told = byte_fits doubt place byte settles d (now d (reads d told))

    pub byte_failed : Leaves old old.moment (Held doubt) → Passes (IsTorn place 1) old new → Leaves new new.moment (Held doubt)
    byte_failed now passes = now_after (IsTorn place 1) old new (Held doubt) (Held doubt) passes (torn_same place 1) now (settling_torn doubt place byte settles)

    pub byte_moments : Leaves old old.moment (Held doubt) → Passes (IsTorn place 1) old new → LeavesOnly (HasRowsInDoubt limit changes doubt) old new
    byte_moments now passes =
        goes_on (IsTorn place 1) (HasRowsInDoubt limit changes doubt) (Held doubt) old old new
        (started (HasRowsInDoubt limit changes doubt) old (λ image left. reads_in_doubt doubt image (now image left))) passes now
        (λ d c is torn. reads_in_doubt doubt c (settling_torn doubt place byte settles d c is torn))

    pub byte_written : ((d : List ℕ) → old.content ≡ Some d → old.images old.moment d) → Leaves old old.moment (Held doubt) → IsSynced new
        → new.content ≡ option_map (written place (byte ∷ [])) old.content → Leaves new new.moment (Held Nothing)
    byte_written reads now synced content = written_after place (byte ∷ []) old new (Held doubt) (Held Nothing) reads synced content now (settled_by doubt place byte settles)
