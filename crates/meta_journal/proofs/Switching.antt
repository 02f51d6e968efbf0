-- What a crash leaves while the journal goes over to its other area.
use Rattle.std.proofs.Common.{◌≡◌, ℕ, ◌+◌, ◌-◌, ◌<◌, ◌≤◌, inl, inr, false, List, [], ◌∷◌, ◌++◌, length, min, refl, sym, ◌∙◌, ap, subst, arith, length-append, length-take}
use Rattle.std.specs.Prelude.{◌⊎◌, Option, Some, None, IsSome, IfSome, is_some, unwrap_or, take, drop, slice_index, option_map}
use Rattle.fam_disk.proofs.Moments.{now_after, written_after, written_from, started, goes_on}
use Rattle.fam_disk.specs.Crash.{DiskState, IsKept, IsTorn, IsSynced, Leaves, LeavesOnly, Passes, written}
use Rattle.fam_disk.specs.Torn.{torn_same, torn_written}
use Rattle.fam_model.specs.declared.change.Change.{Change}
use Rattle.fam_model.specs.Rows.{common_rows}
use Rattle.fam_model.specs.Journal.{rows_of}
use Rattle.meta_journal.specs.declared.area.Area.{Area}
use Rattle.meta_journal.specs.declared.area.Area.TheVariants.{First, Second}
use Rattle.meta_journal.specs.declared.doubt.Doubt.{Doubt}
use Rattle.meta_journal.specs.declared.doubt.Doubt.TheVariants.{Nothing}
use Rattle.meta_journal.specs.State.{changes_before, changes_in}
use Rattle.std.proofs.lemmas.List.{take_all, drop_all}
use Rattle.meta_journal.specs.Image.{IsClosed, HasChanges, IsImage, other_area}
use Rattle.meta_journal.specs.Layout.{Holds, area_byte, area_start, disk_place, records_end, records}
use Rattle.meta_journal.specs.Reading.{records_from, HasRows}
use Rattle.meta_journal.specs.Short.{Restores}
use Rattle.meta_journal.proofs.Adding.{byte_below, header_below, header_long, area_below, rows_read, zero_is_not_one, acknowledged_is, front_of}
use Rattle.meta_journal.proofs.Images.{start_place}
use Rattle.meta_journal.proofs.Parts.{holds_below, holds_above, holds_written, holds_front, holds_back, holds_inside, byte_is}
use Rattle.meta_journal.proofs.Settling.{OneOfTwo, byte_above, start_min, by_byte, area_untouched, header_untouched, one_of_two_reads}

-- a write of n bytes from w on does not meet m bytes from a place on
abbrev pub IsApart : ℕ → ℕ → ℕ → ℕ → Type 0
IsApart w n at m = (at + m ≤ w) ⊎ (w + n ≤ at)

holds_apart : (at w n : ℕ) (bytes old new : List ℕ) → Holds at bytes old → IsApart w n at (length bytes) → IsTorn w n old new → Holds at bytes new
holds_apart at w n bytes old new holds (inl below) torn = holds_below at w n bytes old new holds below torn
holds_apart at w n bytes old new holds (inr above) torn = holds_above at w n bytes old new holds above torn

byte_apart : (i w n : ℕ) (old new : List ℕ) → IsApart w n i 1 → i < length old → IsTorn w n old new → slice_index new i ≡ slice_index old i
byte_apart i w n old new (inl below) inside torn = byte_below i w n old new (omega arith) inside torn
byte_apart i w n old new (inr above) inside torn = byte_above i w n old new above inside torn

-- a part of what is not met is not met
front_apart : (w n at m k : ℕ) → k ≤ m → IsApart w n at m → IsApart w n at k
front_apart w n at m k le (inl below) = inl (omega arith)
front_apart w n at m k le (inr above) = inr above

last_apart : (w n at m : ℕ) → IsApart w n at (m + 1) → IsApart w n (at + m) 1
last_apart w n at m (inl below) = inl (omega arith)
last_apart w n at m (inr above) = inr (omega arith)

-- records and a closed gate, as they were written
pub written_changes : (limit : ℕ) (area : Area) (changes : List Change) (image : List ℕ) → Holds (area_start limit area) (records changes ++ 0 ∷ []) image → HasChanges limit area changes image
written_changes limit area changes image holds =
    let gate = area_start limit area + length (records changes) in
    let shut_at : Holds gate (0 ∷ []) image = holds_back (area_start limit area) (records changes) (0 ∷ []) image holds in
    record {
      front = holds_front (area_start limit area) (records changes) (0 ∷ []) image holds;
      end = subst (λ (i : ℕ). IsClosed i image) (sym (start_place limit area (length (records changes)))) (record {
        inside = omega (arith, holds_inside gate 0 [] image shut_at);
        shut = λ is_open. zero_is_not_one (slice_index image gate) (byte_is gate 0 image shut_at) is_open;
      });
    }

module _ (limit used : ℕ) (area : Area) (changes : List Change) where
  abbrev pub Settled : List ℕ → Type 0
  Settled = IsImage limit used area Nothing changes

  -- a write outside of the header and of what is in use of its area
  abbrev pub IsOutside : ℕ → ℕ → Type 0
  IsOutside w n = (16 ≤ w) × IsApart w n (area_start limit area) (length (records changes) + 1)

  pub settled_outside : (w n : ℕ) → IsOutside w n → (old new : List ℕ) → Settled old → IsTorn w n old new → Settled new
  settled_outside w n outside old new is torn =
      let has = is.held.1 in
      let at = start_place limit area (length (records changes)) in
      let gate = disk_place limit area (records_end changes) in
      let apart : IsApart w n gate 1 = subst (λ (i : ℕ). IsApart w n i 1) (sym at) (last_apart w n (area_start limit area) (length (records changes)) outside.1) in
      record {
        place = is.place;
        room = is.room;
        lawful = is.lawful;
        header = header_below w n old new outside.0 is.header torn;
        held = (
          area_below w n old new outside.0 is.header torn ∙ is.held.0,
          record {
            front = holds_apart (area_start limit area) w n (records changes) old new has.front (front_apart w n (area_start limit area) (length (records changes) + 1) (length (records changes)) (omega arith) outside.1) torn;
            end = record {
              inside = omega (arith, has.end.inside, torn.no_shorter);
              shut = λ is_open. has.end.shut (sym (byte_apart gate w n old new apart has.end.inside torn) ∙ is_open);
            };
          },
        );
      }

  -- the other area lies outside
  pub other_outside : (n : ℕ) → 16 ≤ limit → used < limit → records_end changes ≡ used → n + 16 ≤ limit → IsOutside (area_start limit (other_area area)) n
  other_outside n low room place fits = (start_min limit (other_area area) low, apart area)
    where
      apart : (a : Area) → IsApart (area_start limit (other_area a)) n (area_start limit a) (length (records changes) + 1)
      apart First = inl (omega (arith, room, place))
      apart Second = inr (omega arith)

  module _ (other : List Change) (restores : Restores (rows_of changes) other) (fits : records_end other < limit) where
    -- both areas have the rows, and the first of them is in use
    pub record Prepared (image : List ℕ) : Type 0 where
      pub settled : Settled image
      pub has : HasChanges limit (other_area area) other image

    pub prepared_by : (old : List ℕ) → Settled old → area_start limit (other_area area) ≤ length old → Prepared (written (area_start limit (other_area area)) (records other ++ 0 ∷ []) old)
    prepared_by old is inside =
        let start = area_start limit (other_area area) in
        let bytes = records other ++ 0 ∷ [] in
        let low : 16 ≤ limit = omega (arith, is.room, is.place) in
        let size : length bytes + 16 ≤ limit = omega (arith, length-append (records other) (0 ∷ []), fits) in
        record {
          settled = settled_outside start (length bytes) (other_outside (length bytes) low is.room is.place size) old (written start bytes old) is (torn_written start bytes old);
          has = written_changes limit (other_area area) other (written start bytes old) (holds_written start bytes old inside);
        }

    pub turning : (old new : List ℕ) → Prepared old → IsTorn 8 1 old new → OneOfTwo limit used area changes new
    turning old new is torn =
        let settled = is.settled in
        let low : 16 ≤ limit = omega (arith, settled.room, settled.place) in
        record {
          place = settled.place;
          room = settled.room;
          lawful = settled.lawful;
          header = header_untouched limit used area changes old new settled.header torn;
          held = (
            area_untouched limit used area changes area changes old new low settled.held.1 torn,
            record {
              other = other;
              same_rows = restores.same_rows;
              lawful = restores.lawful;
              room = fits;
              has = area_untouched limit used area changes (other_area area) other old new low is.has torn;
            },
          );
        }

    pub turned : (old : List ℕ) → Prepared old → IsImage limit (records_end other) (other_area area) Nothing other (written 8 (area_byte (other_area area) ∷ []) old)
    turned old is =
        let new = written 8 (area_byte (other_area area) ∷ []) old in
        let torn = torn_written 8 (area_byte (other_area area) ∷ []) old in
        let settled = is.settled in
        let low : 16 ≤ limit = omega (arith, settled.room, settled.place) in
        let long = header_long old settled.header in
        record {
          place = refl;
          room = fits;
          lawful = restores.lawful;
          header = header_untouched limit used area changes old new settled.header torn;
          held = (
            by_byte (other_area area) _ (byte_is 8 (area_byte (other_area area)) new (holds_written 8 (area_byte (other_area area) ∷ []) old (omega arith))),
            area_untouched limit used area changes (other_area area) other old new low is.has torn,
          );
        }

    -- The two writes, by the states of the disk

    module _ (old mid new : DiskState) where
      abbrev pub Now : DiskState → (List ℕ → Type 0) → Type 0
      Now disk P = Leaves disk disk.moment P

      abbrev pub Reads : DiskState → Type 0
      Reads disk = (d : List ℕ) → disk.content ≡ Some d → disk.images disk.moment d

      abbrev start : ℕ
      start = area_start limit (other_area area)

      abbrev bytes : List ℕ
      bytes = records other ++ 0 ∷ []

      abbrev SameRows : List ℕ → Type 0
      SameRows = HasRows limit (rows_of changes)

      form_outside : 16 ≤ limit → used < limit → records_end changes ≡ used → IsOutside start (length bytes)
      form_outside low room place = other_outside (length bytes) low room place (omega (arith, length-append (records other) (0 ∷ []), fits))

      settled_reads : (image : List ℕ) → Settled image → SameRows image
      settled_reads image is = rows_read limit area changes image (omega (arith, is.room, is.place)) is.lawful is.header is.held.0 is.held.1

      form_torn : (d c : List ℕ) → Settled d → IsTorn start (length bytes) d c → Settled c
      form_torn d c is torn = settled_outside start (length bytes) (form_outside (omega (arith, is.room, is.place)) is.room is.place) d c is torn

      pub form_failed : Now old Settled → Passes (IsTorn start (length bytes)) old mid → Now mid Settled
      form_failed now passes = now_after (IsTorn start (length bytes)) old mid Settled Settled passes (torn_same start (length bytes)) now form_torn

      pub form_moments : Now old Settled → Passes (IsTorn start (length bytes)) old mid → LeavesOnly SameRows old mid
      form_moments now passes =
          goes_on (IsTorn start (length bytes)) SameRows Settled old old mid (started SameRows old (λ image left. settled_reads image (now image left))) passes now
          (λ d c is torn. settled_reads c (form_torn d c is torn))

      pub form_written : Reads old → Now old Settled → ((d : List ℕ) → old.content ≡ Some d → start ≤ length d) → IsSynced mid → mid.content ≡ option_map (written start bytes) old.content → Now mid Prepared
      form_written reads now room synced content =
          written_from start bytes old mid Prepared synced content (λ d told. prepared_by d (now d (reads d told)) (room d told))

      pub turn_failed : Now mid Prepared → Passes (IsTorn 8 1) mid new → Now new (OneOfTwo limit used area changes)
      turn_failed now passes = now_after (IsTorn 8 1) mid new Prepared (OneOfTwo limit used area changes) passes (torn_same 8 1) now turning

      pub turn_moments : LeavesOnly SameRows old mid → Now mid Prepared → Passes (IsTorn 8 1) mid new → LeavesOnly SameRows old new
      turn_moments so_far now passes =
          goes_on (IsTorn 8 1) SameRows Prepared old mid new so_far passes now (λ d c is torn. one_of_two_reads limit used area changes c (turning d c is torn))

      pub turn_written : Reads mid → Now mid Prepared → IsSynced new → new.content ≡ option_map (written 8 (area_byte (other_area area) ∷ [])) mid.content
          → Now new (IsImage limit (records_end other) (other_area area) Nothing other)
      turn_written reads now synced content =
          written_after 8 (area_byte (other_area area) ∷ []) mid new Prepared (IsImage limit (records_end other) (other_area area) Nothing other) reads synced content now turned

-- The rows of the acknowledged changes stay, whichever area they stand in

nothing_before : (limit used : ℕ) (area : Area) → changes_before limit area used [] ≡ []
nothing_before limit used area =
    let none : take (used - 16) (drop (area_start limit area) []) ≡ [] = rw (drop_all {X = ℕ} (area_start limit area) [] (omega arith)) (take_all (used - 16) [] (omega arith)) in
    ap (λ (bytes : List ℕ). changes_in (records_from (length bytes) false common_rows 16 (bytes ++ 0 ∷ []))) none

pub same_rows : (old new : DiskState) (limit used used' : ℕ) (area area' : Area) (doubt : Doubt) (other : List Change) → is_some new.content ≡ is_some old.content
    → ((bytes : List ℕ) → new.content ≡ Some bytes → new.images new.moment bytes)
    → (IsSome old.content → rows_of other ≡ rows_of (changes_before limit area used (unwrap_or old.content [])))
    → (IsSome old.content → Leaves new new.moment (IsImage limit used' area' doubt other))
    → rows_of (changes_before limit area' used' (unwrap_or new.content [])) ≡ rows_of (changes_before limit area used (unwrap_or old.content []))
same_rows old new limit used used' area area' doubt other tells reads same images = by_content old.content new.content tells reads same images
  where
    by_content : (a b : Option (List ℕ)) → is_some b ≡ is_some a → ((bytes : List ℕ) → b ≡ Some bytes → new.images new.moment bytes)
        → (IsSome a → rows_of other ≡ rows_of (changes_before limit area used (unwrap_or a [])))
        → (IsSome a → Leaves new new.moment (IsImage limit used' area' doubt other))
        → rows_of (changes_before limit area' used' (unwrap_or b [])) ≡ rows_of (changes_before limit area used (unwrap_or a []))
    by_content (Some c) (Some bytes) tells reads same images =
        let read = images refl bytes (reads bytes refl) in
        ap rows_of (acknowledged_is limit used' area' other bytes read.place read.lawful (front_of limit used' area' doubt other bytes read)) ∙ same refl
    by_content None None tells reads same images = ap rows_of (nothing_before limit used' area' ∙ sym (nothing_before limit used area))
    by_content None (Some bytes) tells reads same images = absurd (cc)
    by_content (Some bytes) None tells reads same images = absurd (cc)

-- The zeros in front of the other area, by the states of the disk

module _ (limit used : ℕ) (area : Area) (changes : List Change) where
  abbrev pub Quiet : List ℕ → Type 0
  Quiet = IsImage limit used area Nothing changes

  abbrev pub Rows' : List ℕ → Type 0
  Rows' = HasRows limit (rows_of changes)

  quiet_reads : (image : List ℕ) → Quiet image → Rows' image
  quiet_reads image is = rows_read limit area changes image (omega (arith, is.room, is.place)) is.lawful is.header is.held.0 is.held.1

  pub quiet_kept : (old new : DiskState) → Leaves old old.moment Quiet → Passes IsKept old new → Leaves new new.moment Quiet
  quiet_kept old new now passes = now_after IsKept old new Quiet Quiet passes (λ d. refl) now (λ d c is same. subst Quiet (sym same) is)

  pub kept_moments : (old new : DiskState) → Leaves old old.moment Quiet → Passes IsKept old new → LeavesOnly Rows' old new
  kept_moments old new now passes =
      goes_on IsKept Rows' Quiet old old new (started Rows' old (λ image left. quiet_reads image (now image left))) passes now
      (λ d c is same. quiet_reads c (subst Quiet (sym same) is))

  -- what the disk reads ends behind the closed gate
  pub beyond : (end n : ℕ) (bytes : List ℕ) → end ≡ length bytes → Quiet bytes → IsOutside limit used area changes end n
  beyond end n bytes at is =
      let inside = is.held.1.end.inside in
      let place = start_place limit area (length (records changes)) in
      (omega (arith, at, header_long bytes is.header), inl (omega (arith, at, inside, place)))

  pub zeros_now : (end n : ℕ) (old new : DiskState) → IsOutside limit used area changes end n → Leaves old old.moment Quiet → Passes (IsTorn end n) old new → Leaves new new.moment Quiet
  zeros_now end n old new outside now passes =
      now_after (IsTorn end n) old new Quiet Quiet passes (torn_same end n) now (settled_outside limit used area changes end n outside)

  pub zeros_moments : (end n : ℕ) (first old new : DiskState) → IsOutside limit used area changes end n → LeavesOnly Rows' first old → Leaves old old.moment Quiet → Passes (IsTorn end n) old new
      → LeavesOnly Rows' first new
  zeros_moments end n first old new outside so_far now passes =
      goes_on (IsTorn end n) Rows' Quiet first old new so_far passes now (λ d c is torn. quiet_reads c (settled_outside limit used area changes end n outside d c is torn))

pub if_some : (o : Option (List ℕ)) (P : List ℕ → Type 0) (b : List ℕ) → o ≡ Some b → IfSome o P → P b
if_some o P b is holds = subst (λ (x : Option (List ℕ)). IfSome x P) is holds

-- a disk that was filled up to the other area
pub reached_by : (limit used : ℕ) (area : Area) (changes : List Change) (end : ℕ) (zeros d x : List ℕ) → end ≡ length d → IsImage limit used area Nothing changes d → limit ≤ used + 128
    → length zeros ≡ min (area_start limit (other_area area) - end) 128 → written end zeros d ≡ x → area_start limit (other_area area) ≤ length x
reached_by limit used First changes end zeros d x at is near size is_x =
    omega (arith, at, is.held.1.end.inside, is.place, near, size, ap length is_x, length-append (take end d ++ zeros) (drop (end + length zeros) d), length-append (take end d) zeros, length-take end d)
reached_by limit used Second changes end zeros d x at is near size is_x =
    omega (arith, at, header_long d is.header, ap length is_x, length-append (take end d ++ zeros) (drop (end + length zeros) d), length-append (take end d) zeros, length-take end d)
