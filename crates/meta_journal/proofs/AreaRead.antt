-- Where an area is read, and where its records end.
use Rattle.std.proofs.Common.{◌≡◌, ℕ, zero, suc, ◌+◌, ◌-◌, ◌<◌, ◌≤◌, min, Bool, true, false, cond, List, [], ◌∷◌, length, take, drop, refl, ◌∙◌, ap, subst, arith, inl, inr, length-append, length-drop}
use Rattle.std.specs.Prelude.{◌⊎◌, Option, Some, None, Result, Ok, Err, IfOk, IfErr, ◌==◌}
use Rattle.std.specs.Option.{ForSome}
use Rattle.std.proofs.lemmas.List.{take_min}
use Rattle.fam_model.specs.declared.change.Change.{Change}
use Rattle.fam_model.specs.declared.rows.Rows.{Rows}
use Rattle.fam_model.specs.Directory.{after}
use Rattle.fam_model.specs.Journal.{record_length}
use Rattle.fam_model.specs.Rows.{common_rows}
use Rattle.meta_codec.proofs.Spelled.{IsBytes}
use Rattle.meta_codec.specs.Reading.{Field}
use Rattle.meta_journal.specs.Layout.{part, area_start, area_bytes, record_bytes, records}
use Rattle.meta_journal.specs.Opening.{Gives, read_from}
use Rattle.meta_journal.specs.Reading.{Contents, change_at, damaged_unless, records_from, with_first}
use Rattle.meta_journal.specs.declared.area.Area.{Area}
use Rattle.meta_journal.specs.declared.reading.Records.{Records}
use Rattle.meta_journal.specs.declared.reading.Unread.{Unread}
use Rattle.meta_journal.specs.declared.reading.Unread.TheVariants.{Memory, Damaged}
use Rattle.meta_journal.proofs.ReadBack.{recorded, record_is_counted, stands_there}
use Rattle.meta_journal.proofs.TakenUp.{sums, sums_damaged}

-- the part that is read is the area, as far as it lies on the disk
pub area_part : (limit : ℕ) (area : Area) (disk : List ℕ) → part (area_start limit area) (min (length disk - area_start limit area) (limit - 16)) disk ≡ area_bytes limit area disk
area_part limit area disk =
    let d : List ℕ = drop (area_start limit area) disk in
    let size : min (length disk - area_start limit area) (limit - 16) ≡ min (limit - 16) (length d) = omega (arith, length-drop (area_start limit area) disk) in
    ap (λ (n : ℕ). take n d) size ∙ take_min (limit - 16) d

-- records end inside the bytes that they were read from
pub place_inside : (is_first : Bool) (bytes : List ℕ) (read : Records) → IsBytes bytes → 0 < length bytes → read_from is_first common_rows 16 bytes ≡ Ok read
    → (16 ≤ read.place) × (read.place < 16 + length bytes)
place_inside is_first bytes read fits some is =
    let s = sums common_rows (records_from (length bytes) is_first common_rows 16 bytes) read is in
    let t = stands_there (length bytes) is_first common_rows 16 bytes s.contents fits some (omega arith) s.is in
    let n : length bytes ≡ length (records s.contents.changes) + (1 + length t.rest) = omega (arith, ap length t.parts, length-append (records s.contents.changes) (t.gate ∷ t.rest)) in
    (omega (arith, s.place, t.place_is), omega (arith, s.place, t.place_is, n))

-- contents that were read, or damage
abbrev damage : ℕ → Result Contents ℕ
damage place = Err place

first_damaged : (c : Change) (read : Result Contents ℕ) (place : ℕ) → with_first c read ≡ damage place → read ≡ damage place
first_damaged c (Ok contents) place is = absurd cc
first_damaged c (Err other) place is = is

damage_at : (test : Bool) (place p : ℕ) (field : Field Change) (f : Change × List ℕ → Result Contents ℕ) (none : Contents)
    → cond test (damaged_unless place field f) (Ok none) ≡ damage p → (place ≡ p) ⊎ ((x : Change × List ℕ) × (field ≡ Some x) × (f x ≡ damage p))
damage_at true place p None f none is = let same : place ≡ p = cc in inl same
damage_at true place p (Some x) f none is = inr (x, refl, is)
damage_at false place p field f none is = absurd cc

damage_inside : (most : ℕ) (is_first : Bool) (rows : Rows) (place : ℕ) (bytes : List ℕ) (p : ℕ) → IsBytes bytes → records_from most is_first rows place bytes ≡ damage p
    → (place ≤ p) × (p < place + length bytes)
damage_inside most is_first rows place [] p fits is = absurd cc
damage_inside zero is_first rows place (gate ∷ bytes) p fits is = absurd cc
damage_inside (suc most) is_first rows place (gate ∷ bytes) p fits is =
    elim (damage_at (gate == 1) place p (change_at is_first rows bytes)
    (λ x. with_first x.0 (records_from most is_first (after rows x.0) (place + record_length x.0) x.1)) (record { changes = []; place = place }) is) [
      | inl here ↦ (omega arith, omega arith)
      | inr later ↦
          let x = later.0 in
          let tail_fits : IsBytes bytes = λ i. fits (suc i) in
          let found = recorded is_first rows bytes x tail_fits later.1 in
          let inside = damage_inside most is_first (after rows x.0) (place + record_length x.0) x.1 p found.rest_fits
          (first_damaged x.0 (records_from most is_first (after rows x.0) (place + record_length x.0) x.1) p later.2) in
          let size : length bytes + 1 ≡ record_length x.0 + length x.1 = omega (arith, ap length found.parts, record_is_counted x.0, length-append (record_bytes x.0) x.1) in
          (omega (arith, inside.0), omega (arith, inside.1, size))
    ]

pub damaged_inside : (is_first : Bool) (bytes : List ℕ) (p : ℕ) → IsBytes bytes → read_from is_first common_rows 16 bytes ≡ Err p → (16 ≤ p) × (p < 16 + length bytes)
damaged_inside is_first bytes p fits is =
    damage_inside (length bytes) is_first common_rows 16 bytes p fits (sums_damaged common_rows (records_from (length bytes) is_first common_rows 16 bytes) p is)

-- the same, of what a reader gave
pub gives_inside : (is_first : Bool) (bytes : List ℕ) (result : Result Records Unread) → IsBytes bytes → Gives result (read_from is_first common_rows 16 bytes) → 0 < length bytes
    → IfOk result (λ read. (16 ≤ read.place) × (read.place < 16 + length bytes))
gives_inside is_first bytes (Ok read) fits gives some = place_inside is_first bytes read fits some gives
gives_inside is_first bytes (Err unread) fits gives some = tt

pub gives_damaged : (is_first : Bool) (bytes : List ℕ) (result : Result Records Unread) → IsBytes bytes → Gives result (read_from is_first common_rows 16 bytes)
    → IfErr result (λ unread. (p : ℕ) → unread ≡ Damaged p → (16 ≤ p) × (p < 16 + length bytes))
gives_damaged is_first bytes (Ok read) fits gives = tt
gives_damaged is_first bytes (Err Memory) fits gives = λ p is. absurd cc
gives_damaged is_first bytes (Err (Damaged other)) fits gives =
    λ p is.
    let same : other ≡ p = cc in
    subst (λ (q : ℕ). (16 ≤ q) × (q < 16 + length bytes)) same (damaged_inside is_first bytes other fits gives)

pub whole_area : (limit : ℕ) (area : Area) (disk : List ℕ) (len start count : ℕ) (read : List ℕ) → start ≡ area_start limit area → count ≡ min (len - start) (limit - 16) → len ≡ length disk
    → read ≡ part start count disk → read ≡ area_bytes limit area disk
whole_area limit area disk len start count read begins counted long is =
    let counts : count ≡ min (length disk - area_start limit area) (limit - 16) = counted ∙ ap (λ (n : ℕ). min (n - start) (limit - 16)) long ∙ ap (λ (s : ℕ). min (length disk - s) (limit - 16)) begins in
    is ∙ ap (λ (s : ℕ). part s count disk) begins ∙ ap (λ (n : ℕ). part (area_start limit area) n disk) counts ∙ area_part limit area disk

pub for_some : (o : Option (List ℕ)) (P : List ℕ → Type 0) (b : List ℕ) → o ≡ Some b → ForSome o P → P b
for_some o P b is holds = holds b is
