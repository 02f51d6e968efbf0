-- What happens to a piece leaves its operation well made.
use Rattle.std.proofs.Common.{◌≡◌, ℕ, ◌+◌, ◌-◌, ◌<◌, ◌≤◌, Bool, true, false, List, refl, sym, ap, ◌∙◌, arith, subst, inl, inr, get_or}
use Rattle.std.specs.Prelude.{◌%◌, ◌==◌, ◌&&◌, ◌||◌, ◌≢◌, ◌⊎◌, not, Option, Some, None, slice_get, slice_set, length, if◌then◌else◌}
use Rattle.std.proofs.lemmas.Bool.{eqb-true}
use Rattle.std.proofs.lemmas.List.{length-set}
use Rattle.std.proofs.lemmas.List.Elements.{All-from_get_or}
use Rattle.std.proofs.lemmas.Option.{slice_get_within, slice_get-get_or}
use Rattle.fam_model.specs.declared.piece.Mark.TheVariants as mark
use Rattle.fam_model.specs.declared.piece.MarkedPiece.{MarkedPiece}
use Rattle.fam_model.specs.declared.piece.Operation.{Operation}
use Rattle.fam_model.specs.declared.reply.PieceAnswer.{PieceAnswer}
use Rattle.fam_model.specs.declared.reply.PieceAnswer.TheVariants as answer
use Rattle.fam_model.specs.Lists.{change_place}
use Rattle.fam_model.specs.Operations.{is_left, is_served, is_copy, is_copy_write, as_reported}
use Rattle.fam_model.specs.PieceStep.{marked, handed, is_refused, is_read, is_copy_read, with_answer, without_piece}
use Rattle.fam_schedule.specs.Made.{IsMade}
use Rattle.fam_schedule.proofs.Acting.{all_at}
use Rattle.fam_schedule.proofs.Places.{get_set_same, get_set_other}

-- a list with one element changed

same_some : {A : Type 0} (x y : A) → Some x ≡ Some y → x ≡ y
same_some x y e = cc

abbrev chosen : {A : Type 0} → Bool → A → A → A
chosen b x y = if b then x else y

changed_by : {A : Type 0} (same : Bool) (k : ℕ) (change : A → A) (xs : List A) (o : Option A) (i : ℕ) (x : A) → (i == k) ≡ same → slice_get xs k ≡ o → slice_get xs i ≡ Some x →
    slice_get (change_place k change xs) i ≡ Some (chosen same (change x) x)
changed_by true k change xs o i x e at there =
    let place : i ≡ k = eqb-true i k e in
    let here : slice_get xs k ≡ Some x = ap (slice_get xs) (sym place) ∙ there in
    rw here (ap (slice_get (slice_set xs k (change x))) place ∙ get_set_same xs k x (change x) here)
changed_by false k change xs None i x e at there = rw at there
changed_by false k change xs (Some z) i x e at there =
    let apart : i ≢ k = grind arith in
    rw at (get_set_other xs k i x (change z) there apart)

-- what stands at i once place k is changed
pub get_changed : {A : Type 0} (k : ℕ) (change : A → A) (xs : List A) (i : ℕ) (x : A) → slice_get xs i ≡ Some x →
    slice_get (change_place k change xs) i ≡ Some (if i == k then change x else x)
get_changed k change xs i x there = changed_by (i == k) k change xs (slice_get xs k) i x refl refl there

length_by : {A : Type 0} (k : ℕ) (change : A → A) (xs : List A) (o : Option A) → slice_get xs k ≡ o → length (change_place k change xs) ≡ length xs
length_by k change xs None e = rw e refl
length_by k change xs (Some x) e = rw e (length-set xs k (change x))

pub length_changed : {A : Type 0} (k : ℕ) (change : A → A) (xs : List A) → length (change_place k change xs) ≡ length xs
length_changed k change xs = length_by k change xs (slice_get xs k) refl

-- a piece and its write

-- the pieces with piece j changed, and where it is a copy's read, the one after it
abbrev pub both_changed : Bool → ℕ → (MarkedPiece → MarkedPiece) → (MarkedPiece → MarkedPiece) → List MarkedPiece → List MarkedPiece
both_changed reads j first second pieces =
    if reads then change_place (j + 1) second (change_place j first pieces) else change_place j first pieces

-- what becomes of the piece at i
abbrev pub becomes : Bool → ℕ → (MarkedPiece → MarkedPiece) → (MarkedPiece → MarkedPiece) → ℕ → MarkedPiece → MarkedPiece
becomes reads j first second i p =
    let one = if i == j then first p else p in if reads && (i == j + 1) then second one else one

pub get_both : (reads : Bool) (j : ℕ) (first second : MarkedPiece → MarkedPiece) (pieces : List MarkedPiece) (i : ℕ) (p : MarkedPiece) → slice_get pieces i ≡ Some p →
    slice_get (both_changed reads j first second pieces) i ≡ Some (becomes reads j first second i p)
get_both true j first second pieces i p there =
    get_changed (j + 1) second (change_place j first pieces) i (if i == j then first p else p) (get_changed j first pieces i p there)
get_both false j first second pieces i p there = get_changed j first pieces i p there

length_both : (reads : Bool) (j : ℕ) (first second : MarkedPiece → MarkedPiece) (pieces : List MarkedPiece) → length (both_changed reads j first second pieces) ≡ length pieces
length_both true j first second pieces = length_changed (j + 1) second (change_place j first pieces) ∙ length_changed j first pieces
length_both false j first second pieces = length_changed j first pieces

-- where a piece of the changed ones comes from
pub from_both : (reads : Bool) (j : ℕ) (first second : MarkedPiece → MarkedPiece) (pieces : List MarkedPiece) (i : ℕ) (y : MarkedPiece) →
    slice_get (both_changed reads j first second pieces) i ≡ Some y →
    (p : MarkedPiece) × (slice_get pieces i ≡ Some p) × (y ≡ becomes reads j first second i p)
from_both reads j first second pieces i y there =
    let within : i < length (both_changed reads j first second pieces) = slice_get_within (both_changed reads j first second pieces) i y there in
    let longer : length (both_changed reads j first second pieces) ≡ length pieces = length_both reads j first second pieces in
    let at : slice_get pieces i ≡ Some (get_or pieces i y) = slice_get-get_or pieces i y (omega arith) in
    let now = get_both reads j first second pieces i (get_or pieces i y) at in
    (get_or pieces i y, at, same_some y (becomes reads j first second i (get_or pieces i y)) (sym there ∙ now))

-- A change of a piece keeps its place and its kind; the piece is then not left. The one after it is not left either, or
-- is as it was, and the first one was served.
pub record AreChanges (first second : MarkedPiece → MarkedPiece) : Type 0 where
  pub first_place : (p : MarkedPiece) → (first p).piece.place ≡ p.piece.place
  pub second_place : (p : MarkedPiece) → (second p).piece.place ≡ p.piece.place
  pub first_kind : (p : MarkedPiece) → (first p).piece.kind ≡ p.piece.kind
  pub second_kind : (p : MarkedPiece) → (second p).piece.kind ≡ p.piece.kind
  pub not_left : (p : MarkedPiece) → is_left (first p) ≡ false
  pub serves : ((p : MarkedPiece) → is_left (second p) ≡ false) ⊎ ((p : MarkedPiece) → is_served (first p).mark ≡ true)

pub becomes_place : (first second : MarkedPiece → MarkedPiece) (a b : Bool) (p : MarkedPiece) → AreChanges first second →
    (if b then second (if a then first p else p) else (if a then first p else p)).piece.place ≡ p.piece.place
becomes_place first second true true p c = c.second_place (first p) ∙ c.first_place p
becomes_place first second true false p c = c.first_place p
becomes_place first second false true p c = c.second_place p
becomes_place first second false false p c = refl

pub becomes_kind : (first second : MarkedPiece → MarkedPiece) (a b : Bool) (p : MarkedPiece) → AreChanges first second →
    (if b then second (if a then first p else p) else (if a then first p else p)).piece.kind ≡ p.piece.kind
becomes_kind first second true true p c = c.second_kind (first p) ∙ c.first_kind p
becomes_kind first second true false p c = c.first_kind p
becomes_kind first second false true p c = c.second_kind p
becomes_kind first second false false p c = refl

-- writes that wait

named : (n m : ℕ) → n ≡ m → (n == m) ≡ true
named n m e = grind arith

first_true : (a b : Bool) → (a && b) ≡ true → a ≡ true
first_true true b e = refl
first_true false b e = cc

second_true : (a b : Bool) → (a && b) ≡ true → b ≡ true
second_true true b e = e
second_true false b e = cc

other_true : (a b : Bool) → a ≡ false → (a || b) ≡ true → b ≡ true
other_true false b e h = h
other_true true b e h = cc

or_right : (a b : Bool) → b ≡ true → (a || b) ≡ true
or_right true b e = refl
or_right false b e = e

-- the operation with its pieces changed so
abbrev pub with_both : Operation → Bool → ℕ → (MarkedPiece → MarkedPiece) → (MarkedPiece → MarkedPiece) → Operation
with_both o reads j first second = record o { pieces = both_changed reads j first second o.pieces }

-- a read has its write behind it
abbrev Waits : Operation → ℕ → Type 0
Waits o i = (read : MarkedPiece) × (slice_get o.pieces (i - 1) ≡ Some read) × ((is_left read || is_served read.mark) ≡ true)

-- the numbers of a write and its read

odd_after : (i : ℕ) → (i % 2 == 1) ≡ true → ((i - 1) % 2 == 1) ≡ false
odd_after i e = let odd : i % 2 ≡ 1 = eqb-true (i % 2) 1 e in let even : (i - 1) % 2 ≡ 0 = omega arith in rw even refl

not_odd : (j : ℕ) → true ≡ not (j % 2 == 1) → j % 2 ≢ 1
not_odd j e = λ odd. let no : not (j % 2 == 1) ≡ false = rw odd refl in let bad : true ≡ false = e ∙ no in cc

apart_by : (i j : ℕ) → j % 2 ≢ 1 → (i % 2 == 1) ≡ true → ((i - 1) == (j + 1)) ≡ false
apart_by i j even e = apart_if ((i - 1) == (j + 1)) refl
  where
    apart_if : (b : Bool) → ((i - 1) == (j + 1)) ≡ b → ((i - 1) == (j + 1)) ≡ false
    apart_if false f = f
    apart_if true f =
        let odd : i % 2 ≡ 1 = eqb-true (i % 2) 1 e in
        let same : i - 1 ≡ j + 1 = eqb-true (i - 1) (j + 1) f in
        let is : j % 2 ≡ 1 = omega arith in
        absurd (even is)

-- a piece that is not the write of the changed one, and is left, waits for the read that it waited for
waits_other : (stripes n : ℕ) (o : Operation) (reads : Bool) (j i : ℕ) (first second : MarkedPiece → MarkedPiece) (left p : MarkedPiece) → IsMade stripes n o →
    slice_get o.pieces j ≡ Some left → reads ≡ is_copy_read o left.piece → slice_get o.pieces i ≡ Some p → is_left p ≡ true → is_copy_write o i ≡ true →
    (i == j + 1 ≡ true → reads ≡ false) → Waits (with_both o reads j first second) i
waits_other stripes n o reads j i first second left p made there reads_is at is_left_p write not_write =
    let copy : is_copy o.kind ≡ true = first_true (is_copy o.kind) (i % 2 == 1) write in
    let odd : (i % 2 == 1) ≡ true = second_true (is_copy o.kind) (i % 2 == 1) write in
    let reading = made.waits i p at is_left_p write in
    let turn : is_read left.piece.kind ≡ not (j % 2 == 1) = made.turns j left there copy in
    let is_reads : reads ≡ is_read left.piece.kind = reads_is ∙ ap (λ b. b && is_read left.piece.kind) copy in
    waits_by ((i - 1) == j) reads refl refl copy odd reading.0 reading.1 reading.2 turn is_reads
  where
    shown : (r : MarkedPiece) → slice_get o.pieces (i - 1) ≡ Some r → becomes reads j first second (i - 1) r ≡ r → (is_left r || is_served r.mark) ≡ true →
        Waits (with_both o reads j first second) i
    shown r r_at same h =
        (r, get_both reads j first second o.pieces (i - 1) r r_at ∙ ap Some same, h)

    waits_by : (same b : Bool) → ((i - 1) == j) ≡ same → reads ≡ b → is_copy o.kind ≡ true → (i % 2 == 1) ≡ true → (r : MarkedPiece) → slice_get o.pieces (i - 1) ≡ Some r →
        (is_left r || is_served r.mark) ≡ true → is_read left.piece.kind ≡ not (j % 2 == 1) → reads ≡ is_read left.piece.kind → Waits (with_both o reads j first second) i
    waits_by true b e f copy odd r r_at h turn is_reads =
        let place : i - 1 ≡ j = eqb-true (i - 1) j e in
        let even : (j % 2 == 1) ≡ false = ap (λ k. k % 2 == 1) (sym place) ∙ odd_after i odd in
        let yes : reads ≡ true = is_reads ∙ turn ∙ ap not even in
        let odd_is : i % 2 ≡ 1 = eqb-true (i % 2) 1 odd in
        let next : i ≡ j + 1 = omega arith in
        let behind : (i == j + 1) ≡ true = named i (j + 1) next in
        let no : true ≡ false = sym yes ∙ not_write behind in cc
    waits_by false true e f copy odd r r_at h turn is_reads =
        let even : j % 2 ≢ 1 = not_odd j (sym f ∙ is_reads ∙ turn) in
        let apart : ((i - 1) == (j + 1)) ≡ false = apart_by i j even odd in
        shown r r_at (rw (f, e, apart) refl) h
    waits_by false false e f copy odd r r_at h turn is_reads = shown r r_at (rw (f, e) refl) h

-- the write of the changed piece, which is left, has its read served
waits_read : (o : Operation) (reads : Bool) (j i : ℕ) (first second : MarkedPiece → MarkedPiece) (left : MarkedPiece) → slice_get o.pieces j ≡ Some left → i ≡ j + 1 →
    ((p : MarkedPiece) → is_served (first p).mark ≡ true) → Waits (with_both o reads j first second) i
waits_read o reads j i first second left there place served =
    let read : i - 1 ≡ j = omega arith in
    let here : (j == j) ≡ true = named j j refl in
    let not_next : (j == j + 1) ≡ false = grind arith in
    let now : slice_get (both_changed reads j first second o.pieces) j ≡ Some (first left) =
    get_both reads j first second o.pieces j left there ∙ ap Some (becomes_first reads j first second left here not_next) in
    (first left, ap (slice_get (both_changed reads j first second o.pieces)) read ∙ now, or_right (is_left (first left)) (is_served (first left).mark) (served left))
  where
    becomes_first : (reads : Bool) (j : ℕ) (first second : MarkedPiece → MarkedPiece) (p : MarkedPiece) → (j == j) ≡ true → (j == j + 1) ≡ false → becomes reads j first second j p ≡ first p
    becomes_first true j first second p e f = rw (e, f) refl
    becomes_first false j first second p e f = rw e refl

-- a write that is left after the change waits for its read
waits_both : (stripes n : ℕ) (o : Operation) (reads : Bool) (j : ℕ) (first second : MarkedPiece → MarkedPiece) (left : MarkedPiece) → IsMade stripes n o →
    slice_get o.pieces j ≡ Some left → reads ≡ is_copy_read o left.piece → AreChanges first second →
    (i : ℕ) (write : MarkedPiece) → slice_get (with_both o reads j first second).pieces i ≡ Some write → is_left write ≡ true → is_copy_write o i ≡ true →
    Waits (with_both o reads j first second) i
waits_both stripes n o reads j first second left made there reads_is changes i write at left_write is_write =
    let from = from_both reads j first second o.pieces i write at in
    by_case (i == j) (reads && (i == j + 1)) refl refl from.0 from.1 from.2
  where
    by_change : (p : MarkedPiece) → slice_get o.pieces i ≡ Some p → i ≡ j + 1 → is_left (second p) ≡ true →
        (((q : MarkedPiece) → is_left (second q) ≡ false) ⊎ ((q : MarkedPiece) → is_served (first q).mark ≡ true)) → Waits (with_both o reads j first second) i
    by_change p p_at place h (inl never) = let no : true ≡ false = sym h ∙ never p in cc
    by_change p p_at place h (inr served) = waits_read o reads j i first second left there place served

    by_case : (same next : Bool) → (i == j) ≡ same → (reads && (i == j + 1)) ≡ next → (p : MarkedPiece) → slice_get o.pieces i ≡ Some p →
        write ≡ becomes reads j first second i p → Waits (with_both o reads j first second) i
    by_case true next e f p p_at same =
        let place : i ≡ j = eqb-true i j e in
        let not_next : (i == j + 1) ≡ false = grind arith in
        let is : becomes reads j first second i p ≡ first p = is_first reads e not_next p in
        let no : true ≡ false = sym left_write ∙ ap is_left (same ∙ is) ∙ changes.not_left p in cc
      where
        is_first : (b : Bool) → (i == j) ≡ true → (i == j + 1) ≡ false → (p : MarkedPiece) → becomes b j first second i p ≡ first p
        is_first true e g p = rw (e, g) refl
        is_first false e g p = rw e refl
    by_case false true e f p p_at same =
        let place : i ≡ j + 1 = eqb-true i (j + 1) (second_true reads (i == j + 1) f) in
        let is : becomes reads j first second i p ≡ second p = rw (e, f) refl in
        by_change p p_at place (ap is_left (sym is ∙ sym same) ∙ left_write) changes.serves
    by_case false false e f p p_at same =
        let is : becomes reads j first second i p ≡ p = rw (e, f) refl in
        let still : is_left p ≡ true = ap is_left (sym is ∙ sym same) ∙ left_write in
        waits_other stripes n o reads j i first second left p made there reads_is p_at still is_write (λ behind. not_reads reads behind f)
      where
        not_reads : (b : Bool) → (i == j + 1) ≡ true → (b && (i == j + 1)) ≡ false → b ≡ false
        not_reads false g h = refl
        not_reads true g h = let yes : (true && (i == j + 1)) ≡ true = g in sym yes ∙ h

-- an operation with a piece changed is still well made
pub made_both : (stripes n : ℕ) (o : Operation) (reads : Bool) (j : ℕ) (first second : MarkedPiece → MarkedPiece) (left : MarkedPiece) → IsMade stripes n o →
    slice_get o.pieces j ≡ Some left → reads ≡ is_copy_read o left.piece → AreChanges first second → IsMade stripes n (with_both o reads j first second)
made_both stripes n o reads j first second left made there reads_is changes =
    record {
      call = made.call;
      placed = All-from_get_or (λ marked. marked.piece.place.stripe < stripes) (with_both o reads j first second).pieces left
          (λ i low.
          let y = get_or (with_both o reads j first second).pieces i left in
          let at : slice_get (with_both o reads j first second).pieces i ≡ Some y = slice_get-get_or (with_both o reads j first second).pieces i left low in
          let from = from_both reads j first second o.pieces i y at in
          let place : y.piece.place ≡ from.0.piece.place = ap (λ p. p.piece.place) from.2 ∙ becomes_place first second (i == j) (reads && (i == j + 1)) from.0 changes in
          let old : from.0.piece.place.stripe < stripes = all_at (λ marked. marked.piece.place.stripe < stripes) o.pieces i from.0 made.placed from.1 in
          subst (λ place. place.stripe < stripes) (sym place) old);
      waits = waits_both stripes n o reads j first second left made there reads_is changes;
      turns = λ i y at copy.
          let from = from_both reads j first second o.pieces i y at in
          let kind : y.piece.kind ≡ from.0.piece.kind = ap (λ p. p.piece.kind) from.2 ∙ becomes_kind first second (i == j) (reads && (i == j + 1)) from.0 changes in
          ap is_read kind ∙ made.turns i from.0 from.1 copy;
    }

-- an answer

handed_by : (refused : Bool) (bytes : List ℕ) (p : MarkedPiece) →
    ((if refused then marked mark.Gone p else record p { piece = record p.piece { bytes = bytes } }).piece.place ≡ p.piece.place)
    × ((if refused then marked mark.Gone p else record p { piece = record p.piece { bytes = bytes } }).piece.kind ≡ p.piece.kind)
handed_by true bytes p = (refl, refl)
handed_by false bytes p = (refl, refl)

handed_serves : (given : PieceAnswer) (bytes : List ℕ) →
    ((p : MarkedPiece) → is_left (handed given bytes p) ≡ false) ⊎ ((p : MarkedPiece) → is_served (marked (mark.Answered given) p).mark ≡ true)
handed_serves answer.Ok bytes = inr (λ p. refl)
handed_serves (answer.Data found) bytes = inr (λ p. refl)
handed_serves (answer.Refused e) bytes = inl (λ p. refl)

pub answers_change : (given : PieceAnswer) (bytes : List ℕ) → AreChanges (marked (mark.Answered given)) (handed given bytes)
answers_change given bytes =
    record {
      first_place = λ p. refl;
      second_place = λ p. (handed_by (is_refused given) bytes p).0;
      first_kind = λ p. refl;
      second_kind = λ p. (handed_by (is_refused given) bytes p).1;
      not_left = λ p. refl;
      serves = handed_serves given bytes;
    }

pub made_answered : (stripes n : ℕ) (o : Operation) (j : ℕ) (left : MarkedPiece) (given : PieceAnswer) (bytes : List ℕ) → IsMade stripes n o →
    slice_get o.pieces j ≡ Some left → IsMade stripes n (with_answer o j left.piece given bytes)
made_answered stripes n o j left given bytes made there =
    made_both stripes n o (is_copy_read o left.piece) j (marked (mark.Answered given)) (handed given bytes) left made there refl (answers_change given bytes)

-- a loss

pub losses_change : AreChanges (marked mark.Gone) (marked mark.Gone)
losses_change =
    record {
      first_place = λ p. refl;
      second_place = λ p. refl;
      first_kind = λ p. refl;
      second_kind = λ p. refl;
      not_left = λ p. refl;
      serves = inl (λ p. refl);
    }

pub made_lost : (stripes n : ℕ) (o : Operation) (j : ℕ) (left : MarkedPiece) → IsMade stripes n o → slice_get o.pieces j ≡ Some left → IsMade stripes n (without_piece o j left.piece)
made_lost stripes n o j left made there =
    made_both stripes n o (is_copy_read o left.piece) j (marked mark.Gone) (marked mark.Gone) left made there refl losses_change

-- a report

pub made_reported : (stripes n : ℕ) (o : Operation) → IsMade stripes n o → IsMade stripes n (as_reported o)
made_reported stripes n o made = record { call = made.call; placed = made.placed; waits = made.waits; turns = made.turns }

-- the next call number is higher

pub made_higher : (stripes n m : ℕ) (o : Operation) → n ≤ m → IsMade stripes n o → IsMade stripes m o
made_higher stripes n m o h made =
    record { call = (let low : o.call < n = made.call in omega arith); placed = made.placed; waits = made.waits; turns = made.turns }
