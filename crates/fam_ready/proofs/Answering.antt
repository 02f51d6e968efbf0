-- How the lists tell one piece after another.
use Rattle.std.proofs.Common.{◌≡◌, ℕ, ◌<◌, ◌≤◌, Bool, true, false, List, [], ◌∷◌, refl, sym, ap, ◌∙◌, arith, subst, length, get_or}
use Rattle.std.specs.Prelude.{◌==◌, ◌&&◌, ◌||◌, ◌≢◌, not, nat_lt, All, Option, Some, None, Result, Ok, Err, OnOk, slice_get, slice_set, if◌then◌else◌}
use Rattle.std.specs.Option.{option_map_or}
use Rattle.std.proofs.lemmas.Bool.{eqb-true}
use Rattle.std.proofs.lemmas.List.Elements.{All-set}
use Rattle.std.proofs.lemmas.Option.{slice_get-get_or}
use Rattle.fam_base.specs.declared.error.NoMemory.{NoMemory}
use Rattle.fam_model.specs.declared.piece.MarkedPiece.{MarkedPiece}
use Rattle.fam_model.specs.declared.piece.Operation.{Operation}
use Rattle.fam_model.specs.declared.state.Context.{Context}
use Rattle.fam_model.specs.Lists.{change_place, is_some_and}
use Rattle.fam_model.specs.Operations.{may_come}
use Rattle.fam_model.specs.Programs.{operation_of}
use Rattle.fam_context.specs.Effects.{may_come_of}
use Rattle.fam_program.proofs.Options.{all_get}
use Rattle.fam_schedule.specs.Schedule.{PieceName}
use Rattle.fam_schedule.proofs.Keeps.{get_changed, length_changed}
use Rattle.ready_lists.specs.Lists.{AreSorted, IsSorted, has_name, names_at, same_name, with_name, without_name}
use Rattle.ready_lists.proofs.Order.{same_name-true}
use Rattle.ready_lists.proofs.Sorted.{IsSorted-with_name, IsSorted-without_name, has_name-with_name, has_name-without_name}
use Rattle.fam_ready.proofs.Coming.{named}
use Rattle.fam_ready.specs.Telling.{Tells, is_told, is_piece, is_either, lies_in, lies_on}

-- the name of a piece
abbrev pub name : ℕ → ℕ → ℕ → PieceName
name pe call j = record { pe = pe; call = call; piece = j }

-- nothing was asked for
pub tells_nothing : (context : Context) (pe : ℕ) (asked : ℕ → ℕ → Bool) (lists : List (List PieceName)) →
    ((stripe u i : ℕ) → stripe < length lists → (asked u i && lies_in context stripe u i) ≡ false) → Tells context pe asked lists lists
tells_nothing context pe asked lists none =
    record {
      stripes = refl;
      sorted = λ s. s;
      names = λ stripe n low.
          let no : is_told context pe asked stripe n ≡ false = none_told (n.pe == pe) (asked n.call n.piece && lies_in context stripe n.call n.piece) (none stripe n.call n.piece low) in
          rw no refl;
    }
  where
    none_told : (a b : Bool) → b ≡ false → (a && b) ≡ false
    none_told true b e = e
    none_told false b e = refl

-- the same was asked for
pub tells_as : (context : Context) (pe : ℕ) (asked other : ℕ → ℕ → Bool) (old new : List (List PieceName)) →
    ((stripe u i : ℕ) → (asked u i && lies_in context stripe u i) ≡ (other u i && lies_in context stripe u i)) → Tells context pe asked old new → Tells context pe other old new
tells_as context pe asked other old new same t =
    record {
      stripes = t.stripes;
      sorted = t.sorted;
      names = λ stripe n low.
          t.names stripe n low
          ∙ ap (λ b. if n.pe == pe && b then may_come_of context n.call n.piece else has_name n (names_at old stripe)) (same stripe n.call n.piece);
    }

either_told : (p f g l x y : Bool) → (if p && (g && l) then x else (if p && (f && l) then x else y)) ≡ (if p && ((f || g) && l) then x else y)
either_told false f g l x y = refl
either_told true false g l x y = refl
either_told true true true true x y = refl
either_told true true true false x y = refl
either_told true true false l x y = refl

-- one after the other
pub tells_both : (context : Context) (pe : ℕ) (first second : ℕ → ℕ → Bool) (old mid new : List (List PieceName)) → Tells context pe first old mid → Tells context pe second mid new →
    Tells context pe (is_either first second) old new
tells_both context pe first second old mid new f g =
    record {
      stripes = g.stripes ∙ f.stripes;
      sorted = λ s. g.sorted (f.sorted s);
      names = λ stripe n low.
          let within : stripe < length mid = subst (λ k. stripe < k) (sym f.stripes) low in
          g.names stripe n within
          ∙ ap (λ b. if is_told context pe second stripe n then may_come_of context n.call n.piece else b) (f.names stripe n low)
          ∙ either_told (n.pe == pe) (first n.call n.piece) (second n.call n.piece) (lies_in context stripe n.call n.piece) (may_come_of context n.call n.piece) (has_name n (names_at old stripe));
    }

-- lists of lists

names_changed : (lists : List (List PieceName)) (k t : ℕ) (change : List PieceName → List PieceName) → t < length lists →
    names_at (change_place k change lists) t ≡ (if t == k then change (names_at lists t) else names_at lists t)
names_changed lists k t change low =
    let here : slice_get lists t ≡ Some (get_or lists t []) = slice_get-get_or lists t [] low in
    let now = get_changed k change lists t (get_or lists t []) here in
    let was : names_at lists t ≡ get_or lists t [] = ap (λ o. option_map_or (λ names. names) o []) here in
    ap (λ o. option_map_or (λ names. names) o []) now ∙ ap (λ names. if t == k then change names else names) (sym was)

sorted_changed : (lists : List (List PieceName)) (k : ℕ) (change : List PieceName → List PieceName) → ((names : List PieceName) → IsSorted names → IsSorted (change names)) →
    AreSorted lists → AreSorted (change_place k change lists)
sorted_changed lists k change keeps sorted = by_place (slice_get lists k) refl
  where
    by_place : (o : Option (List PieceName)) → slice_get lists k ≡ o → AreSorted (change_place k change lists)
    by_place None e = subst AreSorted (sym (ap (λ o. option_map_or (λ x. slice_set lists k (change x)) o lists) e)) sorted
    by_place (Some names) e =
        subst AreSorted (sym (ap (λ o. option_map_or (λ x. slice_set lists k (change x)) o lists) e))
        (All-set IsSorted lists k (change names) (keeps names (all_get IsSorted lists k names sorted e)) sorted)

-- one piece

-- the piece of the operation of a call
pub record IsPieceAt (context : Context) (call j : ℕ) (marked : MarkedPiece) : Type 0 where
  pub operation : Operation
  pub there : operation_of context call ≡ Some operation
  pub piece : slice_get operation.pieces j ≡ Some marked

asked_tests : (p c j l : Bool) → (p && (c && j)) ≡ false → (p && ((c && j) && l)) ≡ false
asked_tests false c j l e = refl
asked_tests true false j l e = refl
asked_tests true true false l e = refl
asked_tests true true true l e = cc

-- a name that is not the piece's was not told
other_told : (context : Context) (pe call j stripe : ℕ) (n : PieceName) → same_name n (name pe call j) ≡ false → is_told context pe (is_piece call j) stripe n ≡ false
unfolding same_name
other_told context pe call j stripe n other =
    asked_tests (n.pe == pe) (n.call == call) (n.piece == j) (lies_in context stripe n.call n.piece) other

lies_is : (context : Context) (call j stripe : ℕ) (marked : MarkedPiece) → IsPieceAt context call j marked → lies_in context stripe call j ≡ (marked.piece.place.stripe == stripe)
lies_is context call j stripe marked is =
    ap (λ o. is_some_and o (λ operation. lies_on stripe operation j)) is.there ∙ ap (λ o. is_some_and o (λ m. m.piece.place.stripe == stripe)) is.piece

self_told : (pe call j : ℕ) (l : Bool) → ((pe == pe) && (((call == call) && (j == j)) && l)) ≡ l
self_told pe call j l = rw (named pe pe refl, named call call refl, named j j refl) refl

-- whether the piece's name is told at a stripe
piece_told : (context : Context) (pe call j stripe : ℕ) (marked : MarkedPiece) → IsPieceAt context call j marked →
    is_told context pe (is_piece call j) stripe (name pe call j) ≡ (marked.piece.place.stripe == stripe)
piece_told context pe call j stripe marked is = self_told pe call j (lies_in context stripe call j) ∙ lies_is context call j stripe marked is

-- the list of the piece's stripe has it now just where it may come
tells_change : (context : Context) (pe call j : ℕ) (marked : MarkedPiece) (old : List (List PieceName)) (change : List PieceName → List PieceName) → IsPieceAt context call j marked →
    ((names : List PieceName) → IsSorted names → IsSorted (change names)) →
    ((names : List PieceName) → has_name (name pe call j) (change names) ≡ may_come_of context call j) →
    ((n : PieceName) (names : List PieceName) → same_name n (name pe call j) ≡ false → has_name n (change names) ≡ has_name n names) →
    Tells context pe (is_piece call j) old (change_place marked.piece.place.stripe change old)
tells_change context pe call j marked old change is keeps this others =
    record {
      stripes = length_changed marked.piece.place.stripe change old;
      sorted = sorted_changed old marked.piece.place.stripe change keeps;
      names = λ stripe n low.
          ap (has_name n) (names_changed old marked.piece.place.stripe stripe change low)
          ∙ by_name stripe n (same_name n (name pe call j)) (stripe == marked.piece.place.stripe) refl refl;
    }
  where
    this_is : (stripe : ℕ) (b : Bool) → (stripe == marked.piece.place.stripe) ≡ b →
        has_name (name pe call j) (if stripe == marked.piece.place.stripe then change (names_at old stripe) else names_at old stripe)
        ≡ (if is_told context pe (is_piece call j) stripe (name pe call j) then may_come_of context call j else has_name (name pe call j) (names_at old stripe))
    this_is stripe true e =
        let told : is_told context pe (is_piece call j) stripe (name pe call j) ≡ true =
        piece_told context pe call j stripe marked is ∙ named marked.piece.place.stripe stripe (sym (eqb-true stripe marked.piece.place.stripe e)) in
        rw (e, told) (this (names_at old stripe))
    this_is stripe false e =
        let apart : (marked.piece.place.stripe == stripe) ≡ false = grind arith in
        let told : is_told context pe (is_piece call j) stripe (name pe call j) ≡ false = piece_told context pe call j stripe marked is ∙ apart in
        rw (e, told) refl

    other_is : (stripe : ℕ) (n : PieceName) (b : Bool) → (stripe == marked.piece.place.stripe) ≡ b → same_name n (name pe call j) ≡ false →
        has_name n (if stripe == marked.piece.place.stripe then change (names_at old stripe) else names_at old stripe) ≡ has_name n (names_at old stripe)
    other_is stripe n true e other = rw e (others n (names_at old stripe) other)
    other_is stripe n false e other = rw e refl

    by_name : (stripe : ℕ) (n : PieceName) (same b : Bool) → same_name n (name pe call j) ≡ same → (stripe == marked.piece.place.stripe) ≡ b →
        has_name n (if stripe == marked.piece.place.stripe then change (names_at old stripe) else names_at old stripe)
        ≡ (if is_told context pe (is_piece call j) stripe n then may_come_of context n.call n.piece else has_name n (names_at old stripe))
    by_name stripe n true b e f =
        let is_name : n ≡ name pe call j = same_name-true n (name pe call j) e in
        subst (λ m. has_name m (if stripe == marked.piece.place.stripe then change (names_at old stripe) else names_at old stripe)
        ≡ (if is_told context pe (is_piece call j) stripe m then may_come_of context m.call m.piece else has_name m (names_at old stripe))) (sym is_name) (this_is stripe b f)
    by_name stripe n false b e f =
        let told : is_told context pe (is_piece call j) stripe n ≡ false = other_told context pe call j stripe n e in
        other_is stripe n b f e ∙ ap (λ t. if t then may_come_of context n.call n.piece else has_name n (names_at old stripe)) (sym told)

same_self : (pe call j : ℕ) → same_name (name pe call j) (name pe call j) ≡ true
unfolding same_name
same_self pe call j = rw (named pe pe refl, named call call refl, named j j refl) refl

-- a piece that may come is put in
pub tells_with : (context : Context) (pe call j : ℕ) (marked : MarkedPiece) (old : List (List PieceName)) → IsPieceAt context call j marked → may_come_of context call j ≡ true →
    Tells context pe (is_piece call j) old (change_place marked.piece.place.stripe (with_name (name pe call j)) old)
tells_with context pe call j marked old is may =
    tells_change context pe call j marked old (with_name (name pe call j)) is (IsSorted-with_name (name pe call j))
    (λ names. has_name-with_name (name pe call j) (name pe call j) names ∙ ap (λ b. b || has_name (name pe call j) names) (same_self pe call j) ∙ sym may)
    (λ n names other. has_name-with_name n (name pe call j) names ∙ ap (λ b. b || has_name n names) other)

-- one that may not is taken out
pub tells_without : (context : Context) (pe call j : ℕ) (marked : MarkedPiece) (old : List (List PieceName)) → IsPieceAt context call j marked → may_come_of context call j ≡ false →
    Tells context pe (is_piece call j) old (change_place marked.piece.place.stripe (without_name (name pe call j)) old)
tells_without context pe call j marked old is may =
    tells_change context pe call j marked old (without_name (name pe call j)) is (IsSorted-without_name (name pe call j))
    (λ names. has_name-without_name (name pe call j) (name pe call j) names ∙ ap (λ b. not b && has_name (name pe call j) names) (same_self pe call j) ∙ sym may)
    (λ n names other. has_name-without_name n (name pe call j) names ∙ ap (λ b. not b && has_name n names) other)

-- the same where there is memory
pub tells_if_with : (context : Context) (pe call j : ℕ) (marked : MarkedPiece) (old new : List (List PieceName)) (result : Result (Unit {0}) NoMemory) → IsPieceAt context call j marked →
    may_come_of context call j ≡ true → OnOk result (new ≡ change_place marked.piece.place.stripe (with_name (name pe call j)) old) →
    OnOk result (Tells context pe (is_piece call j) old new)
tells_if_with context pe call j marked old new (Ok done) is may same =
    subst (Tells context pe (is_piece call j) old) (sym same) (tells_with context pe call j marked old is may)
tells_if_with context pe call j marked old new (Err error) is may same = tt

pub tells_if_without : (context : Context) (pe call j : ℕ) (marked : MarkedPiece) (old new : List (List PieceName)) → IsPieceAt context call j marked →
    may_come_of context call j ≡ false → new ≡ change_place marked.piece.place.stripe (without_name (name pe call j)) old → Tells context pe (is_piece call j) old new
tells_if_without context pe call j marked old new is may same =
    subst (Tells context pe (is_piece call j) old) (sym same) (tells_without context pe call j marked old is may)

-- a piece of no stripe is left out
pub tells_past : (context : Context) (pe call j : ℕ) (marked : MarkedPiece) (old : List (List PieceName)) → IsPieceAt context call j marked → length old ≤ marked.piece.place.stripe →
    Tells context pe (is_piece call j) old old
tells_past context pe call j marked old is past =
    tells_nothing context pe (is_piece call j) old (λ stripe u i low. none stripe u i low (u == call) (i == j) refl refl)
  where
    none : (stripe u i : ℕ) → stripe < length old → (a b : Bool) → (u == call) ≡ a → (i == j) ≡ b → (is_piece call j u i && lies_in context stripe u i) ≡ false
    none stripe u i low false b e f = rw e refl
    none stripe u i low true false e f = rw (e, f) refl
    none stripe u i low true true e f =
        let apart : (marked.piece.place.stripe == stripe) ≡ false = grind arith in
        let lies : lies_in context stripe call j ≡ false = lies_is context call j stripe marked is ∙ apart in
        let here : lies_in context stripe u i ≡ false = (λ k. lies_in context stripe (eqb-true u call e k) (eqb-true i j f k)) ∙ lies in
        rw (e, f) here

-- and so is one that is not there
pub tells_none : (context : Context) (pe call j : ℕ) (operation : Operation) (old : List (List PieceName)) → operation_of context call ≡ Some operation → slice_get operation.pieces j ≡ None →
    Tells context pe (is_piece call j) old old
tells_none context pe call j operation old there no_piece =
    tells_nothing context pe (is_piece call j) old (λ stripe u i low. none stripe u i (u == call) (i == j) refl refl)
  where
    none : (stripe u i : ℕ) → (a b : Bool) → (u == call) ≡ a → (i == j) ≡ b → (is_piece call j u i && lies_in context stripe u i) ≡ false
    none stripe u i false b e f = rw e refl
    none stripe u i true false e f = rw (e, f) refl
    none stripe u i true true e f =
        let lies : lies_in context stripe call j ≡ false =
        ap (λ o. is_some_and o (λ operation. lies_on stripe operation j)) there ∙ ap (λ o. is_some_and o (λ m. m.piece.place.stripe == stripe)) no_piece in
        let here : lies_in context stripe u i ≡ false = (λ k. lies_in context stripe (eqb-true u call e k) (eqb-true i j f k)) ∙ lies in
        rw (e, f) here
