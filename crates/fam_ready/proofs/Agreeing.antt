-- Lists that agree with a state: those of the pieces that may come.
use Rattle.std.proofs.Common.{◌≡◌, ℕ, ◌<◌, ◌≤◌, Bool, true, false, List, [], ◌∷◌, refl, sym, ap, ◌∙◌, arith, subst, inl, inr, length, get_or, map}
use Rattle.std.specs.Prelude.{◌==◌, ◌&&◌, ◌⊎◌, ◌≢◌, All, Option, Some, None, slice_get, slice_set, if◌then◌else◌}
use Rattle.std.specs.Option.{option_map, option_map_or}
use Rattle.std.proofs.lemmas.Bool.{eqb-true}
use Rattle.std.proofs.lemmas.List.{ext_get_or, length-map}
use Rattle.std.proofs.lemmas.List.Elements.{All-from_get_or}
use Rattle.std.proofs.lemmas.List.FromFn.{length-range_with_len}
use Rattle.std.proofs.lemmas.Option.{slice_get-get_or, get_or_from_slice_get, slice_get-map}
use Rattle.fam_context.specs.Effects.{may_come_of}
use Rattle.fam_model.specs.declared.state.Context.{Context}
use Rattle.fam_model.specs.declared.state.ProgramState.{ProgramState}
use Rattle.fam_model.specs.declared.state.State.{State}
use Rattle.fam_model.specs.Lists.{is_some_and, numbers_below}
use Rattle.fam_model.specs.Pieces.{stripe_count}
use Rattle.fam_model.specs.Programs.{program_of}
use Rattle.fam_program.proofs.Options.{all_get}
use Rattle.fam_schedule.specs.Schedule.{PieceName, ready_on}
use Rattle.fam_schedule.proofs.Changes.{set_at}
use Rattle.fam_schedule.proofs.Pending.{number_at}
use Rattle.fam_schedule.proofs.Places.{get_set_same, get_set_other}
use Rattle.ready_lists.specs.Lists.{AreSorted, IsSorted, has_name, names_at, may_come_on}
use Rattle.ready_lists.proofs.Ready.{ready_on_sorted, has_name-ready_on, is_ready_on}
use Rattle.fam_ready.specs.Ready.{AreReady, IsTidyProgram}
use Rattle.fam_ready.specs.Telling.{Tells, is_told, lies_in}
use Rattle.fam_ready.proofs.Coming.{second_true}
use Rattle.fam_ready.proofs.Programs.{context_tells}
use Rattle.fam_ready.proofs.Standing.{may_come_at}

-- there is a sorted list for each stripe, which has just the pieces that may come there
pub record Agrees (state : State) (lists : List (List PieceName)) : Type 0 where
  pub count : length lists ≡ stripe_count state.service
  pub sorted : AreSorted lists
  pub names : (stripe : ℕ) (name : PieceName) → stripe < length lists → has_name name (names_at lists stripe) ≡ may_come_on state stripe name

abbrev all_ready : State → ℕ → List (List PieceName)
all_ready state n = map (ready_on state) (numbers_below n)

ready_length : (state : State) (n : ℕ) → length (all_ready state n) ≡ n
ready_length state n = length-map (numbers_below n) (ready_on state) ∙ length-range_with_len 0 n

ready_at : (state : State) (n stripe : ℕ) → stripe < n → slice_get (all_ready state n) stripe ≡ Some (ready_on state stripe)
ready_at state n stripe low = slice_get-map (ready_on state) (numbers_below n) stripe ∙ ap (option_map (ready_on state)) (number_at n stripe low)

all_agree : (state : State) → Agrees state (all_ready state (stripe_count state.service))
all_agree state =
    let n = stripe_count state.service in
    record {
      count = ready_length state n;
      sorted = All-from_get_or IsSorted (all_ready state n) [] (λ i low.
          let within : i < n = subst (λ k. i < k) (ready_length state n) low in
          subst IsSorted (sym (get_or_from_slice_get (all_ready state n) i (ready_on state i) [] (ready_at state n i within))) (ready_on_sorted state i));
      names = λ stripe name low.
          let within : stripe < n = subst (λ k. stripe < k) (ready_length state n) low in
          ap (λ o. has_name name (option_map_or (λ names. names) o [])) (ready_at state n stripe within) ∙ has_name-ready_on state stripe name;
    }

pub ready_agree : (state : State) (lists : List (List PieceName)) → AreReady state lists → Agrees state lists
ready_agree state lists same = subst (Agrees state) (sym same) (all_agree state)

pub agree_ready : (state : State) (lists : List (List PieceName)) → Agrees state lists → AreReady state lists
agree_ready state lists a =
    let n = stripe_count state.service in
    ext_get_or [] lists (all_ready state n) (a.count ∙ sym (ready_length state n))
    (λ i low.
    let within : i < n = subst (λ k. i < k) a.count low in
    let there : slice_get lists i ≡ Some (get_or lists i []) = slice_get-get_or lists i [] low in
    let is_names : names_at lists i ≡ get_or lists i [] = ap (λ o. option_map_or (λ names. names) o []) there in
    let same : get_or lists i [] ≡ ready_on state i =
    is_ready_on state i (get_or lists i []) (all_get IsSorted lists i (get_or lists i []) a.sorted there)
    (λ name. ap (has_name name) (sym is_names) ∙ a.names i name low) in
    same ∙ sym (get_or_from_slice_get (all_ready state n) i (ready_on state i) [] (ready_at state n i within)))

-- a program changed

get_set_apart : {A : Type 0} (xs : List A) (c d : ℕ) (x y : A) → slice_get xs c ≡ Some x → (d == c) ≡ false → slice_get (slice_set xs c y) d ≡ slice_get xs d
get_set_apart xs c d x y there apart = by_old (slice_get xs d) refl
  where
    by_new : (o : Option _) → slice_get xs d ≡ None → slice_get (slice_set xs c y) d ≡ o → slice_get (slice_set xs c y) d ≡ None
    by_new None none at = at
    by_new (Some z) none at = absurd (no (set_at false xs c d x y z apart there at))
      where
        no : ((d ≡ c) × (z ≡ y)) ⊎ (slice_get xs d ≡ Some z) → ⊥
        no (inl (place, is)) = let yes : (d == c) ≡ true = grind arith in let bad : true ≡ false = sym yes ∙ apart in cc
        no (inr old) = let bad : None ≡ Some z = sym none ∙ old in cc

    by_old : (o : Option _) → slice_get xs d ≡ o → slice_get (slice_set xs c y) d ≡ slice_get xs d
    by_old None at = by_new (slice_get (slice_set xs c y) d) at refl ∙ sym at
    by_old (Some z) at = get_set_other xs c d z y at (grind arith) ∙ sym at

-- the state in which one program has changed
pub record ChangesProgram (state next : State) (pe : ℕ) (p q : ProgramState) : Type 0 where
  pub there : program_of state pe ≡ Some p
  pub programs : next.programs ≡ slice_set state.programs pe q
  pub service : next.service ≡ state.service

other_program : (state next : State) (pe : ℕ) (p q : ProgramState) (stripe : ℕ) (name : PieceName) → ChangesProgram state next pe p q → (name.pe == pe) ≡ false →
    may_come_on state stripe name ≡ may_come_on next stripe name
other_program state next pe p q stripe name c apart =
    ap (λ o. is_some_and o (λ r. may_come_at r stripe name.call name.piece))
    (sym (ap (λ ps. slice_get ps name.pe) c.programs ∙ get_set_apart state.programs pe name.pe p q c.there apart))

this_before : (state next : State) (pe : ℕ) (p q : ProgramState) (stripe : ℕ) (name : PieceName) → ChangesProgram state next pe p q → (name.pe == pe) ≡ true →
    may_come_on state stripe name ≡ may_come_at p stripe name.call name.piece
this_before state next pe p q stripe name c same =
    ap (λ o. is_some_and o (λ r. may_come_at r stripe name.call name.piece)) (ap (program_of state) (eqb-true name.pe pe same) ∙ c.there)

this_after : (state next : State) (pe : ℕ) (p q : ProgramState) (stripe : ℕ) (name : PieceName) → ChangesProgram state next pe p q → (name.pe == pe) ≡ true →
    may_come_on next stripe name ≡ may_come_at q stripe name.call name.piece
this_after state next pe p q stripe name c same =
    ap (λ o. is_some_and o (λ r. may_come_at r stripe name.call name.piece))
    (ap (program_of next) (eqb-true name.pe pe same) ∙ ap (λ ps. slice_get ps pe) c.programs ∙ get_set_same state.programs pe p q c.there)

-- nothing was asked for
pub agree_same : (state next : State) (pe : ℕ) (p q : ProgramState) (lists : List (List PieceName)) → ChangesProgram state next pe p q →
    ((stripe u i : ℕ) → may_come_at p stripe u i ≡ may_come_at q stripe u i) → Agrees state lists → Agrees next lists
agree_same state next pe p q lists c same a =
    record {
      count = a.count ∙ ap stripe_count (sym c.service);
      sorted = a.sorted;
      names = λ stripe name low. a.names stripe name low ∙ by_program stripe name (name.pe == pe) refl;
    }
  where
    by_program : (stripe : ℕ) (name : PieceName) (b : Bool) → (name.pe == pe) ≡ b → may_come_on state stripe name ≡ may_come_on next stripe name
    by_program stripe name false e = other_program state next pe p q stripe name c e
    by_program stripe name true e =
        this_before state next pe p q stripe name c e ∙ same stripe name.call name.piece ∙ sym (this_after state next pe p q stripe name c e)

-- pieces of one context were asked for
pub agree_told : (state next : State) (pe : ℕ) (p q : ProgramState) (place : ℕ) (y : Context) (asked : ℕ → ℕ → Bool) (lists new : List (List PieceName)) →
    ChangesProgram state next pe p q → IsTidyProgram q → slice_get q.contexts place ≡ Some y → Tells y pe asked lists new →
    ((stripe u i : ℕ) → (asked u i && lies_in y stripe u i) ≡ false → may_come_at p stripe u i ≡ may_come_at q stripe u i) → Agrees state lists → Agrees next new
agree_told state next pe p q place y asked lists new c tidy there t others a =
    record {
      count = t.stripes ∙ a.count ∙ ap stripe_count (sym c.service);
      sorted = t.sorted a.sorted;
      names = λ stripe name low.
          let within : stripe < length lists = subst (λ k. stripe < k) t.stripes low in
          t.names stripe name within
          ∙ by_tests stripe name within (name.pe == pe) (asked name.call name.piece && lies_in y stripe name.call name.piece) refl refl;
    }
  where
    by_tests : (stripe : ℕ) (name : PieceName) → stripe < length lists → (same told : Bool) → (name.pe == pe) ≡ same →
        (asked name.call name.piece && lies_in y stripe name.call name.piece) ≡ told →
        (if is_told y pe asked stripe name then may_come_of y name.call name.piece else has_name name (names_at lists stripe)) ≡ may_come_on next stripe name
    by_tests stripe name low false told e f =
        ap (λ b. if b && (asked name.call name.piece && lies_in y stripe name.call name.piece) then may_come_of y name.call name.piece else has_name name (names_at lists stripe)) e
        ∙ a.names stripe name low ∙ other_program state next pe p q stripe name c e
    by_tests stripe name low true true e f =
        let lies : lies_in y stripe name.call name.piece ≡ true = second_true (asked name.call name.piece) (lies_in y stripe name.call name.piece) f in
        (λ k. if e k && f k then may_come_of y name.call name.piece else has_name name (names_at lists stripe))
        ∙ context_tells q place y stripe name.call name.piece tidy there lies
        ∙ sym (this_after state next pe p q stripe name c e)
    by_tests stripe name low true false e f =
        (λ k. if e k && f k then may_come_of y name.call name.piece else has_name name (names_at lists stripe))
        ∙ a.names stripe name low
        ∙ this_before state next pe p q stripe name c e
        ∙ others stripe name.call name.piece f
        ∙ sym (this_after state next pe p q stripe name c e)
