-- What loops over pieces and operations have told.
use Rattle.std.proofs.Common.{◌≡◌, ℕ, ◌+◌, ◌<◌, ◌≤◌, Bool, true, false, List, refl, sym, ap, ◌∙◌, arith, subst, length, inl, inr}
use Rattle.std.specs.Prelude.{◌==◌, ◌&&◌, ◌||◌, ◌⊎◌, nat_lt, nat_le, Option, Some, None, slice_get}
use Rattle.std.proofs.lemmas.Bool.{eqb-true, cases_lt}
use Rattle.std.proofs.lemmas.Bool.Decides.{nat_tests}
use Rattle.std.proofs.lemmas.Option.{slice_get_past}
use Rattle.fam_model.specs.declared.piece.Operation.{Operation}
use Rattle.fam_model.specs.declared.state.Context.{Context}
use Rattle.fam_model.specs.Lists.{is_some_and}
use Rattle.fam_model.specs.Programs.{operation_of}
use Rattle.fam_schedule.specs.Schedule.{PieceName}
use Rattle.fam_ready.specs.Telling.{Tells, is_below, is_call, is_either, is_piece, lies_in, lies_on}
use Rattle.fam_ready.proofs.Answering.{tells_as, tells_both, tells_nothing}

-- pieces

pub below_none : (context : Context) (pe call : ℕ) (lists : List (List PieceName)) → Tells context pe (is_below call 0) lists lists
below_none context pe call lists = tells_nothing context pe (is_below call 0) lists (λ stripe u i low. none (u == call) (nat_lt i 0) (lies_in context stripe u i) (not_less i))
  where
    none : (a b l : Bool) → b ≡ false → ((a && b) && l) ≡ false
    none true b l e = rw e refl
    none false b l e = refl

    not_less : (i : ℕ) → nat_lt i 0 ≡ false
    not_less i = grind (arith, nat_tests)

pub below_more : (context : Context) (pe call j : ℕ) (old mid new : List (List PieceName)) → Tells context pe (is_below call j) old mid → Tells context pe (is_piece call j) mid new →
    Tells context pe (is_below call (j + 1)) old new
below_more context pe call j old mid new f g =
    tells_as context pe (is_either (is_below call j) (is_piece call j)) (is_below call (j + 1)) old new
    (λ stripe u i. ap (λ b. b && lies_in context stripe u i) (one_more (u == call) (nat_lt i j) (i == j) (nat_lt i (j + 1)) (up i)))
    (tells_both context pe (is_below call j) (is_piece call j) old mid new f g)
  where
    up : (i : ℕ) → (nat_lt i j || i == j) ≡ nat_lt i (j + 1)
    up i = grind (arith, nat_tests)

    one_more : (a b c d : Bool) → (b || c) ≡ d → ((a && b) || (a && c)) ≡ (a && d)
    one_more true b c d e = e
    one_more false b c d e = refl

pub below_all : (context : Context) (pe call n : ℕ) (operation : Operation) (old new : List (List PieceName)) → operation_of context call ≡ Some operation → length operation.pieces ≤ n →
    Tells context pe (is_below call n) old new → Tells context pe (is_call call) old new
below_all context pe call n operation old new there long t =
    tells_as context pe (is_below call n) (is_call call) old new (λ stripe u i. same stripe u i (u == call) refl (cases_lt i n)) t
  where
    low : (i : ℕ) → i < n → nat_lt i n ≡ true
    low i h = grind (arith, nat_tests)

    past : (stripe i : ℕ) → n ≤ i → lies_in context stripe call i ≡ false
    past stripe i high =
        ap (λ o. is_some_and o (λ operation. lies_on stripe operation i)) there
        ∙ ap (λ o. is_some_and o (λ m. m.piece.place.stripe == stripe)) (slice_get_past operation.pieces i (omega arith))

    same : (stripe u i : ℕ) (a : Bool) → (u == call) ≡ a → (i < n) ⊎ (n ≤ i) → (is_below call n u i && lies_in context stripe u i) ≡ (is_call call u i && lies_in context stripe u i)
    same stripe u i false e c = rw e refl
    same stripe u i true e (inl h) = rw (e, low i h) refl
    same stripe u i true e (inr h) =
        let here : lies_in context stripe u i ≡ false = (λ k. lies_in context stripe (eqb-true u call e k) i) ∙ past stripe i h in
        (λ k. is_below call n u i && here k) ∙ and_none (is_below call n u i) ∙ sym ((λ k. is_call call u i && here k) ∙ and_none (is_call call u i))
      where
        and_none : (a : Bool) → (a && false) ≡ false
        and_none true = refl
        and_none false = refl
