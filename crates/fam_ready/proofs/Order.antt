-- Operations in order of call and of epoch.
use Rattle.std.proofs.Common.{◌≡◌, ℕ, ◌+◌, ◌<◌, ◌≤◌, ◌^◌, Bool, true, false, List, refl, sym, ap, ◌∙◌, arith, subst, length, inl, inr, get_or, map}
use Rattle.std.specs.Prelude.{◌==◌, ◌&&◌, ◌||◌, ◌⊎◌, not, nat_le, nat_lt, All, Option, Some, None, slice_get}
use Rattle.std.specs.Option.{option_map}
use Rattle.std.proofs.lemmas.Bool.{eqb-true, cases_lt}
use Rattle.std.proofs.lemmas.Bool.Decides.{nat_tests}
use Rattle.std.proofs.lemmas.List.{length-map}
use Rattle.std.proofs.lemmas.Option.{slice_get_within, get_or_from_slice_get, slice_get-map, slice_get_read}
use Rattle.fam_context.specs.declared.tracked.Tracked.{Tracked}
use Rattle.fam_context.specs.Order.{IsFrame, IsOrdered, Frame, are_in_turn, frame_of, reads_of}
use Rattle.fam_context.proofs.Places.{place_number}
use Rattle.fam_context.proofs.Reached.{epochs_rise}
use Rattle.fam_context.proofs.Searches.{calls_rise}
use Rattle.fam_model.specs.declared.piece.MarkedPiece.{MarkedPiece}
use Rattle.fam_model.specs.declared.piece.Operation.{Operation}
use Rattle.fam_model.specs.declared.state.Context.{Context}
use Rattle.fam_model.specs.Lists.{is_some_and, place_of}
use Rattle.fam_model.specs.Operations.{is_copy}
use Rattle.fam_model.specs.PieceStep.{is_read}
use Rattle.fam_model.specs.Programs.{call_number, operation_of}
use Rattle.fam_program.proofs.Options.{all_get}
use Rattle.fam_schedule.specs.Schedule.{PieceName}
use Rattle.fam_schedule.proofs.Finding.{position_is}
use Rattle.fam_ready.proofs.Coming.{named}
use Rattle.fam_ready.specs.Telling.{Tells, is_between, is_call, is_either, lies_in}
use Rattle.fam_ready.proofs.Answering.{tells_as, tells_both}

-- order

later_call : (t : Tracked) (a b : ℕ) (o p : Operation) → IsOrdered t → slice_get t.context.operations a ≡ Some o → slice_get t.context.operations b ≡ Some p → a < b → o.call < p.call
later_call t a b o p ordered first second h =
    let os = t.context.operations in
    let up : (get_or os a o).call < (get_or os b o).call = calls_rise os ordered.order.pairs a b o h (slice_get_within os b p second) in
    let one : (get_or os a o).call ≡ o.call = ap (λ (q : Operation). q.call) (get_or_from_slice_get os a o o first) in
    let two : (get_or os b o).call ≡ p.call = ap (λ (q : Operation). q.call) (get_or_from_slice_get os b p o second) in
    omega arith

pub later_epoch : (t : Tracked) (a b : ℕ) (o p : Operation) → IsOrdered t → slice_get t.context.operations a ≡ Some o → slice_get t.context.operations b ≡ Some p → a ≤ b →
    o.epoch ≤ p.epoch
later_epoch t a b o p ordered first second h = by_place (cases_lt a b)
  where
    by_place : (a < b) ⊎ (b ≤ a) → o.epoch ≤ p.epoch
    by_place (inl less) =
        let os = t.context.operations in
        let up : (get_or os a o).epoch ≤ (get_or os b o).epoch = epochs_rise os ordered.order.pairs a b o less (slice_get_within os b p second) in
        let one : (get_or os a o).epoch ≡ o.epoch = ap (λ (q : Operation). q.epoch) (get_or_from_slice_get os a o o first) in
        let two : (get_or os b o).epoch ≡ p.epoch = ap (λ (q : Operation). q.epoch) (get_or_from_slice_get os b p o second) in
        omega arith
    by_place (inr more) =
        let place : a ≡ b = omega arith in
        let same : Some o ≡ Some p = sym first ∙ ap (slice_get t.context.operations) place ∙ second in
        let epoch : o.epoch ≡ p.epoch = same_epoch o p same in
        omega arith
      where
        same_epoch : (o p : Operation) → Some o ≡ Some p → o.epoch ≡ p.epoch
        same_epoch o p e = cc

-- an operation is found by its call
pub place_ordered : (t : Tracked) (k : ℕ) (o : Operation) → IsOrdered t → slice_get t.context.operations k ≡ Some o → place_of call_number o.call t.context.operations ≡ Some k
place_ordered t k o ordered there =
    position_is (λ p. call_number p == o.call) t.context.operations k o there (named o.call o.call refl)
    (λ i p p_there same. by_place i p p_there (eqb-true p.call o.call same) (cases_lt i k) (cases_lt k i))
  where
    by_place : (i : ℕ) (p : Operation) → slice_get t.context.operations i ≡ Some p → p.call ≡ o.call → (i < k) ⊎ (k ≤ i) → (k < i) ⊎ (i ≤ k) → i ≡ k
    by_place i p p_there same (inl less) right = let up : p.call < o.call = later_call t i k p o ordered p_there there less in let bad : ⊥ = omega arith in absurd bad
    by_place i p p_there same (inr high) (inl more) = let up : o.call < p.call = later_call t k i o p ordered there p_there more in let bad : ⊥ = omega arith in absurd bad
    by_place i p p_there same (inr high) (inr low) = omega arith

pub operation_ordered : (t : Tracked) (k : ℕ) (o : Operation) → IsOrdered t → slice_get t.context.operations k ≡ Some o → operation_of t.context o.call ≡ Some o
operation_ordered t k o ordered there = let place = place_ordered t k o ordered there in rw place there

frame_at : (t : Tracked) (k : ℕ) (o : Operation) → IsOrdered t → slice_get t.context.operations k ≡ Some o → IsFrame (frame_of o)
frame_at t k o ordered there =
    all_get IsFrame (map frame_of t.context.operations) k (frame_of o) ordered.order.each
    (slice_get-map frame_of t.context.operations k ∙ ap (option_map frame_of) there)

-- the numbers of its pieces have 32 bits
pub few_pieces : (t : Tracked) (k : ℕ) (o : Operation) → IsOrdered t → slice_get t.context.operations k ≡ Some o → length o.pieces < 2 ^ 32
few_pieces t k o ordered there =
    subst (λ n. n < 2 ^ 32) (length-map o.pieces (λ (p : MarkedPiece). is_read p.piece.kind)) (frame_at t k o ordered there).numbers

-- a copy reads and writes in turn
pub copy_turns : (t : Tracked) (k : ℕ) (o : Operation) → IsOrdered t → slice_get t.context.operations k ≡ Some o → is_copy o.kind ≡ true → are_in_turn (reads_of o.pieces) ≡ true
copy_turns t k o ordered there copy = or_right (is_copy o.kind) (are_in_turn (reads_of o.pieces)) copy (frame_at t k o ordered there).turns
  where
    or_right : (a b : Bool) → a ≡ true → (not a || b) ≡ true → b ≡ true
    or_right true b e h = h
    or_right false b e h = cc

-- operations between places

within_more : (from place k : ℕ) → (k == place) ≡ false → (nat_le from k && nat_lt k place) ≡ (nat_le from k && nat_lt k (place + 1))
within_more from place k apart = ap (λ b. nat_le from k && b) (less k place apart)
  where
    less : (k place : ℕ) → (k == place) ≡ false → nat_lt k place ≡ nat_lt k (place + 1)
    less k place apart = grind (arith, nat_tests)

within_last : (from place : ℕ) → from ≤ place → (nat_le from place && nat_lt place (place + 1)) ≡ true
within_last from place h = grind (arith, nat_tests)

pub between_more : (t : Tracked) (pe from place : ℕ) (o : Operation) (old mid new : List (List PieceName)) → IsOrdered t → slice_get t.context.operations place ≡ Some o → from ≤ place →
    Tells t.context pe (is_between t.context from place) old mid → Tells t.context pe (is_call o.call) mid new → Tells t.context pe (is_between t.context from (place + 1)) old new
between_more t pe from place o old mid new ordered there h f g =
    tells_as t.context pe (is_either (is_between t.context from place) (is_call o.call)) (is_between t.context from (place + 1)) old new
    (λ stripe u i. ap (λ b. b && lies_in t.context stripe u i) (by_call u i (u == o.call) refl))
    (tells_both t.context pe (is_between t.context from place) (is_call o.call) old mid new f g)
  where
    test : ℕ → ℕ → ℕ → Bool
    test from to k = nat_le from k && nat_lt k to

    or_true : (a : Bool) → (a || true) ≡ true
    or_true true = refl
    or_true false = refl

    or_false : (a : Bool) → (a || false) ≡ a
    or_false true = refl
    or_false false = refl

    other : (u : ℕ) (q : Option ℕ) → place_of call_number u t.context.operations ≡ q → (u == o.call) ≡ false →
        is_some_and q (λ k. nat_le from k && nat_lt k place) ≡ is_some_and q (λ k. nat_le from k && nat_lt k (place + 1))
    other u None e apart = refl
    other u (Some k) e apart = within_more from place k (not_here (k == place) refl)
      where
        not_here : (b : Bool) → (k == place) ≡ b → (k == place) ≡ false
        not_here false f = f
        not_here true f =
            let here : slice_get t.context.operations k ≡ Some o = ap (slice_get t.context.operations) (eqb-true k place f) ∙ there in
            let call : o.call ≡ u = place_number call_number u t.context.operations k o e here in
            let yes : (u == o.call) ≡ true = named u o.call (sym call) in
            let bad : true ≡ false = sym yes ∙ apart in cc

    by_call : (u i : ℕ) (b : Bool) → (u == o.call) ≡ b → (is_between t.context from place u i || u == o.call) ≡ is_between t.context from (place + 1) u i
    by_call u i true e =
        let here : place_of call_number u t.context.operations ≡ Some place = subst (λ n. place_of call_number n t.context.operations ≡ Some place) (sym (eqb-true u o.call e)) (place_ordered t place o ordered there) in
        let yes : is_between t.context from (place + 1) u i ≡ true = ap (λ q. is_some_and q (λ k. nat_le from k && nat_lt k (place + 1))) here ∙ within_last from place h in
        ap (λ b. is_between t.context from place u i || b) e ∙ or_true (is_between t.context from place u i) ∙ sym yes
    by_call u i false e =
        ap (λ b. is_between t.context from place u i || b) e ∙ or_false (is_between t.context from place u i)
        ∙ other u (place_of call_number u t.context.operations) refl e

-- an operation that was read at a place stands there
pub read_there : (xs ys : List Operation) (k n : ℕ) (x : Operation) → xs ≡ ys → x ≡ get_or xs k x → k < n → n ≤ length ys → slice_get ys k ≡ Some x
read_there xs ys k n x same read low within =
    let here : x ≡ get_or ys k x = read ∙ ap (λ (zs : List Operation). get_or zs k x) same in
    slice_get_read ys (length ys) k x refl (omega arith) here

-- the last of the operations was reached
pub between_all : (context : Context) (pe from to place : ℕ) (old new : List (List PieceName)) → from ≤ to → (from ≤ to → place ≤ to) → to ≤ place →
    Tells context pe (is_between context from place) old new → Tells context pe (is_between context from to) old new
between_all context pe from to place old new h low high t =
    let most : place ≤ to = low h in
    let last : place ≡ to = omega arith in
    subst (λ k. Tells context pe (is_between context from k) old new) last t
