-- The place before which all results were told.
use Rattle.std.proofs.Common.{◌≡◌, ℕ, zero, Bool, true, false, ◌&&◌, not, List, [], ◌∷◌, ◌++◌, map, length, take, drop, filter, suc, refl, ap, sym, subst, ◌∙◌, arith}
use Rattle.std.specs.Prelude.{slice_get, slice_set, Some, None, if◌then◌else◌}
use Rattle.std.specs.List.{list_all, AllZip}
use Rattle.std.specs.Option.{option_map_or}
use Rattle.std.proofs.lemmas.Bool.{false≢true}
use Rattle.std.proofs.lemmas.List.{length-set, length-append, length-map, take-append-le, take-append-drop}
use Rattle.fam_model.specs.declared.piece.Operation.{Operation}
use Rattle.fam_model.specs.declared.piece.PlanPiece.{PlanPiece}
use Rattle.fam_model.specs.declared.reply.PieceAnswer.{PieceAnswer}
use Rattle.fam_model.specs.declared.reply.PieceAnswer.TheVariants as answer
use Rattle.fam_model.specs.Operations.{as_reported, is_unreported}
use Rattle.fam_model.specs.PieceStep.{with_answer, without_piece, is_copy_read}
use Rattle.fam_context.specs.declared.side.Side.{Side}
use Rattle.fam_context.specs.Counting.{share_of, total, stages_of}
use Rattle.fam_context.specs.Effects.{answered_with, with_collected, with_lost}
use Rattle.fam_context.specs.Results.{results_of, result_of}
use Rattle.fam_context.specs.Sides.{IsSideOf, AreTold, told_side}
use Rattle.fam_context.proofs.Kept.{sum_none}

both_of : (a b : Bool) → (a && b) ≡ true → (a ≡ true) × (b ≡ true)
both_of true true e = (refl, refl)
both_of true false e = absurd (false≢true e)
both_of false b e = absurd (false≢true e)

abbrev all_told : ℕ → List Operation → Bool
all_told told operations = list_all (λ o. o.reported) (take told operations)

-- one operation of many is another

set_told : (told k : ℕ) (operations : List Operation) (operation next : Operation) → slice_get operations k ≡ Some operation →
    (operation.reported ≡ true → next.reported ≡ true) → all_told told operations ≡ true → all_told told (slice_set operations k next) ≡ true
set_told zero k operations operation next e h t = refl
set_told (suc told) k [] operation next e h t = t
set_told (suc told) zero (o ∷ operations) operation next e h t =
    let same : o ≡ operation = cc in
    let parts = both_of o.reported (all_told told operations) t in
    let now : next.reported ≡ true = h (ap (λ (x : Operation). x.reported) (sym same) ∙ parts.0) in
    λ i. now i && parts.1 i
set_told (suc told) (suc k) (o ∷ operations) operation next e h t =
    let parts = both_of o.reported (all_told told operations) t in
    let rest = set_told told k operations operation next e h parts.1 in
    λ i. parts.0 i && rest i

-- what was told stays told as one operation is another
pub told_set : (operations : List Operation) (told k : ℕ) (operation next : Operation) → AreTold operations told →
    slice_get operations k ≡ Some operation → (operation.reported ≡ true → next.reported ≡ true) → AreTold (slice_set operations k next) told
told_set operations told k operation next were e h =
    record {
      within = let same = length-set operations k next in let inside = were.within in omega (arith, same, inside);
      before = set_told told k operations operation next e h were.before;
    }

-- and with one operation more
pub told_more : (operations later : List Operation) (told : ℕ) (operation : Operation) → AreTold operations told → later ≡ operations ++ operation ∷ [] →
    AreTold later told
told_more operations later told operation were e =
    let more : AreTold (operations ++ operation ∷ []) told = record {
      within = let size = length-append operations (operation ∷ []) in let inside = were.within in omega (arith, size, inside);
      before = ap (list_all (λ (o : Operation). o.reported)) (take-append-le told operations (operation ∷ []) were.within) ∙ were.before;
    } in
    subst (λ os. AreTold os told) (sym e) more

either_reported : (b r : Bool) (x y : Operation) → x.reported ≡ r → y.reported ≡ r → (if b then x else y).reported ≡ r
either_reported true r x y p q = p
either_reported false r x y p q = q

reported_answered : (operation : Operation) (j : ℕ) (piece : PlanPiece) (given : PieceAnswer) → (answered_with operation j piece given).reported ≡ operation.reported
reported_answered operation j piece answer.Ok = refl
reported_answered operation j piece (answer.Data bytes) =
    either_reported (is_copy_read operation piece) operation.reported (with_answer operation j piece answer.Ok bytes)
    (with_answer operation j piece (answer.Data bytes) bytes) refl refl
reported_answered operation j piece (answer.Refused error) = refl

-- an answer of a piece tells no result
pub reported_collected : (operation : Operation) (j : ℕ) (given : PieceAnswer) → (with_collected operation j given).reported ≡ operation.reported
reported_collected operation j given =
    elim (slice_get operation.pieces j) as (λ o. (option_map_or (λ p. answered_with operation j p.piece given) o operation).reported ≡ operation.reported) [
      | None ↦ refl
      | Some p ↦ reported_answered operation j p.piece given
    ]

-- nor does the loss of one
pub reported_lost : (operation : Operation) (j : ℕ) → (with_lost operation j).reported ≡ operation.reported
reported_lost operation j =
    elim (slice_get operation.pieces j) as (λ o. (option_map_or (λ p. without_piece operation j p.piece) o operation).reported ≡ operation.reported) [
      | None ↦ refl
      | Some p ↦ refl
    ]

-- all were told

every_told : (operations : List Operation) → all_told (length operations) (map as_reported operations) ≡ true
every_told [] = refl
every_told (o ∷ operations) = every_told operations

pub told_all : (operations later : List Operation) (told : ℕ) → later ≡ map as_reported operations → told ≡ length later → AreTold later told
told_all operations later told e n =
    let size : length later ≡ length operations = ap (length {A = Operation}) e ∙ length-map operations as_reported in
    record {
      within = omega (arith, n);
      before = (λ i. all_told ((n ∙ size) i) (e i)) ∙ every_told operations;
    }

itself : (o : Operation) → o.reported ≡ true → o ≡ as_reported o
itself o e = λ i. record o { reported = e i }

told_already : (told : ℕ) (operations : List Operation) → all_told told operations ≡ true → take told operations ≡ map as_reported (take told operations)
told_already zero operations t = refl
told_already (suc told) [] t = refl
told_already (suc told) (o ∷ operations) t =
    let parts = both_of o.reported (all_told told operations) t in
    let here = itself o parts.0 in
    let rest = told_already told operations parts.1 in
    λ i. here i ∷ rest i

-- marking goes on from there
pub begin_marking : (operations : List Operation) (told : ℕ) → AreTold operations told → operations ≡ map as_reported (take told operations) ++ drop told operations
begin_marking operations told were =
    sym (take-append-drop told operations) ∙ ap (λ os. os ++ drop told operations) (told_already told operations were.before)

-- reports

passed : (b r : Bool) → r ≡ true → (not b && not r) ≡ false
passed true r e = refl
passed false r e = ap not e

unless_told : (o : Operation) (rest : List Operation) → o.reported ≡ true → results_of (o ∷ rest) ≡ results_of rest
unless_told o rest e =
    ap (λ b. map result_of (if b then o ∷ filter is_unreported rest else filter is_unreported rest)) (passed o.blocking o.reported e)

-- a report tells nothing of what was told
pub results_from : (told : ℕ) (operations : List Operation) → all_told told operations ≡ true → results_of (drop told operations) ≡ results_of operations
results_from zero operations t = refl
results_from (suc told) [] t = refl
results_from (suc told) (o ∷ operations) t =
    let parts = both_of o.reported (all_told told operations) t in
    results_from told operations parts.1 ∙ sym (unless_told o operations parts.0)

-- what is kept beside operations that were told

side_itself : (operation : Operation) (side : Side) → IsSideOf operation side → operation.reported ≡ true → side ≡ told_side side
side_itself operation side kept e =
    let none : side.counts.done ≡ 0 =
    ap (λ c. c.done) kept.counted
    ∙ (ap (λ r. (total (share_of r) (stages_of operation side.flags)).done) e ∙ sum_none (stages_of operation side.flags))
    in
    λ i. record side { counts = record side.counts { done = none i } }

pub sides_told : (told : ℕ) (operations : List Operation) (sides : List Side) → AllZip IsSideOf operations sides → all_told told operations ≡ true →
    take told sides ≡ map told_side (take told sides)
sides_told zero operations sides all t = refl
sides_told (suc told) [] [] all t = refl
sides_told (suc told) [] (s ∷ sides) all t = absurd all
sides_told (suc told) (o ∷ operations) [] all t = absurd all
sides_told (suc told) (o ∷ operations) (s ∷ sides) all t =
    let parts = both_of o.reported (all_told told operations) t in
    let here = side_itself o s all.0 parts.0 in
    let rest = sides_told told operations sides all.1 parts.1 in
    λ i. here i ∷ rest i
