-- Results told by comparing.
use Rattle.std.specs.Prelude.{ℕ, Bool, List, [], ◌∷◌, map, filter, slice_get, Option, Some, None, nat_eq, if◌then◌else◌}
use Rattle.std.specs.Cmp.Lexicographic.{pointwise}
use Rattle.fam_base.specs.declared.error.FamError.{FamError}
use Rattle.fam_model.specs.declared.piece.Operation.{Operation}
use Rattle.fam_model.specs.declared.reply.OpResult.{OpResult}
use Rattle.fam_model.specs.contracts.reply.OpResultPartialEq.TheImpl as results
use Rattle.fam_model.specs.Lists.{when}
use Rattle.fam_model.specs.Operations.{refusals_in, outcome, is_unreported}

-- two lists of bytes are the same
abbrev pub same_bytes : List ℕ → List ℕ → Bool
same_bytes a b = pointwise nat_eq a b

-- two results of operations are the same
abbrev pub same_result : OpResult → OpResult → Bool
same_result a b = results.ghosts.eq a b

-- two lists of results are the same
abbrev pub same_results : List OpResult → List OpResult → Bool
same_results a b = pointwise same_result a b

-- the error of the lowest refused piece
abbrev pub first_refusal : Operation → Option FamError
first_refusal operation = slice_get (refusals_in operation) 0

-- what a report says of an operation
abbrev pub result_of : Operation → OpResult
result_of operation = record { call = operation.call; answer = outcome operation }

-- what a report says of these operations
abbrev pub results_of : List Operation → List OpResult
results_of all = map result_of (filter is_unreported all)

-- the results where the first is this one
abbrev pub past_result : OpResult → List OpResult → Option (List OpResult)
past_result result [] = None
past_result result (first ∷ others) = when (same_result first result) others

-- the results after that of an operation, where its own comes first; all of them where a report passes it over
abbrev pub past : Operation → List OpResult → Option (List OpResult)
past operation results = if is_unreported operation then past_result (result_of operation) results else Some results
