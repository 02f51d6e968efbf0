use Rattle.std.proofs.Common.{◌≡◌, ◌+◌, ◌%◌, ◌^◌}
use Rattle.std.specs.Prelude.{sum_by}
use Rattle.fam_model.specs.PieceStep.{item_bytes}
use Rattle.fam_model.specs.Rows.{item_number}
use Rattle.fam_trial.specs.Trial.{item_sum, memory_sum}
use Rattle.fam_trial.proofs.trial.memory_sum.Given as goal

-- with what is still to come it is the sum of all
abbrev pub invariant-loop-row : goal.invariant-loop-row
invariant-loop-row l = (l.sum + sum_by (λ row. item_sum (item_number row) (item_bytes l.machine.memory (item_number row))) l.row-iterator) % 2 ^ 64 ≡ memory_sum l.machine
