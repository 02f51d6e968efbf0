use Rattle.std.proofs.Common.{◌≡◌, ◌%◌, ◌^◌, take}
use Rattle.fam_trial.specs.Trial.{item_sum}
use Rattle.fam_trial.proofs.trial.item_sum.Given as goal

abbrev pub invariant-loop-offset : goal.invariant-loop-offset
invariant-loop-offset l = l.sum ≡ item_sum l.item (take l.offset l.bytes) % 2 ^ 64
