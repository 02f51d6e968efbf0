use Rattle.std.proofs.Common.{◌≡◌, ◌<◌, ℕ, false}
use Rattle.famrun.specs.Auditing.{is_behind_stop}
use Rattle.famrun.proofs.audit.script_end.Given as goal

-- no line `stop` ends before
abbrev pub invariant-loop-n : goal.invariant-loop-n
invariant-loop-n l = (k : ℕ) → k < l.n → is_behind_stop l.bytes k ≡ false
