use Rattle.std.proofs.Common.{◌≡◌, ◌≤◌, drop, length}
use Rattle.fam_audit.specs.Verdict.{first_wrong_from}
use Rattle.fam_audit.proofs.lines.first_wrong_line.Given as goal

-- the lines so far are those that are due
abbrev pub invariant-loop-place : goal.invariant-loop-place
invariant-loop-place l =
    (l.place ≤ length l.due) × (first_wrong_from 0 l.lines l.due ≡ first_wrong_from l.place (drop l.place l.lines) (drop l.place l.due))
