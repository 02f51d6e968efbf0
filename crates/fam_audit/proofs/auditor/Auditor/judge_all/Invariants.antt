use Rattle.std.proofs.Common.{[]}
use Rattle.fam_model.specs.declared.script.Script.{Script}
use Rattle.fam_audit.specs.Auditing.{Stands}
use Rattle.fam_audit.proofs.Deciding.{SoFar}
use Rattle.fam_audit.proofs.auditor.Auditor.judge_all.Given as goal

-- for each script for which the audit began so, the events from here on have still to be judged
abbrev pub invariant-loop-place : goal.invariant-loop-place
invariant-loop-place l = (script : Script) → Stands script [] l.initial.self → SoFar script l.initial.self l.history l.place l.self
