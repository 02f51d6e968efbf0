use Rattle.fam_core.specs.Playing.{AreRenewed}
use Rattle.fam_core.proofs.able.renew_all.Given as goal

-- the flags below this one were set anew
abbrev pub invariant-loop-pe : goal.invariant-loop-pe
invariant-loop-pe l = AreRenewed l.machine l.turns l.pe l.fn.flags l.flags
