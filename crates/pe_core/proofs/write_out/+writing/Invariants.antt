use Rattle.std.proofs.Common.{take}
use Rattle.pe_core.specs.Actions.{Grows}
use Rattle.pe_core.proofs.write_out.+writing.Given as goal

abbrev pub invariant-write_out-loop-statement : goal.invariant-write_out-loop-statement
invariant-write_out-loop-statement l = Grows l.fn.written.actions l.fn.written.order (take l.statement-index l.statements) l.grown.actions l.grown.order
