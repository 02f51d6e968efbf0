use Rattle.std.proofs.Common.{◌∙◌}
use Rattle.std.proofs.lemmas.List.{take_rest}
use Rattle.fam_io.proofs.Passing.{on_err, HasWritten-lost, HasWritten-more}
use Rattle.fam_io.proofs.whole.write_all.Goals as goal

pub returns-in_err-written-clause-lost : goal.returns-in_err-written-clause-lost
returns-in_err-written-clause-lost g c =
    let rest = take_rest c.args.bytes.now c.loop-written.written in
    on_err c.from_residual.result (HasWritten-lost _ _ (g.K.Sink.sink c.write.new.self) _ _ c.loop-written.invariant.0 (rw rest at c.in_err-written.ensures.lost))

pub loop-written-preserved : goal.loop-written-preserved
loop-written-preserved g c =
    let rest = take_rest c.args.bytes.now c.loop-written.written in
    let bound = rw rest at c.in_ok-written.ensures.bound in
    let bytes = rw rest at c.in_ok-written.ensures.bytes in
    (HasWritten-more _ _ (g.K.Sink.sink c.write.new.self) _ _ _ c.loop-written.invariant.0 bound bytes c.in_ok-written.ensures.cause.later, c.in_ok-written.ensures.beside ∙ c.loop-written.invariant.1)
