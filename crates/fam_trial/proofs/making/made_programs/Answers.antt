use Rattle.fam_trial.proofs.Words.{programs_more, programs_later}
use Rattle.fam_trial.proofs.making.made_programs.Goals as goal

pub loop-pe-preserved : goal.loop-pe-preserved
loop-pe-preserved c = (
  programs_more c.args.seed c.loop-pe.pe c.args.calls c.loop-pe.made c.push.new.self c.loop-pe.words c.in_ok-made_program.field-0
      c.loop-pe.invariant.1 c.loop-pe.invariant.0 c.in_ok-made_program.ensures.program c.in_ok-push.ensures.ok,
  programs_later c.args.seed c.loop-pe.pe c.args.calls c.loop-pe.words c.made_program.new.words c.loop-pe.invariant.1 c.in_ok-made_program.ensures.words,
)
