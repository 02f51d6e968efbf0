use Rattle.std.proofs.Common.{◌∙◌, ap}
use Rattle.fam_machine.specs.Views.{states_of}
use Rattle.fam_machine.proofs.Steps.{one_more_program}
use Rattle.fam_machine.proofs.machine.new_programs.Goals as goal

-- one program more stands at the end
pub loop-pe-preserved : goal.loop-pe-preserved
loop-pe-preserved c =
    ap states_of c.in_ok-push.ensures.ok
    ∙ one_more_program c.args.whos.now c.args.local c.loop-pe.pe (record { uid = 0; gid = 0 }) c.loop-pe.programs c.in_ok-new.field-0 c.loop-pe-test.true c.loop-pe.invariant c.in_ok-new.ensures.state
