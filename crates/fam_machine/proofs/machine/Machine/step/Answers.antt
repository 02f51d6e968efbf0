use Rattle.std.proofs.Common.{sym, ◌∙◌}
use Rattle.fam_machine.specs.Views.{state_of}
use Rattle.fam_machine.proofs.Steps.{stepped, still_sound}
use Rattle.fam_machine.proofs.machine.Machine.step.Goals as goal

pub returns : goal.returns
returns c =
    rw (← c.self.view_is)
    (stepped c.self.inside.parts c.take.new.parts c.args.event.now c.take.result (sym c.is_in_turn.ensures ∙ c.if-not-is_in_turn.false) c.take.ensures)

pub invariant_of-self : goal.invariant_of-self
invariant_of-self c =
    still_sound (state_of c.self.inside.parts) (state_of c.take.new.parts) c.args.event.now c.take.result c.mode_of.ensures.modes c.self.invariant
    (stepped c.self.inside.parts c.take.new.parts c.args.event.now c.take.result (sym c.is_in_turn.ensures ∙ c.if-not-is_in_turn.false) c.take.ensures)
