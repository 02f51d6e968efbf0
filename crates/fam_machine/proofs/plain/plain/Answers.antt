use Rattle.fam_machine.proofs.Taking.{plain_taken, plain_turn_here, sound_here}
use Rattle.fam_machine.proofs.plain.plain.Goals as goal

pub plain_step-requires-clause-number : goal.plain_step-requires-clause-number
plain_step-requires-clause-number c = λ m. (plain_turn_here c.args.parts.now c.args.pe c.args.call c.args.what.now c.at_mut.result.now c.at_mut.ensures.value c.requires.kind c.requires.turn m).number

pub plain_step-requires-clause-idle : goal.plain_step-requires-clause-idle
plain_step-requires-clause-idle c = λ m. (plain_turn_here c.args.parts.now c.args.pe c.args.call c.args.what.now c.at_mut.result.now c.at_mut.ensures.value c.requires.kind c.requires.turn m).idle

pub plain_step-requires-clause-shaped : goal.plain_step-requires-clause-shaped
plain_step-requires-clause-shaped c = λ m. (plain_turn_here c.args.parts.now c.args.pe c.args.call c.args.what.now c.at_mut.result.now c.at_mut.ensures.value c.requires.kind c.requires.turn m).shaped

pub plain_step-requires-clause-holds : goal.plain_step-requires-clause-holds
plain_step-requires-clause-holds c = (sound_here c.args.parts.now c.args.pe c.at_mut.result.now c.requires.sound c.at_mut.ensures.value).holds

pub returns : goal.returns
returns c =
    plain_taken c.args.parts.now c.args.pe c.args.call c.args.what.now c.at_mut.result.now c.plain_step.new.program c.plain_step.result c.at_mut.ensures.value c.requires.kind c.plain_step.ensures
