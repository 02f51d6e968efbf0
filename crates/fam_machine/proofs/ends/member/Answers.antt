use Rattle.std.proofs.Common.{◌≡◌, true, false, rules, arith}
use Rattle.fam_model.specs.Programs.{is_complete}
use Rattle.std.specs.Prelude.{slice_set}
use Rattle.fam_machine.specs.Views.{states_of}
use Rattle.fam_machine.proofs.Taking.{member_taken, member_fails, round_can_rise}
use Rattle.fam_machine.proofs.ends.member.Goals as goal

pub returns-in-Err : goal.returns-in-Err
returns-in-Err c =
    member_fails c.args.parts.now c.args.pe c.args.call c.args.what.now c.at_mut.result.now c.member_step.new.program c.in-Err.error c.at_mut.ensures.value c.requires.kind c.in-Err.ensures

pub overflow_add-parts : goal.overflow_add-parts
overflow_add-parts c =
    let whole : is_complete c.args.parts.now.round (states_of (slice_set c.args.parts.now.programs c.args.pe c.member_step.new.program)) ≡ true = search rules in
    let less = round_can_rise c.args.parts.now c.args.pe c.args.call c.args.what.now c.at_mut.result.now c.member_step.new.program c.requires.sound c.at_mut.ensures.value c.requires.kind c.requires.turn (search rules) whole in
    record { fits = omega arith }

pub returns-then-is_complete : goal.returns-then-is_complete
returns-then-is_complete c =
    let whole : is_complete c.args.parts.now.round (states_of (slice_set c.args.parts.now.programs c.args.pe c.member_step.new.program)) ≡ true = search rules in
    member_taken c.args.parts.now c.args.pe c.args.call c.args.what.now c.at_mut.result.now c.member_step.new.program true c.at_mut.ensures.value c.requires.kind (search rules) whole

pub returns-else-is_complete : goal.returns-else-is_complete
returns-else-is_complete c =
    let open_round : is_complete c.args.parts.now.round (states_of (slice_set c.args.parts.now.programs c.args.pe c.member_step.new.program)) ≡ false = search rules in
    member_taken c.args.parts.now c.args.pe c.args.call c.args.what.now c.at_mut.result.now c.member_step.new.program false c.at_mut.ensures.value c.requires.kind (search rules) open_round
