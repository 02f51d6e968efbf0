use Rattle.std.proofs.Common.{◌≡◌, true, false, rules}
use Rattle.std.specs.Prelude.{◌&&◌}
use Rattle.std.specs.List.{list_any}
use Rattle.fam_model.specs.Programs.{is_member, has_arrived}
use Rattle.fam_program.specs.declared.tracked.TrackedProgram.{TrackedProgram}
use Rattle.fam_machine.proofs.Members.{complete}
use Rattle.fam_machine.proofs.ends.is_complete.Goals as goal

pub returns-then-has_arrival : goal.returns-then-has_arrival
returns-then-has_arrival c =
    let some : list_any (λ (h : TrackedProgram). is_member h.state && has_arrived c.args.round h.state) c.args.programs.now ≡ true = search rules in
    rw (complete c.args.round c.args.programs.now, some) c.have_all_arrived.ensures

pub returns-else-has_arrival : goal.returns-else-has_arrival
returns-else-has_arrival c =
    let none : list_any (λ (h : TrackedProgram). is_member h.state && has_arrived c.args.round h.state) c.args.programs.now ≡ false = search rules in
    rw (complete c.args.round c.args.programs.now, none) c.if-has_arrival.false
