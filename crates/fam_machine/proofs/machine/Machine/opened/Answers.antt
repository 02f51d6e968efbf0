use Rattle.std.proofs.Common.{◌≡◌, sym, subst}
use Rattle.fam_model.specs.declared.state.State.{State}
use Rattle.fam_model.specs.Opened.{opened}
use Rattle.fam_machine.specs.Sound.{IsSound}
use Rattle.fam_machine.specs.Views.{states_of}
use Rattle.fam_machine.proofs.Opening.{opened_sound}
use Rattle.fam_machine.proofs.machine.Machine.opened.Goals as goal

pub invariant_of-result : goal.invariant_of-result
invariant_of-result c =
    let new : State = opened c.args.rows c.args.service c.args.whos.now c.args.local in
    let same : new ≡ record { service = c.new.result; rows = c.in_ok-rows.rows; memory = c.in_ok-memory.memory; round = 0; programs = states_of c.in_ok-programs.programs } =
    λ i. record {
      service = sym c.new.ensures i;
      rows = sym c.in_ok-rows.ensures i;
      memory = sym c.in_ok-memory.ensures i;
      round = 0;
      programs = sym c.in_ok-programs.ensures i;
    }
    in
    subst IsSound same (opened_sound c.args.rows c.args.service c.args.whos.now c.args.local c.requires.lawful c.requires.service c.requires.users)
