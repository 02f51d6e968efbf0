use Rattle.std.proofs.Common.{rules, ◌≡◌, sym, subst}
use Rattle.std.specs.Prelude.{Some}
use Rattle.fam_machine.specs.Sound.{HoldsSound}
use Rattle.fam_model.specs.Programs.{program_of}
use Rattle.fam_turns.proofs.Holding.{holds_sound}
use Rattle.fam_turns.proofs.tests.next_at.Goals as goal

pub next_what-requires : goal.next_what-requires
next_what-requires c =
    let there : program_of c.args.machine.now c.args.pe ≡ Some c.in-Some.program.now.state = search rules in
    subst (λ rows. HoldsSound rows c.in-Some.program.now.state) (sym c.rows.ensures)
    (holds_sound c.args.machine.now c.args.pe c.in-Some.program.now.state c.layout-layout.ensures.sound there)
