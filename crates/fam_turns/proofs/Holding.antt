-- What a program of a sound state holds.
use Rattle.std.proofs.Common.{◌≡◌, ℕ}
use Rattle.std.specs.Prelude.{Some}
use Rattle.fam_machine.specs.Sound.{HoldsSound, IsSound, IsSoundProgram}
use Rattle.fam_machine.proofs.Lists.{All-at}
use Rattle.fam_model.specs.declared.state.ProgramState.{ProgramState}
use Rattle.fam_model.specs.declared.state.State.{State}
use Rattle.fam_model.specs.Programs.{program_of}

pub holds_sound : (state : State) (pe : ℕ) (p : ProgramState) → IsSound state → program_of state pe ≡ Some p → HoldsSound state.rows p
holds_sound state pe p sound there = (All-at (IsSoundProgram state.rows state.round) state.programs pe p sound.sound there).holds
