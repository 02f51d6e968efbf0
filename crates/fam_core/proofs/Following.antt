-- An event of no program.
use Rattle.std.proofs.Common.{◌≡◌, List, sym, ap, ◌∙◌}
use Rattle.std.specs.Prelude.{None, Some, slice_get}
use Rattle.fam_model.specs.declared.event.Event.{Event}
use Rattle.fam_model.specs.declared.state.State.{State}
use Rattle.fam_model.specs.Limits.{service_limits}
use Rattle.fam_model.specs.Programs.{program_of}
use Rattle.fam_schedule.specs.Schedule.{PieceName}
use Rattle.fam_schedule.proofs.Moves.{step_moves}
use Rattle.fam_schedule.proofs.Places.{get_set_same}
use Rattle.fam_core.specs.Playing.{Follows}

-- the program of an event is there after its step
pub no_program : (ready : List (List PieceName)) (event : Event) (next : State) → program_of next event.pe.0 ≡ None → Follows ready event next ready
no_program ready event next none old are tidy steps =
    let m = step_moves service_limits old next event steps in
    let there : program_of next event.pe.0 ≡ Some m.is = ap (λ ps. slice_get ps event.pe.0) m.programs ∙ get_set_same old.programs event.pe.0 m.was m.is m.there in
    let no : None ≡ Some m.is = sym none ∙ there in cc
