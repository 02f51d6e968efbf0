-- How a call that steps is told from one that does not.
use Rattle.std.specs.Prelude.{◌≡◌, ℕ, Bool, true, false, Option, Some, None, is_some}
use Rattle.fam_model.specs.declared.call.Call.{Call}
use Rattle.fam_model.specs.declared.call.Call.TheVariants as call
use Rattle.fam_model.specs.declared.reply.Reply.{Reply}
use Rattle.fam_model.specs.declared.state.ProgramState.{ProgramState}
use Rattle.fam_model.specs.ContextStep.{answer_step, quiet_step, close_step, wait_step}
use Rattle.fam_program.specs.declared.tracked.TrackedProgram.{TrackedProgram}

-- the step that the program took, where it took one; else there is none, and the program is as it was
abbrev pub TookStep : Bool → Option ProgramState → TrackedProgram → TrackedProgram → Type 0
TookStep true step old new = (step ≡ Some new.state) × (new.out ≡ old.out)
TookStep false step old new = (step ≡ None) × (new ≡ old)

-- the program after a quiet of the context, with whichever reply that is
abbrev pub Quiets : ProgramState → ℕ → ProgramState → Type 0
Quiets old c new = (given : Reply) → is_some (quiet_step old c given) ≡ true → quiet_step old c given ≡ Some new

-- the program after closing the context, with whichever reply that is
abbrev pub Closes : ProgramState → ℕ → ProgramState → Type 0
Closes old c new = (given : Reply) → is_some (close_step old c given) ≡ true → close_step old c given ≡ Some new

-- the program after the answer of what is started, with whichever reply that is
abbrev pub Finishes : ProgramState → ProgramState → Type 0
Finishes old new =
    (round : ℕ) (given : Reply) → is_some (answer_step old.started round old given) ≡ true →
    answer_step old.started round old given ≡ Some new

-- the program after waiting for a copy of the context, with whichever reply that is
abbrev pub Waits : ProgramState → ℕ → ℕ → ProgramState → Type 0
Waits old c named new = (given : Reply) → is_some (wait_step old c named given) ≡ true → wait_step old c named given ≡ Some new

-- any call but a data call
abbrev pub is_no_data : Call → Bool
is_no_data (call.Data context op blocking) = false
is_no_data _ = true
