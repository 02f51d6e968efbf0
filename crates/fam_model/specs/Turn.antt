-- The order of a program's events.
use Rattle.std.specs.Prelude.{ℕ, Bool, true, false, ◌==◌, ◌&&◌, nat_lt, Option, Some, None}
use Rattle.fam_model.specs.declared.call.Call.{Call}
use Rattle.fam_model.specs.declared.call.Call.TheVariants as call
use Rattle.fam_model.specs.declared.event.What.{What}
use Rattle.fam_model.specs.declared.event.What.TheVariants as what
use Rattle.fam_model.specs.declared.state.Started.{Started}
use Rattle.fam_model.specs.declared.state.Started.TheVariants as started
use Rattle.fam_model.specs.declared.state.ProgramState.{ProgramState}
use Rattle.fam_model.specs.Limits.{number_end}
use Rattle.fam_model.specs.Lists.{is_some_and}
use Rattle.fam_model.specs.Programs.{is_running}
use Rattle.fam_model.specs.Shape.{is_shaped}

-- the call that an event makes
abbrev pub call_made : What → Option Call
call_made (what.Meta asked given) = Some (call.Meta asked)
call_made (what.Issue asked given) = Some asked
call_made (what.OpenContext context) = Some (call.OpenContext context)
call_made (what.CloseContext context given) = Some (call.CloseContext context)
call_made (what.Fence context) = Some (call.Fence context)
call_made (what.Quiet context given) = Some (call.Quiet context)
call_made (what.Wait context named given) = Some (call.CopyWait context named)
call_made what.Arrive = Some call.Barrier
call_made what.Leave = Some call.Leave
call_made what.Crash = Some call.Crash
call_made (what.Refused asked error doubt) = Some asked
call_made (what.Piece piece given) = None
call_made (what.Answer given) = None
call_made (what.Lose piece) = None

-- An answer names the started call. Where nothing is started it is no matter of turn: there is nothing to answer.
abbrev pub answers_started : Started → ℕ → Bool
answers_started started.Nothing call = true
answers_started (started.Operation begun) call = call == begun
answers_started (started.Barrier begun) call = call == begun

-- nothing is started
abbrev pub is_idle : Started → Bool
is_idle started.Nothing = true
is_idle _ = false

-- the call number is the next one, and there is one
abbrev pub is_next : ProgramState → ℕ → Bool
is_next p call = call == p.next_call && nat_lt call number_end

-- an event stands at the right place among those of its program, and the call that it makes is well-formed
abbrev pub is_in_turn : ProgramState → ℕ → What → Bool
is_in_turn p call (what.Piece piece given) = true
is_in_turn p call (what.Lose piece) = true
is_in_turn p call (what.Answer given) = is_running p.standing && answers_started p.started call
is_in_turn p call what.Crash = is_running p.standing && is_next p call
is_in_turn p call made =
    is_running p.standing && is_next p call && is_idle p.started && is_some_and (call_made made) is_shaped
