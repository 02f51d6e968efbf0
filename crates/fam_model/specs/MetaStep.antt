-- Calls on the directory: which reply they may have, and what they change.
use Rattle.std.specs.Prelude.{ℕ, Bool, ◌&&◌, Option, Some, None, is_none, is_some}
use Rattle.std.specs.Option.{option_map_or}
use Rattle.fam_base.specs.declared.naming.Who.{Who}
use Rattle.fam_base.specs.declared.error.FamError.{FamError}
use Rattle.fam_model.specs.declared.call.MetaCall.{MetaCall}
use Rattle.fam_model.specs.declared.request.Request.{Request}
use Rattle.fam_model.specs.declared.change.Change.{Change}
use Rattle.fam_model.specs.declared.reply.Reply.{Reply}
use Rattle.fam_model.specs.declared.reply.Reply.TheVariants as reply
use Rattle.fam_model.specs.declared.rows.Rows.{Rows}
use Rattle.fam_model.specs.declared.state.ProgramState.{ProgramState}
use Rattle.fam_model.specs.declared.state.State.{State}
use Rattle.fam_model.specs.Directory.{answer, refusal, found, change_at, may_lie, after, memory_after}
use Rattle.fam_model.specs.Lists.{◌>>=◌, when}
use Rattle.fam_model.specs.Programs.{request_of, filled, counted}
use Rattle.fam_model.specs.Same.{same_reply}

-- the reply to a request that changes nothing: its refusal, or what it finds
abbrev pub unchanging_reply : Option FamError → Rows → Request → Option Reply
unchanging_reply (Some error) rows request = Some (reply.Error error)
unchanging_reply None rows request = found rows request

-- where a reply says that a new item lies
abbrev pub told_base : Reply → ℕ
told_base (reply.Item descriptor) = descriptor.base
told_base _ = 0

-- the change that serves a request and has this reply
abbrev pub told_change : Rows → Who → Request → Reply → Option Change
told_change rows who request given = do
  chosen ← change_at rows who request (told_base given)
  when (is_none (refusal rows who request) && may_lie rows request (told_base given) && same_reply given (answer chosen)) chosen

-- the directory may give this reply
abbrev pub may_reply : Rows → Who → Request → Reply → Bool
may_reply rows who request given =
    option_map_or (same_reply given) (unchanging_reply (refusal rows who request) rows request)
    (is_some (told_change rows who request given))

-- the change that a call with this reply served; none where it was refused or changes nothing
abbrev pub served_change : Rows → ProgramState → MetaCall → Reply → Option Change
served_change rows p asked given = do
  request ← request_of p asked
  told_change rows p.who request given

-- a call on the directory: its slots are filled, and its reply is one that the directory may give
abbrev pub meta_step : Rows → ProgramState → MetaCall → Reply → Option ProgramState
meta_step rows p asked given = do
  request ← request_of p asked
  when (may_reply rows p.who request given) (filled (counted p) asked given)

-- the state with a change of its directory, if there is one
abbrev pub changed : State → Option Change → State
changed state None = state
changed state (Some chosen) =
    record state { rows = after state.rows chosen; memory = memory_after state.rows chosen state.memory }
