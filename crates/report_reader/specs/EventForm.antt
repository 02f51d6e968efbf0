-- Which events have a text of their own.
use Rattle.std.specs.Prelude.{Bool, true, false, not, ◌&&◌, ◌||◌}
use Rattle.fam_base.specs.declared.error.FamError.{FamError}
use Rattle.fam_base.specs.declared.error.FamError.TheVariants.{DiskFault}
use Rattle.fam_model.specs.declared.call.Call.{Call}
use Rattle.fam_model.specs.declared.call.Call.TheVariants as call
use Rattle.fam_model.specs.declared.reply.Reply.{Reply}
use Rattle.fam_model.specs.declared.reply.Reply.TheVariants as reply
use Rattle.fam_model.specs.declared.event.Event.{Event}
use Rattle.fam_model.specs.declared.event.What.{What}
use Rattle.fam_model.specs.declared.event.What.TheVariants as what
use Rattle.fam_model.specs.CallText.{has_text}
use Rattle.fam_model.specs.Shape.{is_context, is_shaped}
use Rattle.fam_model.specs.Values.{is_u32, is_u64, call_fits, error_fits, answer_fits, reply_fits}

-- a call that an event can tell
abbrev pub is_call_told : Call → Bool
is_call_told asked = has_text asked && is_shaped asked && call_fits asked

-- an issue is answered at once by a refusal or by being issued
abbrev pub is_issue_reply : Reply → Bool
is_issue_reply reply.Issued = true
is_issue_reply (reply.Error error) = error_fits error
is_issue_reply _ = false

-- a fault of the disk
abbrev pub is_disk_fault : FamError → Bool
is_disk_fault DiskFault = true
is_disk_fault _ = false

-- what has a text of its own; doubt is told of a fault of the disk alone
abbrev pub what_fits : What → Bool
what_fits (what.Meta meta_call given) = is_call_told (call.Meta meta_call) && reply_fits given
what_fits (what.Issue asked given) = is_call_told asked && is_issue_reply given
what_fits (what.Piece piece given) = is_u32 piece && answer_fits given
what_fits (what.Answer given) = reply_fits given
what_fits (what.OpenContext context) = is_context context
what_fits (what.CloseContext context given) = is_context context && reply_fits given
what_fits (what.Fence context) = is_context context
what_fits (what.Quiet context given) = is_context context && reply_fits given
what_fits (what.Wait context named given) = is_context context && is_u64 named && reply_fits given
what_fits what.Arrive = true
what_fits what.Leave = true
what_fits what.Crash = true
what_fits (what.Lose piece) = is_u32 piece
what_fits (what.Refused asked error doubt) =
    is_call_told asked && error_fits error && (is_disk_fault error || not doubt)

-- an event that has a text of its own
abbrev pub event_fits : Event → Bool
event_fits event = is_u32 event.pe.0 && is_u64 event.call && what_fits event.what
