-- Calls on the directory, by their replies.
use Rattle.std.proofs.Common.{◌≡◌, refl}
use Rattle.std.specs.Prelude.{Option, Some, None}
use Rattle.std.specs.Option.{option_map}
use Rattle.fam_model.specs.declared.call.Call.TheVariants as call
use Rattle.fam_model.specs.declared.call.MetaCall.{MetaCall}
use Rattle.fam_model.specs.declared.event.What.{What}
use Rattle.fam_model.specs.declared.event.What.TheVariants as what
use Rattle.fam_model.specs.declared.reply.Reply.{Reply}
use Rattle.fam_model.specs.declared.request.Request.{Request}
use Rattle.fam_model.specs.declared.rows.Rows.{Rows}
use Rattle.fam_model.specs.declared.state.ProgramState.{ProgramState}
use Rattle.fam_model.specs.Lists.{◌>>=◌}
use Rattle.fam_model.specs.Programs.{request_of}
use Rattle.fam_schedule.specs.Schedule.{begins, due_reply}
use Rattle.fam_turns.specs.Turns.{meta_reply}

told : (o : Option Reply) (make : Reply → What) → option_map make o ≡ (o >>= λ given. Some (make given))
told None make = refl
told (Some given) make = refl

asked_by : (o : Option Request) (due : Request → Option Reply) (make : Reply → What) → option_map make (o >>= due) ≡ (o >>= λ request. due request >>= λ given. Some (make given))
asked_by None due make = refl
asked_by (Some request) due make = told (due request) make

-- the event by which a call on the directory begins
pub meta_begins : (rows : Rows) (p : ProgramState) (asked : MetaCall) → option_map (λ given. what.Meta asked given) (meta_reply rows p asked) ≡ begins rows p (call.Meta asked)
meta_begins rows p asked = asked_by (request_of p asked) (due_reply rows p.who) (λ given. what.Meta asked given)
