-- Programs on their way.
use Rattle.std.specs.Prelude.{◌≡◌, ℕ, ◌==◌, List, [], ◌∷◌, ◌++◌, length, map, slice_get, Option, Some, None, if◌then◌else◌}
use Rattle.std.specs.List.{enumerate_from}
use Rattle.std.specs.Option.{option_or}
use Rattle.fam_model.specs.declared.event.Event.{Event}
use Rattle.fam_model.specs.declared.event.What.{What}
use Rattle.fam_model.specs.declared.reply.Reply.{Reply}
use Rattle.fam_model.specs.declared.report.ReplyLine.{ReplyLine}
use Rattle.fam_model.specs.declared.script.Program.{Program}
use Rattle.fam_model.specs.History.{reply_made, answered_with}
use Rattle.fam_model.specs.Text.{next_call}
use Rattle.pe_core.specs.Left.{StandsFor}
use Rattle.pe_core.specs.Standing.{left}
use Rattle.fam_audit.specs.declared.turn.Turn.{Turn}

-- the line of a reply of a program, with its number
abbrev pub line_of : ℕ → ℕ × Reply → ReplyLine
line_of pe entry = record { pe = record { 0 = pe }; call = entry.0; reply = entry.1 }

-- the lines of the replies of a program
abbrev pub lines_of : ℕ → List Reply → List ReplyLine
lines_of pe replies = map (line_of pe) (enumerate_from 0 replies)

-- a program that got these replies: its next call and its lines are those of them
pub record IsTurn (program : Program) (pe : ℕ) (replies : List Reply) (turn : Turn) : Type 0 where
  pub stands : StandsFor program replies (left turn.pe)
  pub due : turn.asked ≡ next_call program replies
  pub lines_are : turn.lines.items ≡ lines_of pe replies

-- it got none yet
abbrev pub StartsAs : List Program → ℕ → Turn → Type 0
StartsAs programs pe turn = (program : Program) → slice_get programs pe ≡ Some program → IsTurn program pe [] turn

-- it got this reply: whichever replies it had got, it has one more
abbrev pub GoesOn : ℕ → Turn → Reply → Turn → Type 0
GoesOn pe old given new =
    (program : Program) (replies : List Reply) → IsTurn program pe replies old → IsTurn program pe (replies ++ given ∷ []) new

-- the reply that an event tells to its program
abbrev pub told_by : What → Option Reply
told_by what = option_or (reply_made what) (answered_with what)

-- the reply that an event tells to a program
abbrev pub told_to : ℕ → Event → Option Reply
told_to pe event = if event.pe.0 == pe then told_by event.what else None

-- a program after an event that told it this
abbrev pub Heard : ℕ → Option Reply → Turn → Turn → Type 0
Heard pe None old new = new ≡ old
Heard pe (Some given) old new = GoesOn pe old given new

-- all programs after an event
pub record AreHeard (event : Event) (olds news : List Turn) : Type 0 where
  pub count : length news ≡ length olds
  pub each : (pe : ℕ) (old new : Turn) → slice_get olds pe ≡ Some old → slice_get news pe ≡ Some new → Heard pe (told_to pe event) old new
