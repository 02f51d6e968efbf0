-- The texts of events.
use Rattle.std.specs.Prelude.{ℕ, Bool, List, [], ◌∷◌, ◌++◌, codes, if◌then◌else◌}
use Rattle.std.specs.Fmt.{decimal}
use Rattle.fam_base.specs.declared.naming.PeId.{PeId}
use Rattle.fam_base.specs.declared.error.FamError.{FamError}
use Rattle.fam_base.specs.declared.error.FamError.TheVariants.{DiskFault}
use Rattle.fam_model.specs.declared.event.Event.{Event}
use Rattle.fam_model.specs.declared.event.What.{What}
use Rattle.fam_model.specs.declared.event.What.TheVariants as what
use Rattle.fam_model.specs.Words.{context_text, words_text}
use Rattle.fam_model.specs.CallText.{meta_words, call_words}
use Rattle.fam_model.specs.ReplyText.{error_words, answer_words, reply_words}

-- a call of a program by its number
abbrev pub call_name : PeId → ℕ → List ℕ
call_name pe number = decimal pe.0 ++ codes "." ++ decimal number

-- some words, a colon, and what was answered
abbrev pub answered : List (List ℕ) → List (List ℕ) → List (List ℕ)
answered words answer = words ++ codes ":" ∷ answer

-- whether the change may be in the journal all the same, told of a fault of the disk alone
abbrev pub doubt_words : FamError → Bool → List (List ℕ)
doubt_words DiskFault doubt = decimal (if doubt then 1 else 0) ∷ []
doubt_words error doubt = []

-- what happened
abbrev pub what_words : What → List (List ℕ)
what_words (what.Meta meta_call given) = answered (codes "meta" ∷ meta_words meta_call) (reply_words given)
what_words (what.Issue asked given) = answered (codes "issue" ∷ call_words asked) (reply_words given)
what_words (what.Piece piece given) = answered (codes "piece" ∷ decimal piece ∷ []) (answer_words given)
what_words (what.Answer given) = answered (codes "answer" ∷ []) (reply_words given)
what_words (what.OpenContext context) = answered (codes "open" ∷ context_text context ∷ []) (codes "ok" ∷ [])
what_words (what.CloseContext context given) = answered (codes "close" ∷ context_text context ∷ []) (reply_words given)
what_words (what.Fence context) = codes "fence" ∷ context_text context ∷ []
what_words (what.Quiet context given) = answered (codes "quiet" ∷ context_text context ∷ []) (reply_words given)
what_words (what.Wait context named given) =
    answered (codes "wait" ∷ context_text context ∷ decimal named ∷ []) (reply_words given)
what_words what.Arrive = codes "arrive" ∷ []
what_words what.Leave = codes "leave" ∷ []
what_words what.Crash = codes "crash" ∷ []
what_words (what.Lose piece) = codes "lose" ∷ decimal piece ∷ []
what_words (what.Refused asked error doubt) =
    answered (codes "refused" ∷ call_words asked) (codes "error" ∷ (error_words error ++ doubt_words error doubt))

-- the line of an event, without its line feed
abbrev pub event_text : Event → List ℕ
event_text event = words_text (call_name event.pe event.call ∷ what_words event.what)
