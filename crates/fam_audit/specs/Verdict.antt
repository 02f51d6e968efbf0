-- What an auditor says of a report.
use Rattle.std.specs.Prelude.{ℕ, ◌+◌, ◌==◌, ◌&&◌, Bool, true, not, List, [], ◌∷◌, ◌++◌, length, Option, Some, None, slice_get, if◌then◌else◌}
use Rattle.std.specs.Option.{option_map, option_map_or, option_or, unwrap_or}
use Rattle.fam_model.specs.declared.event.Event.{Event}
use Rattle.fam_model.specs.declared.report.ReplyLine.{ReplyLine}
use Rattle.fam_model.specs.declared.report.Report.{Report}
use Rattle.fam_model.specs.declared.script.Script.{Script}
use Rattle.fam_model.specs.declared.state.State.{State}
use Rattle.fam_model.specs.Headline.{opening}
use Rattle.fam_model.specs.History.{state_after, is_over}
use Rattle.fam_model.specs.Limits.{service_limits}
use Rattle.fam_model.specs.Lists.{◌>>=◌, is_some_and, when}
use Rattle.fam_model.specs.ReportText.{opening_lines, reply_lines}
use Rattle.fam_model.specs.Rules.{broken_rule, broken_or}
use Rattle.fam_model.specs.Same.{same_reply}
use Rattle.fam_model.specs.Step.{step}
use Rattle.fam_model.specs.Text.{next_call, is_call}
use Rattle.fam_model.specs.Turn.{call_made}
use Rattle.fam_schedule.specs.Schedule.{replies_to}
use Rattle.fam_audit.specs.declared.verdict.Verdict.{Verdict}
use Rattle.fam_audit.specs.declared.verdict.Verdict.TheVariants as verdicts

-- events

-- the call that an event makes, if it makes one, is the next one of its program after these events
abbrev pub goes_on : Script → List Event → Event → Bool
goes_on script before event =
    option_map_or (λ asked.
    is_call (slice_get script.programs event.pe.0 >>= λ program. next_call program (replies_to before event.pe.0)) asked)
    (call_made event.what) true

-- The least rule that an event breaks after these events, which led to this state: a call that is not the next one breaks
-- the first rule.
abbrev pub rule_broken : Script → List Event → State → Event → Option ℕ
rule_broken script before state event = if goes_on script before event then broken_rule service_limits state event else Some 1

-- the place of the first event that breaks a rule, and that rule
abbrev pub first_wrong_event : Script → List Event → State → List Event → Option (ℕ × ℕ)
first_wrong_event script before state [] = None
first_wrong_event script before state (event ∷ history) =
    broken_or (rule_broken script before state event) (length before)
    (option_map_or (λ next. first_wrong_event script (before ++ event ∷ []) next history) (step service_limits state event) None)

-- after the last event every program has left or crashed, and no piece is left
abbrev pub has_ended : Script → Report → Bool
has_ended script report =
    is_some_and (state_after service_limits (opening report.rows script) report.history) is_over

-- reply lines

-- two lines tell the same reply to the same call
abbrev pub is_same_line : ReplyLine → ReplyLine → Bool
is_same_line line other = line.pe.0 == other.pe.0 && line.call == other.call && same_reply line.reply other.reply

-- The first place, counted from n, at which there is not the line that is due: there is another one, or one too many, or
-- one is missing.
abbrev pub first_wrong_from : ℕ → List ReplyLine → List ReplyLine → Option ℕ
first_wrong_from n [] [] = None
first_wrong_from n [] (due ∷ others) = Some n
first_wrong_from n (line ∷ lines) [] = Some n
first_wrong_from n (line ∷ lines) (due ∷ others) = if is_same_line line due then first_wrong_from (n + 1) lines others else Some n

-- counted from 0
abbrev pub first_wrong_line : List ReplyLine → List ReplyLine → Option ℕ
first_wrong_line lines due = first_wrong_from 0 lines due

-- lines of the whole input, counted from 1; the script comes first, and then the line `replies`

-- the reply line at a place; behind the last one comes the line `opening`
abbrev pub reply_line : Script → ℕ → ℕ
reply_line script place = script.lines + 2 + place

-- the line of the event at a place; behind the last one comes the line `done`
abbrev pub event_line : Script → Report → ℕ → ℕ
event_line script report place =
    reply_line script (length report.replies) + length (opening_lines report.rows) + 1 + place

-- verdicts

-- an event that has no next state, or does not follow its program
abbrev pub event_verdict : Script → Report → Option Verdict
event_verdict script report =
    option_map (λ wrong. verdicts.Illegal (event_line script report wrong.0) wrong.1)
    (first_wrong_event script [] (opening report.rows script) report.history)

-- a history that has not ended
abbrev pub end_verdict : Script → Report → Option Verdict
end_verdict script report =
    when (not (has_ended script report)) (verdicts.Illegal (event_line script report (length report.history)) 14)

-- a reply line that is not the one of the events
abbrev pub reply_verdict : Script → Report → Option Verdict
reply_verdict script report =
    option_map (λ place. verdicts.Illegal (reply_line script place) 13)
    (first_wrong_line report.replies (reply_lines (length script.programs) report.history))

-- The events come first, then the end of the history, and then the reply lines. Where nothing is wrong the number of events
-- is told.
abbrev pub verdict : Script → Report → Verdict
verdict script report =
    unwrap_or (option_or (event_verdict script report) (option_or (end_verdict script report) (reply_verdict script report)))
    (verdicts.Legal (length report.history))
