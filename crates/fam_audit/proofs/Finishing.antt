-- The verdict.
use Rattle.std.proofs.Common.{◌≡◌, ℕ, ◌<◌, ◌≤◌, Bool, true, false, List, [], ◌∷◌, length, refl, sym, ap, ◌∙◌, arith, suc}
use Rattle.std.specs.Prelude.{◌&&◌, not, Option, Some, None, slice_get, unwrap_or}
use Rattle.std.specs.List.{enumerate_from, filter_map, flat_map, list_all}
use Rattle.std.specs.Option.{option_map, option_or}
use Rattle.std.proofs.lemmas.Option.{slice_get_within}
use Rattle.fam_model.specs.declared.event.Event.{Event}
use Rattle.fam_model.specs.declared.report.Report.{Report}
use Rattle.fam_model.specs.declared.script.Script.{Script}
use Rattle.fam_model.specs.declared.state.ProgramState.{ProgramState}
use Rattle.fam_model.specs.declared.state.State.{State}
use Rattle.fam_model.specs.EndStep.{has_pending}
use Rattle.fam_model.specs.Grammar.{IsLawfulScript}
use Rattle.fam_model.specs.Headline.{opening}
use Rattle.fam_model.specs.History.{calls, state_after, is_over}
use Rattle.fam_model.specs.Limits.{service_limits}
use Rattle.fam_model.specs.Lists.{is_some_and, numbers_below, when}
use Rattle.fam_model.specs.Programs.{is_member, is_running}
use Rattle.fam_model.specs.ReportText.{numbered, reply_lines}
use Rattle.fam_audit.specs.declared.auditor.Auditor.{Auditor}
use Rattle.fam_audit.specs.declared.verdict.Verdict.{Verdict}
use Rattle.fam_audit.specs.declared.verdict.Verdict.TheVariants as verdicts
use Rattle.fam_audit.specs.Auditing.{AreLocal, HasTaken, IsOpened, IsOver, JudgesAll, Stands, has_stopped, is_stopped}
use Rattle.fam_audit.specs.Verdict.{event_line, end_verdict, reply_verdict, first_wrong_event, first_wrong_line, has_ended, reply_line, verdict}
use Rattle.fam_audit.proofs.Going.{element}
use Rattle.fam_audit.proofs.Lining.{lined, told_lines}

-- what is said, by what is found

abbrev of_parts : Option Verdict → Option Verdict → Option Verdict → ℕ → Verdict
of_parts events end replies count = unwrap_or (option_or events (option_or end replies)) (verdicts.Legal count)

abbrev of_wrong : Script → Report → Option (ℕ × ℕ) → Option Verdict
of_wrong script report found = option_map (λ wrong. verdicts.Illegal (event_line script report wrong.0) wrong.1) found

-- the first wrong event
pub wrong_event : (script : Script) (report : Report) (wrong : ℕ × ℕ) → first_wrong_event script [] (opening report.rows script) report.history ≡ Some wrong →
    verdict script report ≡ verdicts.Illegal (event_line script report wrong.0) wrong.1
wrong_event script report wrong found =
    ap (λ (o : Option (ℕ × ℕ)). of_parts (of_wrong script report o) (end_verdict script report) (reply_verdict script report) (length report.history)) found

-- a history that goes on
pub wrong_end : (script : Script) (report : Report) → first_wrong_event script [] (opening report.rows script) report.history ≡ None → has_ended script report ≡ false →
    verdict script report ≡ verdicts.Illegal (event_line script report (length report.history)) 14
wrong_end script report none going =
    ap (λ (o : Option (ℕ × ℕ)). of_parts (of_wrong script report o) (end_verdict script report) (reply_verdict script report) (length report.history)) none
    ∙ ap (λ (b : Bool). of_parts None (when (not b) (verdicts.Illegal (event_line script report (length report.history)) 14)) (reply_verdict script report) (length report.history)) going

-- reply lines
pub by_lines : (script : Script) (report : Report) (found : Option ℕ) → first_wrong_event script [] (opening report.rows script) report.history ≡ None → has_ended script report ≡ true →
    first_wrong_line report.replies (reply_lines (length script.programs) report.history) ≡ found →
    verdict script report ≡ unwrap_or (option_map (λ place. verdicts.Illegal (reply_line script place) 13) found) (verdicts.Legal (length report.history))
by_lines script report found none ended lines =
    ap (λ (o : Option (ℕ × ℕ)). of_parts (of_wrong script report o) (end_verdict script report) (reply_verdict script report) (length report.history)) none
    ∙ ap (λ (b : Bool). of_parts None (when (not b) (verdicts.Illegal (event_line script report (length report.history)) 14)) (reply_verdict script report) (length report.history)) ended
    ∙ ap (λ (o : Option ℕ). of_parts None None (option_map (λ place. verdicts.Illegal (reply_line script place) 13) o) (length report.history)) lines

-- a history that has ended

local_member : (p : ProgramState) → p.is_local ≡ true → is_member p ≡ is_running p.standing
local_member p e = ap (λ (b : Bool). b && is_running p.standing) e

stopped_over : (programs : List ProgramState) → ((pe : ℕ) (p : ProgramState) → slice_get programs pe ≡ Some p → p.is_local ≡ true) →
    list_all is_stopped programs ≡ list_all (λ p. not (is_running p.standing) && not (has_pending p)) programs
stopped_over [] local = refl
stopped_over (p ∷ programs) local =
    ap (λ (b : Bool). (not b && not (has_pending p)) && list_all is_stopped programs) (local_member p (local 0 p refl))
    ∙ ap (λ (b : Bool). (not (is_running p.standing) && not (has_pending p)) && b) (stopped_over programs (λ pe q there. local (suc pe) q there))

-- the machine after all events tells whether they have ended
pub ended_by : (script : Script) (report : Report) (end : State) (stopped : Bool) → state_after service_limits (opening report.rows script) report.history ≡ Some end → AreLocal end →
    has_stopped end ≡ stopped → has_ended script report ≡ stopped
ended_by script report end stopped leads local is =
    ap (λ (o : Option State). is_some_and o is_over) leads ∙ sym (stopped_over end.programs local) ∙ is

-- the lines of the programs are those of the history
pub lines_due : (script : Script) (history : List Event) (auditor : Auditor) → Stands script history auditor →
    flat_map (λ turn. turn.lines.items) auditor.turns ≡ reply_lines (length script.programs) history
lines_due script history auditor stands =
    lined (λ pe. filter_map (numbered pe) (enumerate_from 0 (calls history pe))) auditor.turns (λ pe turn at.
    let low : pe < length auditor.turns = slice_get_within auditor.turns pe turn at in
    let same : length auditor.turns ≡ length script.programs = stands.count in
    let text = element script.programs pe (omega arith) in
    let one = stands.follows.tells pe text.0 text.1 in
    (stands.turns pe turn text.0 at text.1).lines_are ∙ sym (told_lines text.0 pe one.p.next_call one.p.started history one.tells))
    ∙ ap (λ n. flat_map (λ pe. filter_map (numbered pe) (enumerate_from 0 (calls history pe))) (numbers_below n)) stands.count

-- from the first event on

pub judged_wrong : (script : Script) (report : Report) (old new : Auditor) (wrong : ℕ × ℕ) → IsOpened report.rows script old → JudgesAll old report.history new (Some wrong) →
    first_wrong_event script [] (opening report.rows script) report.history ≡ Some wrong
judged_wrong script report old new wrong opened judged =
    ap (λ state. first_wrong_event script [] state report.history) (sym opened.machine) ∙ (judged script opened.stands).wrong

pub judged_right : (script : Script) (report : Report) (old new : Auditor) → IsOpened report.rows script old → JudgesAll old report.history new None → HasTaken script report new
judged_right script report old new opened judged =
    let found = judged script opened.stands in
    let takes = found.taken refl in
    record {
      wrong = ap (λ state. first_wrong_event script [] state report.history) (sym opened.machine) ∙ found.wrong;
      leads = ap (λ state. state_after service_limits state report.history) (sym opened.machine) ∙ takes.leads;
      stands = takes.stands;
    }

pub taken_ended : (script : Script) (report : Report) (auditor : Auditor) (stopped : Bool) → HasTaken script report auditor → has_stopped auditor.machine ≡ stopped → has_ended script report ≡ stopped
taken_ended script report auditor stopped taken is = ended_by script report auditor.machine stopped taken.leads taken.stands.follows.local is

pub taken_few : (script : Script) (report : Report) (auditor : Auditor) → IsLawfulScript script → HasTaken script report auditor → length auditor.machine.programs ≤ 64
taken_few script report auditor lawful taken =
    let same = taken.stands.follows.programs in
    let few = lawful.but_count.programs in
    omega (arith, same, few)

pub taken_over : (script : Script) (report : Report) (auditor : Auditor) → HasTaken script report auditor → has_stopped auditor.machine ≡ true → IsOver script report auditor.turns
taken_over script report auditor taken is =
    record { wrong = taken.wrong; ended = taken_ended script report auditor true taken is; due = lines_due script report.history auditor taken.stands }
