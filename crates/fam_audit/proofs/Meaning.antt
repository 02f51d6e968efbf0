-- What a verdict means.
use Rattle.std.proofs.Common.{◌≡◌, ℕ, ◌+◌, Bool, true, false, List, [], ◌∷◌, ◌++◌, length, refl, sym, ap, ◌∙◌, subst, append-nil, append_assoc, arith, suc, eqb-true}
use Rattle.std.specs.Prelude.{◌==◌, ◌&&◌, not, Option, Some, None, is_some, is_none, slice_get, unwrap_or, if◌then◌else◌}
use Rattle.std.specs.List.{enumerate_from, list_all}
use Rattle.std.specs.Option.{option_map, option_map_or, option_or}
use Rattle.fam_model.specs.declared.event.Event.{Event}
use Rattle.fam_model.specs.declared.report.ReplyLine.{ReplyLine}
use Rattle.fam_model.specs.declared.report.Report.{Report}
use Rattle.fam_model.specs.declared.script.Script.{Script}
use Rattle.fam_model.specs.declared.state.State.{State}
use Rattle.fam_model.specs.Equals.{equal_replies}
use Rattle.fam_model.specs.Headline.{opening, follows_script}
use Rattle.fam_model.specs.History.{calls, state_after}
use Rattle.fam_model.specs.Limits.{service_limits}
use Rattle.fam_model.specs.Lists.{◌>>=◌, when}
use Rattle.fam_model.specs.ReportText.{reply_lines}
use Rattle.fam_model.specs.Rules.{broken_or, broken_rule}
use Rattle.fam_model.specs.Same.{same_reply}
use Rattle.fam_model.specs.Step.{step}
use Rattle.fam_model.specs.Text.{follows}
use Rattle.fam_model.proofs.Histories.{no_rule-step}
use Rattle.fam_model.specs.contracts.reply.ReplyEq.TheImpl.Laws as reply_laws
use Rattle.fam_schedule.proofs.Follows.{tells_follows}
use Rattle.fam_schedule.proofs.Options.{bind_some}
use Rattle.fam_schedule.proofs.Runs.{equal}
use Rattle.fam_audit.specs.declared.verdict.Verdict.{Verdict}
use Rattle.fam_audit.specs.declared.verdict.Verdict.TheVariants as verdicts
use Rattle.fam_audit.specs.Auditing.{Follows}
use Rattle.fam_audit.specs.Laws.{IsReportOf, LegalReportsAreOfRuns, ReportsOfRunsAreLegal}
use Rattle.fam_audit.specs.Verdict.{event_line, first_wrong_event, first_wrong_from, first_wrong_line, goes_on, has_ended, is_same_line, reply_line, rule_broken}
use Rattle.fam_audit.proofs.Deciding.{no_rule, rule_of_next, rule_of_other}
use Rattle.fam_audit.proofs.Going.{follows_next}
use Rattle.fam_audit.proofs.Legality.{goes_legal}
use Rattle.fam_audit.proofs.Openings.{follows_new}

-- events that break no rule

-- the event was taken, and none of the later ones breaks a rule
pub record IsTaken (script : Script) (before : List Event) (state : State) (event : Event) (rest : List Event) : Type 0 where
  pub goes : goes_on script before event ≡ true
  pub next : State
  pub steps : step service_limits state event ≡ Some next
  pub later : first_wrong_event script (before ++ event ∷ []) next rest ≡ None

none_parts : (rule : Option ℕ) (n : ℕ) (later : Option (ℕ × ℕ)) → broken_or rule n later ≡ None → (rule ≡ None) × (later ≡ None)
none_parts None n later e = (refl, e)
none_parts (Some rule) n later e = cc

goes_by : (b : Bool) (script : Script) (before : List Event) (state : State) (event : Event) → goes_on script before event ≡ b → rule_broken script before state event ≡ None →
    (goes_on script before event ≡ true) × (broken_rule service_limits state event ≡ None)
goes_by true script before state event goes none = (goes, sym (rule_of_next script before state event goes) ∙ none)
goes_by false script before state event goes none = let no : Some 1 ≡ None = sym (rule_of_other script before state event goes) ∙ none in cc

step_by : (o : Option State) (script : Script) (before : List Event) (state : State) (event : Event) (rest : List Event) → step service_limits state event ≡ o → is_some o ≡ true →
    goes_on script before event ≡ true →
    option_map_or (λ next. first_wrong_event script (before ++ event ∷ []) next rest) o None ≡ None → IsTaken script before state event rest
step_by None script before state event rest steps some goes later = cc
step_by (Some next) script before state event rest steps some goes later = record { goes = goes; next = next; steps = steps; later = later }

taken : (script : Script) (before : List Event) (state : State) (event : Event) (rest : List Event) → first_wrong_event script before state (event ∷ rest) ≡ None → IsTaken script before state event rest
taken script before state event rest none =
    let later : Option State → Option (ℕ × ℕ) = λ o. option_map_or (λ next. first_wrong_event script (before ++ event ∷ []) next rest) o None in
    let parts = none_parts (rule_broken script before state event) (length before) (later (step service_limits state event)) none in
    let goes = goes_by (goes_on script before event) script before state event refl parts.0 in
    let some : is_some (step service_limits state event) ≡ true = sym (no_rule-step service_limits state event) ∙ ap is_none goes.1 in
    step_by (step service_limits state event) script before state event rest refl some goes.0 parts.1

-- where these events lead, and how their calls follow
pub record IsRight (script : Script) (before : List Event) (state : State) (history : List Event) : Type 0 where
  pub end : State
  pub leads : state_after service_limits state history ≡ Some end
  pub follows : Follows script (before ++ history) end

pub right : (script : Script) (before : List Event) (state : State) (history : List Event) → Follows script before state → first_wrong_event script before state history ≡ None →
    IsRight script before state history
right script before state [] f none =
    record { end = state; leads = refl; follows = subst (λ es. Follows script es state) (sym (append-nil before)) f }
right script before state (event ∷ rest) f none =
    let t = taken script before state event rest none in
    let later = right script (before ++ event ∷ []) t.next rest (follows_next script before state t.next event f t.steps t.goes) t.later in
    record {
      end = later.end;
      leads = ap (λ (o : Option State). o >>= λ s. state_after service_limits s rest) t.steps ∙ later.leads;
      follows = subst (λ es. Follows script es later.end) (append_assoc before (event ∷ []) rest) later.follows;
    }

-- all programs follow

both_true : (a b : Bool) → a ≡ true → b ≡ true → (a && b) ≡ true
both_true a b e f = rw (e, f) refl

abbrev numbered : {A : Type 0} → ℕ → A → ℕ × A
numbered n x = (n, x)

all_from : {A : Type 0} (test : ℕ × A → Bool) (n : ℕ) (xs : List A) → ((k : ℕ) (x : A) → slice_get xs k ≡ Some x → test (numbered (n + k) x) ≡ true) →
    list_all test (enumerate_from n xs) ≡ true
all_from test n [] h = refl
all_from test n (x ∷ xs) h =
    let here : n + 0 ≡ n = omega arith in
    both_true (test (numbered n x)) (list_all test (enumerate_from (n + 1) xs)) (ap (λ m. test (numbered m x)) (sym here) ∙ h 0 x refl)
    (all_from test (n + 1) xs (λ k y there.
    let number : (n + 1) + k ≡ n + suc k = omega arith in
    ap (λ m. test (numbered m y)) number ∙ h (suc k) y there))

all_follow : (script : Script) (history : List Event) (end : State) → Follows script history end → follows_script script history ≡ true
all_follow script history end f =
    all_from (λ entry. follows entry.1 (calls history entry.0)) 0 script.programs
    (λ pe text there.
    let one = f.tells pe text there in
    let number : 0 + pe ≡ pe = omega arith in
    ap (λ k. follows text (calls history k)) number ∙ tells_follows text pe one.p.next_call one.p.started history one.tells)

-- reply lines that are the same

first_true : (a b : Bool) → (a && b) ≡ true → a ≡ true
first_true true b e = refl
first_true false b e = cc

second_true : (a b : Bool) → (a && b) ≡ true → b ≡ true
second_true true b e = e
second_true false b e = cc

same_line : (line other : ReplyLine) → is_same_line line other ≡ true → line ≡ other
same_line line other e =
    let two = line.pe.0 == other.pe.0 && line.call == other.call in
    let both = first_true two (same_reply line.reply other.reply) e in
    let pe = eqb-true line.pe.0 other.pe.0 (first_true (line.pe.0 == other.pe.0) (line.call == other.call) both) in
    let call = eqb-true line.call other.call (second_true (line.pe.0 == other.pe.0) (line.call == other.call) both) in
    let given = equal_replies line.reply other.reply (second_true two (same_reply line.reply other.reply) e) in
    λ i. record { pe = record { 0 = pe i }; call = call i; reply = given i }

same_by : (b : Bool) (n : ℕ) (line other : ReplyLine) (lines due : List ReplyLine) → is_same_line line other ≡ b → (first_wrong_from (n + 1) lines due ≡ None → lines ≡ due) →
    first_wrong_from n (line ∷ lines) (other ∷ due) ≡ None → line ∷ lines ≡ other ∷ due
same_by true n line other lines due e rest none =
    let later = sym (ap (λ (b : Bool). if b then first_wrong_from (n + 1) lines due else Some n) e) ∙ none in
    ap (λ l. l ∷ lines) (same_line line other e) ∙ ap (λ ls. other ∷ ls) (rest later)
same_by false n line other lines due e rest none =
    let no : Some n ≡ None = sym (ap (λ (b : Bool). if b then first_wrong_from (n + 1) lines due else Some n) e) ∙ none in cc

lines_same : (n : ℕ) (lines due : List ReplyLine) → first_wrong_from n lines due ≡ None → lines ≡ due
lines_same n [] [] none = refl
lines_same n [] (other ∷ due) none = cc
lines_same n (line ∷ lines) [] none = cc
lines_same n (line ∷ lines) (other ∷ due) none = same_by (is_same_line line other) n line other lines due refl (lines_same (n + 1) lines due) none

-- the parts of a verdict

abbrev of_parts : Option (ℕ × ℕ) → Bool → Option ℕ → (ℕ × ℕ → Verdict) → Verdict → (ℕ → Verdict) → ℕ → Verdict
of_parts found ended place wrong going line count =
    unwrap_or (option_or (option_map wrong found) (option_or (when (not ended) going) (option_map line place))) (verdicts.Legal count)

legal_parts : (found : Option (ℕ × ℕ)) (ended : Bool) (place : Option ℕ) (script : Script) (report : Report) (count n : ℕ) →
    of_parts found ended place (λ wrong. verdicts.Illegal (event_line script report wrong.0) wrong.1) (verdicts.Illegal (event_line script report (length report.history)) 14)
    (λ k. verdicts.Illegal (reply_line script k) 13) count ≡ verdicts.Legal n →
    (found ≡ None) × (ended ≡ true) × (place ≡ None) × (n ≡ count)
legal_parts (Some wrong) ended place script report count n e = cc
legal_parts None false place script report count n e = cc
legal_parts None true (Some k) script report count n e = cc
legal_parts None true None script report count n e = (refl, refl, refl, cc)

-- what is called legal is the report of a run
pub legal_is_right : LegalReportsAreOfRuns
legal_is_right script report events legal =
    let parts = legal_parts (first_wrong_event script [] (opening report.rows script) report.history) (has_ended script report)
    (first_wrong_line report.replies (reply_lines (length script.programs) report.history)) script report (length report.history) events legal in
    let r = right script [] (opening report.rows script) report.history (follows_new report.rows script) parts.0 in
    let whole : IsReportOf script report = record {
      legal = ap is_some r.leads;
      follows = all_follow script report.history r.end r.follows;
      ended = parts.1;
      replies = lines_same 0 report.replies (reply_lines (length script.programs) report.history) parts.2;
    } in
    (whole, parts.3)

-- the report of a run is called legal

equal_lines : (line : ReplyLine) → is_same_line line line ≡ true
equal_lines line =
    both_true (line.pe.0 == line.pe.0 && line.call == line.call) (same_reply line.reply line.reply)
    (both_true (line.pe.0 == line.pe.0) (line.call == line.call) (equal line.pe.0) (equal line.call)) (reply_laws.laws-law.refl line.reply)

no_wrong_line : (n : ℕ) (lines : List ReplyLine) → first_wrong_from n lines lines ≡ None
no_wrong_line n [] = refl
no_wrong_line n (line ∷ lines) =
    ap (λ (b : Bool). if b then first_wrong_from (n + 1) lines lines else Some n) (equal_lines line) ∙ no_wrong_line (n + 1) lines

no_wrong_event : (script : Script) (before : List Event) (state end : State) (history : List Event) → Follows script before state → state_after service_limits state history ≡ Some end →
    follows_script script (before ++ history) ≡ true → first_wrong_event script before state history ≡ None
no_wrong_event script before state end [] f leads follow = refl
no_wrong_event script before state end (event ∷ rest) f leads follow =
    let b = bind_some (step service_limits state event) (λ s. state_after service_limits s rest) end leads in
    let goes = goes_legal script before rest state b.0 end event f b.1 b.2 follow in
    let later : Option State → Option (ℕ × ℕ) = λ o. option_map_or (λ next. first_wrong_event script (before ++ event ∷ []) next rest) o None in
    ap (λ (o : Option ℕ). broken_or o (length before) (later (step service_limits state event))) (rule_of_next script before state event goes ∙ no_rule state b.0 event b.1)
    ∙ ap later b.1
    ∙ no_wrong_event script (before ++ event ∷ []) b.0 end rest (follows_next script before state b.0 event f b.1 goes) b.2
    (ap (follows_script script) (append_assoc before (event ∷ []) rest) ∙ follow)

some_end : (o : Option State) → is_some o ≡ true → (end : State) × (o ≡ Some end)
some_end None e = cc
some_end (Some end) e = (end, refl)

verdict_of : (script : Script) (report : Report) (found : Option (ℕ × ℕ)) (ended : Bool) (place : Option ℕ) → found ≡ None → ended ≡ true → place ≡ None →
    of_parts found ended place (λ wrong. verdicts.Illegal (event_line script report wrong.0) wrong.1) (verdicts.Illegal (event_line script report (length report.history)) 14)
    (λ k. verdicts.Illegal (reply_line script k) 13) (length report.history) ≡ verdicts.Legal (length report.history)
verdict_of script report found ended place e f g = rw (e, f, g) refl

pub right_is_legal : ReportsOfRunsAreLegal
right_is_legal script report r =
    let end = some_end (state_after service_limits (opening report.rows script) report.history) r.legal in
    verdict_of script report (first_wrong_event script [] (opening report.rows script) report.history) (has_ended script report)
    (first_wrong_line report.replies (reply_lines (length script.programs) report.history))
    (no_wrong_event script [] (opening report.rows script) end.0 report.history (follows_new report.rows script) end.1 r.follows) r.ended
    (ap (first_wrong_from 0 report.replies) (sym r.replies) ∙ no_wrong_line 0 report.replies)
