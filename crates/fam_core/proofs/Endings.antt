-- A run that was played, and its lines.
use Rattle.std.proofs.Common.{◌≡◌, ℕ, ◌<◌, Bool, true, false, List, [], length, refl, sym, ap, ◌∙◌, subst, arith}
use Rattle.std.specs.Prelude.{Result, Ok, Err, None, Some, IfOk, OnErr}
use Rattle.std.specs.List.{enumerate_from, filter_map, flat_map}
use Rattle.std.proofs.lemmas.Bool.{false≢true}
use Rattle.std.proofs.lemmas.Option.{slice_get_within}
use Rattle.rand_pcg.specs.Lcg.{Lcg}
use Rattle.fam_base.specs.declared.error.NoMemory.{NoMemory}
use Rattle.fam_disk.specs.declared.disk.Disk.{Ghosts}
use Rattle.fam_keeper.specs.Keeping.{HasKeptIn}
use Rattle.fam_keeper.specs.declared.keeper.Keeper.{Keeper}
use Rattle.fam_model.specs.declared.event.Event.{Event}
use Rattle.fam_model.specs.declared.rows.Rows.{Rows}
use Rattle.fam_model.specs.declared.script.Script.{Script}
use Rattle.fam_model.specs.declared.state.State.{State}
use Rattle.fam_model.specs.History.{calls}
use Rattle.fam_model.specs.Lists.{numbers_below}
use Rattle.fam_model.specs.ReportText.{numbered, reply_lines}
use Rattle.fam_schedule.specs.Schedule.{IsScheduled, new_run, next_step, words_of}
use Rattle.fam_core.specs.declared.playing.Player.{Player}
use Rattle.fam_model.specs.Headline.{opening}
use Rattle.fam_model.specs.History.{state_after}
use Rattle.fam_model.specs.Limits.{service_limits}
use Rattle.fam_schedule.proofs.Whole.{leads_ends, tells_new}
use Rattle.std.specs.Global.{Global}
use Rattle.std.specs.Prelude.{Vec}
use Rattle.fam_model.specs.declared.report.ReplyLine.{ReplyLine}
use Rattle.fam_steps.specs.Crash.{IsFresh, IsKeptRun}
use Rattle.fam_steps.specs.Steps.{Course}
use Rattle.fam_steps.proofs.Keeping.{some_kept}
use Rattle.fam_core.specs.declared.simulation.Played.{Played}
use Rattle.fam_core.specs.Playing.{Advances, IsPlayed, IsPlayedOut, IsOpened, StandsAfter, run_of}
use Rattle.fam_core.proofs.Going.{element_at}
use Rattle.fam_core.proofs.Lining.{lined, told_lines}

-- before its first event
pub begins : (rows : Rows) (script : Script) (seed : ℕ) (player : Player) (words : Lcg) → IsOpened rows script player → words ≡ words_of seed →
    StandsAfter rows script seed player.service.history player words
begins rows script seed player words opened same =
    subst (λ history. StandsAfter rows script seed history player words) (sym opened.stands.made)
    (record { leads = ap (λ state. record { before = []; now = state; words = words }) opened.machine ∙ ap (λ w. record (new_run rows script seed) { words = w }) same; stands = opened.stands })

pub begun_course : (rows : Rows) (script : Script) (player : Player) → IsOpened rows script player → record { history = []; state = opening rows script } ≡ player.service
begun_course rows script player opened = λ i. record { history = sym opened.stands.made i; state = sym opened.machine i }

pub nothing_yet : (rows : Rows) (script : Script) (seed : ℕ) → IsScheduled rows script seed [] false
nothing_yet rows script seed = record { end = new_run rows script seed; leads = refl; stops = λ e. absurd (false≢true e) }

-- the run so far
pub so_far : (rows : Rows) (script : Script) (seed : ℕ) (history : List Event) (player : Player) (words : Lcg) → StandsAfter rows script seed history player words → IsScheduled rows script seed history false
so_far rows script seed history player words s = record { end = run_of player history words; leads = s.leads; stops = λ e. absurd (false≢true e) }

-- the whole run
pub whole : (rows : Rows) (script : Script) (seed : ℕ) (history : List Event) (player : Player) (words : Lcg) → StandsAfter rows script seed history player words →
    next_step script (run_of player history words) ≡ None → IsScheduled rows script seed history true
whole rows script seed history player words s none = record { end = run_of player history words; leads = s.leads; stops = λ e. none }

-- the state behind it
pub behind : (rows : Rows) (script : Script) (seed : ℕ) (history : List Event) (player : Player) (words : Lcg) → StandsAfter rows script seed history player words →
    state_after service_limits (opening rows script) history ≡ Some player.service.state
behind rows script seed history player words s = (leads_ends script (new_run rows script seed) history (run_of player history words) (tells_new rows script seed) s.leads).reached

-- its lines
pub all_told : (rows : Rows) (script : Script) (seed : ℕ) (history : List Event) (player : Player) (words : Lcg) → StandsAfter rows script seed history player words →
    flat_map (λ turn. turn.lines.items) player.turns ≡ reply_lines (length script.programs) history
all_told rows script seed history player words s =
    let stands = s.stands in
    let count = stands.count in
    lined (λ pe. filter_map (numbered pe) (enumerate_from 0 (calls history pe))) player.turns
    (λ pe turn at.
    let low : pe < length player.turns = slice_get_within player.turns pe turn at in
    let text = element_at script.programs pe (omega (arith, low, count)) in
    let one = stands.tells words pe text.0 text.1 in
    (stands.turns pe turn text.0 at text.1).lines_are ∙ sym (told_lines text.0 pe one.p.next_call one.p.started history one.tells))
    ∙ ap (λ n. flat_map (λ pe. filter_map (numbered pe) (enumerate_from 0 (calls history pe))) (numbers_below n)) count

-- nobody may act any more
pub played_out : (rows : Rows) (script : Script) (seed : ℕ) (old new : Player) (words later : Lcg) → StandsAfter rows script seed old.service.history old words →
    Advances old words new later (Ok false) → IsPlayed rows script seed new true
played_out rows script seed old new words later s (same, none) =
    subst (λ player. IsPlayed rows script seed player true) (sym same) (words, s, none script old.service.history s.stands)

-- a run that was played is also one so far
pub played_so_far : (rows : Rows) (script : Script) (seed : ℕ) (player : Player) (all : Bool) → IsPlayed rows script seed player all → IsScheduled rows script seed player.service.history false
played_so_far rows script seed player true (words, s, none) = so_far rows script seed player.service.history player words s
played_so_far rows script seed player false s = s

-- what is handed out of a run so far
pub out_so_far : (rows : Rows) (script : Script) (seed : ℕ) (player : Player) (played : Played) → played.service ≡ player.service → played.whole ≡ false →
    IsScheduled rows script seed player.service.history false → IsPlayedOut rows script seed played
out_so_far rows script seed player played same part s =
    record {
      scheduled = subst (λ w. IsScheduled rows script seed played.service.history w) (sym part) (subst (λ (course : Course). IsScheduled rows script seed course.history false) (sym same) s);
      state = λ e. absurd (false≢true (sym part ∙ e));
      replies = λ e. absurd (false≢true (sym part ∙ e));
    }

-- and of a whole one
pub out_whole : (rows : Rows) (script : Script) (seed : ℕ) (player : Player) (replies : Vec ReplyLine Global) → replies.items ≡ flat_map (λ turn. turn.lines.items) player.turns →
    IsPlayed rows script seed player true → IsPlayedOut rows script seed (record { service = player.service; replies = replies; whole = true })
out_whole rows script seed player replies lines (words, s, none) =
    record {
      scheduled = whole rows script seed player.service.history player words s none;
      state = λ e. behind rows script seed player.service.history player words s;
      replies = λ e. lines ∙ all_told rows script seed player.service.history player words s;
    }

-- the rows that a keeper has behind a script, or where none was played
pub any_kept : {D : Type 0} {disk : Ghosts D} (start : State) (first now : Keeper D disk) (rows : Rows) (result : Result Played NoMemory) → IsFresh first rows → IfOk result (λ played. IsKeptRun start first played.service now) →
    OnErr result (now ≡ first) → (kept : Rows) × HasKeptIn now.journal kept
any_kept start first now rows (Ok played) fresh kept untouched = some_kept now.journal now.stopped played.service.state.rows kept.kept
any_kept start first now rows (Err e) fresh kept untouched = (rows, subst (λ k. HasKeptIn k.journal rows) (sym untouched) fresh.kept)
