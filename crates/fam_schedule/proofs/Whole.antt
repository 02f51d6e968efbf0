-- The law: a history that the schedule gives is one legal run of its script.
use Rattle.std.proofs.Common.{◌≡◌, ℕ, ◌+◌, ◌<◌, ◌≤◌, Bool, true, List, [], ◌∷◌, ◌++◌, refl, sym, ap, ◌∙◌, arith, append_assoc, append-nil, subst, suc}
use Rattle.std.specs.Prelude.{◌-◌, ◌^◌, ◌&&◌, Option, Some, is_some, slice_get, map, length, nat_lt}
use Rattle.std.specs.List.{list_all, enumerate_from}
use Rattle.std.specs.Option.{option_map}
use Rattle.std.proofs.lemmas.List.FromFn.{length-enumerate_from, get_or-enumerate_from}
use Rattle.std.proofs.lemmas.Option.{slice_get_within, slice_get-get_or, get_or_from_slice_get, slice_get-map}
use Rattle.fam_base.specs.declared.naming.Who.{Who}
use Rattle.fam_model.specs.declared.event.Event.{Event}
use Rattle.fam_model.specs.declared.rows.Rows.{Rows}
use Rattle.fam_model.specs.declared.script.Script.{Script}
use Rattle.fam_model.specs.Earned.{disk_faults}
use Rattle.fam_model.specs.Headline.{opening, follows_script, IsRun}
use Rattle.fam_model.specs.History.{state_after, calls}
use Rattle.fam_model.specs.Limits.{service_limits}
use Rattle.fam_model.specs.Lists.{◌>>=◌}
use Rattle.fam_model.specs.Opened.{new_program}
use Rattle.fam_model.specs.Step.{step}
use Rattle.fam_model.specs.Text.{follows}
use Rattle.fam_schedule.specs.Schedule.{Run, LeadsTo, IsScheduled, new_run, went_on}
use Rattle.fam_schedule.proofs.Follows.{tells_follows}
use Rattle.fam_schedule.proofs.Refusals.{comes_instead}
use Rattle.fam_schedule.proofs.Tame.{all_have_room, has_room, instead_has_room, room_earned}
use Rattle.fam_schedule.proofs.Runs.{TellsAll, tells_instead}

-- the start

abbrev pub pair : {A : Type 0} → ℕ → A → ℕ × A
pair n x = (n, x)

pub enumerated : {A : Type 0} (n : ℕ) (xs : List A) (k : ℕ) (x : A) → slice_get xs k ≡ Some x → slice_get (enumerate_from n xs) k ≡ Some (pair (n + k) x)
enumerated n xs k x there =
    let low : k < length xs = slice_get_within xs k x there in
    let same : length (enumerate_from n xs) ≡ length xs = length-enumerate_from n xs in
    slice_get-get_or (enumerate_from n xs) k (pair 0 x) (omega arith)
    ∙ ap Some (get_or-enumerate_from n xs k (pair 0 x) low ∙ ap (pair (n + k)) (get_or_from_slice_get xs k x x there))

pub opened_program : (local : ℕ) (whos : List Who) (pe : ℕ) (who : Who) → slice_get whos pe ≡ Some who →
    slice_get (map (λ entry. new_program entry.1 (nat_lt entry.0 local)) (enumerate_from 0 whos)) pe ≡ Some (new_program who (nat_lt pe local))
opened_program local whos pe who there =
    slice_get-map (λ entry. new_program entry.1 (nat_lt entry.0 local)) (enumerate_from 0 whos) pe
    ∙ ap (option_map (λ entry. new_program entry.1 (nat_lt entry.0 local))) (enumerated 0 whos pe who there)
    ∙ (let number : 0 + pe ≡ pe = omega arith in ap (λ k. Some (new_program who (nat_lt k local))) number)

pub tells_new : (rows : Rows) (script : Script) (seed : ℕ) → TellsAll script (new_run rows script seed)
tells_new rows script seed pe text there =
    let whos = map (λ program. program.who) script.programs in
    let who_there : slice_get whos pe ≡ Some text.who = slice_get-map (λ program. program.who) script.programs pe ∙ ap (option_map (λ program. program.who)) there in
    record {
      p = new_program text.who (nat_lt pe (length script.programs));
      there = opened_program (length script.programs) whos pe text.who who_there;
      tells = record { below = tt; replied = refl; follows = refl };
    }

-- the way

pub record Ends (script : Script) (run : Run) (history : List Event) (end : Run) : Type 0 where
  pub tells : TellsAll script end
  pub before : end.before ≡ run.before ++ history
  pub reached : state_after service_limits run.now history ≡ Some end.now
  pub room : all_have_room history ≡ true

both_true : (a b : Bool) → a ≡ true → b ≡ true → (a && b) ≡ true
both_true a b e f = rw (e, f) refl

bind_known : {A B : Type 0} (o : Option A) (x : A) (f : A → Option B) → o ≡ Some x → (o >>= f) ≡ f x
bind_known o x f e = rw e refl

pub leads_ends : (script : Script) (run : Run) (history : List Event) (end : Run) → TellsAll script run → LeadsTo script run history end → Ends script run history end
leads_ends script run [] end all leads =
    record {
      tells = subst (TellsAll script) (sym leads) all;
      before = ap (λ r. r.before) leads ∙ sym (append-nil run.before);
      reached = ap (λ r. Some r.now) (sym leads);
      room = refl;
    }
leads_ends script run (event ∷ history) end all (due, words, next, chosen, comes, steps, leads) =
    let instead = comes_instead script run due event words chosen comes in
    let later = leads_ends script (went_on run event next words) history end (tells_instead script run event next words all instead steps) leads in
    record {
      tells = later.tells;
      before = later.before ∙ append_assoc run.before (event ∷ []) history;
      reached = bind_known (step service_limits run.now event) next (λ s. state_after service_limits s history) steps ∙ later.reached;
      room = both_true (has_room event.what) (all_have_room history) (instead_has_room script run event instead) later.room;
    }

-- the end

next_place : {A : Type 0} (x : A) (xs : List A) (k : ℕ) (y : A) → slice_get xs k ≡ Some y → slice_get (x ∷ xs) (suc k) ≡ Some y
next_place x xs k y there =
    let low : k < length xs = slice_get_within xs k y there in
    slice_get-get_or (x ∷ xs) (suc k) y (omega arith) ∙ ap Some (get_or_from_slice_get xs k y y there)

first_place : {A : Type 0} (test : ℕ × A → Bool) (n : ℕ) (x : A) (xs : List A) → test (pair (n + 0) x) ≡ true → test (pair n x) ≡ true
first_place test n x xs h = let zero : n ≡ n + 0 = omega arith in ap (λ m. test (pair m x)) zero ∙ h

all_from : {A : Type 0} (test : ℕ × A → Bool) (n : ℕ) (xs : List A) → ((k : ℕ) (x : A) → slice_get xs k ≡ Some x → test (pair (n + k) x) ≡ true) →
    list_all test (enumerate_from n xs) ≡ true
all_from test n [] h = refl
all_from test n (x ∷ xs) h =
    both_true (test (pair n x)) (list_all test (enumerate_from (n + 1) xs)) (first_place test n x xs (h 0 x (slice_get-get_or (x ∷ xs) 0 x (omega arith))))
    (all_from test (n + 1) xs (λ k y there.
    let here : test (pair (n + suc k) y) ≡ true = h (suc k) y (next_place x xs k y there) in
    let number : (n + 1) + k ≡ n + suc k = omega arith in
    ap (λ m. test (pair m y)) number ∙ here))

scheduled_follows : (script : Script) (end : Run) → TellsAll script end → follows_script script end.before ≡ true
scheduled_follows script end all =
    all_from (λ entry. follows entry.1 (calls end.before entry.0)) 0 script.programs
    (λ pe text there.
    let one = all pe text there in
    let number : 0 + pe ≡ pe = omega arith in
    ap (λ k. follows text (calls end.before k)) number ∙ tells_follows text pe one.p.next_call one.p.started end.before one.tells)

-- a history that the schedule gives is one legal run of its script
pub scheduled_is_run : (rows : Rows) (script : Script) (seed : ℕ) (history : List Event) (whole : Bool) (faults_before faults_after : ℕ) → IsScheduled rows script seed history whole →
    (faults_after < 2 ^ 64 - 1 → disk_faults (history ∷ []) + faults_before ≤ faults_after) → IsRun rows script history faults_before faults_after
scheduled_is_run rows script seed history whole faults_before faults_after s faults =
    let ends = leads_ends script (new_run rows script seed) history s.end (tells_new rows script seed) s.leads in
    record {
      legal = ap is_some ends.reached;
      follows = ap (follows_script script) (sym ends.before) ∙ scheduled_follows script s.end ends.tells;
      earned = room_earned (opening rows script) s.end.now history faults_before faults_after ends.reached ends.room faults;
    }
