-- The calls of each program follow its text, with one event more.
use Rattle.std.proofs.Common.{◌≡◌, ℕ, ◌+◌, ◌<◌, Bool, true, false, List, [], ◌∷◌, ◌++◌, refl, sym, ap, ◌∙◌, arith, append_assoc, append-nil, subst}
use Rattle.std.specs.Prelude.{◌==◌, ◌&&◌, Some, None, is_some}
use Rattle.std.specs.List.{list_all, filter_map}
use Rattle.std.proofs.lemmas.List.Folds.{list_all-append}
use Rattle.fam_model.specs.declared.call.Call.{Call}
use Rattle.fam_model.specs.declared.event.Event.{Event}
use Rattle.fam_model.specs.declared.reply.Reply.{Reply}
use Rattle.fam_model.specs.declared.script.Program.{Program}
use Rattle.fam_model.specs.declared.state.Started.{Started}
use Rattle.fam_model.specs.declared.state.Started.TheVariants as begun
use Rattle.fam_model.specs.History.{calls, answered_with, reply_made}
use Rattle.fam_model.specs.Text.{Asked, next_call, is_call, follows_after}
use Rattle.fam_model.specs.Turn.{call_made}
use Rattle.fam_schedule.specs.Schedule.{replies_to}
use Rattle.fam_schedule.proofs.Told.{is_mine, Below, Waits, told_as, below_more, below_append, silent_append, silent_below, calls_skip, calls_made, calls_answered}

-- the call has its reply
abbrev pub has_reply : Asked → Bool
has_reply asked = is_some asked.1

-- the replies of calls
abbrev pub replies_of : List Asked → List Reply
replies_of asked = filter_map (λ a. a.1) asked

same_and : (a b c : Bool) → (a && (b && c)) ≡ ((a && b) && c)
same_and true b c = refl
same_and false b c = refl

and_same : (a b c d : Bool) → b ≡ (c && d) → (a && b) ≡ ((a && c) && d)
and_same a b c d e = ap (λ x. a && x) e ∙ same_and a c d

-- calls follow in two parts where the first ones all have replies
pub follows_append : (program : Program) (told : List Reply) (xs ys : List Asked) → list_all has_reply xs ≡ true →
    follows_after program told (xs ++ ys) ≡ (follows_after program told xs && follows_after program (told ++ replies_of xs) ys)
follows_append program told [] ys h = ap (λ rs. follows_after program rs ys) (sym (append-nil told))
follows_append program told ((asked, None) ∷ xs) ys h = cc
follows_append program told ((asked, Some given) ∷ xs) ys h =
    let later = follows_append program (told ++ given ∷ []) xs ys h in
    let grouped : (told ++ given ∷ []) ++ replies_of xs ≡ told ++ (given ∷ replies_of xs) = append_assoc told (given ∷ []) (replies_of xs) in
    and_same (is_call (next_call program told) asked) (follows_after program (told ++ given ∷ []) (xs ++ ys))
    (follows_after program (told ++ given ∷ []) xs) (follows_after program (told ++ (given ∷ replies_of xs)) ys)
    (later ∙ ap (λ rs. follows_after program (told ++ given ∷ []) xs && follows_after program rs ys) grouped)

-- the program has made calls below n, and each has its reply
pub record Settled (program : Program) (pe n : ℕ) (history : List Event) : Type 0 where
  pub below : Below pe n history
  pub replied : list_all has_reply (calls history pe) ≡ true
  pub follows : follows_after program [] (calls history pe) ≡ true

-- the program waits for the answer of call c, which is the last below n
pub record Awaits (program : Program) (pe n c : ℕ) (history : List Event) : Type 0 where
  pub asked : Call
  pub waits : Waits pe c asked history
  pub settled : Settled program pe c waits.earlier
  pub due : is_call (next_call program (replies_to waits.earlier pe)) asked ≡ true
  pub number : c < n

-- the program's calls follow its text, where this is the call that it has started
abbrev pub Tells : Program → ℕ → ℕ → Started → List Event → Type 0
Tells program pe n begun.Nothing history = Settled program pe n history
Tells program pe n (begun.Operation c) history = Awaits program pe n c history
Tells program pe n (begun.Barrier c) history = Awaits program pe n c history

-- an event that is not the program's

pub waits_below : (pe n c : ℕ) (asked : Call) (history : List Event) → (w : Waits pe c asked history) → c < n → Below pe n history
waits_below pe n c asked history w h =
    let number : w.issue.call ≡ c = w.number in
    let all : Below pe n (w.earlier ++ w.issue ∷ w.later) =
    below_append pe n w.earlier (w.issue ∷ w.later) (below_more pe c n w.earlier (omega arith) w.below)
    ((λ mine. omega arith), silent_below pe n w.later w.silent) in
    subst (Below pe n) (sym w.whole) all

settled_skip : (program : Program) (pe n : ℕ) (history : List Event) (event : Event) → is_mine pe event ≡ false →
    Settled program pe n history → Settled program pe n (history ++ event ∷ [])
settled_skip program pe n history event other s =
    let same = calls_skip history pe n event s.below other in
    record {
      below = below_append pe n history (event ∷ []) s.below ((λ mine. cc), tt);
      replied = ap (list_all has_reply) same ∙ s.replied;
      follows = ap (follows_after program []) same ∙ s.follows;
    }

awaits_skip : (program : Program) (pe n c : ℕ) (history : List Event) (event : Event) → is_mine pe event ≡ false →
    Awaits program pe n c history → Awaits program pe n c (history ++ event ∷ [])
awaits_skip program pe n c history event other a =
    let w = a.waits in
    record {
      asked = a.asked;
      waits = record {
        earlier = w.earlier;
        issue = w.issue;
        later = w.later ++ event ∷ [];
        whole = ap (λ h. h ++ event ∷ []) w.whole ∙ append_assoc w.earlier (w.issue ∷ w.later) (event ∷ []);
        below = w.below;
        mine = w.mine;
        number = w.number;
        made = w.made;
        no_reply = w.no_reply;
        silent = silent_append pe w.later (event ∷ []) w.silent (other, tt);
        told = calls_skip history pe n event (waits_below pe n c a.asked history w a.number) other ∙ w.told;
      };
      settled = a.settled;
      due = a.due;
      number = a.number;
    }

pub tells_skip : (program : Program) (pe n : ℕ) (s : Started) (history : List Event) (event : Event) → is_mine pe event ≡ false →
    Tells program pe n s history → Tells program pe n s (history ++ event ∷ [])
tells_skip program pe n begun.Nothing history event other t = settled_skip program pe n history event other t
tells_skip program pe n (begun.Operation c) history event other t = awaits_skip program pe n c history event other t
tells_skip program pe n (begun.Barrier c) history event other t = awaits_skip program pe n c history event other t

-- a call

both_true : (a b : Bool) → a ≡ true → b ≡ true → (a && b) ≡ true
both_true a b e f = rw (e, f) refl

settled_longer : (program : Program) (pe n m : ℕ) (history later : List Event) (asked : Call) (given : Reply) → Settled program pe n history →
    is_call (next_call program (replies_to history pe)) asked ≡ true → Below pe m later →
    calls later pe ≡ calls history pe ++ told_as asked (Some given) ∷ [] → Settled program pe m later
settled_longer program pe n m history later asked given s due below same =
    record {
      below = below;
      replied = ap (list_all has_reply) same ∙ list_all-append has_reply (calls history pe) (told_as asked (Some given) ∷ [])
          ∙ both_true (list_all has_reply (calls history pe)) true s.replied refl;
      follows = ap (follows_after program []) same
          ∙ follows_append program [] (calls history pe) (told_as asked (Some given) ∷ []) s.replied
          ∙ both_true (follows_after program [] (calls history pe)) (is_call (next_call program (replies_to history pe)) asked && true)
          s.follows (both_true (is_call (next_call program (replies_to history pe)) asked) true due refl);
    }

below_one : (pe n : ℕ) (history : List Event) (event : Event) → Below pe n history → event.call ≡ n → Below pe (n + 1) (history ++ event ∷ [])
below_one pe n history event below number =
    below_append pe (n + 1) history (event ∷ []) (below_more pe n (n + 1) history (omega arith) below) ((λ mine. omega arith), tt)

-- a call that has its reply at once
pub tells_replied : (program : Program) (pe n : ℕ) (history : List Event) (event : Event) (asked : Call) (given : Reply) → Settled program pe n history →
    (event.pe.0 == pe) ≡ true → event.call ≡ n → call_made event.what ≡ Some asked → reply_made event.what ≡ Some given →
    is_call (next_call program (replies_to history pe)) asked ≡ true → Settled program pe (n + 1) (history ++ event ∷ [])
tells_replied program pe n history event asked given s mine number made reply due =
    settled_longer program pe n (n + 1) history (history ++ event ∷ []) asked given s due (below_one pe n history event s.below number)
    (calls_made history pe n event asked s.below mine (omega arith) made ∙ ap (λ r. calls history pe ++ told_as asked r ∷ []) reply)

-- a call that is started
pub tells_started : (program : Program) (pe n : ℕ) (history : List Event) (event : Event) (asked : Call) → Settled program pe n history →
    (event.pe.0 == pe) ≡ true → event.call ≡ n → call_made event.what ≡ Some asked → reply_made event.what ≡ None →
    is_call (next_call program (replies_to history pe)) asked ≡ true → Awaits program pe (n + 1) n (history ++ event ∷ [])
tells_started program pe n history event asked s mine number made reply due =
    record {
      asked = asked;
      waits = record {
        earlier = history;
        issue = event;
        later = [];
        whole = refl;
        below = s.below;
        mine = mine;
        number = number;
        made = made;
        no_reply = reply;
        silent = tt;
        told = calls_made history pe n event asked s.below mine (omega arith) made ∙ ap (λ r. calls history pe ++ told_as asked r ∷ []) reply;
      };
      settled = s;
      due = due;
      number = omega arith;
    }

-- the answer to a call that was started
pub tells_answered : (program : Program) (pe n c : ℕ) (history : List Event) (event : Event) (given : Reply) → Awaits program pe n c history →
    (event.pe.0 == pe) ≡ true → event.call ≡ c → call_made event.what ≡ None → answered_with event.what ≡ Some given →
    Settled program pe n (history ++ event ∷ [])
tells_answered program pe n c history event given a mine number made answered =
    let w = a.waits in
    let low : c < n = a.number in
    settled_longer program pe c n w.earlier (history ++ event ∷ []) a.asked given a.settled a.due
    (below_append pe n history (event ∷ []) (waits_below pe n c a.asked history w a.number) ((λ mine. omega arith), tt))
    (calls_answered history pe c a.asked event given w mine number made answered)

-- in any case the calls so far follow the text

settled_follows : (program : Program) (pe n : ℕ) (history : List Event) → Settled program pe n history → follows_after program [] (calls history pe) ≡ true
settled_follows program pe n history s = s.follows

awaits_follows : (program : Program) (pe n c : ℕ) (history : List Event) → Awaits program pe n c history → follows_after program [] (calls history pe) ≡ true
awaits_follows program pe n c history a =
    let w = a.waits in
    ap (follows_after program []) w.told
    ∙ follows_append program [] (calls w.earlier pe) (told_as a.asked None ∷ []) a.settled.replied
    ∙ both_true (follows_after program [] (calls w.earlier pe)) (is_call (next_call program (replies_to w.earlier pe)) a.asked) a.settled.follows a.due

pub tells_follows : (program : Program) (pe n : ℕ) (s : Started) (history : List Event) → Tells program pe n s history → follows_after program [] (calls history pe) ≡ true
tells_follows program pe n begun.Nothing history t = settled_follows program pe n history t
tells_follows program pe n (begun.Operation c) history t = awaits_follows program pe n c history t
tells_follows program pe n (begun.Barrier c) history t = awaits_follows program pe n c history t
