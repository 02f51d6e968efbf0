-- What a history tells of a program's calls once it has one event more.
use Rattle.std.proofs.Common.{◌≡◌, ℕ, ◌<◌, ◌≤◌, Bool, true, false, List, [], ◌∷◌, ◌++◌, refl, sym, ap, ◌∙◌, arith, append_assoc, append-nil, le_refl}
use Rattle.std.specs.Prelude.{◌==◌, ◌&&◌, ◌||◌, Option, Some, None, is_some, if◌then◌else◌}
use Rattle.std.specs.List.{filter_map}
use Rattle.std.specs.Option.{option_or}
use Rattle.std.proofs.lemmas.Bool.{eqb-true}
use Rattle.std.proofs.lemmas.List.Elements.{filter_map-append}
use Rattle.fam_model.specs.declared.call.Call.{Call}
use Rattle.fam_model.specs.declared.event.Event.{Event}
use Rattle.fam_model.specs.declared.event.What.{What}
use Rattle.fam_model.specs.declared.event.What.TheVariants as what
use Rattle.fam_model.specs.declared.reply.Reply.{Reply}
use Rattle.fam_model.specs.History.{calls, answer_of, asked_in, answered_with, reply_made}
use Rattle.fam_model.specs.Lists.{◌>>=◌}
use Rattle.fam_model.specs.Text.{Asked}
use Rattle.fam_model.specs.Turn.{call_made}
use Rattle.fam_schedule.proofs.Options.{or_none}

-- the event makes or answers a call
abbrev pub speaks : What → Bool
speaks what = is_some (call_made what) || is_some (answered_with what)

-- and it is one of the program's
abbrev pub is_mine : ℕ → Event → Bool
is_mine pe event = event.pe.0 == pe && speaks event.what

-- the calls that are made and answered have numbers below n
abbrev pub Below : ℕ → ℕ → List Event → Type 0
Below pe n [] = Unit {0}
Below pe n (event ∷ history) = (is_mine pe event ≡ true → event.call < n) × Below pe n history

-- no call is made or answered
abbrev pub Silent : ℕ → List Event → Type 0
Silent pe [] = Unit {0}
Silent pe (event ∷ history) = (is_mine pe event ≡ false) × Silent pe history

pub below_more : (pe n m : ℕ) (history : List Event) → n ≤ m → Below pe n history → Below pe m history
below_more pe n m [] h below = tt
below_more pe n m (event ∷ history) h below =
    ((λ mine. let low : event.call < n = below.0 mine in omega arith), below_more pe n m history h below.1)

pub below_append : (pe n : ℕ) (xs ys : List Event) → Below pe n xs → Below pe n ys → Below pe n (xs ++ ys)
below_append pe n [] ys first second = second
below_append pe n (event ∷ xs) ys first second = (first.0, below_append pe n xs ys first.1 second)

pub silent_append : (pe : ℕ) (xs ys : List Event) → Silent pe xs → Silent pe ys → Silent pe (xs ++ ys)
silent_append pe [] ys first second = second
silent_append pe (event ∷ xs) ys first second = (first.0, silent_append pe xs ys first.1 second)

pub silent_below : (pe n : ℕ) (history : List Event) → Silent pe history → Below pe n history
silent_below pe n [] silent = tt
silent_below pe n (event ∷ history) silent =
    ((λ mine. let none = silent.0 in cc), silent_below pe n history silent.1)

-- answers

second_true : (p q : Bool) → (p && q) ≡ true → q ≡ true
second_true true q e = e
second_true false q e = cc

first_true : (p q : Bool) → (p && q) ≡ true → p ≡ true
first_true true q e = refl
first_true false q e = cc

if_or : (b : Bool) (o r s : Option Reply) → (b ≡ true → is_some o ≡ true) → (if b then o else option_or r s) ≡ option_or (if b then o else r) s
if_or true (Some x) r s h = refl
if_or true None r s h = let no : false ≡ true = h refl in cc
if_or false o r s h = refl

-- a later part answers what an earlier one does not
pub answer_append : (xs ys : List Event) (pe k : ℕ) → answer_of (xs ++ ys) pe k ≡ option_or (answer_of xs pe k) (answer_of ys pe k)
answer_append [] ys pe k = refl
answer_append (event ∷ xs) ys pe k =
    let test = event.pe.0 == pe && event.call == k && is_some (answered_with event.what) in
    let answered = answered_with event.what in
    ap (λ later. if test then answered else later) (answer_append xs ys pe k)
    ∙ if_or test answered (answer_of xs pe k) (answer_of ys pe k)
    (second_true (event.pe.0 == pe && event.call == k) (is_some answered))

not_mine : (mine named : Bool) (made : Option Call) (answered : Option Reply) → (mine && (is_some made || is_some answered)) ≡ false →
    (mine && named && is_some answered) ≡ false
not_mine false named made answered e = refl
not_mine true true None None e = refl
not_mine true false None None e = refl
not_mine true named (Some c) answered e = cc
not_mine true named None (Some r) e = cc

-- an event that is not the program's answers nothing of it
pub answer_skip : (event : Event) (history : List Event) (pe k : ℕ) → is_mine pe event ≡ false → answer_of (event ∷ history) pe k ≡ answer_of history pe k
answer_skip event history pe k e =
    ap (λ test. if test then answered_with event.what else answer_of history pe k)
    (not_mine (event.pe.0 == pe) (event.call == k) (call_made event.what) (answered_with event.what) e)

pub answer_silent : (history : List Event) (pe k : ℕ) → Silent pe history → answer_of history pe k ≡ None
answer_silent [] pe k silent = refl
answer_silent (event ∷ history) pe k silent = answer_skip event history pe k silent.0 ∙ answer_silent history pe k silent.1

is_answer : (mine named : Bool) (made : Option Call) (answered : Option Reply) → (mine && named && is_some answered) ≡ true →
    ((mine && (is_some made || is_some answered)) ≡ true) × (named ≡ true)
is_answer true true None (Some r) e = (refl, refl)
is_answer true true (Some c) (Some r) e = (refl, refl)
is_answer true true made None e = cc
is_answer true false made answered e = cc
is_answer false named made answered e = cc

none_if : (b : Bool) (o later : Option Reply) → (b ≡ true → (n : ℕ) × (n < n)) → later ≡ None → (if b then o else later) ≡ None
none_if true o later h e = let bad = h refl in let low : bad.0 < bad.0 = bad.1 in let no : ⊥ = omega arith in absurd no
none_if false o later h e = e

-- a call above all those that were made has no answer
pub answer_below : (history : List Event) (pe n k : ℕ) → Below pe n history → n ≤ k → answer_of history pe k ≡ None
answer_below [] pe n k below h = refl
answer_below (event ∷ history) pe n k below h =
    none_if (event.pe.0 == pe && event.call == k && is_some (answered_with event.what)) (answered_with event.what) (answer_of history pe k)
    (λ test.
    let parts = is_answer (event.pe.0 == pe) (event.call == k) (call_made event.what) (answered_with event.what) test in
    let low : event.call < n = below.0 parts.0 in
    let same : event.call ≡ k = eqb-true event.call k parts.1 in
    (k, omega arith))
    (answer_below history pe n k below.1 h)

-- calls

-- a call of the program, with its reply
abbrev pub asked_if : Bool → Option Reply → Call → Option Asked
asked_if mine given asked = if mine then Some (asked, given) else None

-- the call that an event makes, where this is its answer
abbrev pub asked_with : Option Reply → ℕ → Event → Option Asked
asked_with answered pe event =
    call_made event.what >>= asked_if (event.pe.0 == pe) (option_or (reply_made event.what) answered)

asked_not_mine : (mine : Bool) (made : Option Call) (answered : Option Reply) (other : Option Reply) → (mine && (is_some made || is_some answered)) ≡ false →
    (made >>= asked_if mine other) ≡ None
asked_not_mine mine None answered other e = refl
asked_not_mine false (Some c) answered other e = refl
asked_not_mine true (Some c) answered other e = cc

pub asked_skip : (history : List Event) (pe : ℕ) (event : Event) → is_mine pe event ≡ false → asked_in history pe event ≡ None
asked_skip history pe event e =
    asked_not_mine (event.pe.0 == pe) (call_made event.what) (answered_with event.what)
    (option_or (reply_made event.what) (answer_of history pe event.call)) e

same_by : (mine : Bool) (xs ys : List Event) (pe n : ℕ) (event : Event) → is_mine pe event ≡ mine →
    (is_mine pe event ≡ true → event.call < n) → ((k : ℕ) → k < n → answer_of xs pe k ≡ answer_of ys pe k) → asked_in xs pe event ≡ asked_in ys pe event
same_by true xs ys pe n event e low same = ap (λ answered. asked_with answered pe event) (same event.call (low e))
same_by false xs ys pe n event e low same = asked_skip xs pe event e ∙ sym (asked_skip ys pe event e)

option_cons : {A B : Type 0} (f g : A → Option B) (x : A) (xs : List A) → f x ≡ g x → filter_map f xs ≡ filter_map g xs → filter_map f (x ∷ xs) ≡ filter_map g (x ∷ xs)
option_cons f g x xs e h = rw (e, h) refl

-- calls below n are told alike where their answers are
pub told_same : (xs ys : List Event) (pe n : ℕ) (events : List Event) → Below pe n events →
    ((k : ℕ) → k < n → answer_of xs pe k ≡ answer_of ys pe k) → filter_map (asked_in xs pe) events ≡ filter_map (asked_in ys pe) events
told_same xs ys pe n [] below same = refl
told_same xs ys pe n (event ∷ events) below same =
    option_cons (asked_in xs pe) (asked_in ys pe) event events
    (same_by (is_mine pe event) xs ys pe n event refl below.0 same)
    (told_same xs ys pe n events below.1 same)

pub told_silent : (history : List Event) (pe : ℕ) (events : List Event) → Silent pe events → filter_map (asked_in history pe) events ≡ []
told_silent history pe [] silent = refl
told_silent history pe (event ∷ events) silent = rw (asked_skip history pe event silent.0) (told_silent history pe events silent.1)

-- an event that is not the program's tells nothing of it
pub calls_skip : (history : List Event) (pe n : ℕ) (event : Event) → Below pe n history → is_mine pe event ≡ false → calls (history ++ event ∷ []) pe ≡ calls history pe
calls_skip history pe n event below e =
    let longer = history ++ event ∷ [] in
    let alone : Silent pe (event ∷ []) = (e, tt) in
    let same : (k : ℕ) → k < n → answer_of longer pe k ≡ answer_of history pe k =
    λ k h. answer_append history (event ∷ []) pe k ∙ ap (option_or (answer_of history pe k)) (answer_silent (event ∷ []) pe k alone) ∙ or_none (answer_of history pe k) in
    filter_map-append (asked_in longer pe) history (event ∷ [])
    ∙ ap (λ told. filter_map (asked_in longer pe) history ++ told) (told_silent longer pe (event ∷ []) alone)
    ∙ append-nil (filter_map (asked_in longer pe) history)
    ∙ told_same longer history pe n history below same

-- a call that is made is told last, with the reply that its event gives
asked_made : (mine : Bool) (made : Option Call) (asked : Call) (given : Option Reply) → mine ≡ true → made ≡ Some asked →
    (made >>= asked_if mine given) ≡ asked_if true given asked
asked_made mine made asked given e f = rw (f, e) refl

cons_none : {A B : Type 0} (f : A → Option B) (x : A) → f x ≡ None → filter_map f (x ∷ []) ≡ []
cons_none f x e = rw e refl

unmade : (mine : Bool) (made : Option Call) (given : Option Reply) → made ≡ None → (made >>= asked_if mine given) ≡ None
unmade mine made given e = rw e refl

equal : (n : ℕ) → (n == n) ≡ true
equal n = grind arith

cons_some : {A B : Type 0} (f : A → Option B) (x : A) (y : B) → f x ≡ Some y → filter_map f (x ∷ []) ≡ y ∷ []
cons_some f x y e = rw e refl

speaks_made : (what : What) (asked : Call) → call_made what ≡ Some asked → answered_with what ≡ None
speaks_made (what.Meta a given) asked e = refl
speaks_made (what.Issue a given) asked e = refl
speaks_made (what.Piece piece given) asked e = refl
speaks_made (what.Answer given) asked e = cc
speaks_made (what.OpenContext context) asked e = refl
speaks_made (what.CloseContext context given) asked e = refl
speaks_made (what.Fence context) asked e = refl
speaks_made (what.Quiet context given) asked e = refl
speaks_made (what.Wait context named given) asked e = refl
speaks_made what.Arrive asked e = refl
speaks_made what.Leave asked e = refl
speaks_made what.Crash asked e = refl
speaks_made (what.Lose piece) asked e = refl
speaks_made (what.Refused a error doubt) asked e = refl

none_either : (b : Bool) (answered : Option Reply) → answered ≡ None → (if b then answered else None) ≡ None
none_either true answered e = e
none_either false answered e = refl

-- an event that makes a call answers none
pub made_answers : (event : Event) (asked : Call) (pe k : ℕ) → call_made event.what ≡ Some asked → answer_of (event ∷ []) pe k ≡ None
made_answers event asked pe k made =
    none_either (event.pe.0 == pe && event.call == k && is_some (answered_with event.what)) (answered_with event.what) (speaks_made event.what asked made)

-- a call with its reply
abbrev pub told_as : Call → Option Reply → Asked
told_as asked given = (asked, given)

-- a call that is made is told behind the others
pub calls_made : (history : List Event) (pe n : ℕ) (event : Event) (asked : Call) → Below pe n history → (event.pe.0 == pe) ≡ true →
    n ≤ event.call → call_made event.what ≡ Some asked → calls (history ++ event ∷ []) pe ≡ calls history pe ++ told_as asked (reply_made event.what) ∷ []
calls_made history pe n event asked below mine h made =
    let longer = history ++ event ∷ [] in
    let same : (k : ℕ) → answer_of longer pe k ≡ answer_of history pe k =
    λ k. answer_append history (event ∷ []) pe k ∙ ap (option_or (answer_of history pe k)) (made_answers event asked pe k made) ∙ or_none (answer_of history pe k) in
    let unanswered : answer_of longer pe event.call ≡ None = same event.call ∙ answer_below history pe n event.call below h in
    let given : option_or (reply_made event.what) (answer_of longer pe event.call) ≡ reply_made event.what =
    ap (option_or (reply_made event.what)) unanswered ∙ or_none (reply_made event.what) in
    let last : asked_in longer pe event ≡ Some (told_as asked (reply_made event.what)) =
    asked_made (event.pe.0 == pe) (call_made event.what) asked (option_or (reply_made event.what) (answer_of longer pe event.call)) mine made
    ∙ ap (λ r. asked_if true r asked) given in
    filter_map-append (asked_in longer pe) history (event ∷ [])
    ∙ ap (λ told. filter_map (asked_in longer pe) history ++ told) (cons_some (asked_in longer pe) event (told_as asked (reply_made event.what)) last)
    ∙ ap (λ told. told ++ told_as asked (reply_made event.what) ∷ []) (told_same longer history pe n history below (λ k low. same k))

-- an answer

-- the call was made and is not answered yet
pub record Waits (pe c : ℕ) (asked : Call) (history : List Event) : Type 0 where
  pub earlier : List Event
  pub issue : Event
  pub later : List Event
  pub whole : history ≡ earlier ++ issue ∷ later
  pub below : Below pe c earlier
  pub mine : (issue.pe.0 == pe) ≡ true
  pub number : issue.call ≡ c
  pub made : call_made issue.what ≡ Some asked
  pub no_reply : reply_made issue.what ≡ None
  pub silent : Silent pe later
  pub told : calls history pe ≡ calls earlier pe ++ told_as asked None ∷ []

one_true : (a b c : Bool) → a ≡ true → b ≡ true → c ≡ true → (a && b && c) ≡ true
one_true a b c e f g = rw (e, f, g) refl

answers_it : (event : Event) (pe c : ℕ) (given : Reply) → (event.pe.0 == pe) ≡ true → (event.call == c) ≡ true → answered_with event.what ≡ Some given →
    answer_of (event ∷ []) pe c ≡ Some given
answers_it event pe c given mine named e = rw (mine, named, e) refl

other_test : (a b c : Bool) → b ≡ false → (a && b && c) ≡ false
other_test true b c e = rw e refl
other_test false b c e = refl

other_call : (event : Event) (history : List Event) (pe k : ℕ) → (event.call == k) ≡ false → answer_of (event ∷ history) pe k ≡ answer_of history pe k
other_call event history pe k e =
    ap (λ test. if test then answered_with event.what else answer_of history pe k)
    (other_test (event.pe.0 == pe) (event.call == k) (is_some (answered_with event.what)) e)

apart : (a k c : ℕ) → a ≡ c → k < c → (a == k) ≡ false
apart a k c e h = grind arith

none_or : (a b : Option Reply) → a ≡ None → b ≡ None → option_or a b ≡ None
none_or a b e f = rw (e, f) refl

-- the answer to a call that waits is told with it
pub calls_answered : (history : List Event) (pe c : ℕ) (asked : Call) (event : Event) (given : Reply) → (w : Waits pe c asked history) →
    (event.pe.0 == pe) ≡ true → event.call ≡ c → call_made event.what ≡ None → answered_with event.what ≡ Some given →
    calls (history ++ event ∷ []) pe ≡ calls w.earlier pe ++ told_as asked (Some given) ∷ []
calls_answered history pe c asked event given w mine number made answered =
    let tail = w.later ++ event ∷ [] in
    let longer = w.earlier ++ w.issue ∷ tail in
    let whole : history ++ event ∷ [] ≡ longer = ap (λ h. h ++ event ∷ []) w.whole ∙ append_assoc w.earlier (w.issue ∷ w.later) (event ∷ []) in
    let issue_silent : (k : ℕ) → answer_of (w.issue ∷ []) pe k ≡ None = λ k. made_answers w.issue asked pe k w.made in
    let behind : (k : ℕ) → answer_of (w.issue ∷ tail) pe k ≡ answer_of (event ∷ []) pe k =
    λ k. answer_append (w.issue ∷ []) tail pe k
    ∙ ap (λ a. option_or a (answer_of tail pe k)) (issue_silent k)
    ∙ answer_append w.later (event ∷ []) pe k
    ∙ ap (λ a. option_or a (answer_of (event ∷ []) pe k)) (answer_silent w.later pe k w.silent) in
    let earlier_same : (k : ℕ) → k < c → answer_of longer pe k ≡ answer_of w.earlier pe k =
    λ k low. answer_append w.earlier (w.issue ∷ tail) pe k
    ∙ ap (option_or (answer_of w.earlier pe k)) (behind k ∙ other_call event [] pe k (apart event.call k c number low))
    ∙ or_none (answer_of w.earlier pe k) in
    let named : (event.call == c) ≡ true = rw number (equal c) in
    let now : answer_of longer pe w.issue.call ≡ Some given =
    ap (answer_of longer pe) w.number
    ∙ answer_append w.earlier (w.issue ∷ tail) pe c
    ∙ ap (λ a. option_or a (answer_of (w.issue ∷ tail) pe c)) (answer_below w.earlier pe c c w.below (le_refl c))
    ∙ behind c
    ∙ answers_it event pe c given mine named answered in
    let issued : asked_in longer pe w.issue ≡ Some (told_as asked (Some given)) =
    asked_made (w.issue.pe.0 == pe) (call_made w.issue.what) asked (option_or (reply_made w.issue.what) (answer_of longer pe w.issue.call)) w.mine w.made
    ∙ ap (λ r. asked_if true (option_or r (answer_of longer pe w.issue.call)) asked) w.no_reply
    ∙ ap (λ r. asked_if true r asked) now in
    ap (λ h. calls h pe) whole
    ∙ filter_map-append (asked_in longer pe) w.earlier (w.issue ∷ tail)
    ∙ ap (λ told. told ++ filter_map (asked_in longer pe) (w.issue ∷ tail)) (told_same longer w.earlier pe c w.earlier w.below earlier_same)
    ∙ ap (λ told. calls w.earlier pe ++ told)
    (filter_map-append (asked_in longer pe) (w.issue ∷ []) tail
    ∙ ap (λ told. told ++ filter_map (asked_in longer pe) tail) (cons_some (asked_in longer pe) w.issue (told_as asked (Some given)) issued)
    ∙ ap (λ told. told_as asked (Some given) ∷ told)
    (filter_map-append (asked_in longer pe) w.later (event ∷ [])
    ∙ ap (λ told. told ++ filter_map (asked_in longer pe) (event ∷ [])) (told_silent longer pe w.later w.silent)
    ∙ cons_none (asked_in longer pe) event (unmade (event.pe.0 == pe) (call_made event.what) (option_or (reply_made event.what) (answer_of longer pe event.call)) made)))
