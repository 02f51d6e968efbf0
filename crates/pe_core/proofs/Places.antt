-- Where a program stands.
use Rattle.std.proofs.Common.{◌≡◌, ℕ, zero, suc, ◌-◌, ◌<◌, Bool, true, false, not, cond, ◌&&◌, List, [], ◌∷◌, drop, Some, None, refl, sym, ap, ◌∙◌, arith}
use Rattle.std.specs.Prelude.{◌||◌, nat_le, ℤ, is_some, IsSome, slice_get}
use Rattle.std.specs.List.{list_all}
use Rattle.std.proofs.lemmas.Bool.Decides.{nat_tests}
use Rattle.fam_model.specs.declared.call.Call.{Call}
use Rattle.fam_model.specs.declared.reply.Reply.{Reply}
use Rattle.fam_model.specs.Text.{Turn, Once, Until, ends_spin, next_of}
use Rattle.pe_core.specs.declared.action.Action.{Action}
use Rattle.pe_core.specs.declared.place.Place.{Place}
use Rattle.pe_core.specs.Actions.{turn_of, turn_at, in_order, are_there, make_calls, with_tries, turns_from, left_at, is_ready}
use Rattle.pe_core.specs.Left.{Left, makes_calls, next_after, tried, after_reply}
use Rattle.pe_core.proofs.Replies.{CallsLeft}
use Rattle.pe_core.proofs.Tests.{and_left, and_right, and_both, all_both, all_one}

abbrev some : List Turn → Left
some turns = Some turns

get_calls : (actions : List Action) (i : ℕ) → make_calls actions ≡ true → list_all makes_calls (turn_at (slice_get actions i)) ≡ true
get_calls [] i calls = refl
get_calls (a ∷ actions) zero calls = all_one makes_calls (turn_of a) (and_left (makes_calls (turn_of a)) (make_calls actions) calls)
get_calls (a ∷ actions) (suc i) calls = get_calls actions i (and_right (makes_calls (turn_of a)) (make_calls actions) calls)

all_call : (actions : List Action) (order : List ℕ) → make_calls actions ≡ true → list_all makes_calls (in_order actions order) ≡ true
all_call actions [] calls = refl
all_call actions (i ∷ order) calls = all_both makes_calls (turn_at (slice_get actions i)) (in_order actions order) (get_calls actions i calls) (all_call actions order calls)

-- a place with all the tries that its spin has is ready
pub ready_there : (actions : List Action) (order : List ℕ) (place : Place) → are_there actions order ≡ true → make_calls actions ≡ true →
    turns_from actions order place ≡ in_order actions (drop place.at order) → is_ready actions order place ≡ true
ready_there actions order place there calls e =
    and_both (are_there actions order && make_calls actions) (list_all makes_calls (turns_from actions order place))
    (and_both (are_there actions order) (make_calls actions) there calls)
    (ap (list_all makes_calls) e ∙ all_call actions (drop place.at order) calls)

module _ (actions : List Action) (order : List ℕ) (place : Place) (ready : is_ready actions order place ≡ true) where
  pub is_there : are_there actions order ≡ true
  is_there = and_left (are_there actions order) (make_calls actions) (and_left (are_there actions order && make_calls actions) (list_all makes_calls (turns_from actions order place)) ready)

  pub do_call : make_calls actions ≡ true
  do_call = and_right (are_there actions order) (make_calls actions) (and_left (are_there actions order && make_calls actions) (list_all makes_calls (turns_from actions order place)) ready)

  pub turns_call : list_all makes_calls (turns_from actions order place) ≡ true
  turns_call = and_right (are_there actions order && make_calls actions) (list_all makes_calls (turns_from actions order place)) ready

-- all tries
pub tries_once : (tries : ℕ) (turns rest : List Turn) (asked : Call) → turns ≡ Once asked ∷ rest → with_tries tries turns ≡ turns
tries_once tries turns rest asked e = ap (with_tries tries) e ∙ sym e

pub tries_all : (turns rest : List Turn) (asked : Call) (value : ℤ) (tries : ℕ) → turns ≡ Until asked value tries ∷ rest → with_tries tries turns ≡ turns
tries_all turns rest asked value tries e = ap (with_tries tries) e ∙ sym e

pub tries_none : (tries : ℕ) (turns : List Turn) → turns ≡ [] → with_tries tries turns ≡ turns
tries_none tries turns e = ap (with_tries tries) e ∙ sym e

-- whether there is a next call

next_there : (turns : List Turn) → list_all makes_calls turns ≡ true → is_some (next_of turns []) ≡ true
next_there [] calls = refl
next_there (Once asked ∷ turns) calls = refl
next_there (Until asked value zero ∷ turns) calls = absurd cc
next_there (Until asked value (suc tries) ∷ turns) calls = refl

by_over : (over : Bool) (turns : List Turn) → list_all makes_calls turns ≡ true → not over ≡ is_some (next_after (cond over None (Some turns)) [])
by_over true turns calls = refl
by_over false turns calls = sym (next_there turns calls)

pub has_next : (actions : List Action) (order : List ℕ) (place : Place) → is_ready actions order place ≡ true → not place.over ≡ is_some (next_after (left_at actions order place) [])
has_next actions order place ready = by_over place.over (turns_from actions order place) (turns_call actions order place ready)

left_calls : (over : Bool) (turns : List Turn) → list_all makes_calls turns ≡ true → CallsLeft (cond over None (Some turns))
left_calls true turns calls = tt
left_calls false turns calls = calls

-- what is left makes calls
pub calls_left : (actions : List Action) (order : List ℕ) (place : Place) → is_ready actions order place ≡ true → CallsLeft (left_at actions order place)
calls_left actions order place ready = left_calls place.over (turns_from actions order place) (turns_call actions order place ready)

-- a spin with a try less
pub one_try_less : (asked : Call) (value : ℤ) (tries : ℕ) (rest : List Turn) (given : Reply) → ends_spin value given ≡ false → 1 < tries →
    after_reply (Some (Until asked value tries ∷ rest)) given ≡ Some (Until asked value (tries - 1) ∷ rest)
one_try_less asked value tries rest given e low =
    let more : nat_le tries 1 ≡ false = grind (arith, nat_tests) in
    let turn : List Turn = Until asked value (tries - 1) ∷ rest in
    ap (λ (b : Bool). cond b (some rest) (some (tried (Until asked value tries) rest))) e
    ∙ ap (λ (b : Bool). some (cond b rest turn)) more

-- the last try, or the end of a spin
pub spin_over : (asked : Call) (value : ℤ) (tries : ℕ) (rest : List Turn) (given : Reply) → (ends_spin value given || nat_le tries 1) ≡ true →
    after_reply (Some (Until asked value tries ∷ rest)) given ≡ Some rest
spin_over asked value tries rest given e = by_test (ends_spin value given) (nat_le tries 1) e
  where
    by_test : (b c : Bool) → (b || c) ≡ true → cond b (some rest) (some (cond c rest (Until asked value (tries - 1) ∷ rest))) ≡ some rest
    by_test true c e = refl
    by_test false true e = refl
    by_test false false e = absurd cc

-- the call that is due

pub due : (over : Bool) (turns : List Turn) (asked : Call) → next_of turns [] ≡ Some asked → IsSome (next_after (cond over None (some turns)) []) → next_after (cond over None (some turns)) [] ≡ Some asked
due true turns asked e there = absurd cc
due false turns asked e there = e

spin_tries : (tries : ℕ) (asked : Call) (value : ℤ) (rest : List Turn) → makes_calls (Until asked value tries) ≡ true → next_of (Until asked value tries ∷ rest) [] ≡ Some asked
spin_tries zero asked value rest calls = absurd cc
spin_tries (suc tries) asked value rest calls = refl

pub spin_next : (tries all : ℕ) (turns rest : List Turn) (asked : Call) (value : ℤ) → turns ≡ Until asked value all ∷ rest → list_all makes_calls (with_tries tries turns) ≡ true →
    next_of (with_tries tries turns) [] ≡ Some asked
spin_next tries all turns rest asked value e calls =
    let first = ap (λ (ts : List Turn). list_all makes_calls (with_tries tries ts)) (sym e) ∙ calls in
    ap (λ (ts : List Turn). next_of (with_tries tries ts) []) e
    ∙ spin_tries tries asked value rest (and_left (makes_calls (Until asked value tries)) (list_all makes_calls rest) first)
