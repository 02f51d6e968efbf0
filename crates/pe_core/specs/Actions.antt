-- How a program is stored: what it does, each thing once, and the order in which it does them.
use Rattle.std.specs.Prelude.{◌≡◌, ℕ, Bool, true, nat_lt, pos, List, [], ◌∷◌, ◌++◌, ◌&&◌, length, drop, slice_get, Option, Some, None, if◌then◌else◌}
use Rattle.std.specs.List.{flat_map, list_all}
use Rattle.fam_model.specs.declared.call.Call.TheVariants as call
use Rattle.fam_model.specs.declared.call.DataOp.TheVariants as data_op
use Rattle.fam_model.specs.declared.call.Op.TheVariants as op
use Rattle.fam_model.specs.declared.script.Statement.{Statement}
use Rattle.fam_model.specs.Text.{Turn, Once, Until}
use Rattle.pe_core.specs.declared.action.Action.{Action}
use Rattle.pe_core.specs.declared.place.Place.{Place}
use Rattle.pe_core.specs.declared.action.Action.TheVariants as action
use Rattle.pe_core.specs.Left.{Left, makes_calls, turns_of}

-- what an action does
abbrev pub turn_of : Action → Turn
turn_of (action.Once asked) = Once asked
turn_of (action.Spin context item offset width value tries) =
    Until (call.Data context (data_op.Atomic item offset width op.Fetch (pos 0) (pos 0)) true) value tries

-- the turn of an action that is there
abbrev pub turn_at : Option Action → List Turn
turn_at None = []
turn_at (Some a) = turn_of a ∷ []

-- the turns of actions in this order
abbrev pub in_order : List Action → List ℕ → List Turn
in_order actions order = flat_map (λ i. turn_at (slice_get actions i)) order

-- each of them is there
abbrev pub are_there : List Action → List ℕ → Bool
are_there actions order = list_all (λ i. nat_lt i (length actions)) order

-- each of them makes a call
abbrev pub make_calls : List Action → Bool
make_calls actions = list_all (λ a. makes_calls (turn_of a)) actions

-- the actions and their order grew by the turns of these statements
pub record Grows (actions : List Action) (order : List ℕ) (statements : List Statement) (now : List Action) (order_now : List ℕ) : Type 0 where
  pub more : List Action
  pub grown : now ≡ actions ++ more
  pub places : List ℕ
  pub placed : order_now ≡ order ++ places
  pub there : are_there now places ≡ true
  pub calls : make_calls now ≡ true
  pub turns : in_order now places ≡ turns_of statements

-- they grew by the one turn of any statement that has just this turn
abbrev pub GrowsByOne : List Action → List ℕ → Turn → List Action → List ℕ → Type 0
GrowsByOne actions order turn now order_now =
    (statement : Statement) → turns_of (statement ∷ []) ≡ turn ∷ [] → Grows actions order (statement ∷ []) now order_now

-- so many tries of the spin that comes first are left
abbrev pub with_tries : ℕ → List Turn → List Turn
with_tries tries [] = []
with_tries tries (Once asked ∷ turns) = Once asked ∷ turns
with_tries tries (Until asked value all ∷ turns) = Until asked value tries ∷ turns

-- the turns from a place on
abbrev pub turns_from : List Action → List ℕ → Place → List Turn
turns_from actions order place = with_tries place.tries (in_order actions (drop place.at order))

-- what is left from a place on
abbrev pub left_at : List Action → List ℕ → Place → Left
left_at actions order place = if place.over then None else Some (turns_from actions order place)

-- the place where nothing more is called
abbrev pub finished : Place → Place
finished place = record place { over = true }

-- the actions are there and make calls, and the spin that comes first has a try left
abbrev pub is_ready : List Action → List ℕ → Place → Bool
is_ready actions order place =
    are_there actions order && make_calls actions && list_all makes_calls (turns_from actions order place)
