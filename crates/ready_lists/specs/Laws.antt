-- Laws of the lists of pieces that may come.
use Rattle.std.specs.Prelude.{◌≡◌, ℕ, List}
use Rattle.fam_model.specs.declared.state.State.{State}
use Rattle.fam_schedule.specs.Schedule.{PieceName, ready_on}
use Rattle.ready_lists.specs.Lists.{has_name, IsSorted, may_come_on}

-- the names in the schedule's list for a stripe stand in order, each once, and are those of the pieces that may come there
pub record ReadyListsAreSorted : Type 0 where
  pub sorted : (state : State) (stripe : ℕ) → IsSorted (ready_on state stripe)
  pub has : (state : State) (stripe : ℕ) (name : PieceName) → has_name name (ready_on state stripe) ≡ may_come_on state stripe name

-- a sorted list of the pieces that may come on a stripe is the schedule's list
pub record SortedListsAreReady : Type 0 where
  pub same : (xs ys : List PieceName) → IsSorted xs → IsSorted ys → ((name : PieceName) → has_name name xs ≡ has_name name ys) → xs ≡ ys
  pub ready : (state : State) (stripe : ℕ) (names : List PieceName) → IsSorted names →
      ((name : PieceName) → has_name name names ≡ may_come_on state stripe name) → names ≡ ready_on state stripe
