-- The place of a name in a sorted list.
use Rattle.std.specs.Prelude.{ℕ, Bool, List, slice_get}
use Rattle.std.specs.List.{prefix_len}
use Rattle.fam_model.specs.Lists.{is_some_and}
use Rattle.fam_schedule.specs.Schedule.{PieceName}
use Rattle.ready_lists.specs.Lists.{is_before, same_name}

-- how many names at the front of the list come before this one
abbrev pub place_of_name : PieceName → List PieceName → ℕ
place_of_name name names = prefix_len (λ n. is_before n name) names

-- the name stands at this place
abbrev pub stands_at : PieceName → List PieceName → ℕ → Bool
stands_at name names place = is_some_and (slice_get names place) (same_name name)
