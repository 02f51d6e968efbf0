-- Names of pieces in order, and the lists of the pieces that may come, one for each stripe.
use Rattle.std.specs.Prelude.{◌≡◌, ℕ, Bool, true, not, ◌==◌, ◌&&◌, ◌||◌, nat_lt, List, [], ◌∷◌, ◌++◌, filter, length, slice_get}
use Rattle.std.specs.List.{All, list_all, list_any}
use Rattle.std.specs.Option.{option_map_or}
use Rattle.fam_model.specs.declared.state.State.{State}
use Rattle.fam_model.specs.Lists.{is_some_and, numbers_below}
use Rattle.fam_model.specs.Programs.{placed, program_of}
use Rattle.fam_schedule.specs.Schedule.{PieceName, is_ready, is_some_of}

-- the first name comes before the second: by program, then by call, then by number
unfoldable pub is_before : PieceName → PieceName → Bool
is_before a b =
    nat_lt a.pe b.pe
    || (a.pe == b.pe && (nat_lt a.call b.call || (a.call == b.call && nat_lt a.piece b.piece)))

-- the names are of one piece
unfoldable pub same_name : PieceName → PieceName → Bool
same_name a b = a.pe == b.pe && (a.call == b.call && a.piece == b.piece)

-- the name stands in the list
abbrev pub has_name : PieceName → List PieceName → Bool
has_name name names = list_any (same_name name) names

-- each name comes before all that stand behind it
abbrev pub IsSorted : List PieceName → Type 0
IsSorted [] = Unit {0}
IsSorted (name ∷ names) = (list_all (is_before name) names ≡ true) × IsSorted names

-- each list is sorted
abbrev pub AreSorted : List (List PieceName) → Type 0
AreSorted lists = All IsSorted lists

-- the sorted list with this name in its place
abbrev pub with_name : PieceName → List PieceName → List PieceName
with_name name names = filter (λ n. is_before n name) names ++ name ∷ filter (λ n. is_before name n) names

-- the list without this name
abbrev pub without_name : PieceName → List PieceName → List PieceName
without_name name names = filter (λ n. not (same_name n name)) names

-- the piece of this name may come, and lies on the stripe
abbrev pub may_come_on : State → ℕ → PieceName → Bool
may_come_on state stripe name =
    is_some_and (program_of state name.pe) (λ p.
    nat_lt name.call p.next_call && is_some_and (placed p name.call) (λ at. is_ready stripe at name.piece))

-- the names of a stripe
abbrev pub names_at : List (List PieceName) → ℕ → List PieceName
names_at lists stripe = option_map_or (λ names. names) (slice_get lists stripe) []

-- the stripes whose list is not empty, in order
abbrev pub busy_stripes : List (List PieceName) → List ℕ
busy_stripes lists = filter (λ stripe. is_some_of (names_at lists stripe)) (numbers_below (length lists))
