-- Names, each with a number.
use Rattle.std.specs.Prelude.{ℕ, Bool, List, Option, find, map, Vec}
use Rattle.std.specs.Option.{option_map}
use Rattle.std.specs.Str.{bytes_eq}

-- a name and its number
pub record NameEntry : Type 0 where
  pub name : List ℕ
  pub number : ℕ

-- the names that are there; where it is ready, one more name takes no memory
pub record NameMap : Type 0 where
  pub entries : List NameEntry
  pub is_ready : Bool

-- the number of a name, if the name is there
abbrev pub named : List ℕ → NameMap → Option ℕ
named name names = option_map (λ entry. entry.number) (find (λ entry. bytes_eq name entry.name) names.entries)

-- the entries of a map from names to numbers
abbrev pub entries_of : {Z : Type 0} → List (Vec ℕ Z × ℕ) → List NameEntry
entries_of entries = map (λ e. record { name = e.0.items; number = e.1 }) entries
