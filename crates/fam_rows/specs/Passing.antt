-- How the least free base is found: a base that meets an item's room moves to where that room ends.
use Rattle.std.specs.Prelude.{ℕ, Bool, max, List, [], ◌∷◌, if◌then◌else◌}
use Rattle.std.specs.List.{list_all}
use Rattle.std.specs.Int.{div_ceil}
use Rattle.fam_model.specs.declared.rows.ItemRow.{ItemRow}
use Rattle.fam_model.specs.declared.rows.Rows.{Rows}
use Rattle.fam_model.specs.Rows.{is_beside, items_in, room_end}

-- the blocks of 64 bytes that hold n bytes, at least one
abbrev pub blocks : ℕ → ℕ
blocks n = max 1 (div_ceil n 64)

-- the room of n bytes at base meets no room of an item of the region
abbrev pub is_free : Rows → ℕ → ℕ → ℕ → Bool
is_free rows region n base = list_all (is_beside n base) (items_in rows region)

-- a base, moved to where the item's room ends if the room of n bytes there meets it
abbrev pub moved : ℕ → ℕ → ItemRow → ℕ
moved n base item = if is_beside n base item then base else room_end item

-- a base, moved in turn past each item whose room it meets
abbrev pub past : ℕ → ℕ → List ItemRow → ℕ
past n base [] = base
past n base (item ∷ items) = past n (moved n base item) items
