-- Rows in slots, and what is seen of them.
use Rattle.std.specs.Prelude.{◌≡◌, ◌==◌, ◌&&◌, not, ℕ, ◌<◌, Bool, List, [], ◌∷◌, length, filter, filter_map, All, AllPairs, IfSome}
use Rattle.fam_model.specs.declared.rows.ItemRow.{ItemRow}
use Rattle.fam_model.specs.Rows.{item_number}
use Rattle.fam_directory.specs.declared.slots.Slot.{Slot}

-- rows in order of number; a new one has the number `next` or a later one, and takes no memory where it is ready
pub record ItemList : Type 0 where
  pub rows : List ItemRow
  pub next : ℕ
  pub is_ready : Bool

-- the number of a slot
abbrev pub slot_number : Slot → ℕ
slot_number slot = slot.number

-- the rows in slots
abbrev pub rows_in : List Slot → List ItemRow
rows_in slots = filter_map (λ slot. slot.row) slots

-- the number of a slot is that of its row
abbrev pub HasNumber : Slot → Type 0
HasNumber slot = IfSome slot.row (λ row. item_number row ≡ slot.number)

-- the number of a slot is below another one
abbrev pub IsBelow : ℕ → Slot → Type 0
IsBelow next slot = slot.number < next

-- numbers rise, and are those of the rows
pub record AreNumbered (slots : List Slot) : Type 0 where
  pub rise : AllPairs (λ a b. slot_number a < slot_number b) slots
  pub each : All HasNumber slots

-- what is kept of slots: their numbers, and how many rows they have
pub record AreSlots (slots : List Slot) (count next : ℕ) : Type 0 where
  pub numbered : AreNumbered slots
  pub below : All (IsBelow next) slots
  pub counted : count ≡ length (rows_in slots)

-- an item with another mode
abbrev pub with_mode : ℕ → ItemRow → ItemRow
with_mode mode row = record row { mode = mode }

-- an item of a region and of a number
abbrev pub is_item_of : ℕ → ℕ → ItemRow → Bool
is_item_of region number item = item_number item == number && item.region.0 == region

-- the rows without the items of a region that have some numbers
abbrev pub without_numbers : ℕ → List ℕ → List ItemRow → List ItemRow
without_numbers region [] rows = rows
without_numbers region (number ∷ numbers) rows = without_numbers region numbers (filter (λ item. not (is_item_of region number item)) rows)
