-- How a short form is written, row by row.
use Rattle.std.specs.Prelude.{◌≡◌, ℕ, ◌+◌, ◌<◌, ◌≤◌, List, [], ◌∷◌, ◌++◌, IsTrue}
use Rattle.fam_base.specs.Name.{is_good_name}
use Rattle.fam_model.specs.declared.change.Change.{Change}
use Rattle.fam_model.specs.Limits.{nobody}
use Rattle.meta_journal.specs.Layout.{records}
use Rattle.meta_journal.specs.declared.short_form.Form.{Form}

-- the records of these changes were added, and then these numbers come next
pub record Adds (old new : Form) (changes : List Change) (next_region next_item : ℕ) : Type 0 where
  pub bytes : new.bytes.items ≡ old.bytes.items ++ records changes
  pub region : new.next_region ≡ next_region
  pub item : new.next_item ≡ next_item

-- a row that may be written has an owner and a name
pub record IsOwnRow (uid : ℕ) (name : List ℕ) : Type 0 where
  pub user : uid < nobody
  pub named : IsTrue (is_good_name name)

-- numbers that rise, and begin at n or above
abbrev pub Rises : {X : Type 0} → (X → ℕ) → ℕ → List X → Type 0
Rises number n [] = Unit {0}
Rises number n (x ∷ xs) = (n ≤ number x) × Rises number (number x + 1) xs

-- the number that comes next behind all of these, where this one comes next
abbrev pub next_behind : {X : Type 0} → (X → ℕ) → ℕ → List X → ℕ
next_behind number n [] = n
next_behind number n (x ∷ xs) = next_behind number (number x + 1) xs
