-- Items by the names of their region and their own.
use Rattle.std.specs.Prelude.{ℕ, Bool, List, Option, Some}
use Rattle.fam_base.specs.declared.naming.Descriptor.{Descriptor}
use Rattle.fam_model.specs.declared.rows.Rows.{Rows}
use Rattle.fam_model.specs.Lists.{◌>>=◌, is_some_and}
use Rattle.fam_model.specs.Rows.{region_of, region_named, item_named, region_number, descriptor_of, fits}

-- where the item of a name lies, in the region of a name
abbrev pub located_at : Rows → List ℕ → List ℕ → Option Descriptor
located_at rows name region = do
  row ← region_named rows region
  item ← item_named rows (region_number row) name
  Some (descriptor_of item)

-- a new item of n bytes may lie at base of a region, which has to be there
abbrev pub may_place : Rows → ℕ → ℕ → ℕ → Bool
may_place rows region n base = is_some_and (region_of rows region) (λ row. fits rows row n base)
