-- What the directory answers.
use Rattle.std.specs.Prelude.{◌≡◌, ◌⊎◌, ℕ, Bool, true, false, List, Option, Some, None, Result, Ok, Err}
use Rattle.fam_base.specs.declared.error.FamError.{FamError}
use Rattle.fam_base.specs.declared.error.FamError.TheVariants.{Memory}
use Rattle.fam_base.specs.declared.naming.RegionId.{RegionId}
use Rattle.fam_model.specs.declared.request.Request.{Request}
use Rattle.fam_model.specs.declared.request.Request.TheVariants as request
use Rattle.fam_model.specs.declared.rows.Rows.{Rows}
use Rattle.fam_model.specs.Lists.{◌>>=◌}
use Rattle.fam_model.specs.Rows.{region_of, region_named, least_base}

-- the request changes the rows, where it is served
abbrev pub makes_change : Request → Bool
makes_change (request.LookupRegion name) = false
makes_change (request.StatRegion region) = false
makes_change (request.Lookup name region) = false
makes_change (request.Stat item) = false
makes_change _ = true

-- a look-up: its first refusal, or else what is found
abbrev pub IsFound : {A : Type 0} → Option FamError → Option A → Result A FamError → Type 0
IsFound refused found (Ok x) = (refused ≡ None) × (found ≡ Some x)
IsFound refused found (Err error) = refused ≡ Some error

-- the same, where memory may be wanting too
abbrev pub IsMade : {A : Type 0} → Option FamError → Option A → Result A FamError → Type 0
IsMade refused found (Ok x) = (refused ≡ None) × (found ≡ Some x)
IsMade refused found (Err error) = (error ≡ Memory) ⊎ (refused ≡ Some error)

-- the least base of n bytes in the region of a number
abbrev pub least_in : Rows → ℕ → ℕ → Option ℕ
least_in rows region n = do
  row ← region_of rows region
  least_base rows row n

-- the number of the region of a name
abbrev pub region_found : Rows → List ℕ → Option RegionId
region_found rows name = do
  row ← region_named rows name
  Some row.number
