-- Laws of the directory's rows.
use Rattle.std.specs.Prelude.{◌≡◌, ℕ, ◌<◌, ◌≤◌, All, false, Some, None, IsSome, IsTrue}
use Rattle.fam_base.specs.declared.naming.Who.{Who}
use Rattle.fam_model.specs.declared.rows.RegionRow.{RegionRow}
use Rattle.fam_model.specs.declared.rows.Rows.{Rows}
use Rattle.fam_model.specs.declared.request.Request.{Request}
use Rattle.fam_model.specs.declared.request.Request.TheVariants as request
use Rattle.fam_model.specs.declared.change.Change.{Change}
use Rattle.fam_model.specs.declared.reply.Reply.{Reply}
use Rattle.fam_model.specs.Directory.{refusal, may_lie, first_base, change_at, after}
use Rattle.fam_model.specs.Lawful.{is_lawful_change}
use Rattle.fam_model.specs.Limits.{nobody}
use Rattle.fam_model.specs.MetaStep.{told_change}
use Rattle.fam_model.specs.Rows.{IsLawful, region_of, item_of, region_number, item_number, fits, least_base}

-- the mode that a request gives, and 0 where it gives none
abbrev pub asked_mode : Request → ℕ
asked_mode (request.CreateRegion name size mode) = mode
asked_mode (request.SetRegionMode region mode) = mode
asked_mode (request.Allocate name size mode region) = mode
asked_mode (request.SetItemMode item mode) = mode
asked_mode _ = 0

-- a change that serves a request of a user who is somebody is lawful on lawful rows
pub record ServedChangesAreLawful : Type 0 where
  pub served : (rows : Rows) (who : Who) (request : Request) (base : ℕ) (chosen : Change) →
      IsLawful rows → who.uid < nobody → asked_mode request ≤ 511 →
      refusal rows who request ≡ None → IsTrue (may_lie rows request base) → change_at rows who request base ≡ Some chosen →
      IsTrue (is_lawful_change rows chosen)
  pub told : (rows : Rows) (who : Who) (request : Request) (given : Reply) (chosen : Change) →
      IsLawful rows → who.uid < nobody → asked_mode request ≤ 511 → told_change rows who request given ≡ Some chosen →
      IsTrue (is_lawful_change rows chosen)

-- lawful rows stay lawful under a lawful change
pub record LawfulChangesKeepLaw : Type 0 where
  pub kept : (rows : Rows) (chosen : Change) → IsLawful rows → IsTrue (is_lawful_change rows chosen) → IsLawful (after rows chosen)

-- the least base is one that fits, and no lower one fits; where there is none, nothing fits; a request that is not refused has one
pub record LeastBaseIsLeast : Type 0 where
  pub fits_there : (rows : Rows) (row : RegionRow) (n base : ℕ) → least_base rows row n ≡ Some base → IsTrue (fits rows row n base)
  pub none_below : (rows : Rows) (row : RegionRow) (n base lower : ℕ) →
      least_base rows row n ≡ Some base → lower < base → fits rows row n lower ≡ false
  pub none_at_all : (rows : Rows) (row : RegionRow) (n base : ℕ) → least_base rows row n ≡ None → fits rows row n base ≡ false
  pub lies : (rows : Rows) (request : Request) (base : ℕ) → first_base rows request ≡ Some base → IsTrue (may_lie rows request base)
  pub there : (rows : Rows) (who : Who) (request : Request) → refusal rows who request ≡ None → IsSome (first_base rows request)

-- the next numbers never fall, and a row that was not there has the number that came next; so no number is used again
pub record NumbersAreNew (rows : Rows) (chosen : Change) : Type 0 where
  pub next_region : rows.next_region ≤ (after rows chosen).next_region
  pub next_item : rows.next_item ≤ (after rows chosen).next_item
  pub region : All (λ row. region_of rows (region_number row) ≡ None → region_number row ≡ rows.next_region) (after rows chosen).regions
  pub item : All (λ row. item_of rows (item_number row) ≡ None → item_number row ≡ rows.next_item) (after rows chosen).items

-- so it is at every lawful change of lawful rows
pub record NumbersAreNeverUsedAgain : Type 0 where
  pub new : (rows : Rows) (chosen : Change) → IsLawful rows → IsTrue (is_lawful_change rows chosen) → NumbersAreNew rows chosen
