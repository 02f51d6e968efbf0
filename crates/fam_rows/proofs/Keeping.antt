-- Each lawful change keeps rows lawful.
use Rattle.std.proofs.Common.{◌≡◌, true, Result, Ok, Err, OnOk, OnErr, sym, subst}
use Rattle.fam_base.specs.declared.error.NoMemory.{NoMemory}
use Rattle.fam_model.specs.declared.change.Change.{Change}
use Rattle.fam_model.specs.declared.change.Change.TheVariants as change
use Rattle.fam_model.specs.declared.rows.Rows.{Rows}
use Rattle.fam_model.specs.Directory.{after}
use Rattle.fam_model.specs.Lawful.{is_lawful_change}
use Rattle.fam_model.specs.Rows.{IsLawful}
use Rattle.fam_rows.proofs.Allotted.{allocates, deallocates, sets_item_mode}
use Rattle.fam_rows.proofs.Regions.{creates, destroys, resizes, sets_mode, skips}

-- each kind of change
pub keeps_law : (rows : Rows) (chosen : Change) → IsLawful rows → is_lawful_change rows chosen ≡ true → IsLawful (after rows chosen)
keeps_law rows (change.CreateRegion region uid gid mode size name) lawful ok = creates rows region uid gid mode size name lawful ok
keeps_law rows (change.DestroyRegion region) lawful ok = destroys rows region lawful ok
keeps_law rows (change.ResizeRegion region size) lawful ok = resizes rows region size lawful ok
keeps_law rows (change.Allocate item region base size uid gid mode name) lawful ok = allocates rows item region base size uid gid mode name lawful ok
keeps_law rows (change.Deallocate item) lawful ok = deallocates rows item lawful ok
keeps_law rows (change.SetItemMode item mode) lawful ok = sets_item_mode rows item mode lawful ok
keeps_law rows (change.SetRegionMode region mode) lawful ok = sets_mode rows region mode lawful ok
keeps_law rows (change.Skip next_region next_item) lawful ok = skips rows next_region next_item lawful ok

-- rows stay lawful whether the change is made or not
pub made_lawful : (rows new : Rows) (chosen : Change) (r : Result (Unit {0}) NoMemory) → IsLawful rows → is_lawful_change rows chosen ≡ true → OnOk r (new ≡ after rows chosen) → OnErr r (new ≡ rows) → IsLawful new
made_lawful rows new chosen (Ok done) lawful ok made kept = subst IsLawful (sym made) (keeps_law rows chosen lawful ok)
made_lawful rows new chosen (Err error) lawful ok made kept = subst IsLawful (sym kept) lawful
