-- Which changes a journal of either version may hold.
use Rattle.std.specs.Prelude.{Bool, true, ◌&&◌, nat_le, nat_lt, length, if◌then◌else◌}
use Rattle.fam_model.specs.declared.change.Change.{Change}
use Rattle.fam_model.specs.declared.change.Change.TheVariants as change
use Rattle.fam_model.specs.declared.rows.Rows.{Rows}
use Rattle.fam_model.specs.Lawful.{is_lawful_change}

-- the first version has shorter names, and fewer regions and items
abbrev pub fits_first_version : Rows → Change → Bool
fits_first_version rows (change.CreateRegion region uid gid mode size name) =
    nat_le (length name) 32 && nat_lt (length rows.regions) 1024
fits_first_version rows (change.Allocate item region base size uid gid mode name) =
    nat_le (length name) 32 && nat_lt (length rows.items) 16_384
fits_first_version rows _ = true

-- a change that a journal may hold behind these rows, by whether it is of the first version
abbrev pub may_hold : Bool → Rows → Change → Bool
may_hold is_first rows change =
    if is_first then is_lawful_change rows change && fits_first_version rows change else is_lawful_change rows change
