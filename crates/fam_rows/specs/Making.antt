-- Which changes take memory.
use Rattle.std.specs.Prelude.{Bool, true, false}
use Rattle.fam_model.specs.declared.change.Change.{Change}
use Rattle.fam_model.specs.declared.change.Change.TheVariants as change

-- a change that adds a row
abbrev pub adds_row : Change → Bool
adds_row (change.CreateRegion region uid gid mode size name) = true
adds_row (change.Allocate item region base size uid gid mode name) = true
adds_row _ = false
