-- What contracts see of a file: how often a call has failed, and nothing else.
use Rattle.std.specs.Prelude.{◌≡◌, ℕ, List, [], Option, Some, None, IsSome}
use Rattle.fam_disk.specs.Crash.{DiskState}
use Rattle.fam_disk.specs.declared.file.FileDisk.{FileDisk}

-- no content is told
abbrev pub untold : Option (List ℕ)
untold = None

abbrev pub file_state : FileDisk → DiskState
file_state disk = record { content = untold; moment = 0; images = λ t image. ⊥; syncs = []; faults = disk.faults }

-- it tells no image
pub tells_no_image : (disk : FileDisk) (t : ℕ) (image : List ℕ) → ⊥ → IsSome untold
tells_no_image disk t image left = absurd left

-- it tells no content
pub reads_no_content : (disk : FileDisk) (bytes : List ℕ) → untold ≡ Some bytes → ⊥
reads_no_content disk bytes told = cc
