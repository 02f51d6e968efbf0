-- What is certain of a disk after calls, and an image that fills in the rest.
use Rattle.std.specs.Prelude.{ℕ, ◌+◌, List, [], ◌∷◌, ◌++◌, length, take, drop, map, replicate, Option, Some, None}
use Rattle.fam_disk.specs.Replay.{content_by}
use Rattle.fam_disk.specs.declared.call.DiskCall.{DiskCall}
use Rattle.fam_disk.specs.declared.call.DiskCall.TheVariants.{Asked, Wrote, Synced}

-- the bytes that are certain after one more call, where the disk had this content before
abbrev pub known_by : DiskCall → List ℕ → List (Option ℕ) → List (Option ℕ)
known_by Asked content known = known
known_by (Wrote at bytes served) content known = take at known ++ replicate (length bytes) None ++ drop (at + length bytes) known
known_by Synced content known = map Some content

-- the bytes that are certain after calls, the first of them first
abbrev pub known_after : List DiskCall → List ℕ → List (Option ℕ) → List (Option ℕ)
known_after [] content known = known
known_after (call ∷ calls) content known = known_after calls (content_by call content) (known_by call content known)

-- the bytes that are certain, and for the others those of a list in turn, then zeros
abbrev pub filled : List (Option ℕ) → List ℕ → List ℕ
filled [] fill = []
filled (Some byte ∷ known) fill = byte ∷ filled known fill
filled (None ∷ known) [] = 0 ∷ filled known []
filled (None ∷ known) (byte ∷ fill) = byte ∷ filled known fill
