-- What contracts see of a disk in memory.
use Rattle.std.specs.Prelude.{◌≡◌, ◌⊎◌, ℕ, List, [], ◌∷◌, ◌++◌, length, take, map, Option, Some, Result, OnOk, OnErr, unwrap_or, refl}
use Rattle.std.proofs.Common.{arith, sym, subst}
use Rattle.std.proofs.lemmas.List.{take_all}
use Rattle.fam_disk.specs.Crash.{DiskState}
use Rattle.fam_disk.specs.Known.{known_after}
use Rattle.fam_disk.specs.Replay.{content_after, images_after, sync_moments, content_is_image}
use Rattle.fam_disk.specs.declared.memory.MemDisk.{MemDisk}
use Rattle.fam_disk.specs.declared.call.DiskCall.{DiskCall}

-- what a crash may leave at a moment of a disk that had these bytes first, and then these calls
abbrev pub images_at : List ℕ → List DiskCall → ℕ → List ℕ → Type 0
images_at first calls t c = images_after (take t calls) first (λ image. image ≡ first) c

abbrev pub memory_content : MemDisk → List ℕ
memory_content disk = unwrap_or disk.present disk.first

abbrev pub memory_state : MemDisk → DiskState
memory_state disk =
    record {
      content = Some (memory_content disk);
      moment = length disk.calls;
      images = images_at disk.first disk.calls;
      syncs = sync_moments 0 disk.calls;
      faults = disk.faults;
    }

-- the bytes that are certain at a moment
abbrev pub known_at : MemDisk → ℕ → List (Option ℕ)
known_at disk t = known_after (take t disk.calls) disk.first (map Some disk.first)

-- no call was made of a disk with these bytes, of which the calls with these numbers are to fail
pub record NewDisk (bytes reads writes syncs : List ℕ) (disk : MemDisk) : Type 0 where
  pub first : disk.first ≡ bytes
  pub content : memory_content disk ≡ bytes
  pub no_calls : disk.calls ≡ []
  pub counts : disk.counts
      ≡ record {
        reads = record { failing = reads; made = 0 };
        writes = record { failing = writes; made = 0 };
        syncs = record { failing = syncs; made = 0 };
      }
  pub no_faults : disk.faults ≡ 0

-- only the count of faults of a disk differs
pub record IsSameDisk (old new : MemDisk) : Type 0 where
  pub first : new.first ≡ old.first
  pub present : new.present ≡ old.present
  pub calls : new.calls ≡ old.calls
  pub counts : new.counts ≡ old.counts

-- A call is kept as one that was served or one that failed. One for which there was no memory is not kept.
pub record KeepsCall {T E : Type 0} (served failed : DiskCall) (old new : List DiskCall) (result : Result T E) : Type 0 where
  pub ok : OnOk result (new ≡ old ++ served ∷ [])
  pub err : OnErr result ((new ≡ old ++ failed ∷ []) ⊎ (new ≡ old))

-- what it reads is an image
pub memory_reads_image : (disk : MemDisk) (bytes : List ℕ) → Some (memory_content disk) ≡ Some bytes → images_at disk.first disk.calls (length disk.calls) bytes
memory_reads_image disk bytes reads =
    let all : take (length disk.calls) disk.calls ≡ disk.calls = take_all (length disk.calls) disk.calls (omega arith) in
    let is : content_after disk.calls disk.first ≡ bytes = cc (disk.replayed) in
    subst (λ (calls : List DiskCall). images_after calls disk.first (λ image. image ≡ disk.first) bytes) (sym all)
    (subst (λ (c : List ℕ). images_after disk.calls disk.first (λ image. image ≡ disk.first) c) is
    (content_is_image disk.calls disk.first (λ image. image ≡ disk.first) refl))
