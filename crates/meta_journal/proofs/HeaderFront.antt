-- A header is read from the front of a disk.
use Rattle.std.proofs.Common.{◌≡◌, ℕ, ◌+◌, ◌<◌, ◌≤◌, List, take, drop, refl, ◌∙◌, ap, arith}
use Rattle.std.specs.Prelude.{slice_index}
use Rattle.std.proofs.lemmas.List.{drop-take, get_or-take, take-take}
use Rattle.meta_journal.specs.Found.{header_in}
use Rattle.meta_journal.specs.Layout.{part}

part_front : (at n m : ℕ) (disk : List ℕ) → n ≤ m → part at n (take (at + m) disk) ≡ part at n disk
part_front at n m disk less = ap (λ (l : List ℕ). take n l) (drop-take at m disk) ∙ take-take n m (drop at disk) less

byte_front : (i : ℕ) (disk : List ℕ) → i < 16 → slice_index (take 16 disk) i ≡ slice_index disk i
byte_front i disk less = get_or-take 16 disk i 0 less

pub header_front : (disk : List ℕ) → header_in (take 16 disk) ≡ header_in disk
header_front disk =
    let a : part 0 4 (take 16 disk) ≡ part 0 4 disk = part_front 0 4 16 disk (omega arith) in
    let b : part 5 3 (take 16 disk) ≡ part 5 3 disk = part_front 5 3 11 disk (omega arith) in
    let c : part 9 7 (take 16 disk) ≡ part 9 7 disk = part_front 9 7 7 disk (omega arith) in
    let version : slice_index (take 16 disk) 4 ≡ slice_index disk 4 = byte_front 4 disk (omega arith) in
    let area : slice_index (take 16 disk) 8 ≡ slice_index disk 8 = byte_front 8 disk (omega arith) in
    rw (a, b, c, version, area) refl
