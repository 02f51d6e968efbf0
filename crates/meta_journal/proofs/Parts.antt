-- What stands at a place of a disk, through writes.
use Rattle.std.proofs.Common.{◌≡◌, ℕ, ◌+◌, ◌-◌, ◌<◌, ◌≤◌, min, List, [], ◌∷◌, ◌++◌, length, take, drop, refl, sym, ◌∙◌, ap, arith, append_assoc, length-append, length-take, length-drop}
use Rattle.std.specs.Prelude.{slice_index}
use Rattle.std.proofs.lemmas.List.{take_at, take-take, drop_at, drop-drop, drop-take, drop_more}
use Rattle.std.proofs.Math.Seq.{take-add}
use Rattle.fam_disk.specs.Crash.{IsTorn, written}
use Rattle.meta_journal.specs.Layout.{part, Holds}

-- a part lies on the disk
pub holds_inside : (at : ℕ) (x : ℕ) (xs disk : List ℕ) → Holds at (x ∷ xs) disk → at + length (x ∷ xs) ≤ length disk
holds_inside at x xs disk holds =
    omega (arith, ap length holds, length-take (length (x ∷ xs)) (drop at disk), length-drop at disk)

-- a part is known by the front up to its end
part_of_front : (at n : ℕ) (old new : List ℕ) → take (at + n) new ≡ take (at + n) old → part at n new ≡ part at n old
part_of_front at n old new same = sym (drop-take at n new) ∙ ap (λ (l : List ℕ). drop at l) same ∙ drop-take at n old

front_kept : (w n m : ℕ) (old new : List ℕ) → m ≤ w → m ≤ length old → IsTorn w n old new → take m new ≡ take m old
front_kept w n m old new below inside torn =
    let short : m ≤ min w (length old) = omega arith in
    sym (take-take m (min w (length old)) new short) ∙ ap (λ (l : List ℕ). take m l) torn.front ∙ take-take m w old below

-- what stands in front of a torn write stays
pub holds_below : (at w n : ℕ) (bytes old new : List ℕ) → Holds at bytes old → at + length bytes ≤ w → IsTorn w n old new → Holds at bytes new
holds_below at w n [] old new holds below torn = refl
holds_below at w n (x ∷ xs) old new holds below torn =
    part_of_front at (length (x ∷ xs)) old new (front_kept w n (at + length (x ∷ xs)) old new below (holds_inside at x xs old holds) torn) ∙ holds

-- and what stands behind it
pub holds_above : (at w n : ℕ) (bytes old new : List ℕ) → Holds at bytes old → w + n ≤ at → IsTorn w n old new → Holds at bytes new
holds_above at w n bytes old new holds above torn =
    let k = at - (w + n) in
    let is : w + n + k ≡ at = omega arith in
    let from : (c : List ℕ) → drop at c ≡ drop k (drop (w + n) c) = λ c. ap (λ (m : ℕ). drop m c) (sym is) ∙ sym (drop-drop k (w + n) c) in
    ap (λ (l : List ℕ). take (length bytes) l) (from new ∙ ap (λ (l : List ℕ). drop k l) torn.back ∙ sym (from old)) ∙ holds

-- what is written stands there
pub holds_written : (at : ℕ) (bytes old : List ℕ) → at ≤ length old → Holds at bytes (written at bytes old)
holds_written at bytes old inside =
    ap (λ (l : List ℕ). take (length bytes) (drop at l)) (append_assoc (take at old) bytes (drop (at + length bytes) old))
    ∙ ap (λ (l : List ℕ). take (length bytes) l) (drop_at (take at old) (bytes ++ drop (at + length bytes) old) at (omega (arith, length-take at old)))
    ∙ take_at bytes (drop (at + length bytes) old) (length bytes) refl

-- two parts side by side
pub holds_front : (at : ℕ) (xs ys disk : List ℕ) → Holds at (xs ++ ys) disk → Holds at xs disk
holds_front at xs ys disk holds =
    let long : length xs ≤ length (xs ++ ys) = omega (arith, length-append xs ys) in
    sym (take-take (length xs) (length (xs ++ ys)) (drop at disk) long) ∙ ap (λ (l : List ℕ). take (length xs) l) holds ∙ take_at xs ys (length xs) refl

pub holds_back : (at : ℕ) (xs ys disk : List ℕ) → Holds at (xs ++ ys) disk → Holds (at + length xs) ys disk
holds_back at xs ys disk holds =
    ap (λ (l : List ℕ). take (length ys) l) (sym (drop-drop (length xs) at disk))
    ∙ sym (drop-take (length xs) (length ys) (drop at disk))
    ∙ ap (λ (n : ℕ). drop (length xs) (take n (drop at disk))) (sym (length-append xs ys))
    ∙ ap (λ (l : List ℕ). drop (length xs) l) holds
    ∙ drop_at xs ys (length xs) refl

pub holds_both : (at : ℕ) (xs ys disk : List ℕ) → Holds at xs disk → Holds (at + length xs) ys disk → Holds at (xs ++ ys) disk
holds_both at xs ys disk front back =
    let d = drop at disk in
    let next : take (length ys) (drop (length xs) d) ≡ ys = ap (λ (l : List ℕ). take (length ys) l) (drop-drop (length xs) at disk) ∙ back in
    ap (λ (n : ℕ). take n d) (length-append xs ys) ∙ take-add (length xs) (length ys) d ∙ ap (λ (l : List ℕ). l ++ take (length ys) (drop (length xs) d)) front ∙ ap (λ (l : List ℕ). xs ++ l) next

-- one byte
pub byte_stands : (at : ℕ) (disk : List ℕ) → at < length disk → Holds at (slice_index disk at ∷ []) disk
byte_stands at disk inside = rw (drop_more disk at 0 inside) refl

pub byte_is : (at b : ℕ) (disk : List ℕ) → Holds at (b ∷ []) disk → slice_index disk at ≡ b
byte_is at b disk holds =
    let inside : at < length disk = omega (arith, holds_inside at b [] disk holds) in
    let same : slice_index disk at ∷ [] ≡ b ∷ [] = sym (byte_stands at disk inside) ∙ holds in
    cc
