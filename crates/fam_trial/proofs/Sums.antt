-- Sums in 64 bits.
use Rattle.std.proofs.Common.{◌≡◌, ℕ, ◌+◌, ◌*◌, ◌%◌, List, [], ◌∷◌, ◌++◌, sym, ap, ◌∙◌, arith, suc, length}
use Rattle.std.specs.Prelude.{sum_by}
use Rattle.std.specs.List.{enumerate_from}
use Rattle.std.proofs.Math.Nat.{add-mod-mod, mod-add-mod}
use Rattle.std.proofs.lemmas.Nat.{mul-mod_second}
use Rattle.std.proofs.lemmas.List.Sums.{sum_by_push}
use Rattle.fam_trial.specs.Trial.{item_sum}

-- a weight that was reduced at each step
pub weighing : (m item offset byte a b c r : ℕ) → a ≡ item * 4096 % m → b ≡ (a + offset) % m → c ≡ (b + 1) % m → r ≡ byte * c % m →
    r ≡ byte * (4096 * item + offset + 1) % m
weighing m item offset byte a b c r ha hb hc hr =
    let turned : item * 4096 ≡ 4096 * item = grind arith in
    let b-is : b ≡ (4096 * item + offset) % m = hb ∙ ap (λ x. (x + offset) % m) ha ∙ mod-add-mod (item * 4096) m offset ∙ ap (λ x. (x + offset) % m) turned in
    let c-is : c ≡ (4096 * item + offset + 1) % m = hc ∙ ap (λ x. (x + 1) % m) b-is ∙ mod-add-mod (4096 * item + offset) m 1 in
    hr ∙ ap (λ x. byte * x % m) c-is ∙ mul-mod_second byte (4096 * item + offset + 1) m

-- one summand more
pub sum_more : (m now next all one total more : ℕ) → now ≡ all % m → one ≡ more % m → next ≡ (now + one) % m → total ≡ all + more → next ≡ total % m
sum_more m now next all one total more h o n t =
    n ∙ ap (λ x. (x + one) % m) h ∙ mod-add-mod all m one ∙ ap (λ x. (all + x) % m) o ∙ add-mod-mod all more m ∙ ap (λ x. x % m) (sym t)

-- elements with their numbers, in two parts
abbrev pub numbered_as : ℕ → ℕ → ℕ × ℕ
numbered_as n x = (n, x)

enumerated_more : (n : ℕ) (xs ys : List ℕ) → enumerate_from n (xs ++ ys) ≡ enumerate_from n xs ++ enumerate_from (n + length xs) ys
enumerated_more n [] ys = let same : n ≡ n + 0 = omega arith in ap (λ m. enumerate_from m ys) same
enumerated_more n (x ∷ xs) ys =
    let same : (n + 1) + length xs ≡ n + suc (length xs) = omega arith in
    ap (λ zs. numbered_as n x ∷ zs) (enumerated_more (n + 1) xs ys ∙ ap (λ m. enumerate_from (n + 1) xs ++ enumerate_from m ys) same)

-- the weight of a byte at a place
abbrev weight_of : ℕ → ℕ × ℕ → ℕ
weight_of item entry = entry.1 * (4096 * item + entry.0 + 1)

-- the sum with one byte more
pub item_more : (item : ℕ) (xs more : List ℕ) (byte n : ℕ) → more ≡ xs ++ byte ∷ [] → n ≡ length xs → item_sum item more ≡ item_sum item xs + byte * (4096 * item + n + 1)
item_more item xs more byte n split count =
    let place : 0 + length xs ≡ n = omega arith in
    ap (item_sum item) split ∙ ap (sum_by (weight_of item)) (enumerated_more 0 xs (byte ∷ []))
    ∙ sum_by_push (weight_of item) (enumerate_from 0 xs) (numbered_as (0 + length xs) byte)
    ∙ ap (λ k. item_sum item xs + byte * (4096 * item + k + 1)) place
