-- What is counted of a block.
use Rattle.std.proofs.Common.{◌≡◌, ℕ, zero, suc, ◌+◌, ◌*◌, ◌<◌, ◌≤◌, ◌⊎◌, inl, inr, List, [], ◌∷◌, ◌++◌, sym, ap, ◌∙◌, arith, suc-mul, zero-mul, mul-zero, mul_comm}
use Rattle.std.specs.Prelude.{sum_by, min}
use Rattle.std.proofs.lemmas.Bool.{cases_lt}
use Rattle.std.proofs.lemmas.List.Sums.{sum_by-cons}
use Rattle.fam_model.specs.declared.script.Statement.{Statement}
use Rattle.fam_model.specs.declared.script.Statement.TheVariants as statement
use Rattle.fam_model.specs.ScriptText.{call_count}
use Rattle.fam_script.proofs.Blocks.{call_count-Repeat}

-- one statement more
pub sum_push : (block : List Statement) (s : Statement) → sum_by call_count (block ++ s ∷ []) ≡ sum_by call_count block + call_count s
sum_push [] s = sum_by-cons call_count s [] ∙ omega arith
sum_push (x ∷ block) s =
    sum_by-cons call_count x (block ++ s ∷ []) ∙ ap (λ (n : ℕ). call_count x + n) (sum_push block s)
    ∙ (let rest = sum_by-cons call_count x block in omega (arith, rest))

-- a product of what is counted

times_capped : (x t : ℕ) → min (min x 65_537 * t) 65_537 ≡ min (t * x) 65_537
times_capped x zero = omega (arith, zero-mul x, mul-zero (min x 65_537))
times_capped x (suc t) = by_order (cases_lt 65_537 x)
  where
    by_order : (65_537 < x) ⊎ (x ≤ 65_537) → min (min x 65_537 * suc t) 65_537 ≡ min (suc t * x) 65_537
    by_order (inl high) =
        let wide : 65_537 ≤ suc t * x = omega (arith, high, suc-mul t x) in
        let cap : min x 65_537 ≡ 65_537 = omega (arith, high) in
        ap (λ (m : ℕ). min (m * suc t) 65_537) cap ∙ omega (arith, wide)
    by_order (inr low) =
        let cap : min x 65_537 ≡ x = omega (arith, low) in
        ap (λ (m : ℕ). min (m * suc t) 65_537) cap ∙ ap (λ (m : ℕ). min m 65_537) (mul_comm x (suc t))

sum_capped : (a p q : ℕ) → min p 65_537 ≡ min q 65_537 → min (min a 65_537 + p) 65_537 ≡ min (a + q) 65_537
sum_capped a p q e = omega (arith, e)

-- a repeat closed
pub closed_count : (before body : List Statement) (times count_before count : ℕ) → count_before ≡ min (sum_by call_count before) 65_537 → count ≡ min (sum_by call_count body) 65_537 →
    min (min count_before 65_537 + min count 65_537 * times) 65_537 ≡ min (sum_by call_count (before ++ statement.Repeat times body ∷ [])) 65_537
closed_count before body times count_before count e f =
    let a = sum_by call_count before in
    let x = sum_by call_count body in
    let first : min count_before 65_537 ≡ min a 65_537 = omega (arith, e) in
    let second : min count 65_537 ≡ min x 65_537 = omega (arith, f) in
    ap (λ (m : ℕ). min (m + min count 65_537 * times) 65_537) first
    ∙ ap (λ (m : ℕ). min (min a 65_537 + m * times) 65_537) second
    ∙ sum_capped a (min x 65_537 * times) (times * x) (times_capped x times)
    ∙ ap (λ (m : ℕ). min (a + m) 65_537) (sym (call_count-Repeat times body))
    ∙ ap (λ (m : ℕ). min m 65_537) (sym (sum_push before (statement.Repeat times body)))

pub ruleset counts = (sum_push, call_count-Repeat)
