-- Zeros over a range, a unit at a time.
use Rattle.std.proofs.Common.{◌≡◌, ℕ, ◌+◌, ◌-◌, ◌%◌, ◌<◌, ◌≤◌, ◌^◌, List, [], ◌++◌, length, take, drop, sym, ap, subst, ◌∙◌, arith, append_assoc}
use Rattle.std.specs.Prelude.{unwrap_or, is_some, min}
use Rattle.std.specs.FinMap.{insert}
use Rattle.std.proofs.Math.Seq.{drop-append-add}
use Rattle.std.proofs.lemmas.List.{length-append, length-take-le, length-replicate, take_at, drop-drop, replicate-append-replicate}
use Rattle.stripe_store.proofs.Laws.{length-overwritten}
use Rattle.stripe_store.specs.Kept.{Kept}
use Rattle.fam_model.specs.declared.service.Service.{Service}
use Rattle.fam_model.specs.PieceStep.{overwritten}
use Rattle.striped_memory.specs.Striped.{Striped, IsThere, bytes_of, with_bytes, zeros, LiesInUnit}
use Rattle.striped_memory.specs.Stripes.{Sizes, IsStriped}
use Rattle.striped_memory.proofs.Views.{put_twice, inserted_here}
use Rattle.striped_memory.proofs.Accesses.{seen, length_seen, nothing_written}

-- two writes, the second one behind the first
both_written : (xs first second : List ℕ) (a : ℕ) → a + length first ≤ length xs →
    overwritten (a + length first) second (overwritten a first xs) ≡ overwritten a (first ++ second) xs
both_written xs first second a inside =
    let front : List ℕ = take a xs ++ first in
    let rest : List ℕ = drop (a + length first) xs in
    let short : length (take a xs) ≡ a = length-take-le a xs (omega arith) in
    let long : length front ≡ a + length first = length-append (take a xs) first ∙ ap (λ (n : ℕ). n + length first) short in
    let sum : a + length first + length second ≡ a + length (first ++ second) = let l = length-append first second in omega (arith, l) in
    ap (λ (ys : List ℕ). (ys ++ second) ++ drop (a + length first + length second) (front ++ rest)) (take_at front rest (a + length first) long)
    ∙ ap (λ (ys : List ℕ). (front ++ second) ++ ys)
    (ap (λ (n : ℕ). drop (n + length second) (front ++ rest)) (sym long)
    ∙ drop-append-add front rest (length second)
    ∙ drop-drop (length second) (a + length first) xs
    ∙ ap (λ (n : ℕ). drop n xs) sum)
    ∙ ap (λ (ys : List ℕ). ys ++ drop (a + length (first ++ second)) xs) (append_assoc (take a xs) first second)

more_zeros : (xs : List ℕ) (a k m : ℕ) → a + k ≤ length xs →
    overwritten (a + k) (zeros m) (overwritten a (zeros k) xs) ≡ overwritten a (zeros (k + m)) xs
more_zeros xs a k m inside =
    let count : length (zeros k) ≡ k = length-replicate k 0 in
    ap (λ (n : ℕ). overwritten (a + n) (zeros m) (overwritten a (zeros k) xs)) (sym count)
    ∙ both_written xs (zeros k) (zeros m) a (omega (arith, count))
    ∙ ap (λ (ys : List ℕ). overwritten a ys xs) (replicate-append-replicate k m 0)

pub no_zeros : (memory : Striped) (region address n : ℕ) → IsThere memory region →
    memory ≡ with_bytes memory region (overwritten address (zeros (n - n)) (bytes_of memory region))
no_zeros memory region address n there =
    let count : length (zeros (n - n)) ≡ n - n = length-replicate (n - n) 0 in
    nothing_written memory region address (zeros (n - n)) there (omega (arith, count))

-- no region is longer than a size may be
pub small_seen : (service : Service) (stores : List Kept) (sizes : Sizes) (region : ℕ) (memory : Striped) → IsStriped service stores sizes →
    seen service stores sizes ≡ memory → IsThere memory region → length (bytes_of memory region) ≤ 2 ^ 26
small_seen service stores sizes region memory striped e =
    subst (λ (m : Striped). IsThere m region → length (bytes_of m region) ≤ 2 ^ 26) e
    (λ there. let count = length_seen service stores sizes region there in let small = striped.small region in omega (arith, count, small))

bytes_now : (memory : Striped) (region : ℕ) (bytes : List ℕ) → bytes_of (with_bytes memory region bytes) region ≡ bytes
bytes_now memory region bytes = ap (λ o. unwrap_or o []) (inserted_here memory.regions region bytes)

pub zeros_lie : (memory now : Striped) (region address n left part unit : ℕ) →
    now ≡ with_bytes memory region (overwritten address (zeros (n - left)) (bytes_of memory region)) → address + n ≤ length (bytes_of memory region) →
    left ≤ n → unit ≡ memory.service.unit → 0 < unit → part ≡ min (unit - (address + (n - left)) % unit) left →
    LiesInUnit now region (address + (n - left)) part
zeros_lie memory now region address n left part unit e inside least is wide cut =
    let done = overwritten address (zeros (n - left)) (bytes_of memory region) in
    let some : length (zeros (n - left)) ≡ n - left = length-replicate (n - left) 0 in
    let count : length done ≡ length (bytes_of memory region) = length-overwritten (bytes_of memory region) address (zeros (n - left)) (omega (arith, some)) in
    let long : length (bytes_of (with_bytes memory region done) region) ≡ length done = ap length (bytes_now memory region done) in
    let at = address + (n - left) in
    let fits : at % unit + part ≤ unit = omega arith in
    subst (λ (m : Striped). LiesInUnit m region at part) (sym e)
    (record {
      there = ap (λ o. is_some o) (inserted_here memory.regions region done);
      inside = omega (arith, count, long);
      in_unit = subst (λ (w : ℕ). at % w + part ≤ w) is fits;
    })

pub zeros_more : (memory now new : Striped) (region address n left part : ℕ) →
    now ≡ with_bytes memory region (overwritten address (zeros (n - left)) (bytes_of memory region)) →
    new ≡ with_bytes now region (overwritten (address + (n - left)) (zeros part) (bytes_of now region)) →
    address + n ≤ length (bytes_of memory region) → left ≤ n → part ≤ left →
    new ≡ with_bytes memory region (overwritten address (zeros (n - (left - part))) (bytes_of memory region))
zeros_more memory now new region address n left part e change inside least less =
    let done = overwritten address (zeros (n - left)) (bytes_of memory region) in
    let sum : (n - left) + part ≡ n - (left - part) = omega arith in
    let both : overwritten (address + (n - left)) (zeros part) (bytes_of (with_bytes memory region done) region)
    ≡ overwritten address (zeros (n - (left - part))) (bytes_of memory region) =
    ap (overwritten (address + (n - left)) (zeros part)) (bytes_now memory region done)
    ∙ more_zeros (bytes_of memory region) address (n - left) part (omega arith)
    ∙ ap (λ (k : ℕ). overwritten address (zeros k) (bytes_of memory region)) sum in
    let regions : insert (insert memory.regions region done) region (overwritten (address + (n - left)) (zeros part) (bytes_of (with_bytes memory region done) region))
    ≡ insert memory.regions region (overwritten address (zeros (n - (left - part))) (bytes_of memory region)) =
    ap (insert (insert memory.regions region done) region) both
    ∙ put_twice memory.regions region done (overwritten address (zeros (n - (left - part))) (bytes_of memory region)) in
    change
    ∙ ap (λ (m : Striped). with_bytes m region (overwritten (address + (n - left)) (zeros part) (bytes_of m region))) e
    ∙ λ i. record { service = memory.service; regions = regions i }
