-- Numbers of a width.
use Rattle.std.proofs.Common.{◌≡◌, IsTrue, ℕ, ◌<◌, ◌^◌, ◌⊎◌, inl, inr, ℤ, pos, ◌+ℤ◌, ◌-ℤ◌, FitsSigned, to_z, of_z, refl, ap, sym, ◌∙◌, arith}
use Rattle.std.specs.Prelude.{negsuc, bit_or, bit_xor, unsigned_abs}
use Rattle.std.specs.Int.{w128, int_min, int_max}
use Rattle.std.proofs.lemmas.Bool.{false≢true}
use Rattle.std.proofs.lemmas.Bool.Decides.{nat_tests}
use Rattle.std.proofs.lemmas.Int.{ints, to_z_pos}
use Rattle.std.proofs.lemmas.Nat.{or_lt, xor_lt}
use Rattle.fam_model.specs.declared.call.Width.{Width}
use Rattle.fam_model.specs.declared.call.Width.TheVariants.{I32, U32, I64, U64, I128, F32, F64}
use Rattle.fam_model.specs.declared.call.Op.{Op}
use Rattle.fam_model.specs.declared.call.Op.TheVariants as op
use Rattle.fam_model.specs.Atomic as atomics

-- an operation is one of two that make the same of a number
pub of_two_ops : (asked first second : Op) (width : Width) (old a b result : ℤ) → (asked ≡ first) ⊎ (asked ≡ second) → result ≡ atomics.atomic first width old a b → result ≡ atomics.atomic second width old a b → result ≡ atomics.atomic asked width old a b
of_two_ops asked first second width old a b result (inl e) f s = f ∙ sym (ap (λ o. atomics.atomic o width old a b) e)
of_two_ops asked first second width old a b result (inr e) f s = s ∙ sym (ap (λ o. atomics.atomic o width old a b) e)

-- a width that has works on single bits has no negative numbers, and at most 64 bits
pub record IsUnsigned (width : Width) (z : ℤ) : Type 0 where
  pub n : ℕ
  pub is : z ≡ pos n
  pub below : n < 2 ^ atomics.width_bits width
  pub few : (m : ℕ) → m < 2 ^ atomics.width_bits width → m < 2 ^ 127
  pub all : (m : ℕ) → m < 2 ^ atomics.width_bits width → IsTrue (atomics.is_in_range width (pos m))

-- the number of 32 bits
in_32 : (z : ℤ) → IsTrue (atomics.is_in_range U32 z) → IsUnsigned U32 z
in_32 (pos n) h = record { n = n; is = refl; below = grind (arith, nat_tests); few = λ m small. omega arith; all = λ m small. grind (arith, nat_tests) }
in_32 (negsuc n) h = grind (arith, nat_tests)

in_64 : (z : ℤ) → IsTrue (atomics.is_in_range U64 z) → IsUnsigned U64 z
in_64 (pos n) h = record { n = n; is = refl; below = grind (arith, nat_tests); few = λ m small. omega arith; all = λ m small. grind (arith, nat_tests) }
in_64 (negsuc n) h = grind (arith, nat_tests)

pub min_in_range : (width : Width) (x y : ℤ) → IsTrue (atomics.is_in_range width x) → IsTrue (atomics.is_in_range width y) → IsTrue (atomics.is_in_range width (int_min x y))
min_in_range width x y hx hy = grind (arith, nat_tests)

pub max_in_range : (width : Width) (x y : ℤ) → IsTrue (atomics.is_in_range width x) → IsTrue (atomics.is_in_range width y) → IsTrue (atomics.is_in_range width (int_max x y))
max_in_range width x y hx hy = grind (arith, nat_tests)

-- sums and differences of numbers below 128 bits fit 128 bits
pub sum_fits : (width : Width) (x y : ℤ) → IsTrue (atomics.is_supported op.Add width) → IsTrue (atomics.is_in_range width x) → IsTrue (atomics.is_in_range width y) → FitsSigned w128 (x +ℤ y)
sum_fits I32 x y s hx hy = grind (arith, ints, nat_tests)
sum_fits U32 x y s hx hy = grind (arith, ints, nat_tests)
sum_fits I64 x y s hx hy = grind (arith, ints, nat_tests)
sum_fits U64 x y s hx hy = grind (arith, ints, nat_tests)
sum_fits I128 x y s hx hy = absurd (false≢true s)
sum_fits F32 x y s hx hy = absurd (false≢true s)
sum_fits F64 x y s hx hy = absurd (false≢true s)

pub difference_fits : (width : Width) (x y : ℤ) → IsTrue (atomics.is_supported op.Sub width) → IsTrue (atomics.is_in_range width x) → IsTrue (atomics.is_in_range width y) → FitsSigned w128 (x -ℤ y)
difference_fits I32 x y s hx hy = grind (arith, ints, nat_tests)
difference_fits U32 x y s hx hy = grind (arith, ints, nat_tests)
difference_fits I64 x y s hx hy = grind (arith, ints, nat_tests)
difference_fits U64 x y s hx hy = grind (arith, ints, nat_tests)
difference_fits I128 x y s hx hy = absurd (false≢true s)
difference_fits F32 x y s hx hy = absurd (false≢true s)
difference_fits F64 x y s hx hy = absurd (false≢true s)

-- a number of a width with works on single bits
pub unsigned_number : (width : Width) (z : ℤ) → IsTrue (atomics.is_supported op.Or width) → IsTrue (atomics.is_in_range width z) → IsUnsigned width z
unsigned_number U32 z s h = in_32 z h
unsigned_number U64 z s h = in_64 z h
unsigned_number I32 z s h = absurd (false≢true s)
unsigned_number I64 z s h = absurd (false≢true s)
unsigned_number I128 z s h = absurd (false≢true s)
unsigned_number F32 z s h = absurd (false≢true s)
unsigned_number F64 z s h = absurd (false≢true s)

-- what `x | y` and `x ^ y` are at such a width
pub record IsBits (width : Width) (result : ℤ) (n : ℕ) : Type 0 where
  pub value : result ≡ pos n
  pub in_range : IsTrue (atomics.is_in_range width result)

is_bits : (width : Width) (x : ℤ) (n : ℕ) → IsUnsigned width x → n < 2 ^ atomics.width_bits width → IsBits width (to_z w128 n) n
is_bits width x n u small =
    let e : to_z w128 n ≡ pos n = to_z_pos w128 n (u.few n small) in
    record { value = e; in_range = rw e (u.all n small) }

any_bits : (width : Width) (x y : ℤ) → IsUnsigned width x → IsUnsigned width y → IsBits width (to_z w128 (bit_or (of_z w128 x) (of_z w128 y))) (bit_or (unsigned_abs x) (unsigned_abs y))
any_bits width x y u v =
    let p : of_z w128 x ≡ u.n = ap (of_z w128) u.is in
    let q : of_z w128 y ≡ v.n = ap (of_z w128) v.is in
    let p' : unsigned_abs x ≡ u.n = ap unsigned_abs u.is in
    let q' : unsigned_abs y ≡ v.n = ap unsigned_abs v.is in
    rw (p, q, p', q') (is_bits width x _ u (or_lt (atomics.width_bits width) _ _ u.below v.below))

one_bits : (width : Width) (x y : ℤ) → IsUnsigned width x → IsUnsigned width y → IsBits width (to_z w128 (bit_xor (of_z w128 x) (of_z w128 y))) (bit_xor (unsigned_abs x) (unsigned_abs y))
one_bits width x y u v =
    let p : of_z w128 x ≡ u.n = ap (of_z w128) u.is in
    let q : of_z w128 y ≡ v.n = ap (of_z w128) v.is in
    let p' : unsigned_abs x ≡ u.n = ap unsigned_abs u.is in
    let q' : unsigned_abs y ≡ v.n = ap unsigned_abs v.is in
    rw (p, q, p', q') (is_bits width x _ u (xor_lt (atomics.width_bits width) _ _ u.below v.below))

pub or_is : (width : Width) (x y : ℤ) → IsTrue (atomics.is_supported op.Or width) → IsTrue (atomics.is_in_range width x) → IsTrue (atomics.is_in_range width y) → IsBits width (to_z w128 (bit_or (of_z w128 x) (of_z w128 y))) (bit_or (unsigned_abs x) (unsigned_abs y))
or_is width x y s hx hy = any_bits width x y (unsigned_number width x s hx) (unsigned_number width y s hy)

-- a width has all works on single bits or none
or_as_xor : (width : Width) → IsTrue (atomics.is_supported op.Xor width) → IsTrue (atomics.is_supported op.Or width)
or_as_xor I32 s = s
or_as_xor U32 s = s
or_as_xor I64 s = s
or_as_xor U64 s = s
or_as_xor I128 s = s
or_as_xor F32 s = s
or_as_xor F64 s = s

pub xor_is : (width : Width) (x y : ℤ) → IsTrue (atomics.is_supported op.Xor width) → IsTrue (atomics.is_in_range width x) → IsTrue (atomics.is_in_range width y) → IsBits width (to_z w128 (bit_xor (of_z w128 x) (of_z w128 y))) (bit_xor (unsigned_abs x) (unsigned_abs y))
xor_is width x y s hx hy =
    one_bits width x y (unsigned_number width x (or_as_xor width s) hx) (unsigned_number width y (or_as_xor width s) hy)
