-- The order of names.
use Rattle.std.proofs.Common.{◌≡◌, true, false, arith}
use Rattle.std.proofs.lemmas.Bool.Decides.{nat_tests}
use Rattle.fam_schedule.specs.Schedule.{PieceName}
use Rattle.ready_lists.specs.Lists.{is_before, same_name}

-- names that are the same piece are equal
pub same_name-true : (a b : PieceName) → same_name a b ≡ true → a ≡ b
unfolding same_name
same_name-true a b h =
    let pe : a.pe ≡ b.pe = grind (arith, nat_tests) in
    let call : a.call ≡ b.call = grind (arith, nat_tests) in
    let piece : a.piece ≡ b.piece = grind (arith, nat_tests) in
    λ i. record { pe = pe i; call = call i; piece = piece i }

pub same_name-refl : (a : PieceName) → same_name a a ≡ true
unfolding same_name
same_name-refl a = grind (arith, nat_tests)

pub same_name-sym : (a b : PieceName) → same_name a b ≡ same_name b a
unfolding same_name
same_name-sym a b = grind (arith, nat_tests)

-- a name does not come before itself
pub is_before-refl : (a : PieceName) → is_before a a ≡ false
unfolding is_before
is_before-refl a = grind (arith, nat_tests)

pub is_before-trans : (a b c : PieceName) → is_before a b ≡ true → is_before b c ≡ true → is_before a c ≡ true
unfolding is_before
is_before-trans a b c h k = grind (arith, nat_tests)

-- of two names at most one comes before the other
pub is_before-not_both : (a b : PieceName) → is_before a b ≡ true → is_before b a ≡ false
unfolding is_before
is_before-not_both a b h = grind (arith, nat_tests)

-- a name that comes before another is another one
pub is_before-other : (a b : PieceName) → is_before a b ≡ true → same_name a b ≡ false
unfolding is_before same_name
is_before-other a b h = grind (arith, nat_tests)

-- of two names that are not the same one comes before the other
pub is_before-total : (a b : PieceName) → is_before a b ≡ false → same_name a b ≡ false → is_before b a ≡ true
unfolding is_before same_name
is_before-total a b h k = grind (arith, nat_tests)
