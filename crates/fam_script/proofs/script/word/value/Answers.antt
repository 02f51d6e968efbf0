use Rattle.std.proofs.Common.{◌<◌, ◌^◌, arith}
use Rattle.fam_script.specs.Digits.{number_after}
use Rattle.fam_script.proofs.Numbers.{next_low}
use Rattle.fam_script.proofs.script.word.value.Goals as goal

pub overflow_mul-value : goal.overflow_mul-value
overflow_mul-value c =
    let low : number_after c.loop-rest.value c.loop-rest.rest.now < 2 ^ 64 = omega (arith, c.loop-rest.invariant.same, c.requires.low) in
    omega (arith, next_low (2 ^ 64) c.loop-rest.value c.loop-rest.rest.now c.in-len1-up.len_at_least low)

pub overflow_add-value : goal.overflow_add-value
overflow_add-value c =
    let low : number_after c.loop-rest.value c.loop-rest.rest.now < 2 ^ 64 = omega (arith, c.loop-rest.invariant.same, c.requires.low) in
    omega (arith, c.from.ensures, next_low (2 ^ 64) c.loop-rest.value c.loop-rest.rest.now c.in-len1-up.len_at_least low)
