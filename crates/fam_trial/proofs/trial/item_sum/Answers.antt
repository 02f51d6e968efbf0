use Rattle.std.proofs.Common.{◌≡◌, ℕ, ◌+◌, ◌*◌, ◌%◌, ◌^◌, List, length, get_or, take, refl, sym, arith}
use Rattle.std.proofs.lemmas.List.{take_more, length-take-le}
use Rattle.fam_trial.specs.Trial.{item_sum}
use Rattle.fam_trial.proofs.Sums.{sum_more, item_more}
use Rattle.fam_trial.proofs.trial.item_sum.Goals as goal

pub loop-offset-preserved : goal.loop-offset-preserved
loop-offset-preserved c =
    let bytes : List ℕ = c.args.bytes.now in
    let at : ℕ = c.loop-offset.offset in
    let item : ℕ = c.args.item in
    let byte : ℕ = get_or bytes at 0 in
    let inside = c.loop-offset-test.true in
    let count : at ≡ length (take at bytes) = sym (length-take-le at bytes (omega arith)) in
    sum_more (2 ^ 64) c.loop-offset.sum ((c.loop-offset.sum + c.weighted-sum.result) % 2 ^ 64) (item_sum item (take at bytes)) c.weighted-sum.result
    (item_sum item (take (at + 1) bytes)) (byte * (4096 * item + at + 1)) c.loop-offset.invariant c.weighted-sum.ensures refl
    (item_more item (take at bytes) (take (at + 1) bytes) byte at (take_more bytes at 0 inside) count)
