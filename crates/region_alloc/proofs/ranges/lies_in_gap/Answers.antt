use Rattle.std.proofs.Common.{◌+◌, ◌-◌, ◌<◌, get_or, sym, ap, ◌∙◌, arith}
use Rattle.region_alloc.specs.Gaps.{count_before, has_bytes}
use Rattle.region_alloc.proofs.Apart.{apart_rises, nowhere, last_has}
use Rattle.region_alloc.proofs.ranges.lies_in_gap.Goals as goal

pub places_before-count-requires : goal.places_before-count-requires
places_before-count-requires c = apart_rises 0 c.args.gaps.now c.requires.apart

pub returns-then-count-eq0 : goal.returns-then-count-eq0
returns-then-count-eq0 c = sym (nowhere c.args.base c.args.length 0 c.args.gaps.now c.requires.apart (sym c.places_before-count.ensures.value ∙ c.if-count-eq0.true))

pub returns-in-Some : goal.returns-in-Some
returns-in-Some c =
    let count = c.places_before-count.ensures.value in
    let some : 0 < count_before (c.args.base + 1) c.args.gaps.now = omega (arith, count, c.if-count-eq0.false) in
    c.has_bytes.ensures
    ∙ ap (has_bytes c.args.base c.args.length) (c.in-Some.ensures.lookup.1 ∙ ap (λ n. get_or c.args.gaps.now (n - 1) c.in-Some.gap.now) count)
    ∙ sym (last_has c.args.base c.args.length 0 c.args.gaps.now c.in-Some.gap.now c.requires.some c.requires.apart some)
