use Rattle.std.proofs.Common.{◌≡◌, ◌+◌, ◌*◌, ap, ◌∙◌, ◌++◌, arith}
use Rattle.fam_model.specs.Pieces.{all_cuts, cuts}
use Rattle.fam_vector.specs.Vector.{strided_parts}
use Rattle.fam_vector.proofs.Elements.{strided_from, strided_part, strided_next, strided_within, first_within, more_cuts}
use Rattle.fam_vector.proofs.element.strided_cuts.Goals as goal

pub overflow_cast-start : goal.overflow_cast-start
overflow_cast-start c =
    let fits = strided_within c.args.target.size c.args.elements c.loop-k.k c.strided_place-place.result c.from.result c.loop-k-test.true c.strided_place-place.ensures c.from.ensures c.loop-k.invariant.0 in
    omega arith

pub cut_onto-requires : goal.cut_onto-requires
cut_onto-requires c =
    let fits = strided_within c.args.target.size c.args.elements c.loop-k.k c.strided_place-place.result c.from.result c.loop-k-test.true c.strided_place-place.ensures c.from.ensures c.loop-k.invariant.0 in
    omega arith

pub loop-k-preserved : goal.loop-k-preserved
loop-k-preserved c =
    let elements = c.args.elements in
    let k = c.loop-k.k in
    let base = c.args.target.base in
    let unit = c.args.layout.now.unit in
    let next = strided_next elements k c.loop-k-test.true in
    let start : c.strided_place-place.result * c.from.result ≡ (elements.first + k * elements.stride) * elements.size =
    ap (λ n. n * c.from.result) c.strided_place-place.ensures ∙ ap (λ n. (elements.first + k * elements.stride) * n) c.from.ensures in (
      (first_within c.args.target.size (strided_from elements k) (strided_from elements (k + 1)) (strided_part elements k) next c.loop-k.invariant.0).1,
      more_cuts unit base c.loop-k.ranges c.in_ok-ranges.ranges (all_cuts unit base (strided_parts elements))
          (strided_from elements k) (strided_from elements (k + 1)) (strided_part elements k) next
          (c.in_ok-ranges.ensures ∙ ap (λ at. c.loop-k.ranges ++ cuts base at elements.size unit) start)
          c.loop-k.invariant.1,
    )
