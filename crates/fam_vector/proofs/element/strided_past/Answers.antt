use Rattle.std.proofs.Common.{◌≡◌, ◌+◌, ◌*◌, sym, ap, ◌∙◌, false}
use Rattle.std.specs.Prelude.{nat_lt}
use Rattle.fam_vector.proofs.Elements.{strided_from, strided_part, strided_next, passed}
use Rattle.fam_vector.proofs.element.strided_past.Goals as goal

pub loop-k-preserved : goal.loop-k-preserved
loop-k-preserved c =
    let here : nat_lt c.args.limit ((c.args.elements.first + c.loop-k.k * c.args.elements.stride) * c.args.elements.size + c.args.elements.size) ≡ false =
    ap (λ place. nat_lt c.args.limit (place * c.args.elements.size + c.args.elements.size)) (sym c.strided_place-place.ensures)
    ∙ sym c.is_past.ensures ∙ c.if-is_past.false in
    sym (passed c.args.limit (strided_from c.args.elements c.loop-k.k) (strided_from c.args.elements (c.loop-k.k + 1)) (strided_part c.args.elements c.loop-k.k)
    (strided_next c.args.elements c.loop-k.k c.loop-k-test.true) here)
    ∙ c.loop-k.invariant
