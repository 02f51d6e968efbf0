use Rattle.std.proofs.Common.{ltb, sym, ap, subst, ◌∙◌, arith}
use Rattle.region_alloc.specs.Gaps.{Holds}
use Rattle.region_alloc.proofs.Found.{cut_is}
use Rattle.region_alloc.proofs.extents.Extents.ends_past.Goals as goal

pub returns : goal.returns
returns c rooms h =
    let held = subst (λ f. Holds f rooms) (sym c.self.view_is) h in
    ap (ltb c.args.size) held.leave.is_end ∙ cut_is 0 c.self.inside.size c.args.size rooms held.leave.lie (omega arith)
