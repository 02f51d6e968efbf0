use Rattle.std.proofs.Common.{refl, sym, subst}
use Rattle.region_alloc.specs.Gaps.{Holds, ranges_of}
use Rattle.std.specs.Vec.{vec_capacity}
use Rattle.region_alloc.specs.contracts.extents.Extents.{the_view}
use Rattle.region_alloc.proofs.Kept.{resized}
use Rattle.region_alloc.proofs.extents.Extents.resize.Goals as goal

pub invariant_of-self : goal.invariant_of-self
invariant_of-self c =
    let new = ranges_of c.args.size c.self.inside.gaps.items c.self.inside.end c.self.inside.count (vec_capacity c.self.inside.gaps) in
    let uncut = c.if-ends_past.ensures c.self.invariant.rooms (subst (λ f. Holds f c.self.invariant.rooms) c.self.view_is c.self.invariant.held) in
    record {
      limit = c.requires;
      places = c.self.invariant.places;
      rooms = c.self.invariant.rooms;
      held = resized (the_view c.self.inside) new c.self.invariant.rooms c.self.invariant.held refl refl refl (sym uncut);
    }

pub returns-clause-rooms : goal.returns-clause-rooms
returns-clause-rooms c rooms h =
    let new = ranges_of c.args.size c.self.inside.gaps.items c.self.inside.end c.self.inside.count (vec_capacity c.self.inside.gaps) in
    resized (the_view c.self.inside) new rooms (subst (λ f. Holds f rooms) (sym c.self.view_is) h) refl refl refl (sym (c.if-ends_past.ensures rooms h))
