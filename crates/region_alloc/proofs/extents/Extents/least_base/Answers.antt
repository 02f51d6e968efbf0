use Rattle.std.proofs.Common.{◌-◌, ◌<◌, ◌≤◌, sym, ap, subst, ◌∙◌}
use Rattle.region_alloc.specs.Gaps.{Holds, space_with}
use Rattle.region_alloc.specs.Space.{least_place}
use Rattle.region_alloc.specs.contracts.extents.Extents.{the_view}
use Rattle.region_alloc.proofs.Found.{too_large, too_far, near_enough}
use Rattle.region_alloc.proofs.Kept.{first_found}
use Rattle.region_alloc.proofs.extents.Extents.least_base.Goals as goal

pub returns-then-n-self : goal.returns-then-n-self
returns-then-n-self c rooms h =
    too_large (space_with (the_view c.self.inside) rooms) c.args.n c.if-n-self.true ∙ ap (λ f. least_place (space_with f rooms) c.args.n) c.self.view_is

pub overflow_sub-self-inside : goal.overflow_sub-self-inside
overflow_sub-self-inside c =
    (first_found (the_view c.self.inside) c.args.n c.room_of-want.result c.first_base-base.result c.self.invariant.rooms c.as_slice.result.now c.self.invariant.held c.room_of-want.ensures.value c.as_slice.ensures.value c.first_base-base.ensures).high

pub returns-then-want-self : goal.returns-then-want-self
returns-then-want-self c rooms h =
    let first = first_found (the_view c.self.inside) c.args.n c.room_of-want.result c.first_base-base.result rooms c.as_slice.result.now (subst (λ f. Holds f rooms) (sym c.self.view_is) h) c.room_of-want.ensures.value c.as_slice.ensures.value c.first_base-base.ensures in
    too_far (space_with (the_view c.self.inside) rooms) c.args.n c.first_base-base.result first (subst (λ w. c.self.inside.size - c.first_base-base.result < w) c.room_of-want.ensures.value c.if-want-self.true)
    ∙ ap (λ f. least_place (space_with f rooms) c.args.n) c.self.view_is

pub returns : goal.returns
returns c rooms h =
    let first = first_found (the_view c.self.inside) c.args.n c.room_of-want.result c.first_base-base.result rooms c.as_slice.result.now (subst (λ f. Holds f rooms) (sym c.self.view_is) h) c.room_of-want.ensures.value c.as_slice.ensures.value c.first_base-base.ensures in
    near_enough (space_with (the_view c.self.inside) rooms) c.args.n c.first_base-base.result first (subst (λ w. w ≤ c.self.inside.size - c.first_base-base.result) c.room_of-want.ensures.value c.if-want-self.false)
    ∙ ap (λ f. least_place (space_with f rooms) c.args.n) c.self.view_is
