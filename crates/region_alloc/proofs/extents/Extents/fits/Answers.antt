use Rattle.std.proofs.Common.{◌+◌, ◌≤◌, leb, sym, ap, subst, ◌∙◌, arith}
use mathlib.Core.Bool.{◌||◌}
use Rattle.std.specs.List.{list_any}
use Rattle.std.proofs.lemmas.Bool.{le-leb, lt-leb, or_left}
use Rattle.fam_model.specs.Rows.{room}
use Rattle.region_alloc.specs.Gaps.{Apart, Holds, gaps_from, space_with, has_bytes}
use Rattle.region_alloc.specs.Space.{has_place}
use Rattle.region_alloc.specs.contracts.extents.Extents.{the_view}
use Rattle.region_alloc.proofs.Apart.{gaps_apart}
use Rattle.region_alloc.proofs.Fitting.{place_is_clear}
use Rattle.region_alloc.proofs.Found.{room_bounds}
use Rattle.region_alloc.proofs.extents.Extents.fits.Goals as goal

pub returns-then-base-self-2 : goal.returns-then-base-self-2
returns-then-base-self-2 c rooms h =
    let held = subst (λ f. Holds f rooms) (sym c.self.view_is) h in
    let space = space_with (the_view c.self.inside) rooms in
    let long = c.room_of-length.ensures.value in
    let within : c.args.base + room c.args.n ≤ c.self.inside.size = omega (arith, long, c.if-length-self.false, c.if-base-self.false) in
    let is = place_is_clear space c.args.n c.args.base c.if-base-ne0.false within held.leave.lie in
    let behind = le-leb c.self.inside.end c.args.base c.if-base-self-2.true in
    behind ∙ sym (or_left _ _ (ap (λ e. leb e c.args.base) (sym held.leave.is_end) ∙ behind)) ∙ sym is ∙ ap (λ f. has_place (space_with f rooms) c.args.n c.args.base) c.self.view_is

pub returns-else-base-self-2 : goal.returns-else-base-self-2
returns-else-base-self-2 c rooms h =
    let held = subst (λ f. Holds f rooms) (sym c.self.view_is) h in
    let space = space_with (the_view c.self.inside) rooms in
    let long = c.room_of-length.ensures.value in
    let within : c.args.base + room c.args.n ≤ c.self.inside.size = omega (arith, long, c.if-length-self.false, c.if-base-self.false) in
    let is = place_is_clear space c.args.n c.args.base c.if-base-ne0.false within held.leave.lie in
    let behind = ap (λ e. leb e c.args.base) (sym held.leave.is_end) ∙ lt-leb c.self.inside.end c.args.base (omega (arith, c.if-base-self-2.false)) in
    c.lies_in_gap.ensures ∙ (λ i. list_any (has_bytes c.args.base (long i)) ((c.as_slice.ensures.value ∙ held.leave.are_gaps) i))
    ∙ sym (ap (λ b. b || list_any (has_bytes c.args.base (room c.args.n)) (gaps_from 0 rooms)) behind) ∙ sym is ∙ ap (λ f. has_place (space_with f rooms) c.args.n c.args.base) c.self.view_is

pub lies_in_gap-requires-clause-apart : goal.lies_in_gap-requires-clause-apart
lies_in_gap-requires-clause-apart c =
    subst (Apart 0) (sym (c.as_slice.ensures.value ∙ c.self.invariant.held.leave.are_gaps)) (gaps_apart 0 c.self.inside.size c.self.invariant.rooms c.self.invariant.held.leave.lie)

pub lies_in_gap-requires-clause-some : goal.lies_in_gap-requires-clause-some
lies_in_gap-requires-clause-some c = let bounds = room_bounds c.args.n in let least = bounds.1 in omega (arith, least, c.room_of-length.ensures.value)

pub lies_in_gap-requires-clause-bound : goal.lies_in_gap-requires-clause-bound
lies_in_gap-requires-clause-bound c = omega (arith, c.if-base-self.false, c.self.invariant.limit)
