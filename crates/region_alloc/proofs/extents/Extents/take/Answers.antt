use Rattle.std.proofs.Common.{◌≡◌, ◌+◌, true, refl, sym, ap, subst, ◌∙◌, arith}
use Rattle.std.specs.Vec.{vec_capacity}
use Rattle.std.proofs.lemmas.Bool.{ltb-true}
use Rattle.region_alloc.specs.Gaps.{Holds, ranges_of, space_with}
use Rattle.region_alloc.specs.Space.{has_place, with_room}
use Rattle.region_alloc.specs.contracts.extents.Extents.{the_view}
use Rattle.region_alloc.proofs.Found.{room_bounds}
use Rattle.region_alloc.proofs.Kept.{fits_parts, cut_fits, taken_rooms, gaps_few}
use Rattle.region_alloc.proofs.extents.Extents.take.Goals as goal

pub room_of-requires : goal.room_of-requires
room_of-requires c =
    let rooms = c.requires.fits.0 in
    let parts = fits_parts (space_with (the_view c.self.inside) rooms) c.args.n c.args.base (subst (λ f. has_place (space_with f rooms) c.args.n c.args.base ≡ true) (sym c.self.view_is) c.requires.fits.2) in
    let bounds = room_bounds c.args.n in
    omega (arith, parts.1, bounds.0, c.self.invariant.limit)

pub cut_room-self-inside-requires-clause-fits : goal.cut_room-self-inside-requires-clause-fits
cut_room-self-inside-requires-clause-fits c =
    let rooms = c.requires.fits.0 in
    cut_fits (the_view c.self.inside) rooms c.args.n c.args.base c.room_of.result c.self.invariant.limit (subst (λ f. Holds f rooms) (sym c.self.view_is) c.requires.fits.1) (subst (λ f. has_place (space_with f rooms) c.args.n c.args.base ≡ true) (sym c.self.view_is) c.requires.fits.2) c.room_of.ensures.value

pub cut_room-self-inside-requires-clause-capacity : goal.cut_room-self-inside-requires-clause-capacity
cut_room-self-inside-requires-clause-capacity c =
    let few = gaps_few (the_view c.self.inside) c.self.invariant.rooms c.self.invariant.held in
    let ready = ltb-true _ _ (ap (λ f. f.is_ready) c.self.view_is ∙ c.requires.ready) in
    omega (arith, few, ready, c.self.inside.gaps.ok.0)

pub invariant_of-self : goal.invariant_of-self
invariant_of-self c =
    let rooms = c.requires.fits.0 in
    let new = ranges_of c.self.inside.size c.cut_room-self-inside.new.gaps.items c.cut_room-self-inside.result (c.self.inside.count + 1) (vec_capacity c.cut_room-self-inside.new.gaps) in
    let ready = ltb-true _ _ (ap (λ f. f.is_ready) c.self.view_is ∙ c.requires.ready) in
    record {
      limit = c.self.invariant.limit;
      places = omega (arith, ready, c.cut_room-self-inside.ensures.capacity);
      rooms = with_room c.args.base c.args.n rooms;
      held = taken_rooms (the_view c.self.inside) new rooms c.args.n c.args.base c.room_of.result (subst (λ f. Holds f rooms) (sym c.self.view_is) c.requires.fits.1) (subst (λ f. has_place (space_with f rooms) c.args.n c.args.base ≡ true) (sym c.self.view_is) c.requires.fits.2) c.room_of.ensures.value c.cut_room-self-inside.ensures.left refl refl;
    }

pub returns-clause-rooms : goal.returns-clause-rooms
returns-clause-rooms c rooms h fits =
    let new = ranges_of c.self.inside.size c.cut_room-self-inside.new.gaps.items c.cut_room-self-inside.result (c.self.inside.count + 1) (vec_capacity c.cut_room-self-inside.new.gaps) in
    taken_rooms (the_view c.self.inside) new rooms c.args.n c.args.base c.room_of.result (subst (λ f. Holds f rooms) (sym c.self.view_is) h) (subst (λ f. has_place (space_with f rooms) c.args.n c.args.base ≡ true) (sym c.self.view_is) fits) c.room_of.ensures.value c.cut_room-self-inside.ensures.left refl refl
