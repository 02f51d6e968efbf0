use Rattle.std.proofs.Common.{◌-◌, refl, sym, subst, arith}
use Rattle.std.specs.Vec.{vec_capacity}
use Rattle.region_alloc.specs.Gaps.{Holds, ranges_of}
use Rattle.region_alloc.specs.Space.{without_room}
use Rattle.region_alloc.specs.contracts.extents.Extents.{the_view}
use Rattle.region_alloc.proofs.Kept.{free_fits, freed_rooms, room_inside}
use Rattle.region_alloc.proofs.extents.Extents.free.Goals as goal

pub room_of-requires : goal.room_of-requires
room_of-requires c =
    room_inside (the_view c.self.inside) c.requires.0 c.args.n c.args.base c.self.invariant.limit (subst (λ f. Holds f c.requires.0) (sym c.self.view_is) c.requires.1) c.requires.2

pub free_room-self-inside-requires : goal.free_room-self-inside-requires
free_room-self-inside-requires c =
    let rooms = c.requires.0 in
    free_fits (the_view c.self.inside) rooms c.args.n c.args.base c.room_of.result (vec_capacity c.self.inside.gaps) c.self.invariant.limit c.self.invariant.places (subst (λ f. Holds f rooms) (sym c.self.view_is) c.requires.1) c.requires.2 c.room_of.ensures.value

pub invariant_of-self : goal.invariant_of-self
invariant_of-self c =
    let rooms = c.requires.0 in
    let new = ranges_of c.self.inside.size c.free_room-self-inside.new.gaps.items c.free_room-self-inside.result (c.self.inside.count - 1) (vec_capacity c.free_room-self-inside.new.gaps) in
    let places = c.self.invariant.places in
    record {
      limit = c.self.invariant.limit;
      places = omega (arith, places, c.free_room-self-inside.ensures.capacity);
      rooms = without_room c.args.base rooms;
      held = freed_rooms (the_view c.self.inside) new rooms c.args.n c.args.base c.room_of.result (subst (λ f. Holds f rooms) (sym c.self.view_is) c.requires.1) c.requires.2 c.room_of.ensures.value c.free_room-self-inside.ensures.left refl refl;
    }

pub returns-clause-rooms : goal.returns-clause-rooms
returns-clause-rooms c rooms h there =
    let new = ranges_of c.self.inside.size c.free_room-self-inside.new.gaps.items c.free_room-self-inside.result (c.self.inside.count - 1) (vec_capacity c.free_room-self-inside.new.gaps) in
    freed_rooms (the_view c.self.inside) new rooms c.args.n c.args.base c.room_of.result (subst (λ f. Holds f rooms) (sym c.self.view_is) h) there c.room_of.ensures.value c.free_room-self-inside.ensures.left refl refl
