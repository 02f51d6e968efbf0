use Rattle.std.proofs.Common.{is_none, sym, ap, subst, ◌∙◌}
use Rattle.fam_model.specs.Rows.{bases_up_to}
use Rattle.region_alloc.specs.Gaps.{Holds, space_with}
use Rattle.region_alloc.specs.Space.{has_place}
use Rattle.region_alloc.proofs.Found.{found_passes, unfound}
use Rattle.region_alloc.proofs.extents.Extents.place.Goals as goal

pub take-requires-clause-fits : goal.take-requires-clause-fits
take-requires-clause-fits c =
    let rooms = c.self.invariant.rooms in
    let held = subst (λ f. Holds f rooms) c.self.view_is c.self.invariant.held in
    (rooms, held, found_passes (has_place (space_with c.args.self.now rooms) c.args.n) (bases_up_to c.args.self.now.size) c.in-Some.base (sym (c.in-Some.ensures rooms held)))

pub returns-in-None-clause-nowhere : goal.returns-in-None-clause-nowhere
returns-in-None-clause-nowhere c rooms h = ap is_none (c.in-None.ensures rooms h) ∙ unfound (has_place (space_with c.args.self.now rooms) c.args.n) (bases_up_to c.args.self.now.size)

pub returns-in-Some-clause-nowhere : goal.returns-in-Some-clause-nowhere
returns-in-Some-clause-nowhere c rooms h = ap is_none (c.in-Some.ensures rooms h) ∙ unfound (has_place (space_with c.args.self.now rooms) c.args.n) (bases_up_to c.args.self.now.size)

pub returns-in-Some-clause-rooms : goal.returns-in-Some-clause-rooms
returns-in-Some-clause-rooms c rooms h =
    c.take.ensures.rooms rooms h (found_passes (has_place (space_with c.args.self.now rooms) c.args.n) (bases_up_to c.args.self.now.size) c.in-Some.base (sym (c.in-Some.ensures rooms h)))
