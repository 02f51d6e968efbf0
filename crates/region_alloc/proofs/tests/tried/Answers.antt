use Rattle.std.proofs.Common.{false, eqb, [], refl}
use Rattle.std.proofs.lemmas.Bool.{and_from, eq-eqb, or_left}
use Rattle.fam_model.specs.Rows.{room}
use mathlib.Core.Bool.{◌&&◌}
use Rattle.region_alloc.specs.Space.{with_room}
use Rattle.region_alloc.proofs.tests.tried.Goals as goal

pub free-requires : goal.free-requires
free-requires c =
    let base = c.in-Ok.base in
    let n = c.args.n in (
      with_room c.in-Ok.base c.args.n [],
      c.in-Ok.ensures.rooms [] (c.in_ok-reserve.ensures.rooms [] c.requires),
      or_left (eqb base base && eqb (room n) (room n)) false (and_from (eqb base base) (eqb (room n) (room n)) (eq-eqb base base refl) (eq-eqb (room n) (room n) refl)),
    )
