use Rattle.std.proofs.Common.{◌≡◌, true, sym, ◌∙◌, ap, refl}
use Rattle.std.specs.Prelude.{is_some}
use Rattle.fam_model.specs.Programs.{placed, has_operation}
use Rattle.fam_program.specs.View.{tracked_program}
use Rattle.fam_program.proofs.Parts.{placed_place, kind_is, place_has}
use Rattle.fam_program.proofs.program.Program.kind.Goals as goal

pub place_of-at-requires : goal.place_of-at-requires
place_of-at-requires c =
    let p = (tracked_program c.self.inside).state in
    let there : is_some (placed p c.args.call) ≡ true = rw (← c.self.view_is) at c.requires in
    placed_place p c.self.inside.contexts c.args.call refl there

pub kind-requires : goal.kind-requires
kind-requires c =
    place_has c.self.inside.contexts c.args.call c.place_of-at.result c.at-there.result.now c.place_of-at.ensures.value c.at-there.ensures

pub returns : goal.returns
returns c =
    rw (← c.self.view_is) (kind_is (tracked_program c.self.inside).state c.self.inside.contexts c.args.call c.place_of-at.result c.at-there.result.now c.kind.result refl
    c.place_of-at.ensures.value c.at-there.ensures c.kind.ensures)
