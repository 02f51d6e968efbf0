use Rattle.std.proofs.Common.{◌≡◌, true, sym, ◌∙◌, ap, refl}
use Rattle.std.specs.Prelude.{is_some, Option}
use Rattle.std.specs.Option.{option_map}
use Rattle.fam_model.specs.declared.piece.MarkedPiece.{MarkedPiece}
use Rattle.fam_program.specs.Parts.{piece_of}
use Rattle.fam_program.specs.View.{tracked_program}
use Rattle.fam_program.proofs.Parts.{piece_place, piece_is}
use Rattle.fam_program.proofs.program.Program.piece.Goals as goal

pub place_of-at-requires : goal.place_of-at-requires
place_of-at-requires c =
    let p = (tracked_program c.self.inside).state in
    let there : is_some (piece_of p c.args.call c.args.piece) ≡ true = rw (← c.self.view_is) at c.requires in
    piece_place p c.self.inside.contexts c.args.call c.args.piece refl there

pub piece-requires : goal.piece-requires
piece-requires c =
    let p = (tracked_program c.self.inside).state in
    let there : is_some (piece_of p c.args.call c.args.piece) ≡ true = rw (← c.self.view_is) at c.requires in
    ap is_some (sym (piece_is p c.self.inside.contexts c.args.call c.args.piece c.place_of-at.result c.at-there.result.now refl c.place_of-at.ensures.value c.at-there.ensures)) ∙ there

pub returns : goal.returns
returns c =
    rw (← c.self.view_is)
    (ap (option_map (λ (q : MarkedPiece). q.piece)) (piece_is (tracked_program c.self.inside).state c.self.inside.contexts c.args.call c.args.piece c.place_of-at.result c.at-there.result.now refl c.place_of-at.ensures.value c.at-there.ensures)
    ∙ c.piece.ensures)
