use Rattle.std.proofs.Common.{arith}
use Rattle.std.proofs.lemmas.List.{length-take}
use Rattle.fam_io.proofs.Passing.{HasRead-lost, HasRead-more}
use Rattle.fam_io.proofs.whole.read_through.Goals as goal

pub returns-in_err-read_piece-clause-lost : goal.returns-in_err-read_piece-clause-lost
returns-in_err-read_piece-clause-lost g c =
    HasRead-lost _ _ _ _ _ _ c.loop-bytes.invariant.0 (grind (arith, length-take)) c.in_err-read_piece.ensures.lost

pub returns-then-branch-eq0-clause-lost : goal.returns-then-branch-eq0-clause-lost
returns-then-branch-eq0-clause-lost g c =
    let (given, count, is, moved) = c.in_ok-read_piece.ensures.given in
    let so_far = HasRead-more _ _ (g.S.Source.source c.read_piece.new.input) _ _ _ _ _ _ c.loop-bytes.invariant.0 count c.in_ok-read_piece.ensures.bound (grind (arith, length-take)) is moved c.read_piece.ensures.later in
    (_, so_far.within, so_far.moved)
