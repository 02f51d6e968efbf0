use Rattle.std.proofs.Common.{rules, sym, ◌∙◌, ◌+◌, ap, drop}
use Rattle.std.specs.List.{flat_map}
use Rattle.fam_model.specs.Operations.{bytes_in}
use Rattle.fam_context.specs.Results.{same_bytes}
use Rattle.fam_context.proofs.Telling.{same_part, other_part}
use Rattle.fam_context.proofs.results.are_bytes_of.Goals as goal

pub returns-in_default : goal.returns-in_default
returns-in_default c =
    sym (c.loop-piece.invariant
    ∙ other_part (λ p. bytes_in p.mark) c.args.pieces.now c.loop-piece.piece-index c.piece-item.result c.loop-piece.rest.now
    c.loop-piece-test.true c.piece-item.is (search rules))

pub loop-piece-preserved : goal.loop-piece-preserved
loop-piece-preserved c =
    c.loop-piece.invariant
    ∙ (same_part (λ p. bytes_in p.mark) c.args.pieces.now c.loop-piece.piece-index c.piece-item.result c.loop-piece.rest.now
    c.loop-piece-test.true c.piece-item.is (search rules)
    ∙ ap (λ ys. same_bytes ys (flat_map (λ p. bytes_in p.mark) (drop (c.loop-piece.piece-index + 1) c.args.pieces.now))) (search rules))
