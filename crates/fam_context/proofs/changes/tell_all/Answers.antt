use Rattle.std.proofs.Common.{rules, ◌++◌, ◌∙◌, sym, ap, drop, get_or}
use Rattle.std.proofs.lemmas.List.{take-append-drop}
use Rattle.std.proofs.lemmas.List.Edits.{map_over_more}
use Rattle.fam_context.specs.Sides.{told_side}
use Rattle.fam_context.proofs.changes.tell_all.Goals as goal

pub loop-at-init : goal.loop-at-init
loop-at-init c =
    sym (take-append-drop c.args.told c.args.sides.now) ∙ ap (λ done. done ++ drop c.args.told c.args.sides.now) c.requires.before

pub loop-at-preserved : goal.loop-at-preserved
loop-at-preserved c =
    map_over_more told_side c.args.sides.now c.loop-at.sides c.loop-at.at (get_or c.loop-at.sides c.loop-at.at c.index-sides-at.result) (search rules)
    c.loop-at.invariant (ap (λ d. get_or c.loop-at.sides c.loop-at.at d) c.index-sides-at.is)
