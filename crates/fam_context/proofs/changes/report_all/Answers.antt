use Rattle.std.proofs.Common.{rules, sym}
use Rattle.std.proofs.lemmas.List.Edits.{map_over_more}
use Rattle.std.proofs.lemmas.Option.{get_or_from_slice_get}
use Rattle.fam_model.specs.Operations.{as_reported}
use Rattle.fam_context.proofs.Told.{begin_marking}
use Rattle.fam_context.proofs.changes.report_all.Goals as goal

pub loop-at-init : goal.loop-at-init
loop-at-init c = begin_marking c.args.operations.now c.args.told c.requires

pub loop-at-preserved : goal.loop-at-preserved
loop-at-preserved c =
    map_over_more as_reported c.args.operations.now c.loop-at.operations c.loop-at.at c.at_mut.result.now (search rules)
    c.loop-at.invariant (sym (get_or_from_slice_get c.loop-at.operations c.loop-at.at c.at_mut.result.now c.at_mut.result.now c.at_mut.ensures.value))
