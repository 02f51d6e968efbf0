use Rattle.fam_context.proofs.Kept.{kept_told, reported_is}
use Rattle.fam_context.proofs.Reached.{indexed_told}
use Rattle.std.proofs.Common.{rules}
use Rattle.fam_context.proofs.Told.{told_all, sides_told}
use Rattle.fam_context.proofs.context.Context.mark_reported.Goals as goal

pub tell_each-requires-clause-before : goal.tell_each-requires-clause-before
tell_each-requires-clause-before c =
    sides_told c.self.inside.told c.self.inside.context.operations c.self.inside.sides.items c.self.invariant.indexed.kept.each
    c.self.invariant.settled.before

pub invariant_of-self : goal.invariant_of-self
invariant_of-self c =
    record {
      indexed = indexed_told c.self.inside.context _ c.self.inside.sides.items c.tell_each.new.sides.items c.self.inside.pending _ c.self.inside.pieces
          c.self.inside.first c.self.invariant.indexed (let p = c.report_all.ensures in λ i. record c.self.inside.context { operations = p i })
          (kept_told c.self.inside.context _ c.self.inside.sides.items c.tell_each.new.sides.items c.self.inside.pending c.self.inside.pieces c.self.invariant.indexed.kept
          (let p = c.report_all.ensures in λ i. record c.self.inside.context { operations = p i }) c.tell_each.ensures);
      settled = told_all c.self.inside.context.operations _ _ c.report_all.ensures (search rules);
    }

pub returns : goal.returns
returns c = rw (← c.self.view_is)
    (reported_is c.self.inside.context _ c.self.inside.sides.items c.tell_each.new.sides.items
    (let p = c.report_all.ensures in λ i. record c.self.inside.context { operations = p i }) c.tell_each.ensures)
