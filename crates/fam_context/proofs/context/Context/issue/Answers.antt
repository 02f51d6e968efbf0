use Rattle.std.proofs.Common.{rules, arith, ◌≡◌, ◌+◌, ◌≤◌}
use Rattle.fam_context.proofs.Kept.{kept_more_by, planned_fresh_by, held_within}
use Rattle.std.proofs.Common.{subst, sym, ap, ◌∙◌}
use Rattle.std.specs.List.{position_or_len}
use Rattle.fam_context.specs.Sides.{AreIdleBut, is_busy}
use Rattle.fam_context.proofs.Reached.{idle_more, indexed_from}
use Rattle.fam_model.specs.declared.state.Context.{Context}
use Rattle.fam_context.proofs.Told.{told_more}
use Rattle.fam_context.proofs.context.Context.issue.Goals as goal

pub fresh-requires-clause-fresh : goal.fresh-requires-clause-fresh
fresh-requires-clause-fresh c =
    planned_fresh_by c.len-count.result c.in_ok-operation.operation c.args.call c.self.inside.context.epoch c.args.plan c.args.blocking (search rules)
    c.in_ok-operation.ensures

pub overflow_add-self : goal.overflow_add-self
overflow_add-self c =
    let held : c.self.inside.pending.held ≤ c.self.inside.pieces =
    held_within c.self.inside.context c.self.inside.sides.items c.self.inside.pending c.self.inside.pieces c.self.invariant.indexed.kept
    in
    let sum : c.in-Some.pieces ≡ c.self.inside.pieces + c.len-count.result = search rules in
    omega (arith, held, sum)

pub advance-self-inside-requires : goal.advance-self-inside-requires
advance-self-inside-requires c =
    subst (λ ss. AreIdleBut ss c.self.inside.first c.self.inside.first) (sym c.as_slice.ensures.value)
    (idle_more c.self.inside.context c.self.inside.sides.items c.add.new.sides.items c.self.inside.pending c.self.inside.pieces c.self.inside.first
    c.in_ok-side.side c.self.invariant.indexed c.in_ok-add.ensures.sides_ok)

pub invariant_of-self-2 : goal.invariant_of-self-2
invariant_of-self-2 c =
    record {
      indexed = indexed_from c.add.new.context c.add.new.sides.items _ c.in-Some.pieces c.advance-self-inside.result
          (kept_more_by c.len-count.result c.self.inside.context c.add.new.context c.self.inside.sides.items c.add.new.sides.items c.self.inside.pending
          c.self.inside.pieces c.in-Some.pieces c.args.call c.args.plan c.args.blocking c.in_ok-operation.operation c.in_ok-side.side (search rules)
          c.self.invariant.indexed.kept (rw (← c.self.view_is) at c.requires.later) c.requires.turns (omega arith) c.in_ok-operation.ensures c.in_ok-side.ensures.flags
          c.in_ok-side.ensures.kept c.in_ok-side.ensures.counts c.in_ok-add.ensures.context_ok c.in_ok-add.ensures.sides_ok (search rules))
          (c.advance-self-inside.ensures ∙ ap (position_or_len is_busy) c.as_slice.ensures.value);
      settled = told_more c.self.inside.context.operations c.add.new.context.operations c.self.inside.told c.in_ok-operation.operation
          c.self.invariant.settled (ap (λ (o : Context). o.operations) c.in_ok-add.ensures.context_ok);
    }
