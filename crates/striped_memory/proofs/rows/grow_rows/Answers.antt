use Rattle.std.proofs.Common.{◌∙◌, ap, get_or, arith}
use Rattle.fam_model.specs.declared.service.Service.{Service}
use Rattle.stripe_store.specs.Kept.{rows_of, with_rows}
use Rattle.stripe_store.specs.Rows.{grown}
use Rattle.striped_memory.specs.Stripes.{row_count}
use Rattle.striped_memory.proofs.Walks.{to_grown, walked_by}
use Rattle.striped_memory.proofs.rows.grow_rows.Goals as goal

pub loop-stripe-preserved : goal.loop-stripe-preserved
loop-stripe-preserved c =
    let store = get_or c.loop-stripe.stores c.loop-stripe.stripe c.index-stores-stripe.result in
    walked_by (to_grown c.args.layout.now c.args.region.0 c.args.size) c.args.region.0 c.loop-stripe.stripe c.args.stores.now c.loop-stripe.stores c.index-stores-stripe.result c.grow.new.self
    c.loop-stripe.invariant (omega arith)
    (c.in_ok-grow.ensures.ok
    ∙ ap (λ n. with_rows store c.args.region.0 (grown (rows_of store c.args.region.0) n c.service-unit.result.unit)) c.row_count.ensures
    ∙ ap (λ (s : Service). with_rows store c.args.region.0 (grown (rows_of store c.args.region.0) (row_count c.args.layout.now c.args.region.0 c.args.size c.loop-stripe.stripe) s.unit)) c.service-unit.ensures.is)
