use Rattle.std.proofs.Common.{◌∙◌, ap, take, get_or, arith}
use Rattle.stripe_store.specs.Kept.{rows_of, with_rows}
use Rattle.striped_memory.proofs.Walks.{to_shrunk, walked_by}
use Rattle.striped_memory.proofs.rows.shrink_rows.Goals as goal

pub loop-stripe-preserved : goal.loop-stripe-preserved
loop-stripe-preserved c =
    let store = get_or c.loop-stripe.stores c.loop-stripe.stripe c.index-stores-stripe.result in
    walked_by (to_shrunk c.args.layout.now c.args.region.0 c.args.size) c.args.region.0 c.loop-stripe.stripe c.args.stores.now c.loop-stripe.stores c.index-stores-stripe.result c.shrink.new.self
    c.loop-stripe.invariant (omega arith)
    (c.shrink.ensures ∙ ap (λ n. with_rows store c.args.region.0 (take n (rows_of store c.args.region.0))) c.row_count.ensures)
