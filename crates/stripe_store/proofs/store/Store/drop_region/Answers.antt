use Rattle.std.proofs.Common.{◌∙◌, ap, []}
use Rattle.std.specs.Prelude.{None}
use Rattle.stripe_store.specs.Kept.{with_rows}
use Rattle.stripe_store.proofs.Entries.{one_updated}
use Rattle.stripe_store.proofs.store.Store.drop_region.Goals as goal

pub returns : goal.returns
returns c =
    one_updated c.self.inside.regions.entries c.remove.new.self.entries c.args.region None c.remove.ensures.updates.0
    ∙ ap (λ kept. with_rows kept c.args.region.0 []) c.self.view_is
