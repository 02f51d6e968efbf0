use Rattle.std.proofs.Common.{◌∙◌, ap, take}
use Rattle.std.proofs.Math.Seq.{take-nil}
use Rattle.stripe_store.specs.Kept.{kept_of}
use Rattle.stripe_store.proofs.Entries.{rows_written, nothing_written}
use Rattle.stripe_store.proofs.store.Store.shrink.Goals as goal
use Rattle.stripe_store.proofs.store.Store.shrink.Goals.{in-Some, in_default}

pub returns : goal.returns
returns c =
    let old = c.self.inside.regions in
    elim c.match-get_mut.branch [
      | in-Some w ↦
          let rows = w.shrink.new.self in
          ap (λ s. kept_of s.regions.entries) w.self-inside-is
          ∙ rows_written c.args.self.now old (c.get_mut.follows.lender rows) c.args.region w.in-Some.there.now rows (take c.args.rows) c.self.view_is w.in-Some.ensures.value (c.get_mut.follows.holds rows) w.shrink.ensures
      | in_default w ↦
          ap (λ s. kept_of s.regions.entries) w.self-inside-is
          ∙ nothing_written c.args.self.now old c.get_mut.follows.lender-at-none c.args.region (take c.args.rows) c.self.view_is w.in_default.ensures.value c.get_mut.follows.holds-at-none (take-nil c.args.rows)
    ]
