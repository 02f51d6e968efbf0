use Rattle.std.proofs.Common.{◌∙◌, ap, subst, slice_set, refl}
use Rattle.stripe_store.specs.Rows.{bytes_of, Reaches, overwritten, zeros}
use Rattle.stripe_store.specs.Kept.{kept_of}
use Rattle.stripe_store.proofs.Entries.{rows_found, rows_written, nothing_written}
use Rattle.stripe_store.proofs.store.Store.zero.Goals as goal
use Rattle.stripe_store.proofs.store.Store.zero.Goals.{in-Some, in_default}

pub zero-requires : goal.zero-requires
zero-requires c =
    subst (λ rows. Reaches rows c.args.row c.args.at c.args.n) (rows_found c.args.self.now c.self.inside.regions c.args.region c.in-Some.there.now c.self.view_is c.in-Some.ensures.value) c.requires

pub returns : goal.returns
returns c =
    let old = c.self.inside.regions in
    elim c.match-get_mut.branch [
      | in-Some w ↦
          let rows = w.zero.new.self in
          ap (λ s. kept_of s.regions.entries) w.self-inside-is
          ∙ rows_written c.args.self.now old (c.get_mut.follows.lender rows) c.args.region w.in-Some.there.now rows (λ rows. slice_set rows c.args.row (overwritten (bytes_of rows c.args.row) c.args.at (zeros c.args.n))) c.self.view_is w.in-Some.ensures.value (c.get_mut.follows.holds rows) w.zero.ensures
      | in_default w ↦
          ap (λ s. kept_of s.regions.entries) w.self-inside-is
          ∙ nothing_written c.args.self.now old c.get_mut.follows.lender-at-none c.args.region (λ rows. slice_set rows c.args.row (overwritten (bytes_of rows c.args.row) c.args.at (zeros c.args.n))) c.self.view_is w.in_default.ensures.value c.get_mut.follows.holds-at-none refl
    ]
