use Rattle.std.proofs.Common.{◌≡◌, true, sym, ap, subst, ◌∙◌}
use Rattle.fam_model.specs.declared.change.Change.TheVariants as change
use Rattle.fam_model.specs.Directory.{after}
use Rattle.fam_model.specs.Lawful.{is_lawful_change}
use Rattle.fam_directory.specs.Index.{rows_of}
use Rattle.fam_directory.proofs.Carried.{carried, next_item_within}
use Rattle.fam_directory.proofs.Changed.{skipped}
use Rattle.fam_directory.proofs.directory.Directory.skip.Goals as goal

pub pass-requires : goal.pass-requires
pass-requires c = next_item_within (rows_of c.self.inside.regions.items c.self.inside.items.rows c.self.inside.next_region c.self.inside.items.next) c.args.next_region c.args.next_item (subst (λ l. is_lawful_change l.rows (change.Skip c.args.next_region c.args.next_item) ≡ true) (sym c.self.view_is) c.requires)

pub invariant_of-self : goal.invariant_of-self
invariant_of-self c = record {
  indexed = carried c.self.inside.regions.items c.self.inside.items.rows c.pass.new.self.rows c.args.next_region c.args.next_item c.pass.new.self.next c.self.inside.total c.self.inside.names c.pass.ensures.rows c.pass.ensures.next
      (skipped c.self.inside.regions.items c.self.inside.items.rows c.self.inside.next_region c.self.inside.items.next c.self.inside.total c.args.next_region c.args.next_item c.self.inside.names c.self.invariant.indexed (subst (λ l. is_lawful_change l.rows (change.Skip c.args.next_region c.args.next_item) ≡ true) (sym c.self.view_is) c.requires));
  awaited = tt;
}

pub returns : goal.returns
returns c =
    (λ i. rows_of c.self.inside.regions.items (c.pass.ensures.rows i) c.args.next_region (c.pass.ensures.next i))
    ∙ ap (λ l. after l.rows (change.Skip c.args.next_region c.args.next_item)) c.self.view_is
