use Rattle.std.proofs.Common.{◌≡◌, true, sym, ap, subst, ◌∙◌}
use Rattle.fam_model.specs.declared.change.Change.TheVariants as change
use Rattle.fam_model.specs.Directory.{after}
use Rattle.fam_model.specs.Lawful.{is_lawful_change}
use Rattle.fam_directory.specs.Index.{rows_of}
use Rattle.fam_directory.proofs.Carried.{mode_left}
use Rattle.fam_directory.proofs.directory.Directory.set_item_mode.Goals as goal

pub invariant_of-self : goal.invariant_of-self
invariant_of-self c = record {
  indexed = mode_left c.self.inside.regions.items c.self.inside.items.rows c.set_mode.new.self.rows c.self.inside.next_region c.self.inside.items.next c.set_mode.new.self.next c.self.inside.total c.args.mode c.self.inside.names c.args.number c.self.invariant.indexed (subst (λ l. is_lawful_change l.rows (change.SetItemMode c.args.number c.args.mode) ≡ true) (sym c.self.view_is) c.requires) c.set_mode.ensures.rows c.set_mode.ensures.next;
  awaited = tt;
}

pub returns : goal.returns
returns c =
    (λ i. rows_of c.self.inside.regions.items (c.set_mode.ensures.rows i) c.self.inside.next_region (c.set_mode.ensures.next i))
    ∙ ap (λ l. after l.rows (change.SetItemMode c.args.number c.args.mode)) c.self.view_is
