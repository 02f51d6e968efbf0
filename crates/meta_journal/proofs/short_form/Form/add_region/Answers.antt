use Rattle.std.proofs.Common.{◌+◌, ◌++◌, [], ◌∷◌, ap, ◌∙◌}
use Rattle.fam_model.specs.declared.change.Change.{Change}
use Rattle.fam_model.specs.Journal.{skip_to, creation}
use Rattle.fam_model.specs.Rows.{region_number}
use Rattle.meta_journal.specs.Layout.{records}
use Rattle.meta_journal.proofs.Writing.{row_added}
use Rattle.meta_journal.proofs.short_form.Form.add_region.Goals as goal

pub returns-clause-added : goal.returns-clause-added
returns-clause-added c =
    let old = c.args.self.now in
    let row = c.args.row.now in
    let first = c.in_ok-skip_to.ensures in
    let second = c.in_ok-add.ensures in
    let mid = c.skip_to.new.self.bytes.items in
    record {
      bytes = row_added old.bytes.items mid c.add.new.self.bytes.items (skip_to old.next_region old.next_item (region_number row) old.next_item) (creation row ∷ []) first.bytes
          (second.bytes ∙ ap (λ (x : Change). mid ++ records (x ∷ [])) c.in_ok-change.ensures.value);
      region = ap (λ n. n + 1) (second.region ∙ first.region);
      item = second.item ∙ first.item;
    }
