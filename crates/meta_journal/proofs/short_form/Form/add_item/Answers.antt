use Rattle.std.proofs.Common.{◌+◌, ◌++◌, [], ◌∷◌, ap, ◌∙◌}
use Rattle.fam_model.specs.declared.change.Change.{Change}
use Rattle.fam_model.specs.Journal.{skip_to, allocation}
use Rattle.fam_model.specs.Rows.{item_number}
use Rattle.meta_journal.specs.Layout.{records}
use Rattle.meta_journal.proofs.Writing.{row_added}
use Rattle.meta_journal.proofs.short_form.Form.add_item.Goals as goal

pub returns-clause-added : goal.returns-clause-added
returns-clause-added c =
    let old = c.args.self.now in
    let row = c.args.row.now in
    let first = c.in_ok-skip_to.ensures in
    let second = c.in_ok-add.ensures in
    let mid = c.skip_to.new.self.bytes.items in
    record {
      bytes = row_added old.bytes.items mid c.add.new.self.bytes.items (skip_to old.next_region old.next_item old.next_region (item_number row)) (allocation row ∷ []) first.bytes
          (second.bytes ∙ ap (λ (x : Change). mid ++ records (x ∷ [])) c.in_ok-change.ensures.value);
      region = second.region ∙ first.region;
      item = ap (λ n. n + 1) (second.item ∙ first.item);
    }
