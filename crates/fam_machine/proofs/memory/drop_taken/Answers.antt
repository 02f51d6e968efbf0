use Rattle.std.proofs.Common.{sym, ap, ◌∙◌}
use Rattle.std.specs.Prelude.{filter, is_some}
use Rattle.fam_model.specs.Rows.{item_of}
use Rattle.fam_machine.proofs.Bytes.{memory_rises}
use Rattle.fam_machine.proofs.Changes.{none_taken, one_taken}
use Rattle.fam_machine.proofs.memory.drop_taken.Goals as goal

pub drop_entry-requires : goal.drop_entry-requires
drop_entry-requires c =
    let follows = c.requires.follows in
    memory_rises follows.0 c.args.memory.now follows.1 follows.2

pub returns-in-Some : goal.returns-in-Some
returns-in-Some c =
    let follows = c.requires.follows in
    c.drop_entry.ensures
    ∙ one_taken follows.0 c.args.change.now c.args.memory.now c.in-Some.item follows.1 follows.2 (sym c.taken_item.ensures ∙ c.in-Some.is)
    ∙ ap (λ rows. filter (λ entry. is_some (item_of rows entry.0.0)) c.args.memory.now) (sym follows.3)

pub returns-else-takes_region : goal.returns-else-takes_region
returns-else-takes_region c =
    let follows = c.requires.follows in
    sym (ap (λ rows. filter (λ entry. is_some (item_of rows entry.0.0)) c.args.memory.now) follows.3
    ∙ none_taken follows.0 c.args.change.now c.args.memory.now follows.1 follows.2 (sym c.taken_item.ensures ∙ c.in-None.is)
    (sym c.takes_region.ensures ∙ c.if-takes_region.false) c.requires.makes_none)
