use Rattle.std.proofs.Common.{◌≡◌, rules, sym, ◌∙◌}
use Rattle.std.specs.Prelude.{remove}
use Rattle.fam_machine.proofs.Changes.{entry_removed, nothing_there}
use Rattle.fam_machine.proofs.memory.drop_entry.Goals as goal

pub returns-in-Some : goal.returns-in-Some
returns-in-Some c =
    let taken : c.from_vec.result ≡ remove c.args.memory.now c.in-Some.at = search rules in
    taken ∙ entry_removed c.args.memory.now c.args.item c.in-Some.at c.requires (sym c.place.ensures ∙ c.in-Some.is)

pub returns-in_default : goal.returns-in_default
returns-in_default c = sym (nothing_there c.args.memory.now c.args.item (sym c.place.ensures ∙ c.in_default.is))
