use Rattle.std.proofs.Common.{◌≡◌, ◌++◌, ◌∷◌, [], rules, replicate, sym, ap, ◌∙◌}
use Rattle.fam_model.specs.Directory.{new_bytes, memory_after}
use Rattle.fam_machine.specs.Sound.{zero_bytes}
use Rattle.fam_machine.proofs.Changes.{memory_with_new}
use Rattle.fam_machine.proofs.memory.change.Goals as goal

-- the bytes of the new item stand at the end, and the others stay
pub returns-in-Some-clause-memory : goal.returns-in-Some-clause-memory
returns-in-Some-clause-memory c =
    let made : new_bytes c.args.change ≡ (c.in-Some.item, replicate c.in-Some.size 0) ∷ [] = c.new_item.ensures ∙ ap zero_bytes c.in-Some.is in
    let after = memory_with_new c.args.rows.now c.args.change c.args.memory.now (c.in-Some.item, replicate c.in-Some.size 0) c.requires.lawful c.requires.filled made in
    let pushed : c.push.new.self ≡ c.args.memory.now ++ (c.in-Some.item, replicate c.in-Some.size 0) ∷ [] = search rules in
    let whole : c.push.new.self ≡ memory_after c.args.rows.now c.args.change c.args.memory.now = pushed ∙ sym after in
    search rules
