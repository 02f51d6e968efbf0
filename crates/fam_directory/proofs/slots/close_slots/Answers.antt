use Rattle.std.proofs.Common.{◌≡◌, Bool, is_some, ap, ◌∙◌, rules}
use Rattle.std.specs.List.{filter}
use Rattle.std.proofs.lemmas.Fn.{filter_same}
use Rattle.fam_directory.specs.declared.slots.Slot.{Slot}
use Rattle.fam_directory.specs.Slots.{rows_in}
use Rattle.fam_directory.proofs.Slotted.{below_kept, numbered_kept, rows_kept}
use Rattle.fam_directory.proofs.slots.close_slots.Goals as goal

-- what is retained is what has a row
retained : (c : goal.After-retain) → c.retain.new.self.items ≡ filter (λ s. is_some s.row) c.args.slots.now.items
retained c =
    let test : Slot → Bool = λ s. is_some s.row in
    filter_same _ test _ (λ x b q called. search rules) _ _ c.retain.ensures.filtered

pub returns-then-len-count-clause-rows : goal.returns-then-len-count-clause-rows
returns-then-len-count-clause-rows c = ap rows_in (retained c) ∙ rows_kept c.args.slots.now.items

pub returns-then-len-count-clause-numbered : goal.returns-then-len-count-clause-numbered
returns-then-len-count-clause-numbered c = numbered_kept (λ s. is_some s.row) c.args.slots.now.items c.retain.new.self.items (retained c) c.requires

pub returns-then-len-count-clause-below : goal.returns-then-len-count-clause-below
returns-then-len-count-clause-below c next all = below_kept (λ s. is_some s.row) next c.args.slots.now.items c.retain.new.self.items (retained c) all
