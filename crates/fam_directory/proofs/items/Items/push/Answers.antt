use Rattle.std.proofs.Common.{◌≡◌, ◌++◌, [], ◌∷◌, Some, ap, ◌∙◌, arith}
use Rattle.std.proofs.lemmas.Bool.{ltb-true}
use Rattle.fam_model.specs.Rows.{item_number}
use Rattle.fam_directory.specs.declared.slots.Slot.{Slot}
use Rattle.fam_directory.specs.Slots.{rows_in}
use Rattle.fam_directory.proofs.Slotted.{count_below, edited, rows_grown, slots_grown}
use Rattle.fam_directory.proofs.items.Items.push.Goals as goal

grown : (c : goal.After-self-2-1) → c.push.new.self.items ≡ c.self.inside.slots.items ++ (let s : Slot = record { number = item_number c.args.row; row = Some c.args.row } in s) ∷ []
grown c = edited _ c.push.new.self.items _ _ c.push.ensures.items (c.push.ensures.succeeds (ltb-true _ _ (ap (λ l. l.is_ready) c.self.view_is ∙ c.requires.ready)))

pub overflow_add-self : goal.overflow_add-self
overflow_add-self c =
    let le = count_below c.self.inside.slots.items c.self.inside.count c.self.inside.next c.self.invariant in
    let same = ap (λ l. l.next) c.self.view_is in
    omega (arith, le, same, c.requires.next, c.requires.bound)

pub invariant_of-self : goal.invariant_of-self
invariant_of-self c = slots_grown c.self.inside.slots.items c.push.new.self.items c.self.inside.count c.self.inside.next c.args.row c.self.invariant (let same = ap (λ l. l.next) c.self.view_is in omega (arith, same, c.requires.next)) (grown c)

pub returns-clause-rows : goal.returns-clause-rows
returns-clause-rows c = ap rows_in (grown c) ∙ rows_grown c.self.inside.slots.items (item_number c.args.row) c.args.row ∙ ap (λ l. l.rows ++ c.args.row ∷ []) c.self.view_is
