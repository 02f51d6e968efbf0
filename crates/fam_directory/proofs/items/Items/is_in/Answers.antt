use Rattle.std.proofs.Common.{◌<◌, subst}
use Rattle.std.specs.List.{AllPairs}
use Rattle.fam_model.specs.Rows.{item_number}
use Rattle.fam_directory.proofs.Slotted.{rows_rise}
use Rattle.fam_directory.proofs.items.Items.is_in.Goals as goal

pub returns-in-Some-clause-rise : goal.returns-in-Some-clause-rise
returns-in-Some-clause-rise c = subst (λ l. AllPairs (λ a b. item_number a < item_number b) l.rows) c.self.view_is (rows_rise c.self.inside.slots.items c.self.invariant.numbered.rise c.self.invariant.numbered.each)

pub returns-in-None-clause-rise : goal.returns-in-None-clause-rise
returns-in-None-clause-rise c = subst (λ l. AllPairs (λ a b. item_number a < item_number b) l.rows) c.self.view_is (rows_rise c.self.inside.slots.items c.self.invariant.numbered.rise c.self.invariant.numbered.each)
