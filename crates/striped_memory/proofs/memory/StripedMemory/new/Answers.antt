use Rattle.std.proofs.Common.{sym, subst}
use Rattle.fam_model.specs.declared.service.Service.{Service}
use Rattle.std.specs.Prelude.{IsTrue}
use Rattle.fam_layout.specs.Layouts.{is_lawful}
use Rattle.striped_memory.proofs.Changes.{new_striped}
use Rattle.striped_memory.proofs.memory.StripedMemory.new.Goals as goal

pub invariant_of-result : goal.invariant_of-result
invariant_of-result c =
    new_striped c.new-layout.result c.in_ok-stores.stores.items c.new.result.entries
    (subst (λ (s : Service). IsTrue (is_lawful s)) (sym c.new-layout.ensures) c.requires) c.in_ok-stores.ensures c.new.ensures.empty
