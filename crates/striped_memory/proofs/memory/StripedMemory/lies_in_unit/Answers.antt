use Rattle.std.proofs.Common.{◌∙◌, ap}
use Rattle.std.proofs.lemmas.Bool.{false≢true}
use Rattle.fam_model.specs.declared.service.Service.{Service}
use Rattle.striped_memory.proofs.Accesses.{lies_exactly, lies_nowhere}
use Rattle.striped_memory.proofs.memory.StripedMemory.lies_in_unit.Goals as goal

pub returns-in-Some : goal.returns-in-Some
returns-in-Some c =
    let s = c.self.inside in
    let test = c.lies_in.ensures in
    let exactly = lies_exactly s.layout s.stores.items s.sizes.entries c.args.region.0 c.args.address c.args.n c.in-Some.size.now c.from-unit.result c.args.self.now
    c.self.view_is c.in-Some.ensures.value (c.from-unit.ensures ∙ ap (λ (service : Service). service.unit) c.service.ensures.is) in
    (λ holds. exactly.0 (test.0 holds), λ lies. test.1 (exactly.1 lies))

pub returns-in-None : goal.returns-in-None
returns-in-None c =
    let s = c.self.inside in (
      λ holds. absurd (false≢true holds),
      λ lies. absurd (lies_nowhere s.layout s.stores.items s.sizes.entries c.args.region.0 c.args.address c.args.n c.args.self.now c.self.view_is c.in-None.ensures.value lies),
    )
