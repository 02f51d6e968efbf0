use Rattle.std.proofs.Common.{ap, refl, subst, ◌∙◌, ◌*◌}
use Rattle.fam_steps.specs.Steps.{Course}
use Rattle.fam_core.specs.Playing.{AreAble}
use Rattle.fam_core.proofs.Openings.{lawful_users, lawful_groups, opens}
use Rattle.fam_core.proofs.playing.Player.new.Goals as goal

pub new-requires-clause-users : goal.new-requires-clause-users
new-requires-clause-users c = lawful_users c.args.script.now c.deref.result.now c.requires.script (c.deref.ensures.value ∙ c.in_ok-whos.ensures)

pub new-requires-clause-groups : goal.new-requires-clause-groups
new-requires-clause-groups c = lawful_groups c.args.script.now c.deref.result.now c.requires.script (c.deref.ensures.value ∙ c.in_ok-whos.ensures)

pub returns : goal.returns
returns c =
    opens c.args.rows c.args.script.now _ c.deref.result.now _ _ c.requires.script (c.deref.ensures.value ∙ c.in_ok-whos.ensures) refl
    (ap (λ (v : Course). v.state) c.in_ok-service.ensures) (ap (λ (v : Course). v.history) c.in_ok-service.ensures) c.in_ok-turns.ensures
    (ap (λ n. n * c.from-2.result) c.from.ensures ∙ ap (λ n. c.args.script.now.service.servers * n) c.from-2.ensures) c.in_ok-ready.ensures
    (subst (λ state. AreAble state c.in_ok-turns.turns c.in_ok-able.able) c.machine.ensures c.in_ok-able.ensures)
