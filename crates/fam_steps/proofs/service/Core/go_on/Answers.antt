use Rattle.std.proofs.Common.{◌≡◌, sym, ap, ◌∙◌}
use Rattle.std.specs.Prelude.{Some}
use Rattle.fam_turns.specs.Turns.{event_with}
use Rattle.fam_steps.specs.Steps.{Course}
use Rattle.fam_steps.proofs.Awaited.{turn_due}
use Rattle.fam_steps.proofs.Enabled.{turn_comes}
use Rattle.fam_steps.proofs.service.Core.go_on.Goals as goal

pub make-requires-clause-due : goal.make-requires-clause-due
make-requires-clause-due g c κs within =
    let state = c.args.self.now.state in
    let is : event_with state c.args.pe.0 c.args.wanted.now ≡ Some c.in-Some.due =
    ap (λ (v : Course). event_with v.state c.args.pe.0 c.args.wanted.now) (sym c.self.view_is) ∙ sym c.in_ok-due.ensures ∙ c.in-Some.is in
    turn_due state c.args.pe.0 c.args.wanted.now c.in-Some.due is (turn_comes state c.args.pe.0 c.args.wanted.now c.in-Some.due is)
