use Rattle.std.proofs.Common.{◌≡◌, ℕ, List, [], ap, sym, subst, ◌∙◌}
use Rattle.fam_model.specs.declared.script.Program.{Program}
use Rattle.fam_model.specs.declared.script.Statement.{Statement}
use Rattle.pe_core.specs.declared.action.Action.{Action}
use Rattle.pe_core.specs.Actions.{Grows, left_at}
use Rattle.pe_core.proofs.Growing.{started}
use Rattle.pe_core.proofs.Tests.{some_is}
use Rattle.pe_core.proofs.pe.Pe.new.Goals as goal

pub returns : goal.returns
returns c = λ program e.
    let actions = c.in_ok-actions.field-0.actions in
    let order = c.in_ok-actions.field-0.order in
    let same : c.at-program.result.now ≡ program = some_is c.at-program.result.now program (sym c.at-program.ensures ∙ e) in
    let statements : c.as_slice.result.now ≡ program.statements = c.as_slice.ensures ∙ ap (λ (p : Program). p.statements) same in
    let grows = subst (λ (ss : List Statement). Grows [] [] ss actions order) statements
    (subst (λ (a : List Action). Grows a [] c.as_slice.result.now actions order) c.new.ensures
    (subst (λ (o : List ℕ). Grows c.new.result o c.as_slice.result.now actions order) c.new-2.ensures c.in_ok-actions.ensures)) in
    started program actions order (left_at actions order c.place_at-place.result) grows c.place_at-place.ensures.left
