use Rattle.std.proofs.Common.{◌≡◌, ℕ, List, [], ◌∷◌, ◌++◌, length, ap, sym, subst, ◌∙◌}
use Rattle.pe_core.specs.declared.action.Action.{Action}
use Rattle.pe_core.specs.Actions.{Grows}
use Rattle.pe_core.proofs.Growing.{grows_by_one}
use Rattle.pe_core.proofs.write_out.write_action.Goals as goal

pub returns : goal.returns
returns c = λ statement e.
    let actions = c.args.written.actions in
    let order = c.args.written.order in
    let actions-are : c.push-2.new.self ≡ actions ++ c.args.action ∷ [] = c.in_ok-push-2.ensures.ok in
    let order-is : c.push.new.self ≡ order ++ length actions ∷ [] = c.in_ok-push.ensures.ok ∙ ap (λ (n : ℕ). order ++ n ∷ []) c.len.ensures in
    subst (λ (o : List ℕ). Grows actions order (statement ∷ []) c.push-2.new.self o) (sym order-is)
    (subst (λ (a : List Action). Grows actions order (statement ∷ []) a (order ++ length actions ∷ [])) (sym actions-are)
    (grows_by_one actions order c.args.action statement c.requires.calls c.requires.one e))
