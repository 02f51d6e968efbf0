use Rattle.std.proofs.Common.{◌≡◌, ℕ, suc, ◌+◌, ◌-◌, List, [], ◌∷◌, ◌++◌, take, drop, refl, ap, sym, subst, ◌∙◌, arith}
use Rattle.std.proofs.lemmas.List.{take_more}
use Rattle.std.specs.List.{repeat}
use Rattle.fam_model.specs.declared.script.Statement.{Statement, Repeat}
use Rattle.pe_core.specs.Actions.{Grows}
use Rattle.pe_core.specs.Left.{turns_of}
use Rattle.pe_core.proofs.Bodies.{turns_of-Repeat, spin_nothing}
use Rattle.pe_core.proofs.Growing.{grows_by_nothing, grows_on, grows_again}
use Rattle.pe_core.proofs.write_out.+writing.Goals as goal

pub write_repeat-returns-then-times-eq0 : goal.write_repeat-returns-then-times-eq0
write_repeat-returns-then-times-eq0 n c =
    let body = c.args.body.now in
    grows_by_nothing c.args.written.actions c.args.written.order (Repeat c.args.times body ∷ []) c.requires
    (turns_of-Repeat c.args.times body ∙ ap (λ (k : ℕ). repeat k (turns_of body)) c.if-times-eq0.true)

pub write_statement-returns-then-tries-eq0 : goal.write_statement-returns-then-tries-eq0
write_statement-returns-then-tries-eq0 n c =
    grows_by_nothing c.args.written.actions c.args.written.order (c.args.statement.now ∷ []) c.requires
    (spin_nothing c.args.statement.now _ _ _ _ _ _ c.in-Spin.is c.if-tries-eq0.true)

pub write_repeat-returns : goal.write_repeat-returns
write_repeat-returns n c =
    let order = c.in_ok-actions.field-0.order in
    let more = c.args.times - 1 in
    let some = c.if-times-eq0.false in
    let count : c.args.times ≡ suc more = omega (arith, some) in
    grows_again c.args.written.actions c.in_ok-actions.field-0.actions c.args.written.order order c.in_ok-order.order c.args.times more c.args.body.now c.in_ok-actions.ensures count
    (c.in_ok-order.ensures ∙ ap (λ (from : ℕ). order ++ repeat more (drop from order)) c.len-from.ensures)

pub write_out-loop-statement-init : goal.write_out-loop-statement-init
write_out-loop-statement-init n c = grows_by_nothing c.args.written.actions c.args.written.order [] c.requires refl

pub write_out-loop-statement-preserved : goal.write_out-loop-statement-preserved
write_out-loop-statement-preserved n c =
    let statements : List Statement = c.args.statements.now in
    let at = c.loop-statement.statement-index in
    let statement : Statement = c.statement-item.result in
    let split : take (at + 1) statements ≡ take at statements ++ statement ∷ [] =
    take_more statements at statement c.loop-statement-test.true ∙ ap (λ (s : Statement). take at statements ++ s ∷ []) (sym c.statement-item.is) in
    subst (λ (ss : List Statement). Grows c.args.written.actions c.args.written.order ss c.in_ok-grown.grown.actions c.in_ok-grown.grown.order) (sym split)
    (grows_on c.args.written.actions c.loop-statement.grown.actions c.in_ok-grown.grown.actions c.args.written.order c.loop-statement.grown.order c.in_ok-grown.grown.order
    (take at statements) (statement ∷ []) c.loop-statement.invariant c.in_ok-grown.ensures)
