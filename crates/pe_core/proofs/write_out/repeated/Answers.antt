use Rattle.std.proofs.Common.{◌≤◌, ℕ, List, ◌++◌, length, sym, ap, ◌∙◌, append-nil, arith}
use Rattle.std.specs.List.{repeat}
use Rattle.std.proofs.lemmas.List.{drop_all}
use Rattle.pe_core.proofs.Bodies.{repeat_nothing}
use Rattle.pe_core.proofs.write_out.repeated.Goals as goal

pub returns-then-from-len : goal.returns-then-from-len
returns-then-from-len c =
    let order = c.args.order in
    let behind : length order ≤ c.args.from = omega (arith, c.if-from-len.true, c.len.ensures) in
    sym (ap (λ (l : List ℕ). order ++ repeat c.args.times l) (drop_all c.args.from order behind) ∙ ap (λ (l : List ℕ). order ++ l) (repeat_nothing c.args.times) ∙ append-nil order)
