use Rattle.std.proofs.Common.{rules, to_z-of_z, ◌∙◌, ap, sym}
use mir.Val.{SFits}
use mir.Syntax.{w128}
use Rattle.fam_model.specs.PieceStep.{memory_by_kind}
use Rattle.fam_machine.proofs.Bytes.{atomic_sound}
use Rattle.fam_machine.proofs.memory.serve.Goals as goal

-- the arguments are passed on as they are
pub apply_atomic-requires-clause-atomic : goal.apply_atomic-requires-clause-atomic
apply_atomic-requires-clause-atomic c =
    let first : SFits w128 c.in-Atomic.a = search rules in
    let second : SFits w128 c.in-Atomic.b = search rules in
    rw (to_z-of_z first, to_z-of_z second)
    (atomic_sound c.args.piece.now.kind c.in-Atomic.op c.in-Atomic.width c.in-Atomic.a c.in-Atomic.b c.args.piece.now.n c.in-Atomic.is c.requires.kind)

pub returns-in-Atomic : goal.returns-in-Atomic
returns-in-Atomic c =
    let first : SFits w128 c.in-Atomic.a = search rules in
    let second : SFits w128 c.in-Atomic.b = search rules in
    rw (to_z-of_z first, to_z-of_z second) at c.apply_atomic.ensures ∙ ap (λ k. memory_by_kind k c.args.memory.now c.args.piece.now) (sym c.in-Atomic.is)
