use Rattle.std.proofs.Common.{Some, sym, ap, ◌∙◌}
use Rattle.fam_base.specs.declared.naming.Who.{Who}
use Rattle.fam_model.specs.PieceStep.{due_answer}
use Rattle.fam_machine.proofs.Coming.{Finds, has_piece, sound_piece}
use Rattle.fam_machine.proofs.Due.{due_here}
use Rattle.fam_machine.proofs.pieces.due_answer.Goals as goal

pub piece-left-requires : goal.piece-left-requires
piece-left-requires c =
    has_piece c.in-Some.program.now.state c.args.call c.args.j (sym c.may_come.ensures ∙ c.if-not-may_come.false)

pub due_answer-requires-clause-sound : goal.due_answer-requires-clause-sound
due_answer-requires-clause-sound c =
    let parts = c.args.parts.now in
    let p = c.in-Some.program.now in
    let left = c.piece-left.result.now in
    let found : Finds parts c.args.pe c.args.call c.args.j p c.kind-kind.result left = record {
      program = sym c.in-Some.ensures.value;
      due = sym c.may_come.ensures ∙ c.if-not-may_come.false;
      gives = c.kind-kind.ensures;
      finds = c.piece-left.ensures;
    } in
    sound_piece parts c.args.pe c.args.call c.args.j p c.kind-kind.result left c.requires.sound found

pub returns : goal.returns
returns c =
    let parts = c.args.parts.now in
    let p = c.in-Some.program.now in
    let left = c.piece-left.result.now in
    let found : Finds parts c.args.pe c.args.call c.args.j p c.kind-kind.result left = record {
      program = sym c.in-Some.ensures.value;
      due = sym c.may_come.ensures ∙ c.if-not-may_come.false;
      gives = c.kind-kind.ensures;
      finds = c.piece-left.ensures;
    } in
    ap (λ a. Some a) (c.in_ok-answer.ensures ∙ ap (λ (w : Who). due_answer parts.rows parts.memory w c.kind-kind.result left) c.who.ensures.value)
    ∙ sym (due_here parts c.args.pe c.args.call c.args.j p c.kind-kind.result left found)
