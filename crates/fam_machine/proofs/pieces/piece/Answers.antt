use Rattle.std.proofs.Common.{◌≡◌, Some, true, false, sym, subst, ◌∙◌, refl}
use Rattle.std.proofs.lemmas.Option.{same_Some}
use Rattle.fam_base.specs.declared.naming.Who.{Who}
use Rattle.fam_model.specs.declared.reply.PieceAnswer.{PieceAnswer}
use Rattle.fam_model.specs.Limits.{service_limits}
use Rattle.fam_model.specs.PieceStep.{due_answer, may_answer, bytes_found}
use Rattle.fam_program.specs.Parts.{may_collect, collected_step}
use Rattle.fam_program.specs.declared.tracked.TrackedProgram.{TrackedProgram}
use Rattle.fam_machine.specs.Collected.{collected_answer}
use Rattle.fam_machine.proofs.Bytes.{memory_rises}
use Rattle.fam_machine.proofs.Collecting.{served_inside}
use Rattle.fam_machine.proofs.Coming.{Finds, has_piece, sound_piece, may_collect_it, piece_taken, not_answered}
use Rattle.fam_machine.proofs.pieces.piece.Goals as goal

pub piece-left-requires : goal.piece-left-requires
piece-left-requires c =
    has_piece c.at-program.result.now.state c.args.call c.args.piece (sym c.may_come.ensures ∙ c.if-not-may_come.false)

pub may_answer-requires-clause-sound : goal.may_answer-requires-clause-sound
may_answer-requires-clause-sound c =
    let parts = c.args.parts.now in
    let p = c.at-program.result.now in
    let left = c.piece-left.result.now in
    let given = c.args.given.now in
    let found : Finds parts c.args.pe c.args.call c.args.piece p c.kind-kind.result left = record {
      program = c.at-program.ensures;
      due = sym c.may_come.ensures ∙ c.if-not-may_come.false;
      gives = c.kind-kind.ensures;
      finds = c.piece-left.ensures;
    } in
    sound_piece parts c.args.pe c.args.call c.args.piece p c.kind-kind.result left c.requires.sound found

pub returns-then-not-may_answer : goal.returns-then-not-may_answer
returns-then-not-may_answer c =
    let parts = c.args.parts.now in
    let p = c.at-program.result.now in
    let left = c.piece-left.result.now in
    let given = c.args.given.now in
    let found : Finds parts c.args.pe c.args.call c.args.piece p c.kind-kind.result left = record {
      program = c.at-program.ensures;
      due = sym c.may_come.ensures ∙ c.if-not-may_come.false;
      gives = c.kind-kind.ensures;
      finds = c.piece-left.ensures;
    } in
    let fails : may_answer service_limits (due_answer parts.rows parts.memory p.state.who c.kind-kind.result left) given ≡ false =
    subst (λ (w : Who). may_answer service_limits (due_answer parts.rows parts.memory w c.kind-kind.result left) given ≡ false) c.who.ensures.value
    (sym c.may_answer.ensures ∙ c.if-not-may_answer.true)
    in
    let none = not_answered parts c.args.pe c.args.call c.args.piece p c.kind-kind.result left given found fails in
    (none.0, sym none.1, refl)

pub collected_answer-requires-clause-rising : goal.collected_answer-requires-clause-rising
collected_answer-requires-clause-rising c =
    memory_rises c.args.parts.now.rows c.args.parts.now.memory c.requires.sound.lawful c.requires.sound.filled

pub collected_answer-requires-clause-inside : goal.collected_answer-requires-clause-inside
collected_answer-requires-clause-inside c =
    let parts = c.args.parts.now in
    let p = c.at-program.result.now in
    let left = c.piece-left.result.now in
    let given = c.args.given.now in
    let found : Finds parts c.args.pe c.args.call c.args.piece p c.kind-kind.result left = record {
      program = c.at-program.ensures;
      due = sym c.may_come.ensures ∙ c.if-not-may_come.false;
      gives = c.kind-kind.ensures;
      finds = c.piece-left.ensures;
    } in
    let may : may_answer service_limits (due_answer parts.rows parts.memory p.state.who c.kind-kind.result left) given ≡ true =
    subst (λ (w : Who). may_answer service_limits (due_answer parts.rows parts.memory w c.kind-kind.result left) given ≡ true) c.who.ensures.value
    (sym c.may_answer.ensures ∙ c.if-not-may_answer.false)
    in
    let sound = sound_piece parts c.args.pe c.args.call c.args.piece p c.kind-kind.result left c.requires.sound found in
    served_inside parts.rows parts.memory p.state.who c.kind-kind.result left given c.requires.sound.filled sound may

pub serve-requires-clause-rising : goal.serve-requires-clause-rising
serve-requires-clause-rising c =
    memory_rises c.args.parts.now.rows c.args.parts.now.memory c.requires.sound.lawful c.requires.sound.filled

pub serve-requires-clause-inside : goal.serve-requires-clause-inside
serve-requires-clause-inside c =
    let parts = c.args.parts.now in
    let p = c.at-program.result.now in
    let left = c.piece-left.result.now in
    let given = c.args.given.now in
    let found : Finds parts c.args.pe c.args.call c.args.piece p c.kind-kind.result left = record {
      program = c.at-program.ensures;
      due = sym c.may_come.ensures ∙ c.if-not-may_come.false;
      gives = c.kind-kind.ensures;
      finds = c.piece-left.ensures;
    } in
    let may : may_answer service_limits (due_answer parts.rows parts.memory p.state.who c.kind-kind.result left) given ≡ true =
    subst (λ (w : Who). may_answer service_limits (due_answer parts.rows parts.memory w c.kind-kind.result left) given ≡ true) c.who.ensures.value
    (sym c.may_answer.ensures ∙ c.if-not-may_answer.false)
    in
    let sound = sound_piece parts c.args.pe c.args.call c.args.piece p c.kind-kind.result left c.requires.sound found in
    served_inside parts.rows parts.memory p.state.who c.kind-kind.result left given c.requires.sound.filled sound may

pub serve-requires-clause-kind : goal.serve-requires-clause-kind
serve-requires-clause-kind c =
    let parts = c.args.parts.now in
    let p = c.at-program.result.now in
    let left = c.piece-left.result.now in
    let given = c.args.given.now in
    let found : Finds parts c.args.pe c.args.call c.args.piece p c.kind-kind.result left = record {
      program = c.at-program.ensures;
      due = sym c.may_come.ensures ∙ c.if-not-may_come.false;
      gives = c.kind-kind.ensures;
      finds = c.piece-left.ensures;
    } in
    let sound = sound_piece parts c.args.pe c.args.call c.args.piece p c.kind-kind.result left c.requires.sound found in
    sound.sound_kind

pub serve-requires-clause-few : goal.serve-requires-clause-few
serve-requires-clause-few c =
    let parts = c.args.parts.now in
    let p = c.at-program.result.now in
    let left = c.piece-left.result.now in
    let given = c.args.given.now in
    let found : Finds parts c.args.pe c.args.call c.args.piece p c.kind-kind.result left = record {
      program = c.at-program.ensures;
      due = sym c.may_come.ensures ∙ c.if-not-may_come.false;
      gives = c.kind-kind.ensures;
      finds = c.piece-left.ensures;
    } in
    let sound = sound_piece parts c.args.pe c.args.call c.args.piece p c.kind-kind.result left c.requires.sound found in
    sound.few

pub collected-requires : goal.collected-requires
collected-requires c =
    let parts = c.args.parts.now in
    let p = c.at-program.result.now in
    let left = c.piece-left.result.now in
    let given = c.args.given.now in
    let found : Finds parts c.args.pe c.args.call c.args.piece p c.kind-kind.result left = record {
      program = c.at-program.ensures;
      due = sym c.may_come.ensures ∙ c.if-not-may_come.false;
      gives = c.kind-kind.ensures;
      finds = c.piece-left.ensures;
    } in
    let may : may_answer service_limits (due_answer parts.rows parts.memory p.state.who c.kind-kind.result left) given ≡ true =
    subst (λ (w : Who). may_answer service_limits (due_answer parts.rows parts.memory w c.kind-kind.result left) given ≡ true) c.who.ensures.value
    (sym c.may_answer.ensures ∙ c.if-not-may_answer.false)
    in
    let told : c.in_ok-answer.answer ≡ collected_answer c.kind-kind.result left given (bytes_found parts.memory left) = c.in_ok-answer.ensures in
    let same : c.at_mut.result.now ≡ p = same_Some c.at_mut.result.now p (sym c.at_mut.ensures.value ∙ c.at-program.ensures) in
    let here = may_collect_it parts c.args.pe c.args.call c.args.piece p c.kind-kind.result left given c.requires.sound found may in
    subst (λ (a : PieceAnswer). may_collect c.at_mut.result.now.state c.args.call c.args.piece a ≡ true) (sym told)
    (subst (λ (q : TrackedProgram). may_collect q.state c.args.call c.args.piece (collected_answer c.kind-kind.result left given (bytes_found parts.memory left)) ≡ true) (sym same) here)

pub returns : goal.returns
returns c =
    let parts = c.args.parts.now in
    let p = c.at-program.result.now in
    let left = c.piece-left.result.now in
    let given = c.args.given.now in
    let found : Finds parts c.args.pe c.args.call c.args.piece p c.kind-kind.result left = record {
      program = c.at-program.ensures;
      due = sym c.may_come.ensures ∙ c.if-not-may_come.false;
      gives = c.kind-kind.ensures;
      finds = c.piece-left.ensures;
    } in
    let may : may_answer service_limits (due_answer parts.rows parts.memory p.state.who c.kind-kind.result left) given ≡ true =
    subst (λ (w : Who). may_answer service_limits (due_answer parts.rows parts.memory w c.kind-kind.result left) given ≡ true) c.who.ensures.value
    (sym c.may_answer.ensures ∙ c.if-not-may_answer.false)
    in
    let told : c.in_ok-answer.answer ≡ collected_answer c.kind-kind.result left given (bytes_found parts.memory left) = c.in_ok-answer.ensures in
    let same : c.at_mut.result.now ≡ p = same_Some c.at_mut.result.now p (sym c.at_mut.ensures.value ∙ c.at-program.ensures) in
    let collected : collected_step p.state c.args.call c.args.piece (collected_answer c.kind-kind.result left given (bytes_found parts.memory left)) ≡ Some c.collected.new.self.state =
    subst (λ (a : PieceAnswer). collected_step p.state c.args.call c.args.piece a ≡ Some c.collected.new.self.state) told
    (subst (λ (q : TrackedProgram). collected_step q.state c.args.call c.args.piece c.in_ok-answer.answer ≡ Some c.collected.new.self.state) same c.collected.ensures.state)
    in
    piece_taken parts c.args.pe c.args.call c.args.piece p c.collected.new.self c.kind-kind.result left given c.serve.new.memory found may collected c.serve.ensures
