-- The answer that a piece is due.
use Rattle.std.proofs.Common.{◌≡◌, ℕ, Option, Some, None, Bool, false, sym, ap, ◌∙◌, refl}
use Rattle.std.specs.Prelude.{slice_get}
use Rattle.std.specs.Option.{option_map}
use Rattle.std.proofs.lemmas.Option.{slice_get-map}
use Rattle.fam_model.specs.declared.piece.MarkedPiece.{MarkedPiece}
use Rattle.fam_model.specs.declared.piece.PlanKind.{PlanKind}
use Rattle.fam_model.specs.declared.piece.PlanPiece.{PlanPiece}
use Rattle.fam_model.specs.declared.reply.PieceAnswer.{PieceAnswer}
use Rattle.fam_model.specs.declared.state.ProgramState.{ProgramState}
use Rattle.fam_model.specs.Lists.{◌>>=◌, when}
use Rattle.fam_model.specs.PieceStep.{due_answer}
use Rattle.fam_model.specs.Programs.{Placed, placed, program_of}
use Rattle.fam_model.specs.Rules.{is_due}
use Rattle.fam_program.specs.declared.tracked.TrackedProgram.{TrackedProgram}
use Rattle.fam_machine.specs.declared.parts.Parts.{Parts}
use Rattle.fam_machine.specs.Views.{state_of, due_at}
use Rattle.fam_machine.proofs.Coming as coming
use Rattle.fam_machine.proofs.Coming.{Finds, kind_at, same_piece}

-- the program of a number, if there is one
pub program_at : (parts : Parts) (pe : ℕ) (o : Option TrackedProgram) → o ≡ slice_get parts.programs pe → option_map (λ (p : TrackedProgram). p.state) o ≡ program_of (state_of parts) pe
program_at parts pe o e =
    ap (option_map (λ (p : TrackedProgram). p.state)) e ∙ sym (slice_get-map (λ (p : TrackedProgram). p.state) parts.programs pe)

-- where there is no such program nothing is due
pub no_program : (parts : Parts) (pe call j : ℕ) → None ≡ slice_get parts.programs pe → due_at (state_of parts) pe call j ≡ None
no_program parts pe call j e =
    ap (λ (o : Option ProgramState). o >>= λ p. placed p call >>= λ at. slice_get at.operation.pieces j >>= λ left. when (is_due p call j) (due_answer parts.rows parts.memory p.who at.operation.kind left.piece)) (sym (program_at parts pe None e))

never : (j : ℕ) (given : Placed → MarkedPiece → PieceAnswer) (due : Bool) → due ≡ false → (o : Option Placed) → (o >>= λ at. slice_get at.operation.pieces j >>= λ left. when due (given at left)) ≡ None
never j given due e None = refl
never j given due e (Some at) = here (slice_get at.operation.pieces j)
  where
    here : (o : Option MarkedPiece) → (o >>= λ left. when due (given at left)) ≡ None
    here None = refl
    here (Some left) = ap (λ b. when b (given at left)) e

-- nor where the piece may not come
pub not_due : (parts : Parts) (pe call j : ℕ) (p : TrackedProgram) → Some p ≡ slice_get parts.programs pe → is_due p.state call j ≡ false → due_at (state_of parts) pe call j ≡ None
not_due parts pe call j p e fails =
    ap (λ (o : Option ProgramState). o >>= λ p. placed p call >>= λ at. slice_get at.operation.pieces j >>= λ left. when (is_due p call j) (due_answer parts.rows parts.memory p.who at.operation.kind left.piece)) (sym (program_at parts pe (Some p) e))
    ∙ never j (λ at left. due_answer parts.rows parts.memory p.state.who at.operation.kind left.piece) (is_due p.state call j) fails (placed p.state call)

-- one that may come is due its answer
pub due_here : (parts : Parts) (pe call j : ℕ) (p : TrackedProgram) (given_back : PlanKind) (piece : PlanPiece) → Finds parts pe call j p given_back piece → due_at (state_of parts) pe call j ≡ Some (due_answer parts.rows parts.memory p.state.who given_back piece)
due_here parts pe call j p given_back piece found =
    let due = coming.due_at p.state call j found.due in
    let k = kind_at parts pe call j p given_back piece found due in
    let r = same_piece parts pe call j p given_back piece found due in
    ap (λ (o : Option ProgramState). o >>= λ p. placed p call >>= λ at. slice_get at.operation.pieces j >>= λ left. when (is_due p call j) (due_answer parts.rows parts.memory p.who at.operation.kind left.piece)) (sym (program_at parts pe (Some p) (sym found.program)))
    ∙ ap (λ (o : Option Placed). o >>= λ at. slice_get at.operation.pieces j >>= λ left. when (is_due p.state call j) (due_answer parts.rows parts.memory p.state.who at.operation.kind left.piece)) due.there
    ∙ ap (λ (o : Option MarkedPiece). o >>= λ left. when (is_due p.state call j) (due_answer parts.rows parts.memory p.state.who due.at.operation.kind left.piece)) due.left_there
    ∙ (λ i. when (found.due i) (due_answer parts.rows parts.memory p.state.who (k i) (r i)))
