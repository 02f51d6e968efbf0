-- What a context is told of a piece.
use Rattle.std.specs.Prelude.{ℕ, ◌&&◌, List, if◌then◌else◌}
use Rattle.fam_model.specs.declared.piece.PlanKind.{PlanKind}
use Rattle.fam_model.specs.declared.piece.PlanPiece.{PlanPiece}
use Rattle.fam_model.specs.declared.reply.PieceAnswer.{PieceAnswer}
use Rattle.fam_model.specs.declared.reply.PieceAnswer.TheVariants as answer
use Rattle.fam_model.specs.Operations.{is_copy}
use Rattle.fam_model.specs.PieceStep.{is_read}

-- a copy's read that is served is told with the bytes found, and all else as it was answered
abbrev pub collected_answer : PlanKind → PlanPiece → PieceAnswer → List ℕ → PieceAnswer
collected_answer plan piece answer.Ok found = if is_copy plan && is_read piece.kind then answer.Data found else answer.Ok
collected_answer plan piece given found = given
