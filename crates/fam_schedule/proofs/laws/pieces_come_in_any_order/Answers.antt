use Rattle.std.proofs.Common.{refl}
use Rattle.fam_model.specs.Operations.{may_come}
use Rattle.fam_model.specs.PieceStep.{due_answer, may_answer}
use Rattle.fam_schedule.proofs.laws.pieces_come_in_any_order.Goals as goal

pub returns : goal.returns
unfolding may_come due_answer may_answer
returns c = record { both_sides = refl; unordered = refl }
