use Rattle.fam_model.specs.Pieces.{is_border}
use Rattle.fam_model.proofs.Cuts.{exact}
use Rattle.fam_model.proofs.laws.cuts_are_exact.Goals as goal

pub returns : goal.returns
returns c = record { units = λ base offset n unit. exact (is_border unit base) offset n; tests = exact }
