use Rattle.meta_journal.proofs.Restoring.{restored}
use Rattle.meta_journal.proofs.laws.short_form_restores.Goals as goal

pub returns : goal.returns
returns c = record { same_rows = restored }
