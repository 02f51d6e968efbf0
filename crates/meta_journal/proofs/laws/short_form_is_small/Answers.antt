use Rattle.meta_journal.proofs.Smallness.{small}
use Rattle.meta_journal.proofs.laws.short_form_is_small.Goals as goal

pub returns : goal.returns
returns c = record { small = small }
