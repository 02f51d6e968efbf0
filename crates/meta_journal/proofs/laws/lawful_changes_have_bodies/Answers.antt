use Rattle.meta_journal.proofs.Bodies.{bodies}
use Rattle.meta_journal.proofs.laws.lawful_changes_have_bodies.Goals as goal

pub returns : goal.returns
returns c = record { bodies = λ rows chosen lawful ok group. bodies rows lawful chosen ok group }
