use Rattle.std.proofs.Common.{ap, ◌∙◌}
use Rattle.std.specs.Prelude.{is_some}
use Rattle.fam_machine.specs.Views.{state_of}
use Rattle.fam_machine.proofs.Bytes.{memory_rises}
use Rattle.fam_machine.proofs.Steps.{item_there, copied_some}
use Rattle.fam_machine.proofs.machine.Machine.item.Goals as goal

pub bytes_of-requires : goal.bytes_of-requires
bytes_of-requires c = memory_rises c.self.inside.parts.rows c.self.inside.parts.memory c.self.invariant.lawful c.self.invariant.filled

pub returns-clause-there : goal.returns-clause-there
returns-clause-there c =
    rw (← c.self.view_is)
    (copied_some c.bytes_of.result ∙ ap is_some c.bytes_of.ensures ∙ item_there (state_of c.self.inside.parts) c.args.item.0 c.self.invariant)
