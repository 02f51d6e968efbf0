use Rattle.std.proofs.Common.{ap, ◌∙◌}
use Rattle.meta_journal.specs.Found.{header_in}
use Rattle.meta_journal.proofs.HeaderFront.{header_front}
use Rattle.meta_journal.proofs.Opening.{if_told}
use Rattle.meta_journal.proofs.Switching.{if_some}
use Rattle.meta_journal.proofs.starting.read_header.Goals as goal

pub returns-clause-header : goal.returns-clause-header
returns-clause-header g c =
    let content = (g.D.Disk.state c.args.disk.now).content in
    if_told content _ (λ bytes told.
    let front = if_some content _ bytes told c.in_ok-read.ensures.bytes in
    c.header_of.ensures ∙ ap header_in front ∙ header_front bytes)
