use Rattle.std.proofs.Common.{◌∙◌}
use Rattle.meta_journal.specs.declared.starting.OpenFault.TheVariants.{DiskFault}
use Rattle.meta_journal.proofs.Adding.{told_of}
use Rattle.meta_journal.proofs.Opening.{if_told}
use Rattle.meta_journal.proofs.Switching.{if_some}
use Rattle.meta_journal.proofs.Synced.{refused_before, synced_opens}
use Rattle.meta_journal.proofs.starting.start_behind.Goals as goal

pub returns-in-Ok-clause-opens : goal.returns-in-Ok-clause-opens
returns-in-Ok-clause-opens g c =
    let at_first = g.D.Disk.state c.args.disk.now in
    let at_second = g.D.Disk.state c.sync.new.self in
    let at_third = g.D.Disk.state c.start_synced.new.disk in
    let synced = c.in-Ok.ensures in
    if_told at_first.content _ (λ bytes told.
    let here = synced.content ∙ told in
    synced_opens c.args.limit bytes at_first at_second at_third c.start_synced.result told synced.crash (synced.syncs (told_of at_first.content bytes told)) (if_some at_second.content _ bytes here c.start_synced.ensures.starts))

pub returns-in-Err-clause-opens : goal.returns-in-Err-clause-opens
returns-in-Err-clause-opens g c =
    let at_first = g.D.Disk.state c.args.disk.now in
    let at_second = g.D.Disk.state c.sync.new.self in
    let failed = c.in-Err.ensures in
    if_told at_first.content _ (λ bytes told.
    refused_before c.args.limit bytes at_first at_second DiskFault told failed.crash (failed.syncs (told_of at_first.content bytes told)) tt)
