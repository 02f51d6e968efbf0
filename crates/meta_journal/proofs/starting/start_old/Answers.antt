use Rattle.std.proofs.Common.{◌∙◌}
use Rattle.meta_journal.specs.declared.starting.OpenFault.TheVariants.{DiskFault}
use Rattle.meta_journal.proofs.Opening.{if_told}
use Rattle.meta_journal.proofs.Switching.{if_some}
use Rattle.meta_journal.proofs.Synced.{opens_behind, refused_before}
use Rattle.meta_journal.proofs.starting.start_old.Goals as goal

pub returns-in-Ok-Some-clause-opens : goal.returns-in-Ok-Some-clause-opens
returns-in-Ok-Some-clause-opens g c =
    let at_first = g.D.Disk.state c.args.disk.now in
    let at_second = g.D.Disk.state c.read_header.new.disk in
    let at_third = g.D.Disk.state c.start_behind.new.disk in
    let looks = c.in-Ok-Some.ensures.looks in
    if_told at_first.content _ (λ bytes told.
    opens_behind c.args.limit bytes at_first at_second at_third c.start_behind.result told looks (if_some at_second.content _ bytes (looks.content ∙ told) c.start_behind.ensures.opens))

pub returns-in-Err-clause-opens : goal.returns-in-Err-clause-opens
returns-in-Err-clause-opens g c =
    let at_first = g.D.Disk.state c.args.disk.now in
    let at_second = g.D.Disk.state c.read_header.new.disk in
    let looks = c.in-Err.ensures.looks in
    if_told at_first.content _ (λ bytes told. refused_before c.args.limit bytes at_first at_second DiskFault told looks.crash looks.syncs tt)
