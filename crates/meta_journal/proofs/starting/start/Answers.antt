use Rattle.std.proofs.Common.{◌∙◌}
use Rattle.meta_journal.specs.declared.starting.OpenFault.TheVariants.{DiskFault}
use Rattle.meta_journal.proofs.Opening.{if_told}
use Rattle.meta_journal.proofs.Switching.{if_some}
use Rattle.meta_journal.proofs.Synced.{opens_behind, refused_before}
use Rattle.meta_journal.proofs.starting.start.Goals as goal

pub returns-in-Ok-Fresh-clause-opens : goal.returns-in-Ok-Fresh-clause-opens
returns-in-Ok-Fresh-clause-opens g c =
    let at_first = g.D.Disk.state c.args.disk.now in
    let at_second = g.D.Disk.state c.look.new.disk in
    let at_third = g.D.Disk.state c.start_fresh.new.disk in
    let looks = c.in-Ok-Fresh.ensures.looks in
    if_told at_first.content _ (λ bytes told.
    opens_behind c.args.limit bytes at_first at_second at_third c.start_fresh.result told looks (if_some at_second.content _ bytes (looks.content ∙ told) c.start_fresh.ensures.opens))

pub returns-in-Ok-Old-clause-opens : goal.returns-in-Ok-Old-clause-opens
returns-in-Ok-Old-clause-opens g c =
    let at_first = g.D.Disk.state c.args.disk.now in
    let at_second = g.D.Disk.state c.look.new.disk in
    let at_third = g.D.Disk.state c.start_old.new.disk in
    let looks = c.in-Ok-Old.ensures.looks in
    if_told at_first.content _ (λ bytes told.
    opens_behind c.args.limit bytes at_first at_second at_third c.start_old.result told looks (if_some at_second.content _ bytes (looks.content ∙ told) c.start_old.ensures.opens))

pub returns-in-Err-clause-opens : goal.returns-in-Err-clause-opens
returns-in-Err-clause-opens g c =
    let at_first = g.D.Disk.state c.args.disk.now in
    let at_second = g.D.Disk.state c.look.new.disk in
    let looks = c.in-Err.ensures.looks in
    if_told at_first.content _ (λ bytes told. refused_before c.args.limit bytes at_first at_second DiskFault told looks.crash looks.syncs tt)
