use Rattle.meta_journal.specs.declared.starting.OpenFault.TheVariants.{Memory}
use Rattle.meta_journal.proofs.Adding.{told_of}
use Rattle.meta_journal.proofs.Opening.{if_told}
use Rattle.meta_journal.proofs.Started.{fresh_failed, fresh_started}
use Rattle.meta_journal.proofs.Switching.{if_some}
use Rattle.meta_journal.proofs.Synced.{refused_at_once}
use Rattle.meta_journal.proofs.starting.start_fresh.Goals as goal

pub returns-in_default-clause-opens : goal.returns-in_default-clause-opens
returns-in_default-clause-opens g c =
    let at_first = g.D.Disk.state c.args.disk.now in
    if_told at_first.content _ (λ bytes told. refused_at_once c.args.limit bytes at_first Memory told tt)

pub returns-in-Ok-make_journal-clause-opens : goal.returns-in-Ok-make_journal-clause-opens
returns-in-Ok-make_journal-clause-opens g c =
    let at_first = g.D.Disk.state c.args.disk.now in
    let at_second = g.D.Disk.state c.make_journal.new.disk in
    if_told at_first.content _ (λ bytes told.
    let ready = if_some at_first.content _ bytes told c.requires.ready in
    fresh_started c.args.limit c.requires.low c.args.clear bytes ready at_first at_second tt c.in-Ok.rows c.in-Ok.ensures.rows (c.in-Ok-make_journal.ensures.makes (told_of at_first.content bytes told)))

pub returns-in-Err-clause-opens : goal.returns-in-Err-clause-opens
returns-in-Err-clause-opens g c =
    let at_first = g.D.Disk.state c.args.disk.now in
    let at_second = g.D.Disk.state c.make_journal.new.disk in
    if_told at_first.content _ (λ bytes told.
    let ready = if_some at_first.content _ bytes told c.requires.ready in
    fresh_failed c.args.limit c.requires.low c.args.clear bytes ready at_first at_second c.in-Err.field-0 (c.in-Err.ensures.makes (told_of at_first.content bytes told)))
