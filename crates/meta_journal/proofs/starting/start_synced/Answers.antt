use Rattle.std.proofs.Common.{◌≡◌, ◌<◌, true, false, length, arith, rules, ◌∙◌}
use Rattle.std.proofs.lemmas.Result.{err_from_is_err_and}
use Rattle.meta_journal.specs.Layout.{area_start}
use Rattle.meta_journal.specs.Opened.{IsSeen}
use Rattle.meta_journal.proofs.Adding.{told_of}
use Rattle.meta_journal.proofs.AreaRead.{for_some}
use Rattle.meta_journal.proofs.Opening.{if_told}
use Rattle.meta_journal.proofs.Switching.{if_some}
use Rattle.meta_journal.proofs.Synced.{area_refused, first_started, second_started, seen_of, version_failed}
use Rattle.meta_journal.proofs.starting.start_synced.Goals as goal

pub returns-in_err-started-clause-starts : goal.returns-in_err-started-clause-starts
returns-in_err-started-clause-starts g c =
    let at_first = g.D.Disk.state c.args.disk.now in
    let at_second = g.D.Disk.state c.read_area.new.disk in
    let header = c.args.header in
    let failed = err_from_is_err_and c.from_residual.result c.from_residual.ensures.1 in
    if_told at_first.content _ (λ bytes told.
    let known : IsSeen c.args.limit header c.args.len bytes = for_some at_first.content _ bytes told c.requires.seen in
    let there : area_start c.args.limit header.area < length bytes = omega (arith, known.len_is, c.requires.inside) in
    let found = if_some at_first.content _ bytes told c.in_err-started.ensures.found in
    rw (failed.1, failed.2)
    (area_refused c.args.limit header bytes c.requires.low (seen_of c.args.limit header c.args.len bytes known c.requires.inside) there at_first at_second told c.requires.synced c.in_err-started.ensures.looks
    c.in_err-started.field-0.0 found))

pub returns-then-not-header-clause-starts : goal.returns-then-not-header-clause-starts
returns-then-not-header-clause-starts g c =
    let at_first = g.D.Disk.state c.args.disk.now in
    let at_second = g.D.Disk.state c.read_area.new.disk in
    let header = c.args.header in
    let second : header.is_first_version ≡ false = search rules in
    if_told at_first.content _ (λ bytes told.
    let known : IsSeen c.args.limit header c.args.len bytes = for_some at_first.content _ bytes told c.requires.seen in
    let there : area_start c.args.limit header.area < length bytes = omega (arith, known.len_is, c.requires.inside) in
    let found = if_some at_first.content _ bytes told c.in_ok-started.ensures.found in
    second_started c.args.limit header bytes c.requires.low (seen_of c.args.limit header c.args.len bytes known c.requires.inside) there at_first at_second told c.requires.synced c.in_ok-started.ensures.looks
    c.in_ok-started.started found second)

pub returns-in-Ok-clause-starts : goal.returns-in-Ok-clause-starts
returns-in-Ok-clause-starts g c =
    let at_first = g.D.Disk.state c.args.disk.now in
    let at_second = g.D.Disk.state c.read_area.new.disk in
    let at_third = g.D.Disk.state c.write_synced.new.disk in
    let header = c.args.header in
    let first : header.is_first_version ≡ true = search rules in
    if_told at_first.content _ (λ bytes told.
    let known : IsSeen c.args.limit header c.args.len bytes = for_some at_first.content _ bytes told c.requires.seen in
    let there : area_start c.args.limit header.area < length bytes = omega (arith, known.len_is, c.requires.inside) in
    let looks = c.in_ok-started.ensures.looks in
    let found = if_some at_first.content _ bytes told c.in_ok-started.ensures.found in
    let written = c.in-Ok.ensures in
    first_started c.args.limit header bytes c.requires.low (seen_of c.args.limit header c.args.len bytes known c.requires.inside) there at_first at_second told c.requires.synced looks
    c.in_ok-started.started found first at_third written.crash (written.syncs (told_of at_second.content bytes (looks.content ∙ told))) written.synced written.written)

pub returns-in-Err-clause-starts : goal.returns-in-Err-clause-starts
returns-in-Err-clause-starts g c =
    let at_first = g.D.Disk.state c.args.disk.now in
    let at_second = g.D.Disk.state c.read_area.new.disk in
    let at_third = g.D.Disk.state c.write_synced.new.disk in
    let header = c.args.header in
    let first : header.is_first_version ≡ true = search rules in
    if_told at_first.content _ (λ bytes told.
    let known : IsSeen c.args.limit header c.args.len bytes = for_some at_first.content _ bytes told c.requires.seen in
    let there : area_start c.args.limit header.area < length bytes = omega (arith, known.len_is, c.requires.inside) in
    let looks = c.in_ok-started.ensures.looks in
    let found = if_some at_first.content _ bytes told c.in_ok-started.ensures.found in
    let written = c.in-Err.ensures in
    version_failed c.args.limit header bytes c.requires.low (seen_of c.args.limit header c.args.len bytes known c.requires.inside) there at_first at_second told c.requires.synced looks
    c.in_ok-started.started found first at_third written.crash (written.syncs (told_of at_second.content bytes (looks.content ∙ told))))
