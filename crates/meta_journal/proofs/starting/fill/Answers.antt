use Rattle.std.proofs.Common.{sym, subst, ◌∙◌}
use Rattle.std.specs.Prelude.{Result}
use Rattle.std.proofs.lemmas.Result.{err_from_is_err_and}
use Rattle.fam_base.specs.declared.error.Failed.{Failed}
use Rattle.meta_journal.specs.Found.{IsBlank}
use Rattle.meta_journal.specs.Opened.{Makes}
use Rattle.meta_journal.proofs.Adding.{told_is}
use Rattle.meta_journal.proofs.Making.{fill_failed, finish_failed, finish_served}
use Rattle.meta_journal.proofs.Switching.{if_some}
use Rattle.meta_journal.proofs.starting.fill.Goals as goal

pub returns-in_err-write_synced-clause-makes : goal.returns-in_err-write_synced-clause-makes
returns-in_err-write_synced-clause-makes g c told =
    let at_first = g.D.Disk.state c.args.disk.now in
    let at_second = g.D.Disk.state c.write_synced.new.disk in
    let bytes = told_is at_first.content told in
    let blank = if_some at_first.content IsBlank bytes.0 bytes.1 c.requires in
    let failed = err_from_is_err_and c.from_residual.result c.from_residual.ensures.1 in
    subst (λ (r : Result (Unit {0}) Failed). Makes at_first at_second r) (sym failed.1)
    (fill_failed bytes.0 blank at_first at_second bytes.1 c.in_err-write_synced.ensures.crash failed.0 (c.in_err-write_synced.ensures.syncs told))

pub returns-in_err-write_synced-2-clause-makes : goal.returns-in_err-write_synced-2-clause-makes
returns-in_err-write_synced-2-clause-makes g c told =
    let at_first = g.D.Disk.state c.args.disk.now in
    let at_second = g.D.Disk.state c.write_synced.new.disk in
    let at_third = g.D.Disk.state c.write_synced-2.new.disk in
    let bytes = told_is at_first.content told in
    let blank = if_some at_first.content IsBlank bytes.0 bytes.1 c.requires in
    let first = c.in_ok-write_synced.ensures in
    let second = c.in_err-write_synced-2.ensures in
    let failed = err_from_is_err_and c.from_residual-in_err-write_synced-2.result c.from_residual-in_err-write_synced-2.ensures.1 in
    subst (λ (r : Result (Unit {0}) Failed). Makes at_first at_third r) (sym failed.1)
    (finish_failed bytes.0 blank at_first at_second bytes.1 first.crash first.synced first.written (first.syncs told) at_third second.crash failed.0 (second.syncs (first.crash.tells ∙ told)))

pub returns-clause-makes : goal.returns-clause-makes
returns-clause-makes g c told =
    let at_first = g.D.Disk.state c.args.disk.now in
    let at_second = g.D.Disk.state c.write_synced.new.disk in
    let at_third = g.D.Disk.state c.write_synced-2.new.disk in
    let bytes = told_is at_first.content told in
    let blank = if_some at_first.content IsBlank bytes.0 bytes.1 c.requires in
    let first = c.in_ok-write_synced.ensures in
    let second = c.in_ok-write_synced-2.ensures in
    finish_served bytes.0 blank at_first at_second bytes.1 first.crash first.synced first.written (first.syncs told) at_third second.crash tt (second.syncs (first.crash.tells ∙ told)) second.synced second.written
