use Rattle.std.proofs.Common.{ℕ, List, ◌≤◌, length, sym, subst, ◌∙◌}
use Rattle.std.specs.Prelude.{Result}
use Rattle.std.proofs.lemmas.Result.{err_from_is_err_and}
use Rattle.fam_base.specs.declared.error.Failed.{Failed}
use Rattle.meta_journal.specs.Opened.{Makes}
use Rattle.meta_journal.proofs.Adding.{told_is}
use Rattle.meta_journal.proofs.Making.{clear_failed, then_made}
use Rattle.meta_journal.proofs.Switching.{if_some}
use Rattle.meta_journal.proofs.starting.clear_and_fill.Goals as goal

pub returns-in_err-write_synced-clause-makes : goal.returns-in_err-write_synced-clause-makes
returns-in_err-write_synced-clause-makes g c told =
    let at_first = g.D.Disk.state c.args.disk.now in
    let at_second = g.D.Disk.state c.write_synced.new.disk in
    let bytes = told_is at_first.content told in
    let few = if_some at_first.content (λ (l : List ℕ). length l ≤ 16) bytes.0 bytes.1 c.requires in
    let failed = err_from_is_err_and c.from_residual.result c.from_residual.ensures.1 in
    subst (λ (r : Result (Unit {0}) Failed). Makes at_first at_second r) (sym failed.1)
    (clear_failed bytes.0 few at_first at_second bytes.1 c.in_err-write_synced.ensures.crash failed.0 (c.in_err-write_synced.ensures.syncs told))

pub returns-in_err-fill-clause-makes : goal.returns-in_err-fill-clause-makes
returns-in_err-fill-clause-makes g c told =
    let at_first = g.D.Disk.state c.args.disk.now in
    let at_second = g.D.Disk.state c.write_synced.new.disk in
    let at_third = g.D.Disk.state c.fill.new.disk in
    let bytes = told_is at_first.content told in
    let few = if_some at_first.content (λ (l : List ℕ). length l ≤ 16) bytes.0 bytes.1 c.requires in
    let first = c.in_ok-write_synced.ensures in
    let failed = err_from_is_err_and c.from_residual-in_err-fill.result c.from_residual-in_err-fill.ensures.1 in
    rw (failed.1, failed.2)
    (then_made bytes.0 few at_first at_second bytes.1 first.crash _ at_third first.synced (first.syncs told) (c.in_err-fill.ensures.makes (first.crash.tells ∙ told)))

pub returns-clause-makes : goal.returns-clause-makes
returns-clause-makes g c told =
    let at_first = g.D.Disk.state c.args.disk.now in
    let at_second = g.D.Disk.state c.write_synced.new.disk in
    let at_third = g.D.Disk.state c.fill.new.disk in
    let bytes = told_is at_first.content told in
    let few = if_some at_first.content (λ (l : List ℕ). length l ≤ 16) bytes.0 bytes.1 c.requires in
    let first = c.in_ok-write_synced.ensures in
    then_made bytes.0 few at_first at_second bytes.1 first.crash _ at_third first.synced (first.syncs told) (c.in_ok-fill.ensures.makes (first.crash.tells ∙ told))
