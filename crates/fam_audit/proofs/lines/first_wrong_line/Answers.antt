use Rattle.std.proofs.Common.{◌≡◌, ◌≤◌, ℕ, length, ap, sym, refl, ◌∙◌, arith}
use Rattle.std.specs.Prelude.{Some}
use Rattle.std.proofs.lemmas.Option.{slice_get_read}
use Rattle.fam_audit.proofs.Comparing.{due_within, ends_short, wrong_here, wrong_later}
use Rattle.fam_audit.proofs.lines.first_wrong_line.Goals as goal

pub returns-then-not-is_due : goal.returns-then-not-is_due
returns-then-not-is_due c =
    let lines = c.args.lines.now in
    let place = c.loop-place.place in
    let line = c.index-lines-place.result in
    let there = slice_get_read lines (length lines) place line refl c.loop-place-test.true c.index-lines-place.is in
    sym (c.loop-place.invariant.1 ∙ wrong_here place line lines c.args.due.now there (sym c.is_due.ensures ∙ c.if-not-is_due.true))

pub loop-place-preserved : goal.loop-place-preserved
loop-place-preserved c =
    let lines = c.args.lines.now in
    let due = c.args.due.now in
    let place = c.loop-place.place in
    let line = c.index-lines-place.result in
    let there = slice_get_read lines (length lines) place line refl c.loop-place-test.true c.index-lines-place.is in
    let same = sym c.is_due.ensures ∙ c.if-not-is_due.false in
    let within = due_within place line due same in
    (omega (arith, within), c.loop-place.invariant.1 ∙ wrong_later place line lines due there same)

pub returns-then-lines-due : goal.returns-then-lines-due
returns-then-lines-due c =
    let lines = c.args.lines.now in
    let due = c.args.due.now in
    let place : ℕ = c.loop-place.place in
    let past : length lines ≤ place = omega arith in
    let end : length lines ≡ place = omega arith in
    let more = c.if-lines-due.true in
    ap Some end ∙ sym (c.loop-place.invariant.1 ∙ ends_short lines due place past (omega arith))
