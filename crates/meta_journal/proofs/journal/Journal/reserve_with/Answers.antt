use Rattle.std.proofs.Common.{sym, ◌∙◌}
use Rattle.std.specs.Prelude.{Some, None}
use Rattle.meta_journal.proofs.Reserving.{reserves, refused_full, room_by_form}
use Rattle.meta_journal.proofs.journal.Journal.reserve_with.Goals as goal

pub returns-in-Ok-clause-ok : goal.returns-in-Ok-clause-ok
returns-in-Ok-clause-ok g c =
    reserves c.args.self.now c.keep.new.self c.keep.ensures.same c.args.rows.now c.args.change.now None c.in-Ok.ensures.kept c.requires.rows (λ told. c.requires.addable) c.requires.has_body
    (sym c.fits.ensures ∙ c.if-fits.true)

pub returns-then-self-used-clause-refused : goal.returns-then-self-used-clause-refused
returns-then-self-used-clause-refused g c =
    refused_full c.args.self.now.limit c.args.self.now.used c.args.rows.now c.args.change.now _ c.len.result c.record_length-need.result c.in-Ok-short_form.ensures.bytes c.len.ensures c.record_length-need.ensures
    (sym c.fits.ensures ∙ c.if-fits.false) c.if-self-used.true

pub returns-in-Ok-keep-clause-ok : goal.returns-in-Ok-keep-clause-ok
returns-in-Ok-keep-clause-ok g c =
    reserves c.args.self.now c.keep-2.new.self c.keep-2.ensures.same c.args.rows.now c.args.change.now (Some _) c.in-Ok-keep.ensures.kept c.requires.rows (λ told. c.requires.addable) c.requires.has_body (
      sym c.fits.ensures ∙ c.if-fits.false,
      room_by_form c.args.self.now.limit c.args.rows.now c.args.change.now _ c.len.result c.record_length-need.result c.in-Ok-short_form.ensures.bytes c.len.ensures c.record_length-need.ensures c.if-self-used.false,
      c.in-Ok-short_form.ensures.bytes,
      c.in-Ok-short_form.ensures.restores,
    )
