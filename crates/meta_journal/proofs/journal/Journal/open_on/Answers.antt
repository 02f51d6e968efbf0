use Rattle.std.proofs.Common.{sym, ◌∙◌}
use Rattle.meta_journal.specs.declared.doubt.Doubt.TheVariants.{Nothing}
use Rattle.meta_journal.proofs.Adding.{known_acknowledged, sound_from, told_is, told_of}
use Rattle.meta_journal.proofs.Opening.{if_told}
use Rattle.meta_journal.proofs.Switching.{if_some}
use Rattle.meta_journal.proofs.journal.Journal.open_on.Goals as goal

pub returns-in-Ok-clause-opened : goal.returns-in-Ok-clause-opened
returns-in-Ok-clause-opened g c =
    let at_first = g.D.Disk.state c.args.disk in
    let at_second = g.D.Disk.state c.start.new.disk in
    let laws = g.met.D.Disk g.world.𝓛 g.world.𝓜 g.world.𝓡 ((λ s x. x), (λ x. x), (λ x. x), λ x. x) in
    if_told at_first.content _ (λ bytes told.
    let opens = if_some at_first.content _ bytes told c.in-Ok.ensures.opens in
    let started = opens.answers in
    record {
      contents = started.contents;
      reads = started.reads;
      used = sym started.place;
      rows_are = started.rows;
      changes = known_acknowledged at_second c.args.limit c.in-Ok.field-0.used c.in-Ok.field-0.area Nothing started.contents.changes (laws.reads_image c.start.new.disk) started.images (told_of at_second.content _ started.content);
      content = started.content;
    })

pub returns-in-Ok-clause-sound : goal.returns-in-Ok-clause-sound
returns-in-Ok-clause-sound g c image left =
    let at_first = g.D.Disk.state c.args.disk in
    let at_second = g.D.Disk.state c.start.new.disk in
    let laws = g.met.D.Disk g.world.𝓛 g.world.𝓜 g.world.𝓡 ((λ s x. x), (λ x. x), (λ x. x), λ x. x) in
    let bytes = told_is at_first.content (sym c.in-Ok.ensures.tells ∙ laws.tells_content c.start.new.disk at_second.moment image left) in
    let opens = if_some at_first.content _ bytes.0 bytes.1 c.in-Ok.ensures.opens in
    let started = opens.answers in
    sound_from at_second c.args.limit c.in-Ok.field-0.used c.in-Ok.field-0.area Nothing started.contents.changes (laws.tells_content c.start.new.disk) (laws.reads_image c.start.new.disk) started.images image left
