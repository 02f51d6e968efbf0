use Rattle.fam_keeper.proofs.Holding.{never_full}
use Rattle.fam_keeper.proofs.appending.reserve_shortened.Goals as goal

pub unreachable-requires : goal.unreachable-requires
unreachable-requires g c =
    let j = c.args.journal.now in
    let full = c.in-Err-JournalFull in
    never_full j.limit j.used c.in-Ok.rows c.args.change.now full.field-0 full.field-0-0 full.field-0-1 c.requires.kept.limit c.in-Ok.ensures.lawful c.requires.has_body full.field-0-is c.in-Err-JournalFull.ensures.refused
