use Rattle.std.proofs.Common.{sym}
use Rattle.fam_rows.proofs.Searches.{lawful_region}
use Rattle.fam_rows.proofs.refusing.allocation_refusal.Goals as goal

-- a region that is there is lawful
pub has_no_gap-requires-clause-size : goal.has_no_gap-requires-clause-size
has_no_gap-requires-clause-size c = (lawful_region c.args.rows.now c.requires c.args.number.0 c.in-Some.row.now (sym c.in-Some.ensures)).size
