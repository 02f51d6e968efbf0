use Rattle.std.proofs.Common.{sym}
use Rattle.fam_rows.proofs.Searches.{lawful_region}
use Rattle.fam_rows.proofs.changing.first_base.Goals as goal

-- a region that is there is lawful
pub least_base-requires-clause-size : goal.least_base-requires-clause-size
least_base-requires-clause-size c = (lawful_region c.args.rows.now c.requires c.in-Allocate.number.0 c.in-Some.row.now (sym c.in-Some.ensures)).size
