use Rattle.std.proofs.Common.{sym}
use Rattle.fam_model.specs.Rows.{fits, bases_up_to}
use Rattle.fam_rows.proofs.Searches.{none_found}
use Rattle.fam_rows.proofs.room.has_no_gap.Goals as goal

pub returns : goal.returns
returns c = none_found (fits c.args.rows.now c.args.row.now c.args.n) (bases_up_to c.args.row.now.size) c.least_base.result c.is_none.result (sym c.is_none.ensures) c.least_base.ensures
