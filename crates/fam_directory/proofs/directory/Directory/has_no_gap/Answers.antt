use Rattle.std.proofs.Common.{sym, ◌∙◌, ap}
use Rattle.fam_model.specs.Lists.{is_some_and}
use Rattle.fam_model.specs.Rows.{fits, bases_up_to, no_gap}
use Rattle.fam_rows.proofs.Searches.{none_found}
use Rattle.region_alloc.specs.Gaps.{space_with}
use Rattle.region_alloc.proofs.Bases.{least_is_least}
use Rattle.fam_directory.proofs.directory.Directory.has_no_gap.Goals as goal

pub returns-in-Some : goal.returns-in-Some
returns-in-Some c =
    none_found (fits c.args.self.now.rows c.in-Some.region.now.row c.args.n) (bases_up_to c.in-Some.region.now.row.size) c.least_base.result c.is_none.result (sym c.is_none.ensures)
    (c.least_base.ensures c.in-Some.ensures.entry.1.ranges.rooms c.in-Some.ensures.entry.1.ranges.held ∙ least_is_least c.args.self.now.rows c.in-Some.region.now.row (space_with c.in-Some.region.now.room c.in-Some.ensures.entry.1.ranges.rooms) c.args.n c.in-Some.ensures.entry.1.ranges.space)
    ∙ sym (ap (λ o. is_some_and o (λ row. no_gap c.args.self.now.rows row c.args.n)) c.in-Some.ensures.entry.0)

pub returns-in-None : goal.returns-in-None
returns-in-None c = sym (ap (λ o. is_some_and o (λ row. no_gap c.args.self.now.rows row c.args.n)) c.in-None.ensures.entry.0)
