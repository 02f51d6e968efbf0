use Rattle.std.proofs.Common.{sym, ◌∙◌, ap}
use Rattle.fam_model.specs.Lists.{◌>>=◌}
use Rattle.fam_model.specs.Rows.{least_base}
use Rattle.region_alloc.specs.Gaps.{space_with}
use Rattle.region_alloc.proofs.Bases.{least_is_least}
use Rattle.fam_directory.proofs.directory.Directory.least_base.Goals as goal

pub returns-in-Some : goal.returns-in-Some
returns-in-Some c =
    c.least_base.ensures c.in-Some.ensures.entry.1.ranges.rooms c.in-Some.ensures.entry.1.ranges.held ∙ least_is_least c.args.self.now.rows c.in-Some.region.now.row (space_with c.in-Some.region.now.room c.in-Some.ensures.entry.1.ranges.rooms) c.args.n c.in-Some.ensures.entry.1.ranges.space
    ∙ sym (ap (λ o. o >>= λ row. least_base c.args.self.now.rows row c.args.n) c.in-Some.ensures.entry.0)

pub returns-in-None : goal.returns-in-None
returns-in-None c = sym (ap (λ o. o >>= λ row. least_base c.args.self.now.rows row c.args.n) c.in-None.ensures.entry.0)
