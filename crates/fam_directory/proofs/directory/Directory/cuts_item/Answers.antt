use Rattle.std.proofs.Common.{sym, ◌∙◌, ap}
use Rattle.fam_model.specs.Lists.{is_some_and}
use Rattle.fam_model.specs.Directory.{cuts_item}
use Rattle.region_alloc.specs.Gaps.{space_with}
use Rattle.region_alloc.proofs.Bases.{cut_is_cut}
use Rattle.fam_directory.proofs.directory.Directory.cuts_item.Goals as goal

pub returns-in-Some : goal.returns-in-Some
returns-in-Some c =
    c.ends_past.ensures c.in-Some.ensures.entry.1.ranges.rooms c.in-Some.ensures.entry.1.ranges.held ∙ cut_is_cut c.args.self.now.rows c.in-Some.region.now.row (space_with c.in-Some.region.now.room c.in-Some.ensures.entry.1.ranges.rooms) c.args.size c.in-Some.ensures.entry.1.ranges.space
    ∙ sym (ap (λ o. is_some_and o (λ row. cuts_item c.args.self.now.rows row c.args.size)) c.in-Some.ensures.entry.0)

pub returns-in-None : goal.returns-in-None
returns-in-None c = sym (ap (λ o. is_some_and o (λ row. cuts_item c.args.self.now.rows row c.args.size)) c.in-None.ensures.entry.0)
