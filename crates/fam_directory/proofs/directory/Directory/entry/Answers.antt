use Rattle.std.proofs.Common.{◌<◌, length, Some, None, sym, ap, subst, ◌∙◌}
use Rattle.std.specs.List.Sorted.{IsStrictlyIncreasing}
use Rattle.fam_model.specs.Lists.{place_of}
use Rattle.fam_directory.specs.Index.{IsEntry, number_of}
use Rattle.std.proofs.Common.{map}
use Rattle.fam_directory.proofs.Lookups.{numbers_rise, entry_found, entry_missing}
use Rattle.fam_directory.proofs.directory.Directory.entry.Goals as goal

pub place_of_region-requires : goal.place_of_region-requires
place_of_region-requires c =
    subst (λ l. IsStrictlyIncreasing (map number_of l)) (sym c.as_slice.ensures.value) (numbers_rise c.self.inside.regions.items c.self.invariant.indexed.lawful.region_numbers_rise)

pub returns-in-Some-clause-entry : goal.returns-in-Some-clause-entry
returns-in-Some-clause-entry c =
    subst (λ l. IsEntry l.rows c.args.number.0 (Some c.index.result.now)) c.self.view_is
    (entry_found c.self.inside.regions.items c.self.inside.items.rows c.self.inside.next_region c.self.inside.items.next c.args.number.0 c.in-Some.place c.self.inside.total c.self.inside.names c.index.result.now c.self.invariant.indexed (c.in-Some.ensures.place ∙ ap (place_of number_of c.args.number.0) c.as_slice.ensures.value) (subst (λ l. c.in-Some.place < length l) c.as_slice.ensures.value c.in-Some.ensures.within) c.index.ensures)

pub returns-in-None-clause-entry : goal.returns-in-None-clause-entry
returns-in-None-clause-entry c =
    subst (λ l. IsEntry l.rows c.args.number.0 None) c.self.view_is
    (entry_missing c.self.inside.regions.items c.self.inside.items.rows c.self.inside.next_region c.self.inside.items.next c.args.number.0 c.self.invariant.indexed.lawful (c.in-None.ensures.place ∙ ap (place_of number_of c.args.number.0) c.as_slice.ensures.value))
