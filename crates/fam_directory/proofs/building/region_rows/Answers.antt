use Rattle.std.proofs.Common.{◌++◌, [], ◌∷◌, map, sym, ap, ◌∙◌}
use Rattle.std.proofs.lemmas.List.{map_more, take_all}
use Rattle.fam_directory.specs.declared.region.Region.{Region}
use Rattle.fam_directory.proofs.building.region_rows.Goals as goal

pub loop-region-preserved : goal.loop-region-preserved
loop-region-preserved c =
    c.in_ok-push.ensures.ok
    ∙ (λ i. c.loop-region.invariant i ++ (c.in_ok-copy_region.ensures ∙ ap (λ (r : Region). r.row) c.region-item.is) i ∷ [])
    ∙ sym (map_more (λ (r : Region). r.row) c.args.regions.now c.loop-region.region-index c.region-item.result c.loop-region-test.true)

pub returns : goal.returns
returns c = c.loop-region.invariant ∙ ap (map (λ (r : Region). r.row)) (take_all c.loop-region.region-index c.args.regions.now c.loop-region-test.false)
