use Rattle.std.proofs.Common.{◌<◌, ◌++◌, [], ◌∷◌, map, length, get_or, sym, ap, subst, ◌∙◌, arith}
use Rattle.std.specs.List.{All}
use Rattle.std.proofs.lemmas.List.{map_push, take_more, take_all}
use Rattle.std.proofs.lemmas.List.Elements.{All-push}
use Rattle.fam_model.specs.declared.rows.RegionRow.{RegionRow}
use Rattle.fam_directory.specs.declared.region.Region.{Region}
use Rattle.fam_directory.specs.Index.{IsIndexOf, without_items}
use Rattle.fam_directory.proofs.TakenOver.{empty_index}
use Rattle.fam_directory.proofs.building.empty_regions.Goals as goal

pub new-requires : goal.new-requires
new-requires c =
    let lt = subst (λ l. c.loop-row.row-index < length l) c.as_slice-row-items.ensures c.loop-row-test.true in
    let small = (c.requires.regions c.loop-row.row-index c.row-item.result lt).size in
    let same = ap (λ (r : RegionRow). r.size) (c.in_ok-copy.ensures ∙ c.row-item.is ∙ ap (λ l. get_or l c.loop-row.row-index c.row-item.result) c.as_slice-row-items.ensures) in
    omega (arith, small, same)

pub loop-row-preserved : goal.loop-row-preserved
loop-row-preserved c = record {
  made =
      ap (map (λ (r : Region). r.row)) c.in_ok-push.ensures.items
      ∙ map_push (λ (r : Region). r.row) c.loop-row.regions.items c.new.result
      ∙ (λ i. c.loop-row.invariant.made i ++ (c.new.ensures.row ∙ c.in_ok-copy.ensures ∙ c.row-item.is) i ∷ [])
      ∙ sym (take_more c.as_slice-row-items.result.now c.loop-row.row-index c.row-item.result c.loop-row-test.true);
  indexes = subst (All (IsIndexOf (without_items c.args.rows.now))) (sym c.in_ok-push.ensures.items)
      (All-push (IsIndexOf (without_items c.args.rows.now)) c.loop-row.regions.items c.new.result c.loop-row.invariant.indexes
      (empty_index c.args.rows.now c.new.result c.new.ensures.names (c.new.ensures.size ∙ sym (ap (λ (r : RegionRow). r.size) c.new.ensures.row)) c.new.ensures.rooms));
}

pub returns-clause-rows : goal.returns-clause-rows
returns-clause-rows c =
    c.loop-row.invariant.made ∙ take_all c.loop-row.row-index c.as_slice-row-items.result.now c.loop-row-test.false ∙ c.as_slice-row-items.ensures

pub returns-clause-indexes : goal.returns-clause-indexes
returns-clause-indexes c = c.loop-row.invariant.indexes
