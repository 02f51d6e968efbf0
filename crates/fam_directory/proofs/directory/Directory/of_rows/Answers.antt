use Rattle.std.proofs.Common.{◌≡◌, ◌≢◌, List, sym, ap, subst, ◌∙◌}
use Rattle.std.specs.List.{AllPairs}
use Rattle.fam_model.specs.declared.rows.RegionRow.{RegionRow}
use Rattle.fam_model.specs.declared.rows.Rows.{Rows}
use Rattle.fam_directory.specs.Index.{IsIndexed, named_in, rows_of}
use Rattle.fam_directory.proofs.directory.Directory.of_rows.Goals as goal

-- the rows are those that were given
same_rows : (c : goal.After-total_of) → rows_of c.add_items.new.regions.items c.in_ok-items.items.rows c.args.rows.now.next_region c.in_ok-items.items.next ≡ c.args.rows.now
same_rows c = λ i. let rows : Rows = record { regions = c.in_ok-items.ensures.rows i; items = c.in_ok-items.ensures.items i; next_region = c.args.rows.now.next_region; next_item = c.in_ok-items.ensures.next i } in rows

pub add_items-requires-clause-rows : goal.add_items-requires-clause-rows
add_items-requires-clause-rows c = c.in_ok-regions.ensures.rows

pub add_items-requires-clause-indexes : goal.add_items-requires-clause-indexes
add_items-requires-clause-indexes c = c.in_ok-regions.ensures.indexes

pub names_of-requires : goal.names_of-requires
names_of-requires c = subst (λ (l : List RegionRow). AllPairs (λ a b. a.name ≢ b.name) l) (sym c.as_slice.ensures) c.requires.region_names_differ

pub invariant_of-result : goal.invariant_of-result
invariant_of-result c = record {
  indexed = subst (λ rows. IsIndexed rows c.add_items.new.regions.items c.in_ok-names.names c.total_of.result) (sym (same_rows c)) (record {
    lawful = c.requires;
    by_name = λ q. c.in_ok-names.ensures q ∙ ap (named_in q) c.as_slice.ensures;
    sum = c.total_of.ensures;
    indexes = c.in_ok-items.ensures.indexes;
  });
  awaited = tt;
}

pub returns : goal.returns
returns c = same_rows c
