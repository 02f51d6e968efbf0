-- The common rows are lawful.
use Rattle.std.proofs.Common.{◌≡◌, ◌≢◌, [], ◌∷◌, Result, Ok, Err, IfOk, refl, sym, subst, arith}
use Rattle.std.specs.List.{AllPairs}
use Rattle.std.proofs.lemmas.List.Elements.{All-cons, All-nil}
use Rattle.fam_base.specs.declared.error.NoMemory.{NoMemory}
use Rattle.fam_model.specs.declared.rows.Rows.{Rows}
use Rattle.fam_model.specs.Rows.{IsLawful, IsLawfulRegion, IsLawfulItem, AreApart, common_region, common_item, common_rows}

-- one element makes no pair
no_pairs : {X : Type 0} (R : X → X → Type 0) (x : X) → AllPairs R (x ∷ [])
no_pairs R x i j d lt in_range = absurd (omega arith)

pub common_rows_are_lawful : IsLawful common_rows
common_rows_are_lawful = record {
  common_region_first = refl;
  common_item_first = refl;
  region_numbers_rise = λ k in_range. absurd (omega arith);
  item_numbers_rise = λ k in_range. absurd (omega arith);
  next_region_bound = omega arith;
  next_item_bound = omega arith;
  regions = All-cons (IsLawfulRegion common_rows) common_region [] (record { number = omega arith; name = refl; mode = omega arith; owner = λ other. absurd (other refl); size = omega arith }) (All-nil (IsLawfulRegion common_rows));
  items = All-cons (IsLawfulItem common_rows) common_item [] (record { number = omega arith; name = refl; mode = omega arith; owner = λ other. absurd (other refl); size = omega arith; base = refl; inside = (common_region, refl, omega arith) }) (All-nil (IsLawfulItem common_rows));
  region_names_differ = no_pairs (λ a b. a.name ≢ b.name) common_region;
  items_are_apart = no_pairs AreApart common_item;
  region_count = omega arith;
  item_count = omega arith;
  total = omega arith;
}

-- rows that are the common ones are lawful
pub lawful_first : (r : Result Rows NoMemory) → IfOk r (λ rows. rows ≡ common_rows) → IfOk r (λ rows. IsLawful rows)
lawful_first (Ok rows) e = subst IsLawful (sym e) common_rows_are_lawful
lawful_first (Err error) e = tt
