-- The entries of a map by region, and what they say.
use Rattle.std.proofs.Common.{◌≡◌, ℕ, Bool, true, false, cond, List, [], ◌∷◌, refl, sym, ap, subst, ◌∙◌}
use Rattle.std.specs.Prelude.{Option, Some, None, unwrap_or, IsSome}
use Rattle.std.specs.declared.cmp.Ordering.{Ordering}
use Rattle.std.specs.declared.cmp.Ordering.TheVariants.{Less, Equal, Greater}
use Rattle.std.specs.Ordering.{nat_cmp, eq_by_cmp, is_eq}
use Rattle.std.specs.Cmp.{nat_cmp_total, eq_by_cmp_equiv}
use Rattle.std.specs.BTreeMap.{BTreeMap, is_at, WritesThrough}
use Rattle.std.specs.Map.{lookup}
use Rattle.std.proofs.lemmas.Map.Lookups.{exact_unsigned}
use Rattle.fam_base.specs.declared.naming.RegionId.{RegionId}
use Rattle.stripe_store.specs.Kept.{Kept, rows_of, with_rows, kept_of}
use Rattle.stripe_store.proofs.Kept.{IsTidy, tidy-empty, tidy-with_rows, same_kept, rows_of-empty, rows_of-with_rows}

abbrev pub Entries : Type 0
Entries = List (RegionId × List (List ℕ))

abbrev pub Regions : Type 0
Regions = BTreeMap RegionId (List (List ℕ))

-- the order of the keys
abbrev pub by_number : RegionId → RegionId → Ordering
by_number a b = nat_cmp a.0 b.0

-- what the entries have at a region
abbrev pub found : Entries → RegionId → Option (List (List ℕ))
found entries region = lookup (is_at (by_number region)) entries

abbrev pub rows_at : Entries → RegionId → List (List ℕ)
rows_at entries region = unwrap_or (found entries region) []

pub tidy-kept_of : (entries : Entries) → IsTidy (kept_of entries)
tidy-kept_of [] = tidy-empty
tidy-kept_of (entry ∷ entries) = tidy-with_rows (kept_of entries) entry.0.0 entry.1 (tidy-kept_of entries)

first_in : (b : Bool) (rows : List (List ℕ)) (o : Option (List (List ℕ))) → cond b rows (unwrap_or o []) ≡ unwrap_or (cond b (Some rows) o) []
first_in true rows o = refl
first_in false rows o = refl

pub rows_of-kept_of : (entries : Entries) (region : RegionId) → rows_of (kept_of entries) region.0 ≡ rows_at entries region
rows_of-kept_of [] region = rows_of-empty region.0
rows_of-kept_of (entry ∷ entries) region =
    rows_of-with_rows (kept_of entries) entry.0.0 entry.1 region.0
    ∙ ap (cond (eq_by_cmp nat_cmp region.0 entry.0.0) entry.1) (rows_of-kept_of entries region)
    ∙ first_in (eq_by_cmp nat_cmp region.0 entry.0.0) entry.1 (found entries region)

turned : (a b : ℕ) → eq_by_cmp nat_cmp a b ≡ eq_by_cmp nat_cmp b a
turned a b = (eq_by_cmp_equiv nat_cmp_total).symm a b

-- entries that differ at one region
pub one_changed : (old new : Entries) (region : RegionId) (rows : List (List ℕ)) → ((q : RegionId) → rows_at new q ≡ cond (is_at (by_number region) q) rows (rows_at old q)) → kept_of new ≡ with_rows (kept_of old) region.0 rows
one_changed old new region rows changed =
    same_kept (kept_of new) (with_rows (kept_of old) region.0 rows) (tidy-kept_of new) (tidy-with_rows (kept_of old) region.0 rows (tidy-kept_of old)) (λ q.
    let at : RegionId = record { 0 = q } in
    rows_of-kept_of new at ∙ changed at ∙ ap (λ b. cond b rows (rows_at old at)) (turned region.0 q)
    ∙ ap (cond (eq_by_cmp nat_cmp q region.0) rows) (sym (rows_of-kept_of old at))
    ∙ sym (rows_of-with_rows (kept_of old) region.0 rows q))

rows_where : (b : Bool) (w o : Option (List (List ℕ))) → unwrap_or (cond b w o) [] ≡ cond b (unwrap_or w []) (unwrap_or o [])
rows_where true w o = refl
rows_where false w o = refl

-- what a call of the map says that it changed
pub one_updated : (old new : Entries) (region : RegionId) (w : Option (List (List ℕ))) → ((q : RegionId) → found new q ≡ cond (is_at (by_number region) q) w (found old q)) → kept_of new ≡ with_rows (kept_of old) region.0 (unwrap_or w [])
one_updated old new region w updated =
    one_changed old new region (unwrap_or w []) (λ q. ap (λ o. unwrap_or o []) (updated q) ∙ rows_where (is_at (by_number region) q) w (found old q))

same_here : (entries : Entries) (region q : RegionId) (o : Ordering) → by_number region q ≡ o → rows_at entries q ≡ cond (is_eq o) (rows_at entries region) (rows_at entries q)
same_here entries region q Less e = refl
same_here entries region q Equal e =
    ap (λ (n : ℕ). rows_at entries (record { 0 = n })) (sym (exact_unsigned region.0 q.0 e))
same_here entries region q Greater e = refl

-- the rows that a region has, put there, change nothing
pub rows_put_back : (entries : Entries) (region : RegionId) → kept_of entries ≡ with_rows (kept_of entries) region.0 (rows_at entries region)
rows_put_back entries region =
    one_changed entries entries region (rows_at entries region) (λ q. same_here entries region q (by_number region q) refl)

-- the rows of a region that the map finds
pub rows_found : (kept : Kept) (regions : Regions) (region : RegionId) (there : List (List ℕ)) → kept_of regions.entries ≡ kept → Some there ≡ found regions.entries region → rows_of kept region.0 ≡ there
rows_found kept regions region there seen is =
    ap (λ k. rows_of k region.0) (sym seen) ∙ rows_of-kept_of regions.entries region ∙ ap (λ o. unwrap_or o []) (sym is)

-- the rows of a region that the map does not find
pub rows_not_found : (kept : Kept) (regions : Regions) (region : RegionId) → kept_of regions.entries ≡ kept → None ≡ found regions.entries region → rows_of kept region.0 ≡ []
rows_not_found kept regions region seen is =
    ap (λ k. rows_of k region.0) (sym seen) ∙ rows_of-kept_of regions.entries region ∙ ap (λ o. unwrap_or o []) (sym is)

-- rows written where the map found some
pub rows_written : (kept : Kept) (old new : Regions) (region : RegionId) (there rows : List (List ℕ)) (f : List (List ℕ) → List (List ℕ)) → kept_of old.entries ≡ kept → Some there ≡ found old.entries region → WritesThrough by_number (by_number region) old rows new → rows ≡ f there → kept_of new.entries ≡ with_rows kept region.0 (f (rows_of kept region.0))
rows_written kept old new region there rows f seen is written made =
    one_updated old.entries new.entries region (Some rows) (written.3 (subst IsSome is refl)).0
    ∙ ap (λ k. with_rows k region.0 rows) seen
    ∙ ap (with_rows kept region.0) (made ∙ ap f (sym (rows_found kept old region there seen is)))

-- nothing written where the map found no rows
pub nothing_written : (kept : Kept) (old new : Regions) (region : RegionId) (f : List (List ℕ) → List (List ℕ)) → kept_of old.entries ≡ kept → None ≡ found old.entries region → new ≡ old → f [] ≡ [] → kept_of new.entries ≡ with_rows kept region.0 (f (rows_of kept region.0))
nothing_written kept old new region f seen is same none =
    ap (λ (m : Regions). kept_of m.entries) same
    ∙ rows_put_back old.entries region
    ∙ ap (λ k. with_rows k region.0 (rows_at old.entries region)) seen
    ∙ ap (with_rows kept region.0) (ap (λ o. unwrap_or o []) (sym is) ∙ sym none ∙ ap f (sym (rows_not_found kept old region seen is)))

-- the rows that were found, written again
pub rows_kept : (kept : Kept) (old new : Regions) (region : RegionId) (there rows : List (List ℕ)) → kept_of old.entries ≡ kept → Some there ≡ found old.entries region → WritesThrough by_number (by_number region) old rows new → rows ≡ there → kept_of new.entries ≡ kept
rows_kept kept old new region there rows seen is written same =
    one_updated old.entries new.entries region (Some rows) (written.3 (subst IsSome is refl)).0
    ∙ ap (with_rows (kept_of old.entries) region.0) (same ∙ ap (λ o. unwrap_or o []) is)
    ∙ sym (rows_put_back old.entries region)
    ∙ seen

-- rows inserted where the map found none
pub rows_inserted : (kept : Kept) (old before new : Regions) (region : RegionId) (rows : List (List ℕ)) (f : List (List ℕ) → List (List ℕ)) → kept_of old.entries ≡ kept → None ≡ found old.entries region → before ≡ old → ((q : RegionId) → found new.entries q ≡ cond (is_at (by_number region) q) (Some rows) (found before.entries q)) → rows ≡ f [] → kept_of new.entries ≡ with_rows kept region.0 (f (rows_of kept region.0))
rows_inserted kept old before new region rows f seen is same updated made =
    one_updated before.entries new.entries region (Some rows) updated
    ∙ ap (λ k. with_rows k region.0 rows) (ap (λ (m : Regions). kept_of m.entries) same ∙ seen)
    ∙ ap (with_rows kept region.0) (made ∙ ap f (sym (rows_not_found kept old region seen is)))
