-- The bytes of all regions, as the stores and the sizes have them.
use Rattle.std.proofs.Common.{◌≡◌, ◌≢◌, ℕ, ◌+◌, ◌/◌, ◌%◌, ◌≤◌, ◌^◌, Bool, true, false, cond, List, [], ◌∷◌, length, map, get_or, refl, sym, ap, subst, ◌∙◌, inl, inr, arith}
use Rattle.std.specs.Prelude.{Option, Some, None, unwrap_or, IsSome}
use Rattle.std.specs.Option.{option_map}
use Rattle.std.specs.Map.{lookup}
use Rattle.std.specs.BTreeMap.{is_at}
use Rattle.std.specs.Ordering.{nat_cmp, eq_by_cmp}
use Rattle.std.specs.Cmp.{nat_cmp_total, unsigned_tied}
use Rattle.std.specs.FinMap.{FinMap, get, insert, remove, get-empty, get-insert, get-remove, same_map, nat_cmp-IsAntisymmetric}
use Rattle.std.proofs.lemmas.Bool.{cases_eq, false≢true}
use Rattle.std.proofs.lemmas.Bool.Decides.{nat_tests}
use Rattle.fam_base.specs.declared.naming.RegionId.{RegionId}
use Rattle.fam_model.specs.declared.service.Service.{Service}
use Rattle.fam_model.specs.Pieces.{stripe_count}
use Rattle.stripe_store.specs.Kept.{Kept}
use Rattle.stripe_store.specs.Rows.{bytes_of}
use Rattle.striped_memory.specs.Stripes.{rows_on, byte_of, bytes_in, HasRows, SameElsewhere, Sizes, by_number, found, size_in, regions_of, IsStriped}
use Rattle.striped_memory.proofs.Sizes.{bytes_same, has_same_shape}

abbrev Regions : Type 0
Regions = FinMap nat_cmp (List ℕ)

same_by_test : (a b : ℕ) → eq_by_cmp nat_cmp a b ≡ true → a ≡ b
same_by_test a b tied = let test = unsigned_tied a b in grind (arith, nat_tests)

-- the bytes of a region that rows elsewhere do not change
pub bytes_elsewhere : (service : Service) (old new : List Kept) (region size : ℕ) →
    ((stripe : ℕ) → rows_on new stripe region ≡ rows_on old stripe region) →
    bytes_in service new region size ≡ bytes_in service old region size
unfolding byte_of
bytes_elsewhere service old new region size same =
    bytes_same service old new region size (λ k below.
    ap (λ rows. get_or (bytes_of rows (k / service.unit / stripe_count service)) (k % service.unit) 0)
    (same ((region + k / service.unit) % stripe_count service)))

entry_by : (f : ℕ → ℕ → List ℕ) (q e n : ℕ) (b : Bool) (rest : Option ℕ) → (b ≡ true → q ≡ e) →
    cond b (Some (f e n)) (option_map (f q) rest) ≡ option_map (f q) (cond b (Some n) rest)
entry_by f q e n true rest same = ap (λ (k : ℕ). Some (f k n)) (sym (same refl))
entry_by f q e n false rest same = refl

-- what is there of each region
pub get-regions_of : (service : Service) (stores : List Kept) (sizes : Sizes) (q : ℕ) →
    get (regions_of service stores sizes) q ≡ option_map (bytes_in service stores q) (found sizes q)
get-regions_of service stores [] q = get-empty nat_cmp q
get-regions_of service stores (entry ∷ sizes) q =
    get-insert nat_cmp_total (regions_of service stores sizes) entry.0.0 (bytes_in service stores entry.0.0 entry.1) q
    ∙ ap (λ rest. cond (eq_by_cmp nat_cmp q entry.0.0) (Some (bytes_in service stores entry.0.0 entry.1)) rest) (get-regions_of service stores sizes q)
    ∙ entry_by (bytes_in service stores) q entry.0.0 entry.1 (eq_by_cmp nat_cmp q entry.0.0) (found sizes q) (same_by_test q entry.0.0)

-- a region that is there has a size
there_by : (f : ℕ → List ℕ) (size : Option ℕ) → IsSome (option_map f size) → size ≡ Some (unwrap_or size 0)
there_by f None there = absurd (false≢true there)
there_by f (Some n) there = refl

pub there_found : (service : Service) (stores : List Kept) (sizes : Sizes) (region : ℕ) →
    IsSome (get (regions_of service stores sizes) region) → found sizes region ≡ Some (size_in sizes region)
there_found service stores sizes region there =
    there_by (bytes_in service stores region) (found sizes region) (subst IsSome (get-regions_of service stores sizes region) there)

-- and its bytes
pub bytes_there : (service : Service) (stores : List Kept) (sizes : Sizes) (region size : ℕ) → found sizes region ≡ Some size →
    unwrap_or (get (regions_of service stores sizes) region) [] ≡ bytes_in service stores region size
bytes_there service stores sizes region size is =
    ap (λ bytes. unwrap_or bytes []) (get-regions_of service stores sizes region ∙ ap (option_map (bytes_in service stores region)) is)

-- changes

-- the sizes differ at one region
pub record Changed (old new : Sizes) (region : ℕ) (size : Option ℕ) : Type 0 where
  pub here : found new region ≡ size
  pub others : (q : ℕ) → q ≢ region → found new q ≡ found old q

where_same : {A : Type 0} (b : Bool) (x y : A) → b ≡ true → cond b x y ≡ x
where_same true x y e = refl
where_same false x y e = cc

where_other : {A : Type 0} (b : Bool) (x y : A) → b ≡ false → cond b x y ≡ y
where_other true x y e = cc
where_other false x y e = refl

tied_same : (a b : ℕ) → a ≡ b → eq_by_cmp nat_cmp a b ≡ true
tied_same a b same = let test = unsigned_tied a b in grind (arith, nat_tests)

tied_other : (a b : ℕ) → a ≢ b → eq_by_cmp nat_cmp a b ≡ false
tied_other a b apart = let test = unsigned_tied a b in grind (arith, nat_tests)

-- what a call of the map says that it changed
pub updated : (old new : Sizes) (region : RegionId) (size : Option ℕ) →
    ((q : RegionId) → lookup (is_at (by_number q)) new ≡ cond (is_at (by_number region) q) size (lookup (is_at (by_number q)) old)) →
    Changed old new region.0 size
updated old new region size updates =
    record {
      here = updates region ∙ where_same (is_at (by_number region) region) size (found old region.0) (tied_same region.0 region.0 refl);
      others = λ q apart.
          let at : RegionId = record { 0 = q } in
          updates at ∙ where_other (is_at (by_number region) at) size (found old q) (tied_other region.0 q (λ same. apart (sym same)));
    }

pub unchanged : (sizes : Sizes) (region size : ℕ) → found sizes region ≡ Some size → Changed sizes sizes region (Some size)
unchanged sizes region size is = record { here = is; others = λ q apart. refl }

pub inserted_here : (regions : Regions) (region : ℕ) (bytes : List ℕ) → get (insert regions region bytes) region ≡ Some bytes
inserted_here regions region bytes =
    get-insert nat_cmp_total regions region bytes region
    ∙ where_same (eq_by_cmp nat_cmp region region) (Some bytes) (get regions region) (tied_same region region refl)

pub inserted_beside : (regions : Regions) (region q : ℕ) (bytes : List ℕ) → q ≢ region → get (insert regions region bytes) q ≡ get regions q
inserted_beside regions region q bytes apart =
    get-insert nat_cmp_total regions region bytes q
    ∙ where_other (eq_by_cmp nat_cmp q region) (Some bytes) (get regions q) (tied_other q region apart)

pub removed_here : (regions : Regions) (region : ℕ) → get (remove regions region) region ≡ None
removed_here regions region =
    get-remove nat_cmp_total regions region region
    ∙ where_same (eq_by_cmp nat_cmp region region) None (get regions region) (tied_same region region refl)

pub removed_beside : (regions : Regions) (region q : ℕ) → q ≢ region → get (remove regions region) q ≡ get regions q
removed_beside regions region q apart =
    get-remove nat_cmp_total regions region q
    ∙ where_other (eq_by_cmp nat_cmp q region) None (get regions q) (tied_other q region apart)

kept_beside : (service : Service) (old new : List Kept) (sizes sizes' : Sizes) (region q : ℕ) (size : Option ℕ) →
    SameElsewhere old new region → Changed sizes sizes' region size → q ≢ region →
    get (regions_of service new sizes') q ≡ get (regions_of service old sizes) q
kept_beside service old new sizes sizes' region q size same changed apart =
    get-regions_of service new sizes' q
    ∙ ap (option_map (bytes_in service new q)) (changed.others q apart)
    ∙ other_bytes (found sizes q)
    ∙ sym (get-regions_of service old sizes q)
  where
    other_bytes : (o : Option ℕ) → option_map (bytes_in service new q) o ≡ option_map (bytes_in service old q) o
    other_bytes None = refl
    other_bytes (Some n) = ap Some (bytes_elsewhere service old new q n (λ stripe. same stripe q apart))

-- the regions after a change at one that is there
pub regions_with : (service : Service) (old new : List Kept) (sizes sizes' : Sizes) (region size : ℕ) (bytes : List ℕ) →
    SameElsewhere old new region → Changed sizes sizes' region (Some size) → bytes_in service new region size ≡ bytes →
    regions_of service new sizes' ≡ insert (regions_of service old sizes) region bytes
regions_with service old new sizes sizes' region size bytes same changed are =
    same_map nat_cmp_total nat_cmp-IsAntisymmetric (regions_of service new sizes') (insert (regions_of service old sizes) region bytes)
    (λ q. elim (cases_eq q region) [
      | inl here ↦
          subst (λ (n : ℕ). get (regions_of service new sizes') n ≡ get (insert (regions_of service old sizes) region bytes) n) (sym here)
          (get-regions_of service new sizes' region
          ∙ ap (option_map (bytes_in service new region)) changed.here
          ∙ ap Some are
          ∙ sym (inserted_here (regions_of service old sizes) region bytes))
      | inr apart ↦
          kept_beside service old new sizes sizes' region q (Some size) same changed apart
          ∙ sym (inserted_beside (regions_of service old sizes) region q bytes apart)
    ])

-- and at one that is not there any more
pub regions_without : (service : Service) (old new : List Kept) (sizes sizes' : Sizes) (region : ℕ) →
    SameElsewhere old new region → Changed sizes sizes' region None →
    regions_of service new sizes' ≡ remove (regions_of service old sizes) region
regions_without service old new sizes sizes' region same changed =
    same_map nat_cmp_total nat_cmp-IsAntisymmetric (regions_of service new sizes') (remove (regions_of service old sizes) region)
    (λ q. elim (cases_eq q region) [
      | inl here ↦
          subst (λ (n : ℕ). get (regions_of service new sizes') n ≡ get (remove (regions_of service old sizes) region) n) (sym here)
          (get-regions_of service new sizes' region
          ∙ ap (option_map (bytes_in service new region)) changed.here
          ∙ sym (removed_here (regions_of service old sizes) region))
      | inr apart ↦
          kept_beside service old new sizes sizes' region q None same changed apart
          ∙ sym (removed_beside (regions_of service old sizes) region q apart)
    ])

-- with the same rows elsewhere, and a region that is not there before or after, nothing is seen
pub regions_same : (service : Service) (old new : List Kept) (sizes sizes' : Sizes) (region : ℕ) (size : Option ℕ) →
    SameElsewhere old new region → Changed sizes sizes' region size → found sizes region ≡ size →
    ((n : ℕ) → size ≡ Some n → bytes_in service new region n ≡ bytes_in service old region n) →
    regions_of service new sizes' ≡ regions_of service old sizes
regions_same service old new sizes sizes' region size same changed is bytes =
    same_map nat_cmp_total nat_cmp-IsAntisymmetric (regions_of service new sizes') (regions_of service old sizes)
    (λ q. elim (cases_eq q region) [
      | inl here ↦
          subst (λ (n : ℕ). get (regions_of service new sizes') n ≡ get (regions_of service old sizes) n) (sym here)
          (get-regions_of service new sizes' region
          ∙ ap (option_map (bytes_in service new region)) changed.here
          ∙ same_bytes size bytes
          ∙ ap (option_map (bytes_in service old region)) (sym is)
          ∙ sym (get-regions_of service old sizes region))
      | inr apart ↦ kept_beside service old new sizes sizes' region q size same changed apart
    ])
  where
    same_bytes : (o : Option ℕ) → ((n : ℕ) → o ≡ Some n → bytes_in service new region n ≡ bytes_in service old region n) →
        option_map (bytes_in service new region) o ≡ option_map (bytes_in service old region) o
    same_bytes None each = refl
    same_bytes (Some n) each = ap Some (each n refl)

-- what stays true

pub same_rows_has : (service : Service) (old new : List Kept) (region size : ℕ) → HasRows service old region size →
    ((stripe : ℕ) → rows_on new stripe region ≡ rows_on old stripe region) → HasRows service new region size
same_rows_has service old new region size has same =
    has_same_shape service old new region size has (λ stripe. ap (map length) (same stripe))

pub striped_with : (service : Service) (old new : List Kept) (sizes sizes' : Sizes) (region : ℕ) (size : Option ℕ) →
    IsStriped service old sizes → length new ≡ length old → SameElsewhere old new region → Changed sizes sizes' region size →
    HasRows service new region (unwrap_or size 0) → unwrap_or size 0 ≤ 2 ^ 26 → IsStriped service new sizes'
striped_with service old new sizes sizes' region size striped count same changed has small =
    record {
      lawful = striped.lawful;
      stripes = count ∙ striped.stripes;
      rows = λ q. elim (cases_eq q region) [
        | inl here ↦
            subst (λ (n : ℕ). HasRows service new n (size_in sizes' n)) (sym here)
            (subst (λ (o : Option ℕ). HasRows service new region (unwrap_or o 0)) (sym changed.here) has)
        | inr apart ↦
            subst (λ (o : Option ℕ). HasRows service new q (unwrap_or o 0)) (sym (changed.others q apart))
            (same_rows_has service old new q (size_in sizes q) (striped.rows q) (λ stripe. same stripe q apart))
      ];
      small = λ q. elim (cases_eq q region) [
        | inl here ↦
            subst (λ (n : ℕ). size_in sizes' n ≤ 2 ^ 26) (sym here)
            (subst (λ (o : Option ℕ). unwrap_or o 0 ≤ 2 ^ 26) (sym changed.here) small)
        | inr apart ↦ subst (λ (o : Option ℕ). unwrap_or o 0 ≤ 2 ^ 26) (sym (changed.others q apart)) (striped.small q)
      ];
    }

-- the bytes of a region, put there again

some_back : (o : Option (List ℕ)) → IsSome o → Some (unwrap_or o []) ≡ o
some_back None there = absurd (false≢true there)
some_back (Some bytes) there = refl

pub put_back : (regions : Regions) (region : ℕ) → IsSome (get regions region) → insert regions region (unwrap_or (get regions region) []) ≡ regions
put_back regions region there =
    same_map nat_cmp_total nat_cmp-IsAntisymmetric (insert regions region (unwrap_or (get regions region) [])) regions
    (λ q. elim (cases_eq q region) [
      | inl here ↦
          subst (λ (n : ℕ). get (insert regions region (unwrap_or (get regions region) [])) n ≡ get regions n) (sym here)
          (inserted_here regions region (unwrap_or (get regions region) []) ∙ some_back (get regions region) there)
      | inr apart ↦ inserted_beside regions region q (unwrap_or (get regions region) []) apart
    ])

-- of two changes of one region the second counts
pub put_twice : (regions : Regions) (region : ℕ) (first second : List ℕ) →
    insert (insert regions region first) region second ≡ insert regions region second
put_twice regions region first second =
    same_map nat_cmp_total nat_cmp-IsAntisymmetric (insert (insert regions region first) region second) (insert regions region second)
    (λ q. elim (cases_eq q region) [
      | inl here ↦
          subst (λ (n : ℕ). get (insert (insert regions region first) region second) n ≡ get (insert regions region second) n) (sym here)
          (inserted_here (insert regions region first) region second ∙ sym (inserted_here regions region second))
      | inr apart ↦
          inserted_beside (insert regions region first) region q second apart
          ∙ inserted_beside regions region q first apart
          ∙ sym (inserted_beside regions region q second apart)
    ])
