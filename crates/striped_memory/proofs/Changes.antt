-- Regions that come, go and change their size.
use Rattle.std.proofs.Common.{◌≡◌, ℕ, ◌<◌, ◌≤◌, ◌^◌, List, [], length, map, refl, sym, ap, subst, ◌∙◌, inl, inr, arith}
use Rattle.std.specs.Prelude.{Result, Ok, Err, OnErr, IfSome, is_some, Option, Some, None, unwrap_or, IsSome, replicate, IsTrue}
use Rattle.std.specs.Option.{option_map}
use Rattle.std.specs.FinMap.{empty}
use Rattle.std.specs.BTreeMap.{BTreeMap, WritesThrough}
use Rattle.std.proofs.lemmas.Bool.{cases_lt}
use Rattle.std.proofs.lemmas.List.{get_or-replicate, get_or_past, length-replicate}
use Rattle.stripe_store.proofs.Laws.{no_rows}
use Rattle.fam_base.specs.declared.naming.RegionId.{RegionId}
use Rattle.fam_model.specs.declared.service.Service.{Service}
use Rattle.fam_model.specs.Pieces.{stripe_count}
use Rattle.fam_layout.specs.Layouts.{is_lawful}
use Rattle.stripe_store.specs.Kept.{Kept, rows_of}
use Rattle.striped_memory.specs.Striped.{Striped, IsThere, bytes_of, with_bytes, without, zeros, resized}
use Rattle.striped_memory.specs.Stripes as stripes
use Rattle.striped_memory.specs.Stripes.{store_at, rows_on, bytes_in, row_count, HasRows, SameElsewhere, SameRows, Grew, Dropped, Resized, Sizes, by_number, found, size_in, regions_of, IsStriped}
use Rattle.striped_memory.proofs.Places.{rows_are_exact}
use Rattle.striped_memory.proofs.Sizes.{grew_rows, grew_new, bytes_zero}
use Rattle.striped_memory.proofs.Views.{Changed, updated, get-regions_of, there_found, bytes_there, bytes_elsewhere, regions_with, regions_without, regions_same, same_rows_has, striped_with}
use Rattle.striped_memory.proofs.Accesses.{seen}

-- a region of no bytes has no rows
no_count : (service : Service) (region stripe : ℕ) → IsTrue (is_lawful service) → stripe < stripe_count service → row_count service region 0 stripe ≡ 0
no_count service region stripe lawful on =
    elim (cases_lt 0 (row_count service region 0 stripe)) [
      | inl some ↦ let inside = (rows_are_exact service region 0 stripe 0 lawful on).0 some in absurd (omega (arith, inside))
      | inr none ↦ omega (arith, none)
    ]

none_has : (service : Service) (stores : List Kept) (region : ℕ) → IsTrue (is_lawful service) →
    ((stripe : ℕ) → rows_on stores stripe region ≡ []) → HasRows service stores region 0
none_has service stores region lawful none =
    record {
      rows = λ stripe on.
          ap (map length) (none stripe) ∙ ap (λ (n : ℕ). replicate n service.unit) (sym (no_count service region stripe lawful on));
    }

-- a new memory

no_store : (n stripe region : ℕ) → rows_on (stripes.no_rows n) stripe region ≡ []
no_store n stripe region =
    elim (cases_lt stripe n) [
      | inl below ↦ ap (λ (kept : Kept). rows_of kept region) (get_or-replicate n stripe empty empty below) ∙ no_rows region
      | inr past ↦
          let count : length (stripes.no_rows n) ≡ n = length-replicate n empty in
          ap (λ (kept : Kept). rows_of kept region) (get_or_past (stripes.no_rows n) stripe empty (omega (arith, count))) ∙ no_rows region
    ]

pub new_striped : (service : Service) (stores : List Kept) (sizes : Sizes) → IsTrue (is_lawful service) → stores ≡ stripes.no_rows (stripe_count service) →
    sizes ≡ [] → IsStriped service stores sizes
new_striped service stores sizes lawful are none =
    let start : IsStriped service (stripes.no_rows (stripe_count service)) [] =
    record {
      lawful = lawful;
      stripes = length-replicate (stripe_count service) empty;
      rows = λ region. none_has service (stripes.no_rows (stripe_count service)) region lawful (λ stripe. no_store (stripe_count service) stripe region);
      small = λ region. omega arith;
    } in
    subst (λ (s : List Kept). IsStriped service s sizes) (sym are) (subst (λ (z : Sizes). IsStriped service (stripes.no_rows (stripe_count service)) z) (sym none) start)

-- dropped

pub dropped_striped : (service : Service) (old between new : List Kept) (sizes sizes' : Sizes) (region : ℕ) → IsStriped service old sizes →
    length new ≡ length old → SameElsewhere old between region → Dropped between new region → Changed sizes sizes' region None →
    IsStriped service new sizes'
dropped_striped service old between new sizes sizes' region striped count same dropped changed =
    striped_with service old new sizes sizes' region None striped count
    (λ stripe q apart. dropped.elsewhere stripe q apart ∙ same stripe q apart) changed
    (none_has service new region striped.lawful dropped.here) (omega arith)

pub removed_seen : (service : Service) (old new : List Kept) (sizes sizes' : Sizes) (region : ℕ) →
    Dropped old new region → Changed sizes sizes' region None → seen service new sizes' ≡ without (seen service old sizes) region
removed_seen service old new sizes sizes' region dropped changed =
    let same = regions_without service old new sizes sizes' region dropped.elsewhere changed in
    λ i. record { service = service; regions = same i }

-- created

none_by : (f : ℕ → List ℕ) (size : Option ℕ) → (IsSome (option_map f size) → ⊥) → size ≡ None
none_by f None fresh = refl
none_by f (Some n) fresh = absurd (fresh refl)

pub fresh_found : (service : Service) (stores : List Kept) (sizes : Sizes) (region : ℕ) (memory : Striped) → seen service stores sizes ≡ memory →
    (IsThere memory region → ⊥) → found sizes region ≡ None
fresh_found service stores sizes region memory e =
    subst (λ (m : Striped). (IsThere m region → ⊥) → found sizes region ≡ None) e
    (λ fresh. none_by (bytes_in service stores region) (found sizes region)
    (λ there. fresh (subst IsSome (sym (get-regions_of service stores sizes region)) there)))

pub undone_seen : (service : Service) (old between new : List Kept) (sizes sizes' : Sizes) (region : ℕ) →
    SameElsewhere old between region → Dropped between new region → found sizes region ≡ None → Changed sizes sizes' region None →
    seen service new sizes' ≡ seen service old sizes
undone_seen service old between new sizes sizes' region same dropped is changed =
    let regions = regions_same service old new sizes sizes' region None (λ stripe q apart. dropped.elsewhere stripe q apart ∙ same stripe q apart) changed is
    (λ n e. absurd (let wrong : None ≡ Some n = e in cc)) in
    λ i. record { service = service; regions = regions i }

fresh_rows : (service : Service) (old : List Kept) (sizes : Sizes) (region : ℕ) → IsStriped service old sizes → found sizes region ≡ None →
    HasRows service old region 0
fresh_rows service old sizes region striped is =
    subst (λ (o : Option ℕ). HasRows service old region (unwrap_or o 0)) is (striped.rows region)

pub created_striped : (service : Service) (old new : List Kept) (sizes sizes' : Sizes) (region size : ℕ) → IsStriped service old sizes →
    found sizes region ≡ None → length new ≡ length old → Grew service old new region size → Changed sizes sizes' region (Some size) → size ≤ 2 ^ 26 →
    IsStriped service new sizes'
created_striped service old new sizes sizes' region size striped is count grew changed small =
    striped_with service old new sizes sizes' region (Some size) striped count grew.elsewhere changed
    (grew_rows service old new region 0 size striped.lawful striped.stripes (fresh_rows service old sizes region striped is) (omega arith) grew)
    small

pub created_seen : (service : Service) (old new : List Kept) (sizes sizes' : Sizes) (region size : ℕ) → IsStriped service old sizes →
    found sizes region ≡ None → Grew service old new region size → Changed sizes sizes' region (Some size) →
    seen service new sizes' ≡ with_bytes (seen service old sizes) region (zeros size)
created_seen service old new sizes sizes' region size striped is grew changed =
    let regions = regions_with service old new sizes sizes' region size (zeros size) grew.elsewhere changed
    (bytes_zero service new region size (λ k below.
    grew_new service old new region 0 size k striped.lawful striped.stripes (fresh_rows service old sizes region striped is) grew (omega arith))) in
    λ i. record { service = service; regions = regions i }

-- resized

abbrev pub SizeMap : Type 0
SizeMap = BTreeMap RegionId ℕ

pub written_through : (old new : SizeMap) (region : RegionId) (there size : ℕ) → Some there ≡ found old.entries region.0 →
    WritesThrough by_number (by_number region) old size new → Changed old.entries new.entries region.0 (Some size)
written_through old new region there size is written =
    updated old.entries new.entries region (Some size) (written.3 (subst IsSome is refl)).0

pub size_found : (service : Service) (stores : List Kept) (sizes : Sizes) (region n : ℕ) → IsStriped service stores sizes → Some n ≡ found sizes region → n ≤ 2 ^ 26
size_found service stores sizes region n striped is =
    subst (λ (o : Option ℕ). unwrap_or o 0 ≤ 2 ^ 26) (sym is) (striped.small region)

pub rows_found : (service : Service) (stores : List Kept) (sizes : Sizes) (region n : ℕ) → IsStriped service stores sizes → Some n ≡ found sizes region →
    HasRows service stores region n
rows_found service stores sizes region n striped is =
    subst (λ (o : Option ℕ). HasRows service stores region (unwrap_or o 0)) (sym is) (striped.rows region)

pub not_there : (service : Service) (stores : List Kept) (sizes : Sizes) (region : ℕ) (memory : Striped) → seen service stores sizes ≡ memory →
    IsThere memory region → None ≡ found sizes region → ⊥
not_there service stores sizes region memory e =
    subst (λ (m : Striped). IsThere m region → None ≡ found sizes region → ⊥) e
    (λ there is. let wrong : None ≡ Some (size_in sizes region) = is ∙ there_found service stores sizes region there in cc)

pub same_striped : (service : Service) (old new : List Kept) (sizes sizes' : Sizes) (region n : ℕ) → IsStriped service old sizes →
    length new ≡ length old → SameRows old new → Some n ≡ found sizes region → Changed sizes sizes' region (Some n) → IsStriped service new sizes'
same_striped service old new sizes sizes' region n striped count same is changed =
    striped_with service old new sizes sizes' region (Some n) striped count (λ stripe q apart. same stripe q) changed
    (same_rows_has service old new region n (rows_found service old sizes region n striped is) (λ stripe. same stripe region))
    (size_found service old sizes region n striped is)

pub same_seen : (service : Service) (old new : List Kept) (sizes sizes' : Sizes) (region n : ℕ) → SameRows old new → Some n ≡ found sizes region →
    Changed sizes sizes' region (Some n) → seen service new sizes' ≡ seen service old sizes
same_seen service old new sizes sizes' region n same is changed =
    let regions = regions_same service old new sizes sizes' region (Some n) (λ stripe q apart. same stripe q) changed (sym is)
    (λ m e. bytes_elsewhere service old new region m (λ stripe. same stripe region)) in
    λ i. record { service = service; regions = regions i }

pub resized_striped : (service : Service) (old new : List Kept) (sizes sizes' : Sizes) (region from to : ℕ) → IsStriped service old sizes →
    length new ≡ length old → Resized service old new region from to → Changed sizes sizes' region (Some to) → to ≤ 2 ^ 26 → IsStriped service new sizes'
resized_striped service old new sizes sizes' region from to striped count done changed small =
    striped_with service old new sizes sizes' region (Some to) striped count done.elsewhere changed done.rows small

pub resized_seen : (service : Service) (old new : List Kept) (sizes sizes' : Sizes) (region from to : ℕ) (memory : Striped) →
    seen service old sizes ≡ memory → Some from ≡ found sizes region → Resized service old new region from to → Changed sizes sizes' region (Some to) →
    seen service new sizes' ≡ with_bytes memory region (resized (bytes_of memory region) to)
resized_seen service old new sizes sizes' region from to memory e is done changed =
    subst (λ (m : Striped). seen service new sizes' ≡ with_bytes m region (resized (bytes_of m region) to)) e
    (let regions = regions_with service old new sizes sizes' region to (resized (bytes_of (seen service old sizes) region) to) done.elsewhere changed
    (done.bytes ∙ ap (λ (bytes : List ℕ). resized bytes to) (sym (bytes_there service old sizes region from (sym is)))) in
    λ i. record { service = service; regions = regions i })

-- how long a region is

pub length_by : (f : ℕ → List ℕ) → ((n : ℕ) → length (f n) ≡ n) → (size : Option ℕ) → size ≡ option_map length (option_map f size)
length_by f count None = refl
length_by f count (Some n) = ap Some (sym (count n))

-- a region that is not there stays so
pub missing : (sizes : Sizes) (region : ℕ) → found sizes region ≡ None → Changed sizes sizes region None
missing sizes region is = record { here = is; others = λ q apart. refl }

-- a fact that holds in any case holds after an error
pub on_any_err : {A E P : Type 0} (r : Result A E) → P → OnErr r P
on_any_err (Ok x) p = tt
on_any_err (Err e) p = p

is_some_mapped : {A B : Type 0} (f : A → B) (o : Option A) → is_some (option_map f o) ≡ is_some o
is_some_mapped f None = refl
is_some_mapped f (Some x) = refl

-- a region has a size exactly where it is there
pub size_there : (size : Option ℕ) (o : Option (List ℕ)) → size ≡ option_map length o → (IsSome size → IsSome o) × (IsSome o → IsSome size)
size_there size o is =
    let same = ap is_some is ∙ is_some_mapped length o in
    (λ there. sym same ∙ there, λ there. same ∙ there)

pub small_by : (size : Option ℕ) → unwrap_or size 0 ≤ 2 ^ 26 → IfSome size (λ n. n ≤ 2 ^ 26)
small_by None small = tt
small_by (Some n) small = small
