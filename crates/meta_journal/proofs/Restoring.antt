-- The short form makes its rows again, and each of its changes is lawful.
use Rattle.std.proofs.Common.{◌≡◌, ◌≢◌, ℕ, ◌+◌, ◌%◌, ◌<◌, ◌≤◌, ◌⊎◌, Bool, true, false, eqb, ltb, leb, List, [], ◌∷◌, ◌++◌, length, drop, get_or, is_none, inl, inr, refl, sym, ap, ◌∙◌, subst, arith, append_assoc}
use mathlib.Core.Bool.{◌&&◌, ◌||◌}
use Rattle.std.specs.List.{All, AllPairs, list_all, sum_by}
use Rattle.std.specs.Prelude.{IsTrue}
use Rattle.std.specs.Str.{bytes_eq}
use Rattle.std.proofs.lemmas.Bool.{cases_Bool, and_from, or_parts, or_left, or_right, eq-eqb, eqb-true, lt-ltb, ltb-false, le-leb}
use Rattle.std.proofs.lemmas.List.{append-nil, length-append}
use Rattle.std.proofs.lemmas.List.Elements.{All-head, All-tail}
use Rattle.std.proofs.lemmas.List.Sums.{sum_by-append, sum_by-cons}
use Rattle.std.proofs.lemmas.Slice.Eq.{bytes_eq-Decides}
use Rattle.fam_base.specs.Name.{is_good_name}
use Rattle.fam_model.specs.declared.change.Change.{Change}
use Rattle.fam_model.specs.declared.change.Change.TheVariants as change
use Rattle.fam_model.specs.declared.rows.RegionRow.{RegionRow}
use Rattle.fam_model.specs.declared.rows.ItemRow.{ItemRow}
use Rattle.fam_model.specs.declared.rows.Rows.{Rows}
use Rattle.fam_model.specs.Directory.{after}
use Rattle.fam_model.specs.Journal.{rows_from, rows_of, skip_to, creation, allocation, short_items, short_regions, short}
use Rattle.fam_model.specs.Lawful.{is_lawful_change, is_good_row, is_next_number}
use Rattle.fam_model.specs.Limits.{max_region_size, max_total_size, max_regions, max_items, number_end, nobody}
use Rattle.fam_model.specs.Lists.{is_some_and}
use Rattle.fam_model.specs.Rows.{IsLawful, IsLawfulRegion, IsLawfulItem, AreApart, common_region, common_item, common_rows, region_of, region_named, item_named, items_in, region_number, item_number, room, room_end, is_beside, fits}
use Rattle.fam_rows.proofs.Places.{rises}
use Rattle.fam_rows.proofs.Searches.{passes_found}
use Rattle.fam_rows.proofs.Standing.{region_is, five_from, three_from, tested}
use Rattle.meta_codec.specs.Body.{HasBody}
use Rattle.meta_journal.specs.Image.{AreLawful}
use Rattle.meta_journal.specs.Short.{Restores}
use Rattle.meta_journal.specs.Writing.{Rises}
use Rattle.meta_journal.proofs.Owned.{own_rise}
use Rattle.meta_journal.proofs.Lists.{before_it, at_it, with_first_one, nothing_found, nothing_kept, all_kept_pass}

-- changes that are lawful, each on the rows that those before it make, and as wanted
abbrev pub AreGood : (Change → Type 0) → Rows → List Change → Type 0
AreGood wanted rows [] = Unit {0}
AreGood wanted rows (c ∷ cs) = IsTrue (is_lawful_change rows c) × wanted c × AreGood wanted (after rows c) cs

-- such changes lead from rows to others
pub record Leads (wanted : Change → Type 0) (from : Rows) (changes : List Change) (to : Rows) : Type 0 where
  pub made : rows_from from changes ≡ to
  pub good : AreGood wanted from changes

leads_on : (wanted : Change → Type 0) (from : Rows) (c : Change) (cs : List Change) (to : Rows) → is_lawful_change from c ≡ true → wanted c → Leads wanted (after from c) cs to → Leads wanted from (c ∷ cs) to
leads_on wanted from c cs to lawful body rest = record { made = rest.made; good = (lawful, body, rest.good) }

abbrev rows_at : List RegionRow → List ItemRow → ℕ → ℕ → Rows
rows_at regions items next_region next_item = record { regions = regions; items = items; next_region = next_region; next_item = next_item }

four_from : (a b c d : Bool) → a ≡ true → b ≡ true → c ≡ true → d ≡ true → (a && b && c && d) ≡ true
four_from a b c d p q r s = rw (p, q, r, s) refl

not_so : (b : Bool) → (b ≡ true → ⊥) → b ≡ false
not_so true h = absurd (h refl)
not_so false h = refl

apart_names : (a b : List ℕ) → a ≢ b → bytes_eq a b ≡ false
apart_names a b differ = not_so (bytes_eq a b) (λ same. differ ((bytes_eq-Decides a b).0 same))

-- a skip where it is needed
skipped : (wanted : Change → Type 0) (regions : List RegionRow) (items : List ItemRow) (region item next_region next_item : ℕ) (cs : List Change) (to : Rows)
    → region ≤ next_region → item ≤ next_item → next_region ≤ number_end → next_item ≤ number_end → wanted (change.Skip next_region next_item)
    → Leads wanted (rows_at regions items next_region next_item) cs to → Leads wanted (rows_at regions items region item) (skip_to region item next_region next_item ++ cs) to
skipped wanted regions items region item next_region next_item cs to r i r_end i_end body rest =
    elim (cases_Bool (ltb region next_region || ltb item next_item)) [
      | inl needed ↦ rw needed (leads_on wanted (rows_at regions items region item) (change.Skip next_region next_item) cs to
          (four_from (leb region next_region) (leb next_region number_end) (leb item next_item) (leb next_item number_end) (le-leb _ _ r) (le-leb _ _ r_end) (le-leb _ _ i) (le-leb _ _ i_end)) body rest)
      | inr not_needed ↦
          let parts = or_parts (ltb region next_region) (ltb item next_item) not_needed in
          let same_region : next_region ≡ region = omega (arith, r, ltb-false _ _ parts.0) in
          let same_item : next_item ≡ item = omega (arith, i, ltb-false _ _ parts.1) in
          rw not_needed (subst (λ (n : ℕ). Leads wanted (rows_at regions items n item) cs to) same_region
          (subst (λ (n : ℕ). Leads wanted (rows_at regions items next_region n) cs to) same_item rest))
    ]

good_row : (uid mode size : ℕ) (name : List ℕ) → uid < nobody → mode ≤ 511 → size ≤ max_region_size → is_good_name name ≡ true → is_good_row uid mode size name ≡ true
good_row uid mode size name user bits small good =
    four_from (ltb uid nobody) (leb mode 511) (leb size max_region_size) (is_good_name name) (lt-ltb _ _ user) (le-leb _ _ bits) (le-leb _ _ small) good

next_number : (n : ℕ) → n < number_end → is_next_number n n ≡ true
next_number n end = and_from (eqb n n) (ltb n number_end) (eq-eqb n n refl) (lt-ltb _ _ end)

beside : (a b : ItemRow) → (room_end a ≤ b.base) ⊎ (room_end b ≤ a.base) → is_beside b.size b.base a ≡ true
beside a b (inl behind) = or_right (leb (b.base + room b.size) a.base) (leb (room_end a) b.base) (le-leb _ _ behind)
beside a b (inr before) = or_left (leb (b.base + room b.size) a.base) (leb (room_end a) b.base) (le-leb _ _ before)

module _ (rows : Rows) (lawful : IsLawful rows) (wanted : Change → Type 0) (skips : (a b : ℕ) → a ≤ number_end → b ≤ number_end → wanted (change.Skip a b)) where
  -- a region behind those so far
  creates : (done : List RegionRow) (row : RegionRow) (left : List RegionRow) → done ++ row ∷ left ≡ rows.regions → 1 ≤ region_number row
      → is_lawful_change (rows_at done (common_item ∷ []) (region_number row) 1) (creation row) ≡ true
  creates done row left split own =
      let law = at_it (IsLawfulRegion rows) done row left (subst (λ xs. All (IsLawfulRegion rows) xs) (sym split) lawful.regions) in
      let names = before_it (λ a b. a.name ≢ b.name) done row left (subst (λ xs. AllPairs (λ a b. a.name ≢ b.name) xs) (sym split) lawful.region_names_differ) in
      let here = rows_at done (common_item ∷ []) (region_number row) 1 in
      let number = law.number in
      let total : sum_by (λ x. x.size) (done ++ row ∷ left) ≤ max_total_size = subst (λ xs. sum_by (λ x. x.size) xs ≤ max_total_size) (sym split) lawful.total in
      five_from (is_next_number (region_number row) (region_number row)) (is_good_row row.uid row.mode row.size row.name) (is_none (region_named here row.name))
      (ltb (length done) max_regions) (leb (sum_by (λ x. x.size) done + row.size) max_total_size)
      (next_number (region_number row) (omega (arith, number, lawful.next_region_bound)))
      (good_row row.uid row.mode row.size row.name (law.owner (λ zero_is. absurd (omega (arith, zero_is, own)))) law.mode law.size law.name)
      (nothing_found (λ x. bytes_eq x.name row.name) done (λ k d in_range. apart_names _ _ (names k d in_range)))
      (lt-ltb _ _ (omega (arith, lawful.region_count, ap length split, length-append done (row ∷ left))))
      (le-leb _ _ (omega (arith, total, sum_by-append (λ (x : RegionRow). x.size) done (row ∷ left), sum_by-cons (λ (x : RegionRow). x.size) row left)))

  -- an item behind those so far
  allocates : (done : List ItemRow) (row : ItemRow) (left : List ItemRow) (region : ℕ) → done ++ row ∷ left ≡ rows.items → 1 ≤ item_number row
      → is_lawful_change (rows_at rows.regions done region (item_number row)) (allocation row) ≡ true
  allocates done row left region split own =
      let law = at_it (IsLawfulItem rows) done row left (subst (λ xs. All (IsLawfulItem rows) xs) (sym split) lawful.items) in
      let apart = before_it AreApart done row left (subst (λ xs. AllPairs AreApart xs) (sym split) lawful.items_are_apart) in
      let here = rows_at rows.regions done region (item_number row) in
      let there = law.inside.0 in
      let number = law.number in
      let same_number : region_number there ≡ row.region.0 = eqb-true _ _ (passes_found (λ z. eqb (region_number z) row.region.0) rows.regions there (sym (region_is rows row.region.0) ∙ law.inside.1)) in
      five_from (is_next_number (item_number row) (item_number row)) (is_good_row row.uid row.mode row.size row.name) (is_none (item_named here row.region.0 row.name))
      (ltb (length done) max_items) (is_some_and (region_of here row.region.0) (λ r. fits here r row.size row.base))
      (next_number (item_number row) (omega (arith, number, lawful.next_item_bound)))
      (good_row row.uid row.mode row.size row.name (law.owner (λ zero_is. absurd (omega (arith, zero_is, own)))) law.mode law.size law.name)
      (nothing_kept (λ x. bytes_eq x.name row.name) (λ x. eqb x.region.0 row.region.0) done (λ k d in_range same.
      apart_names _ _ (apart k d in_range (same_region (get_or done k d) row (eqb-true _ _ same))).0))
      (lt-ltb _ _ (omega (arith, lawful.item_count, ap length split, length-append done (row ∷ left))))
      (tested (region_of here row.region.0) (λ r. fits here r row.size row.base) there law.inside.1
      (three_from (eqb (row.base % 64) 0) (leb (row.base + room row.size) there.size) (list_all (is_beside row.size row.base) (items_in here (region_number there)))
      (eq-eqb _ _ law.base) (le-leb _ _ law.inside.2)
      (all_kept_pass (is_beside row.size row.base) (λ x. eqb x.region.0 (region_number there)) done (λ k d in_range same.
      beside (get_or done k d) row (apart k d in_range (same_region (get_or done k d) row (eqb-true _ _ same ∙ same_number))).1))))
    where
      same_region : (a b : ItemRow) → a.region.0 ≡ b.region.0 → a.region ≡ b.region
      same_region a b same = λ i. record { 0 = same i }

  items_lead : (done left : List ItemRow) (region next : ℕ) → done ++ left ≡ rows.items → 1 ≤ next → next ≤ rows.next_item → region ≤ rows.next_region
      → Rises item_number next left → All (λ row. wanted (allocation row)) left → Leads wanted (rows_at rows.regions done region next) (short_items rows region next left) rows
  items_lead done [] region next split low bound region_bound rise bodies =
      let all : done ≡ rows.items = sym (append-nil done) ∙ split in
      subst (λ cs. Leads wanted (rows_at rows.regions done region next) cs rows) (append-nil (skip_to region next rows.next_region rows.next_item))
      (skipped wanted rows.regions done region next rows.next_region rows.next_item [] rows region_bound bound lawful.next_region_bound lawful.next_item_bound
      (skips _ _ lawful.next_region_bound lawful.next_item_bound)
      (record { made = ap (λ xs. rows_at rows.regions xs rows.next_region rows.next_item) all; good = tt }))
  items_lead done (row ∷ left) region next split low bound region_bound (le, rise) bodies =
      let law = at_it (IsLawfulItem rows) done row left (subst (λ xs. All (IsLawfulItem rows) xs) (sym split) lawful.items) in
      let number = law.number in
      let end : item_number row ≤ number_end = omega (arith, number, lawful.next_item_bound) in
      let region_end : region ≤ number_end = omega (arith, region_bound, lawful.next_region_bound) in
      skipped wanted rows.regions done region next region (item_number row) (allocation row ∷ short_items rows region (item_number row + 1) left) rows (omega arith) le region_end end (skips _ _ region_end end)
      (leads_on wanted (rows_at rows.regions done region (item_number row)) (allocation row) (short_items rows region (item_number row + 1) left) rows
      (allocates done row left region split (omega (arith, low, le))) (All-head (λ x. wanted (allocation x)) row left bodies)
      (items_lead (done ++ row ∷ []) left region (item_number row + 1) (append_assoc done (row ∷ []) left ∙ split) (omega arith) (omega (arith, number)) region_bound rise
      (All-tail (λ x. wanted (allocation x)) row left bodies)))

  regions_lead : All (λ row. wanted (allocation row)) (drop 1 rows.items) → (done left : List RegionRow) (next : ℕ) → done ++ left ≡ rows.regions → 1 ≤ next → next ≤ rows.next_region
      → Rises region_number next left → All (λ row. wanted (creation row)) left → Leads wanted (rows_at done (common_item ∷ []) next 1) (short_regions rows next left) rows
  regions_lead items done [] next split low bound rise bodies =
      let all : rows.regions ≡ done = sym split ∙ append-nil done in
      let first = with_first_one rows.items common_item lawful.common_item_first in
      let common = All-head (IsLawfulItem rows) common_item (drop 1 rows.items) (subst (λ xs. All (IsLawfulItem rows) xs) (sym first) lawful.items) in
      let number = common.number in
      subst (λ xs. Leads wanted (rows_at xs (common_item ∷ []) next 1) (short_items rows next 1 (drop 1 rows.items)) rows) all
      (items_lead (common_item ∷ []) (drop 1 rows.items) next 1 first (omega arith) (omega (arith, number)) bound
      (own_rise item_number rows.items common_item lawful.common_item_first refl (rises item_number rows.items lawful.item_numbers_rise)) items)
  regions_lead items done (row ∷ left) next split low bound (le, rise) bodies =
      let law = at_it (IsLawfulRegion rows) done row left (subst (λ xs. All (IsLawfulRegion rows) xs) (sym split) lawful.regions) in
      let number = law.number in
      let end : region_number row ≤ number_end = omega (arith, number, lawful.next_region_bound) in
      let one_end : 1 ≤ number_end = omega arith in
      skipped wanted done (common_item ∷ []) next 1 (region_number row) 1 (creation row ∷ short_regions rows (region_number row + 1) left) rows le (omega arith) end one_end (skips _ _ end one_end)
      (leads_on wanted (rows_at done (common_item ∷ []) (region_number row) 1) (creation row) (short_regions rows (region_number row + 1) left) rows
      (creates done row left split (omega (arith, low, le))) (All-head (λ x. wanted (creation x)) row left bodies)
      (regions_lead items (done ++ row ∷ []) left (region_number row + 1) (append_assoc done (row ∷ []) left ∙ split) (omega arith) (omega (arith, number)) rise
      (All-tail (λ x. wanted (creation x)) row left bodies)))

  pub short_leads : All (λ row. wanted (creation row)) (drop 1 rows.regions) → All (λ row. wanted (allocation row)) (drop 1 rows.items) → Leads wanted common_rows (short rows) rows
  short_leads regions items =
      let first = with_first_one rows.regions common_region lawful.common_region_first in
      let common = All-head (IsLawfulRegion rows) common_region (drop 1 rows.regions) (subst (λ xs. All (IsLawfulRegion rows) xs) (sym first) lawful.regions) in
      let number = common.number in
      regions_lead items (common_region ∷ []) (drop 1 rows.regions) 1 first (omega arith) (omega (arith, number))
      (own_rise region_number rows.regions common_region lawful.common_region_first refl (rises region_number rows.regions lawful.region_numbers_rise)) regions

-- the rows, whatever the bodies
pub restored : (rows : Rows) → IsLawful rows → rows_of (short rows) ≡ rows
restored rows lawful =
    (short_leads rows lawful (λ c. Unit {0}) (λ a b a_end b_end. tt) (λ k d in_range. tt) (λ k d in_range. tt)).made

are_lawful : (rows : Rows) (cs : List Change) → AreGood HasBody rows cs → AreLawful rows cs
are_lawful rows [] good = tt
are_lawful rows (c ∷ cs) (lawful, body, rest) = (lawful, body, are_lawful (after rows c) cs rest)

skip_has_body : (a b : ℕ) → a ≤ number_end → b ≤ number_end → HasBody (change.Skip a b)
skip_has_body a b a_end b_end = (omega (arith, a_end), omega (arith, b_end))

-- where each row has a body
pub restores : (rows : Rows) → IsLawful rows → All (λ row. HasBody (creation row)) (drop 1 rows.regions) → All (λ row. HasBody (allocation row)) (drop 1 rows.items) → Restores rows (short rows)
restores rows lawful regions items =
    let leads = short_leads rows lawful HasBody skip_has_body regions items in
    record { same_rows = leads.made; lawful = are_lawful common_rows (short rows) leads.good }
