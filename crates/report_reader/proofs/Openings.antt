-- The rows of a lawful opening are read one after another.
use Rattle.std.proofs.Common.{◌≡◌, ◌≢◌, ◌⊎◌, inl, inr, ℕ, ◌+◌, ◌%◌, ◌^◌, ◌<◌, ◌≤◌, Bool, true, false, List, [], ◌∷◌, ◌++◌, length, get_or, map, Option, Some, is_none, refl, sym, ap, subst, ◌∙◌, append_assoc, arith, lit≤, lt_of_lt_of_le}
use Rattle.std.specs.Prelude.{◌==◌, ◌&&◌, ◌||◌, nat_le, nat_lt, AllPairs}
use Rattle.std.specs.List.{list_all, find, sum_by}
use Rattle.std.specs.Str.{bytes_eq}
use Rattle.std.proofs.lemmas.Bool.{le-leb, lt-ltb, eq-eqb, eqb-true}
use Rattle.std.proofs.lemmas.List.{append-nil, length-append}
use Rattle.std.proofs.lemmas.List.Sums.{sum_by-append, sum_by-cons}
use Rattle.std.proofs.lemmas.Slice.Eq.{bytes_eq-Decides}
use Rattle.fam_base.specs.Name.{is_good_name}
use Rattle.fam_model.specs.declared.change.Change.TheVariants as change
use Rattle.fam_model.specs.declared.report.ReplyLine.{ReplyLine}
use Rattle.fam_model.specs.declared.rows.ItemRow.{ItemRow}
use Rattle.fam_model.specs.declared.rows.RegionRow.{RegionRow}
use Rattle.fam_model.specs.declared.rows.Rows.{Rows}
use Rattle.fam_model.specs.Directory.{after}
use Rattle.fam_model.specs.Lawful.{is_lawful_change, is_good_row, is_next_number}
use Rattle.fam_model.specs.Limits.{max_region_size, max_total_size, max_regions, max_items, number_end, nobody}
use Rattle.fam_model.specs.Lists.{◌>>=◌, is_some_and}
use Rattle.fam_model.specs.ReportText.{region_text, item_text}
use Rattle.fam_model.specs.Rows.{IsLawful, IsLawfulRegion, IsLawfulItem, AreApart, common_item, region_number, item_number, region_of, region_named, item_named, items_in, total_size, room, room_end, is_beside, fits}
use Rattle.fam_model.specs.Values.{is_u32}
use Rattle.fam_rows.proofs.Places.{rises}
use Rattle.fam_rows.proofs.Searches.{passes_found, All_found}
use Rattle.fam_rows.proofs.Standing.{region_is, three_from, five_from, tested}
use Rattle.fam_script.proofs.Tests.{and_both, and_left, and_right, when_true}
use Rattle.report_reader.specs.declared.stage.Opening.{Opening}
use Rattle.report_reader.specs.declared.stage.Stage.{Stage}
use Rattle.report_reader.specs.declared.stage.Stage.TheVariants as stage
use Rattle.report_reader.specs.Machine.{changed, with_rows, create, with_region, add_region, allocate, with_item, add_item, region_step, item_step, run}
use Rattle.report_reader.specs.Report.{groups_fit}
use Rattle.report_reader.proofs.Lists.{pairs_before, pairs_behind, holds_of, passes_of, none_found, none_kept, all_kept}
use Rattle.report_reader.proofs.RowsBack.{IsShownRegion, region_back, IsShownItem, item_back}

abbrev pub some_opening : Opening → Option Opening
some_opening o = Some o

abbrev pub some_stage : Stage → Option Stage
some_stage s = Some s

no_bytes : (a b : List ℕ) → a ≢ b → bytes_eq a b ≡ false
no_bytes a b h = by_test (bytes_eq a b) refl
  where
    by_test : (t : Bool) → bytes_eq a b ≡ t → t ≡ false
    by_test true e = absurd (h ((bytes_eq-Decides a b).0 e))
    by_test false e = refl

or_left : (b c : Bool) → b ≡ true → (b || c) ≡ true
or_left true c e = refl
or_left false c e = cc

or_right : (b c : Bool) → c ≡ true → (b || c) ≡ true
or_right true c e = refl
or_right false c e = e

module _ (R : Rows) (lawful : IsLawful R) (groups : groups_fit R ≡ true) (replies : List ReplyLine) where
  rise_regions : AllPairs (λ a b. region_number a < region_number b) R.regions
  rise_regions = rises region_number R.regions lawful.region_numbers_rise

  rise_items : AllPairs (λ a b. item_number a < item_number b) R.items
  rise_items = rises item_number R.items lawful.item_numbers_rise

  -- a region

  module _ (done : List RegionRow) (row : RegionRow) (more : List RegionRow) (are : R.regions ≡ done ++ row ∷ more) where
    region_law : IsLawfulRegion R row
    region_law = holds_of (IsLawfulRegion R) done row more (subst (λ rs. (k : ℕ) (d : RegionRow) → k < length rs → IsLawfulRegion R (get_or rs k d)) are lawful.regions)

    region_below : region_number row < number_end
    region_below = lt_of_lt_of_le region_law.number lawful.next_region_bound

    pub shown_region : region_number row ≢ 0 → IsShownRegion row
    shown_region some =
        let gids = and_left (list_all (λ r. is_u32 r.gid) R.regions) (list_all (λ i. is_u32 i.gid) R.items) groups in
        let small : row.size < 67_108_865 = omega (arith, region_law.size) in
        record {
          some = some;
          number = lt-ltb (region_number row) (2 ^ 64) (lt_of_lt_of_le region_below (lit≤ tt));
          uid = lt-ltb row.uid (2 ^ 32) (lt_of_lt_of_le (region_law.owner some) (lit≤ tt));
          gid = passes_of (λ r. is_u32 r.gid) done row more (ap (list_all (λ r. is_u32 r.gid)) (sym are) ∙ gids);
          mode = le-leb row.mode 511 region_law.mode;
          size = lt-ltb row.size (2 ^ 64) (lt_of_lt_of_le small (lit≤ tt));
          name = region_law.name;
        }

  abbrev pub with_regions : List RegionRow → ℕ → Opening
  with_regions done n =
      record {
        replies = replies;
        rows = record { regions = done; items = common_item ∷ []; next_region = n; next_item = 1 };
        next_region = R.next_region;
        next_item = R.next_item;
      }

  module _ (done : List RegionRow) (row : RegionRow) (more : List RegionRow) (are : R.regions ≡ done ++ row ∷ more) (n : ℕ) (low : n ≤ region_number row) (some : region_number row ≢ 0) where
    abbrev region_skipped : Rows
    region_skipped = record { regions = done; items = common_item ∷ []; next_region = region_number row; next_item = 1 }

    skips_region : is_lawful_change (with_regions done n).rows (change.Skip (region_number row) 1) ≡ true
    skips_region =
        let k = region_number row in
        let below = region_below done row more are in
        and_both (nat_le n k && nat_le k number_end && nat_le 1 1) (nat_le 1 number_end)
        (and_both (nat_le n k && nat_le k number_end) (nat_le 1 1) (and_both (nat_le n k) (nat_le k number_end) (le-leb n k low) (le-leb k number_end (omega (arith, below)))) refl)
        (le-leb 1 number_end (lit≤ tt))

    good_region : is_good_row row.uid row.mode row.size row.name ≡ true
    good_region =
        let h = region_law done row more are in
        and_both (nat_lt row.uid nobody && nat_le row.mode 511 && nat_le row.size max_region_size) (is_good_name row.name)
        (and_both (nat_lt row.uid nobody && nat_le row.mode 511) (nat_le row.size max_region_size)
        (and_both (nat_lt row.uid nobody) (nat_le row.mode 511) (lt-ltb row.uid nobody (h.owner some)) (le-leb row.mode 511 h.mode)) (le-leb row.size max_region_size h.size)) h.name

    unnamed_region : is_none (region_named region_skipped row.name) ≡ true
    unnamed_region =
        let differ = subst (AllPairs (λ (a b : RegionRow). a.name ≢ b.name)) are lawful.region_names_differ in
        none_found (λ r. bytes_eq r.name row.name) done (λ k d low. no_bytes (get_or done k d).name row.name (pairs_before (λ (a b : RegionRow). a.name ≢ b.name) done row more differ k d low))

    few_regions : nat_lt (length done) max_regions ≡ true
    few_regions =
        let count : length (done ++ row ∷ more) ≤ max_regions = subst (λ (rs : List RegionRow). length rs ≤ max_regions) are lawful.region_count in
        lt-ltb (length done) max_regions (omega (arith, count, length-append done (row ∷ more)))

    total_fits : nat_le (total_size region_skipped + row.size) max_total_size ≡ true
    total_fits =
        let size : RegionRow → ℕ = λ r. r.size in
        let total : sum_by size (done ++ row ∷ more) ≤ max_total_size = subst (λ (rs : List RegionRow). sum_by size rs ≤ max_total_size) are lawful.total in
        le-leb (sum_by size done + row.size) max_total_size (omega (arith, total, sum_by-append size done (row ∷ more), sum_by-cons size row more))

    creates_region : is_lawful_change region_skipped (create row) ≡ true
    creates_region =
        let k = region_number row in
        five_from (is_next_number k k) (is_good_row row.uid row.mode row.size row.name) (is_none (region_named region_skipped row.name)) (nat_lt (length done) max_regions) (nat_le (total_size region_skipped + row.size) max_total_size)
        (and_both (k == k) (nat_lt k number_end) (eq-eqb k k refl) (lt-ltb k number_end (region_below done row more are))) good_region unnamed_region few_regions total_fits

    region_adds : add_region (with_regions done n) row ≡ Some (with_regions (done ++ row ∷ []) (region_number row + 1))
    region_adds =
        let o = with_regions done n in
        ap (λ (x : Option RegionRow). x >>= λ below. with_region o.rows below >>= λ rows. some_opening (with_rows o rows)) (when_true (nat_lt (region_number row) R.next_region) row (lt-ltb (region_number row) R.next_region (region_law done row more are).number))
        ∙ ap (λ (x : Option Rows). (x >>= λ skipped. changed skipped (create row)) >>= λ rows. some_opening (with_rows o rows)) (when_true (is_lawful_change o.rows (change.Skip (region_number row) 1)) region_skipped skips_region)
        ∙ ap (λ (x : Option Rows). x >>= λ rows. some_opening (with_rows o rows)) (when_true (is_lawful_change region_skipped (create row)) (after region_skipped (create row)) creates_region)

  -- the regions from here on
  pub record RegionsRun (done more : List RegionRow) (n : ℕ) : Type 0 where
    pub next : ℕ
    pub bound : next ≤ number_end
    pub runs : run (stage.Regions (with_regions done n)) (map region_text more) ≡ Some (stage.Regions (with_regions (done ++ more) next))

  pub regions_run : (done more : List RegionRow) (n : ℕ) → R.regions ≡ done ++ more → 1 ≤ n → n ≤ number_end → ((k : ℕ) (d : RegionRow) → k < length more → n ≤ region_number (get_or more k d)) → RegionsRun done more n
  regions_run done [] n are one bound low = record { next = n; bound = bound; runs = ap (λ (rs : List RegionRow). some_stage (stage.Regions (with_regions rs n))) (sym (append-nil done)) }
  regions_run done (row ∷ more) n are one bound low =
      let n-low = low 0 row (omega arith) in
      let some : region_number row ≢ 0 = λ e. omega (arith, e, one, n-low) in
      let behind = pairs_behind (λ a b. region_number a < region_number b) done row more (subst (AllPairs (λ a b. region_number a < region_number b)) are rise_regions) in
      let below = region_below done row more are in
      let others = regions_run (done ++ row ∷ []) more (region_number row + 1) (are ∙ sym (append_assoc done (row ∷ []) more)) (omega arith) (omega (arith, below)) (λ k d h. (let rises = behind k d h in omega (arith, rises))) in
      record {
        next = others.next;
        bound = others.bound;
        runs =
            ap (λ (x : Option RegionRow). region_step x (with_regions done n) (region_text row) >>= λ next. run next (map region_text more)) (region_back row (shown_region done row more are some))
            ∙ ap (λ (x : Option Opening). (x >>= λ next. some_stage (stage.Regions next)) >>= λ next. run next (map region_text more)) (region_adds done row more are n n-low some)
            ∙ others.runs
            ∙ ap (λ (rs : List RegionRow). some_stage (stage.Regions (with_regions rs others.next))) (append_assoc done (row ∷ []) more);
      }

  -- an item

  module _ (done : List ItemRow) (row : ItemRow) (more : List ItemRow) (are : R.items ≡ done ++ row ∷ more) where
    item_law : IsLawfulItem R row
    item_law = holds_of (IsLawfulItem R) done row more (subst (λ rs. (k : ℕ) (d : ItemRow) → k < length rs → IsLawfulItem R (get_or rs k d)) are lawful.items)

    item_below : item_number row < number_end
    item_below = lt_of_lt_of_le item_law.number lawful.next_item_bound

    there_number : region_number item_law.inside.0 ≡ row.region.0
    there_number = eqb-true _ _ (passes_found (λ z. region_number z == row.region.0) R.regions item_law.inside.0 (sym (region_is R row.region.0) ∙ item_law.inside.1))

    pub shown_item : item_number row ≢ 0 → IsShownItem row
    shown_item some =
        let gids = and_right (list_all (λ r. is_u32 r.gid) R.regions) (list_all (λ i. is_u32 i.gid) R.items) groups in
        let small : row.size < 67_108_865 = omega (arith, item_law.size) in
        let there = item_law.inside in
        let region-low : region_number there.0 < number_end = found_below there.0 (sym (region_is R row.region.0) ∙ there.1) in
        let region-is : row.region.0 < number_end = subst (λ (m : ℕ). m < number_end) there_number region-low in
        let ends : row.base ≤ there.0.size = omega (arith, there.2) in
        let sized : there.0.size ≤ max_region_size = found_sized there.0 (sym (region_is R row.region.0) ∙ there.1) in
        let base-small : row.base < 67_108_865 = omega (arith, ends, sized) in
        record {
          some = some;
          number = lt-ltb (item_number row) (2 ^ 64) (lt_of_lt_of_le item_below (lit≤ tt));
          region = lt-ltb row.region.0 (2 ^ 64) (lt_of_lt_of_le region-is (lit≤ tt));
          base = lt-ltb row.base (2 ^ 64) (lt_of_lt_of_le base-small (lit≤ tt));
          size = lt-ltb row.size (2 ^ 64) (lt_of_lt_of_le small (lit≤ tt));
          uid = lt-ltb row.uid (2 ^ 32) (lt_of_lt_of_le (item_law.owner some) (lit≤ tt));
          gid = passes_of (λ i. is_u32 i.gid) done row more (ap (list_all (λ i. is_u32 i.gid)) (sym are) ∙ gids);
          mode = le-leb row.mode 511 item_law.mode;
          name = item_law.name;
        }
      where
        found_law : (r : RegionRow) → find (λ z. region_number z == row.region.0) R.regions ≡ Some r → IsLawfulRegion R r
        found_law r e = All_found (IsLawfulRegion R) (λ z. region_number z == row.region.0) R.regions r lawful.regions e

        found_below : (r : RegionRow) → find (λ z. region_number z == row.region.0) R.regions ≡ Some r → region_number r < number_end
        found_below r e = lt_of_lt_of_le (found_law r e).number lawful.next_region_bound

        found_sized : (r : RegionRow) → find (λ z. region_number z == row.region.0) R.regions ≡ Some r → r.size ≤ max_region_size
        found_sized r e = (found_law r e).size

  abbrev pub with_items : ℕ → List ItemRow → ℕ → Opening
  with_items next done n =
      record {
        replies = replies;
        rows = record { regions = R.regions; items = done; next_region = next; next_item = n };
        next_region = R.next_region;
        next_item = R.next_item;
      }

  module _ (next : ℕ) (bound : next ≤ number_end) where
    module _ (done : List ItemRow) (row : ItemRow) (more : List ItemRow) (are : R.items ≡ done ++ row ∷ more) (n : ℕ) (low : n ≤ item_number row) (some : item_number row ≢ 0) where
      abbrev item_skipped : Rows
      item_skipped = record { regions = R.regions; items = done; next_region = next; next_item = item_number row }

      skips_item : is_lawful_change (with_items next done n).rows (change.Skip next (item_number row)) ≡ true
      skips_item =
          let k = item_number row in
          let below = item_below done row more are in
          and_both (nat_le next next && nat_le next number_end && nat_le n k) (nat_le k number_end)
          (and_both (nat_le next next && nat_le next number_end) (nat_le n k) (and_both (nat_le next next) (nat_le next number_end) (le-leb next next (omega arith)) (le-leb next number_end bound)) (le-leb n k low))
          (le-leb k number_end (omega (arith, below)))

      good_item : is_good_row row.uid row.mode row.size row.name ≡ true
      good_item =
          let h = item_law done row more are in
          and_both (nat_lt row.uid nobody && nat_le row.mode 511 && nat_le row.size max_region_size) (is_good_name row.name)
          (and_both (nat_lt row.uid nobody && nat_le row.mode 511) (nat_le row.size max_region_size)
          (and_both (nat_lt row.uid nobody) (nat_le row.mode 511) (lt-ltb row.uid nobody (h.owner some)) (le-leb row.mode 511 h.mode)) (le-leb row.size max_region_size h.size)) h.name

      apart : (k : ℕ) (d : ItemRow) → k < length done → AreApart (get_or done k d) row
      apart = pairs_before AreApart done row more (subst (AllPairs AreApart) are lawful.items_are_apart)

      same_region : (a : ItemRow) (m : ℕ) → m ≡ row.region.0 → (a.region.0 == m) ≡ true → a.region ≡ row.region
      same_region a m m-is e = let same : a.region.0 ≡ row.region.0 = eqb-true _ _ e ∙ m-is in λ i. record { 0 = same i }

      unnamed_item : is_none (item_named item_skipped row.region.0 row.name) ≡ true
      unnamed_item =
          none_kept (λ x. bytes_eq x.name row.name) (λ x. x.region.0 == row.region.0) done
          (λ k d low e. no_bytes (get_or done k d).name row.name (apart k d low (same_region (get_or done k d) row.region.0 refl e)).0)

      few_items : nat_lt (length done) max_items ≡ true
      few_items =
          let count : length (done ++ row ∷ more) ≤ max_items = subst (λ (rs : List ItemRow). length rs ≤ max_items) are lawful.item_count in
          lt-ltb (length done) max_items (omega (arith, count, length-append done (row ∷ more)))

      beside_from : (a : ItemRow) → (room_end a ≤ row.base) ⊎ (room_end row ≤ a.base) → is_beside row.size row.base a ≡ true
      beside_from a (inl before) = or_right (nat_le (row.base + room row.size) a.base) (nat_le (room_end a) row.base) (le-leb (room_end a) row.base before)
      beside_from a (inr behind) = or_left (nat_le (row.base + room row.size) a.base) (nat_le (room_end a) row.base) (le-leb (row.base + room row.size) a.base behind)

      placed : is_some_and (region_of item_skipped row.region.0) (λ r. fits item_skipped r row.size row.base) ≡ true
      placed =
          let h = item_law done row more are in
          let there = h.inside in
          let number = there_number done row more are in
          tested (region_of item_skipped row.region.0) (λ r. fits item_skipped r row.size row.base) there.0 there.1
          (three_from (row.base % 64 == 0) (nat_le (row.base + room row.size) there.0.size) (list_all (is_beside row.size row.base) (items_in item_skipped (region_number there.0)))
          (eq-eqb (row.base % 64) 0 h.base) (le-leb (row.base + room row.size) there.0.size there.2)
          (all_kept (is_beside row.size row.base) (λ x. x.region.0 == region_number there.0) done (λ k d low e. beside_from (get_or done k d) (apart k d low (same_region (get_or done k d) (region_number there.0) number e)).1)))

      allocates_item : is_lawful_change item_skipped (allocate row) ≡ true
      allocates_item =
          let k = item_number row in
          five_from (is_next_number k k) (is_good_row row.uid row.mode row.size row.name) (is_none (item_named item_skipped row.region.0 row.name)) (nat_lt (length done) max_items) (is_some_and (region_of item_skipped row.region.0) (λ r. fits item_skipped r row.size row.base))
          (and_both (k == k) (nat_lt k number_end) (eq-eqb k k refl) (lt-ltb k number_end (item_below done row more are))) good_item unnamed_item few_items placed

      item_adds : add_item (with_items next done n) row ≡ Some (with_items next (done ++ row ∷ []) (item_number row + 1))
      item_adds =
          let o = with_items next done n in
          ap (λ (x : Option ItemRow). x >>= λ below. with_item o.rows below >>= λ rows. some_opening (with_rows o rows)) (when_true (nat_lt (item_number row) R.next_item) row (lt-ltb (item_number row) R.next_item (item_law done row more are).number))
          ∙ ap (λ (x : Option Rows). (x >>= λ skipped. changed skipped (allocate row)) >>= λ rows. some_opening (with_rows o rows)) (when_true (is_lawful_change o.rows (change.Skip next (item_number row))) item_skipped skips_item)
          ∙ ap (λ (x : Option Rows). x >>= λ rows. some_opening (with_rows o rows)) (when_true (is_lawful_change item_skipped (allocate row)) (after item_skipped (allocate row)) allocates_item)

    -- the items from here on
    pub record ItemsRun (done more : List ItemRow) (n : ℕ) : Type 0 where
      pub next_item : ℕ
      pub runs : run (stage.Items (with_items next done n)) (map item_text more) ≡ Some (stage.Items (with_items next (done ++ more) next_item))

    pub items_run : (done more : List ItemRow) (n : ℕ) → R.items ≡ done ++ more → 1 ≤ n → ((k : ℕ) (d : ItemRow) → k < length more → n ≤ item_number (get_or more k d)) → ItemsRun done more n
    items_run done [] n are one low = record { next_item = n; runs = ap (λ (is : List ItemRow). some_stage (stage.Items (with_items next is n))) (sym (append-nil done)) }
    items_run done (row ∷ more) n are one low =
        let n-low = low 0 row (omega arith) in
        let some : item_number row ≢ 0 = λ e. omega (arith, e, one, n-low) in
        let behind = pairs_behind (λ a b. item_number a < item_number b) done row more (subst (AllPairs (λ a b. item_number a < item_number b)) are rise_items) in
        let others = items_run (done ++ row ∷ []) more (item_number row + 1) (are ∙ sym (append_assoc done (row ∷ []) more)) (omega arith) (λ k d h. (let rises = behind k d h in omega (arith, rises))) in
        record {
          next_item = others.next_item;
          runs =
              ap (λ (x : Option ItemRow). item_step x (with_items next done n) (item_text row) >>= λ stage. run stage (map item_text more)) (item_back row (shown_item done row more are some))
              ∙ ap (λ (x : Option Opening). (x >>= λ o. some_stage (stage.Items o)) >>= λ stage. run stage (map item_text more)) (item_adds done row more are n n-low some)
              ∙ others.runs
              ∙ ap (λ (is : List ItemRow). some_stage (stage.Items (with_items next is others.next_item))) (append_assoc done (row ∷ []) more);
        }
