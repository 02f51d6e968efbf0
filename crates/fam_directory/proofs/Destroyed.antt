-- A region that goes, with its items and its index.
use Rattle.std.proofs.Common.{◌≡◌, ◌≢◌, ℕ, ◌-◌, ◌<◌, Bool, true, cond, eqb, List, length, get_or, map, None, inl, inr, sym, ap, ◌∙◌, subst, arith}
use mathlib.Core.Bool.{not}
use Rattle.std.specs.List.{All, AllPairs, filter, remove, sum_by}
use Rattle.std.specs.Str.{bytes_eq}
use Rattle.std.proofs.lemmas.Bool.{cases_eq, cases_lt, eqb-true, eqb-false, ne_eqb, not-true, not_from_false}
use Rattle.std.proofs.lemmas.List.{get_or-map, length-map, get_or_default}
use Rattle.std.proofs.lemmas.List.Elements.{All-filter, filter_passes}
use Rattle.fam_base.specs.declared.naming.RegionId.{RegionId}
use Rattle.fam_model.specs.declared.change.Change.TheVariants as change
use Rattle.fam_model.specs.declared.rows.ItemRow.{ItemRow}
use Rattle.fam_model.specs.declared.rows.RegionRow.{RegionRow}
use Rattle.fam_model.specs.declared.rows.Rows.{Rows}
use Rattle.fam_model.specs.Directory.{after}
use Rattle.fam_model.specs.Lawful.{is_lawful_change}
use Rattle.fam_model.specs.Lists.{drop_number}
use Rattle.fam_model.specs.Rows.{IsLawful, region_number}
use Rattle.fam_rows.proofs.Keeping.{keeps_law}
use Rattle.fam_rows.proofs.Places.{rises}
use Rattle.fam_directory.specs.declared.region.Region.{Region}
use Rattle.fam_directory.specs.Index.{IsIndexOf, IsIndexed, number_of, rows_of}
use Rattle.fam_directory.specs.Names.{NameMap, named}
use Rattle.fam_directory.proofs.Lookups.{numbers_rise}
use Rattle.fam_directory.proofs.Indexes.{index_kept}
use Rattle.fam_directory.proofs.Moves.{map_filter, filter_kept, removed_is, sum_removed, number_in, name_removed, AreOthers, others_differ}

-- the items of other regions
abbrev pub outside : RegionId → List ItemRow → List ItemRow
outside n items = filter (λ item. not (eqb item.region.0 n.0)) items

rows_left : (regions : List Region) (k : ℕ) (n : RegionId) (d : Region) → AllPairs (λ a b. number_of a < number_of b) regions → k < length regions → number_of (get_or regions k d) ≡ n.0 → map (λ (r : Region). r.row) (remove regions k) ≡ drop_number region_number n.0 (map (λ (r : Region). r.row) regions)
rows_left regions k n d rise lt is =
    ap (map (λ (r : Region). r.row)) (removed_is number_of n.0 k regions d rise lt is) ∙ map_filter (λ (r : Region). r.row) (λ (r : RegionRow). not (eqb (region_number r) n.0)) regions

pub destroyed_rows : (regions : List Region) (items : List ItemRow) (a b k : ℕ) (n : RegionId) (d : Region) → IsLawful (rows_of regions items a b) → k < length regions → number_of (get_or regions k d) ≡ n.0 → rows_of (remove regions k) (outside n items) a b ≡ after (rows_of regions items a b) (change.DestroyRegion n)
destroyed_rows regions items a b k n d lawful lt is =
    ap (λ (l : List RegionRow). let rows : Rows = record { regions = l; items = outside n items; next_region = a; next_item = b } in rows) (rows_left regions k n d (rises number_of regions (numbers_rise regions lawful.region_numbers_rise)) lt is)

-- all other regions have other numbers and names
other_regions : (rows : Rows) → IsLawful rows → (k n : ℕ) (x : RegionRow) → k < length rows.regions → x ≡ get_or rows.regions k x → region_number x ≡ n → AreOthers (λ (r : RegionRow). r.name) region_number n x rows.regions
other_regions rows lawful k n x lt is number j d within = elim (cases_eq j k) [
  | inl same ↦ inl (ap (λ i. get_or rows.regions i d) same ∙ get_or_default rows.regions k d x lt ∙ sym is)
  | inr other ↦
      let y_is : get_or rows.regions j x ≡ get_or rows.regions j d = get_or_default rows.regions j x d within in
      let rise = rises region_number rows.regions lawful.region_numbers_rise in
      inr (
        subst (λ (z : RegionRow). region_number z ≢ n) y_is (others_differ region_number n k j rows.regions x rise lt (ap region_number (sym is) ∙ number) other within),
        subst (λ (z : RegionRow). z.name ≢ x.name) y_is (elim (cases_lt j k) [
          | inl below ↦ λ e. lawful.region_names_differ j k x below lt (e ∙ ap (λ (z : RegionRow). z.name) is)
          | inr above ↦ λ e. lawful.region_names_differ k j x (omega arith) within (ap (λ (z : RegionRow). z.name) (sym is) ∙ sym e)
        ]),
      )
]

pub destroyed : (regions : List Region) (items : List ItemRow) (a b k total new_total : ℕ) (names new_names : NameMap) (n : RegionId) (gone : Region) → IsIndexed (rows_of regions items a b) regions names total → is_lawful_change (rows_of regions items a b) (change.DestroyRegion n) ≡ true → k < length regions → gone ≡ get_or regions k gone → number_of (get_or regions k gone) ≡ n.0 → ((q : List ℕ) → named q new_names ≡ cond (bytes_eq gone.row.name q) None (named q names)) → new_total ≡ total - gone.row.size → IsIndexed (rows_of (remove regions k) (outside n items) a b) (remove regions k) new_names new_total
destroyed regions items a b k total new_total names new_names n gone h ok lt is number dropped sum =
    let rows = rows_of regions items a b in
    let new = rows_of (remove regions k) (outside n items) a b in
    let list = map (λ (r : Region). r.row) regions in
    let rise = rises number_of regions (numbers_rise regions h.lawful.region_numbers_rise) in
    let long : k < length (map (λ (r : Region). r.row) regions) = omega (arith, length-map regions (λ (r : Region). r.row)) in
    let left = rows_left regions k n gone rise lt number in
    let row_is : gone.row ≡ get_or (map (λ (r : Region). r.row) regions) k gone.row = ap (λ (r : Region). r.row) is ∙ sym (get_or-map (λ (r : Region). r.row) regions k gone gone.row lt) in
    let row_number : region_number gone.row ≡ n.0 = ap number_of is ∙ number in
    let cut : remove (map (λ (r : Region). r.row) regions) k ≡ drop_number region_number n.0 (map (λ (r : Region). r.row) regions) = removed_is region_number n.0 k (map (λ (r : Region). r.row) regions) gone.row (rises region_number (map (λ (r : Region). r.row) regions) h.lawful.region_numbers_rise) long (ap region_number (sym row_is) ∙ row_number) in
    record {
      lawful = subst IsLawful (sym (destroyed_rows regions items a b k n gone h.lawful lt number)) (keeps_law rows (change.DestroyRegion n) h.lawful ok);
      by_name = λ q. dropped q ∙ ap (cond (bytes_eq gone.row.name q) None) (h.by_name q)
          ∙ name_removed (λ (r : RegionRow). r.name) region_number n.0 gone.row (map (λ (r : Region). r.row) regions) q row_number (other_regions rows h.lawful k n.0 gone.row long row_is row_number)
          ∙ ap (number_in (λ (r : RegionRow). r.name) region_number q) (sym left);
      sum =
          (let one = sum_removed (λ (r : RegionRow). r.size) k (map (λ (r : Region). r.row) regions) gone.row long row_is in
          let total_is = h.sum in
          let same = ap (sum_by (λ (r : RegionRow). r.size)) (cut ∙ sym left) in
          omega (arith, one, total_is, same, sum));
      indexes = subst (All (IsIndexOf new)) (sym (removed_is number_of n.0 k regions gone rise lt number)) (λ j d within.
          let stays : Region → Bool = λ r. not (eqb (number_of r) n.0) in
          let r = get_or (filter stays regions) j d in
          let other : number_of r ≢ n.0 = eqb-false _ _ (not-true (eqb (number_of r) n.0) (filter_passes stays regions j d within)) in
          index_kept rows new r
          (sym (filter_kept (λ (x : ItemRow). eqb x.region.0 (number_of r)) (λ x. not (eqb x.region.0 n.0)) items (λ i e inside sought. not_from_false _ (ne_eqb _ _ (λ same. other (sym (eqb-true _ _ sought) ∙ same))))))
          (All-filter stays (IsIndexOf rows) regions h.indexes j d within));
    }
