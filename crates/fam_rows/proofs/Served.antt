-- A change that serves a request is lawful.
use Rattle.std.proofs.Common.{◌≡◌, ℕ, ◌+◌, ◌-◌, ◌<◌, ◌≤◌, Bool, true, false, cond, eqb, ltb, leb, List, length, Option, Some, None, is_none, is_some, refl, sym, ap, ◌∙◌, subst, arith}
use mathlib.Core.Bool.{not, ◌&&◌}
use Rattle.std.proofs.lemmas.Bool.{and_from, eq-eqb, ne_eqb, eqb-true, ltb-false, leb-false, lt-ltb, le-leb, not-false, not_from_false}
use Rattle.fam_base.specs.Name.{is_good_name}
use Rattle.fam_base.specs.declared.error.FamError.{FamError}
use Rattle.fam_base.specs.declared.naming.Who.{Who}
use Rattle.fam_base.specs.declared.naming.RegionId.{RegionId}
use Rattle.fam_base.specs.declared.naming.ItemId.{ItemId}
use Rattle.fam_model.specs.declared.change.Change.{Change}
use Rattle.fam_model.specs.declared.change.Change.TheVariants as change
use Rattle.fam_model.specs.declared.request.Request.{Request}
use Rattle.fam_model.specs.declared.request.Request.TheVariants as request
use Rattle.fam_model.specs.declared.reply.Reply.{Reply}
use Rattle.fam_model.specs.declared.rows.RegionRow.{RegionRow}
use Rattle.fam_model.specs.declared.rows.ItemRow.{ItemRow}
use Rattle.fam_model.specs.declared.rows.Rows.{Rows}
use Rattle.fam_model.specs.Directory.{first_case, error_or, refusal, may_lie, change_at, is_other, cuts_item, answer}
use Rattle.fam_model.specs.Lawful.{is_lawful_change, is_good_row, is_next_number, is_common}
use Rattle.fam_model.specs.Limits.{max_region_size, max_total_size, max_regions, max_items, number_end, nobody}
use Rattle.fam_model.specs.Lists.{is_some_and}
use Rattle.fam_model.specs.MetaStep.{told_change, told_base}
use Rattle.fam_model.specs.Same.{same_reply}
use Rattle.fam_model.specs.Rows.{IsLawful, region_named, item_named, total_size, fits, common_region, common_item, region_of, item_of, region_number, item_number, region_owner, item_owner}
use Rattle.fam_rows.specs.Laws.{asked_mode}
use Rattle.fam_rows.proofs.Edits.{find_first}
use Rattle.fam_rows.proofs.Searches.{find_number_is}
use Rattle.fam_rows.proofs.Standing.{region_is, nothing_there, three_parts, came_of, came_when, three_from, five_from, tested}

-- where no case holds, the first one does not, nor any of the rest
pub passed : (test : Bool) (error : FamError) (rest : Option FamError) → cond test (Some error) rest ≡ None → (test ≡ false) × (rest ≡ None)
passed true error rest e = absurd (cc e)
passed false error rest e = (refl, e)

-- where no case holds, the thing is there
pub there_passed : {A : Type 0} (error : FamError) (o : Option A) (cases : A → List (Bool × FamError)) → first_case (error_or error o cases) ≡ None → (x : A) × (o ≡ Some x) × (first_case (cases x) ≡ None)
there_passed error None cases e = absurd (cc e)
there_passed error (Some x) cases e = (x, refl, e)

-- a new row that was not refused is good
good_row : (uid mode size : ℕ) (name : List ℕ) → uid < nobody → mode ≤ 511 → ltb max_region_size size ≡ false → not (is_good_name name) ≡ false → is_good_row uid mode size name ≡ true
good_row uid mode size name user modest small good =
    and_from (ltb uid nobody && leb mode 511 && leb size max_region_size) (is_good_name name)
    (and_from (ltb uid nobody && leb mode 511) (leb size max_region_size) (and_from (ltb uid nobody) (leb mode 511) (lt-ltb _ _ user) (le-leb _ _ modest)) (le-leb _ _ (ltb-false _ _ small)))
    (not-false (is_good_name name) good)

-- the next number is given while it is below the last
next_number : (next : ℕ) → leb number_end next ≡ false → is_next_number next next ≡ true
next_number next e = and_from (eqb next next) (ltb next number_end) (eq-eqb next next refl) (lt-ltb _ _ (leb-false _ _ e))

-- the common region has the number 0, and is nobody's
common_found : (rows : Rows) → IsLawful rows → region_of rows 0 ≡ Some common_region
common_found rows lawful = region_is rows 0 ∙ find_first (λ z. eqb (region_number z) 0) rows.regions common_region lawful.common_region_first refl

-- so is the common item
common_item_found : (rows : Rows) → IsLawful rows → item_of rows 0 ≡ Some common_item
common_item_found rows lawful = find_number_is item_number 0 rows.items ∙ find_first (λ z. eqb (item_number z) 0) rows.items common_item lawful.common_item_first refl

-- a region that is the caller's is not the common one
not_common : (rows : Rows) (who : Who) (n : ℕ) (row : RegionRow) → IsLawful rows → who.uid < nobody → region_of rows n ≡ Some row → is_other (region_owner row) who ≡ false → not (is_common n) ≡ true
not_common rows who n row lawful user there own =
    let owner : who.uid ≡ row.uid = eqb-true _ _ (not-false (eqb who.uid row.uid) own) in
    not_from_false (is_common n) (ne_eqb n 0 (λ zero_is.
    let found : region_of rows 0 ≡ Some row = subst (λ (m : ℕ). region_of rows m ≡ Some row) zero_is there in
    let same : common_region ≡ row = cc (sym (common_found rows lawful) ∙ found) in
    let uid : nobody ≡ row.uid = ap (λ r. r.uid) same in
    omega (arith, owner, uid)))

-- an item that is the caller's is not the common one
not_common_item : (rows : Rows) (who : Who) (n : ℕ) (row : ItemRow) → IsLawful rows → who.uid < nobody → item_of rows n ≡ Some row → is_other (item_owner row) who ≡ false → not (is_common n) ≡ true
not_common_item rows who n row lawful user there own =
    let owner : who.uid ≡ row.uid = eqb-true _ _ (not-false (eqb who.uid row.uid) own) in
    not_from_false (is_common n) (ne_eqb n 0 (λ zero_is.
    let found : item_of rows 0 ≡ Some row = subst (λ (m : ℕ). item_of rows m ≡ Some row) zero_is there in
    let same : common_item ≡ row = cc (sym (common_item_found rows lawful) ∙ found) in
    let uid : nobody ≡ row.uid = ap (λ r. r.uid) same in
    omega (arith, owner, uid)))

-- a new region
create_served : (rows : Rows) (who : Who) (name : List ℕ) (size mode base : ℕ) → IsLawful rows → who.uid < nobody → mode ≤ 511 → refusal rows who (request.CreateRegion name size mode) ≡ None → is_lawful_change rows (change.CreateRegion (record { 0 = rows.next_region }) who.uid who.gid mode size name) ≡ true
create_served rows who name size mode base lawful user modest none =
    let named = passed _ _ _ none in
    let sized = passed _ _ _ named.1 in
    let fresh = passed _ _ _ sized.1 in
    let counted = passed _ _ _ fresh.1 in
    let summed = passed _ _ _ counted.1 in
    let numbered = passed _ _ _ summed.1 in
    five_from (is_next_number rows.next_region rows.next_region) (is_good_row who.uid mode size name) (is_none (region_named rows name)) (ltb (length rows.regions) max_regions) (leb (total_size rows + size) max_total_size)
    (next_number rows.next_region numbered.0)
    (good_row who.uid mode size name user modest sized.0 named.0)
    (not_from_false (is_some (region_named rows name)) fresh.0)
    (lt-ltb _ _ (leb-false _ _ counted.0))
    (le-leb _ _ (ltb-false _ _ summed.0))

-- a region that goes
destroy_served : (rows : Rows) (who : Who) (region : RegionId) → IsLawful rows → who.uid < nobody → refusal rows who (request.DestroyRegion region) ≡ None → is_lawful_change rows (change.DestroyRegion region) ≡ true
destroy_served rows who region lawful user none =
    let there = there_passed _ (region_of rows region.0) _ none in
    let own = passed _ _ _ there.2 in
    and_from (not (is_common region.0)) (is_some_and (region_of rows region.0) (λ row. true))
    (not_common rows who region.0 there.0 lawful user there.1 own.0)
    (tested (region_of rows region.0) (λ row. true) there.0 there.1 refl)

-- a region of another size
resize_served : (rows : Rows) (who : Who) (region : RegionId) (size : ℕ) → IsLawful rows → who.uid < nobody → refusal rows who (request.ResizeRegion region size) ≡ None → is_lawful_change rows (change.ResizeRegion region size) ≡ true
resize_served rows who region size lawful user none =
    let sized = passed _ _ _ none in
    let there = there_passed _ (region_of rows region.0) _ sized.1 in
    let own = passed _ _ _ there.2 in
    let uncut = passed _ _ _ own.1 in
    let summed = passed _ _ _ uncut.1 in
    let test : RegionRow → Bool = λ row. not (cuts_item rows row size) && leb (total_size rows - row.size + size) max_total_size in
    three_from (not (is_common region.0)) (leb size max_region_size) (is_some_and (region_of rows region.0) test)
    (not_common rows who region.0 there.0 lawful user there.1 own.0)
    (le-leb _ _ (ltb-false _ _ sized.0))
    (tested (region_of rows region.0) test there.0 there.1 (and_from (not (cuts_item rows there.0 size)) (leb (total_size rows - there.0.size + size) max_total_size) (not_from_false (cuts_item rows there.0 size) uncut.0) (le-leb _ _ (ltb-false _ _ summed.0))))

-- a region of another mode
mode_served : (rows : Rows) (who : Who) (region : RegionId) (mode : ℕ) → IsLawful rows → who.uid < nobody → mode ≤ 511 → refusal rows who (request.SetRegionMode region mode) ≡ None → is_lawful_change rows (change.SetRegionMode region mode) ≡ true
mode_served rows who region mode lawful user modest none =
    let there = there_passed _ (region_of rows region.0) _ none in
    let own = passed _ _ _ there.2 in
    three_from (not (is_common region.0)) (leb mode 511) (is_some_and (region_of rows region.0) (λ row. true))
    (not_common rows who region.0 there.0 lawful user there.1 own.0)
    (le-leb _ _ modest)
    (tested (region_of rows region.0) (λ row. true) there.0 there.1 refl)

-- a new item
allocate_served : (rows : Rows) (who : Who) (name : List ℕ) (size mode : ℕ) (region : RegionId) (base : ℕ) → IsLawful rows → who.uid < nobody → mode ≤ 511 → refusal rows who (request.Allocate name size mode region) ≡ None → may_lie rows (request.Allocate name size mode region) base ≡ true → is_lawful_change rows (change.Allocate (record { 0 = rows.next_item }) region base size who.uid who.gid mode name) ≡ true
allocate_served rows who name size mode region base lawful user modest none lies =
    let named = passed _ _ _ none in
    let sized = passed _ _ _ named.1 in
    let there = there_passed _ (region_of rows region.0) _ sized.1 in
    let fresh = passed _ _ _ there.2 in
    let allowed = passed _ _ _ fresh.1 in
    let counted = passed _ _ _ allowed.1 in
    let gap = passed _ _ _ counted.1 in
    let numbered = passed _ _ _ gap.1 in
    five_from (is_next_number rows.next_item rows.next_item) (is_good_row who.uid mode size name) (is_none (item_named rows region.0 name)) (ltb (length rows.items) max_items) (is_some_and (region_of rows region.0) (λ row. fits rows row size base))
    (next_number rows.next_item numbered.0)
    (good_row who.uid mode size name user modest sized.0 named.0)
    (not_from_false (is_some (item_named rows region.0 name)) fresh.0)
    (lt-ltb _ _ (leb-false _ _ counted.0))
    lies

-- an item that goes
deallocate_served : (rows : Rows) (who : Who) (item : ItemId) → IsLawful rows → who.uid < nobody → refusal rows who (request.Deallocate item) ≡ None → is_lawful_change rows (change.Deallocate item) ≡ true
deallocate_served rows who item lawful user none =
    let there = there_passed _ (item_of rows item.0) _ none in
    let own = passed _ _ _ there.2 in
    and_from (not (is_common item.0)) (is_some_and (item_of rows item.0) (λ row. true))
    (not_common_item rows who item.0 there.0 lawful user there.1 own.0)
    (tested (item_of rows item.0) (λ row. true) there.0 there.1 refl)

-- an item of another mode
item_mode_served : (rows : Rows) (who : Who) (item : ItemId) (mode : ℕ) → IsLawful rows → who.uid < nobody → mode ≤ 511 → refusal rows who (request.SetItemMode item mode) ≡ None → is_lawful_change rows (change.SetItemMode item mode) ≡ true
item_mode_served rows who item mode lawful user modest none =
    let there = there_passed _ (item_of rows item.0) _ none in
    let own = passed _ _ _ there.2 in
    three_from (not (is_common item.0)) (leb mode 511) (is_some_and (item_of rows item.0) (λ row. true))
    (not_common_item rows who item.0 there.0 lawful user there.1 own.0)
    (le-leb _ _ modest)
    (tested (item_of rows item.0) (λ row. true) there.0 there.1 refl)

-- the one change of a request
is_chosen : (rows : Rows) (one chosen : Change) → Some one ≡ Some chosen → is_lawful_change rows one ≡ true → is_lawful_change rows chosen ≡ true
is_chosen rows one chosen e ok = let same : one ≡ chosen = cc e in subst (λ (change : Change). is_lawful_change rows change ≡ true) same ok

-- each request that changes
pub served_lawful : (rows : Rows) (who : Who) (asked : Request) (base : ℕ) (chosen : Change) → IsLawful rows → who.uid < nobody → asked_mode asked ≤ 511 → refusal rows who asked ≡ None → may_lie rows asked base ≡ true → change_at rows who asked base ≡ Some chosen → is_lawful_change rows chosen ≡ true
served_lawful rows who (request.CreateRegion name size mode) base chosen lawful user modest none lies e = is_chosen rows _ chosen e (create_served rows who name size mode base lawful user modest none)
served_lawful rows who (request.DestroyRegion region) base chosen lawful user modest none lies e = is_chosen rows _ chosen e (destroy_served rows who region lawful user none)
served_lawful rows who (request.ResizeRegion region size) base chosen lawful user modest none lies e = is_chosen rows _ chosen e (resize_served rows who region size lawful user none)
served_lawful rows who (request.SetRegionMode region mode) base chosen lawful user modest none lies e = is_chosen rows _ chosen e (mode_served rows who region mode lawful user modest none)
served_lawful rows who (request.Allocate name size mode region) base chosen lawful user modest none lies e = is_chosen rows _ chosen e (allocate_served rows who name size mode region base lawful user modest none lies)
served_lawful rows who (request.Deallocate item) base chosen lawful user modest none lies e = is_chosen rows _ chosen e (deallocate_served rows who item lawful user none)
served_lawful rows who (request.SetItemMode item mode) base chosen lawful user modest none lies e = is_chosen rows _ chosen e (item_mode_served rows who item mode lawful user modest none)
served_lawful rows who asked base chosen lawful user modest none lies e = absurd (cc e)

-- so is a change that a reply tells of
pub told_lawful : (rows : Rows) (who : Who) (asked : Request) (given : Reply) (chosen : Change) → IsLawful rows → who.uid < nobody → asked_mode asked ≤ 511 → told_change rows who asked given ≡ Some chosen → is_lawful_change rows chosen ≡ true
told_lawful rows who asked given chosen lawful user modest e =
    let came = came_of (change_at rows who asked (told_base given)) _ chosen e in
    let tested_too = came_when (is_none (refusal rows who asked) && may_lie rows asked (told_base given) && same_reply given (answer came.0)) came.0 chosen came.2 in
    let tests = three_parts (is_none (refusal rows who asked)) (may_lie rows asked (told_base given)) (same_reply given (answer came.0)) tested_too.0 in
    served_lawful rows who asked (told_base given) chosen lawful user modest (nothing_there (refusal rows who asked) tests.0) tests.1 (came.1 ∙ ap Some tested_too.1)
