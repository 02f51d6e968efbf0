-- A call of a running program has a first event that may come, where no piece is left.
use Rattle.std.proofs.Common.{◌≡◌, ℕ, Bool, true, false, List, [], ◌∷◌, refl, sym, ap, ◌∙◌}
use Rattle.std.specs.Prelude.{◌&&◌, not, nat_lt, nat_le, length, Option, Some, None, is_some, is_none, find}
use Rattle.std.specs.List.{list_any}
use Rattle.fam_base.specs.Name.{is_good_name}
use Rattle.fam_base.specs.Permission.{is_allowed}
use Rattle.fam_base.specs.declared.naming.Need.TheVariants.{Write}
use Rattle.fam_base.specs.declared.error.FamError.{FamError}
use Rattle.fam_base.specs.declared.error.FamError.TheVariants.{Absent, NoPermission, TooLarge, NoSpace, Exists, BadName}
use Rattle.fam_base.specs.declared.naming.Who.{Who}
use Rattle.fam_model.specs.declared.change.Change.{Change}
use Rattle.fam_model.specs.declared.change.Change.TheVariants as change
use Rattle.fam_model.specs.declared.reply.Reply.{Reply}
use Rattle.fam_model.specs.declared.reply.Reply.TheVariants as reply
use Rattle.fam_model.specs.declared.request.Request.{Request}
use Rattle.fam_model.specs.declared.request.Request.TheVariants as request
use Rattle.fam_model.specs.declared.rows.RegionRow.{RegionRow}
use Rattle.fam_model.specs.declared.rows.Rows.{Rows}
use Rattle.fam_model.specs.contracts.reply.ReplyEq.TheImpl.Laws as reply_laws
use Rattle.fam_model.specs.Directory.{first_case, error_or, refusal, found, region_info, item_info, change_at, may_lie, first_base, first_choice, answer}
use Rattle.fam_model.specs.Limits.{max_region_size, max_items, number_end}
use Rattle.fam_model.specs.Lists.{◌>>=◌, when, is_some_and}
use Rattle.fam_model.specs.MetaStep.{unchanging_reply, told_base, told_change, may_reply}
use Rattle.fam_model.specs.Rows.{region_of, item_of, region_named, item_named, region_number, region_owner, descriptor_of, fits, least_base, no_gap, bases_up_to}
use Rattle.fam_model.specs.Same.{same_reply}
use Rattle.fam_schedule.specs.Schedule.{due_reply}

pub reply_same : (r : Reply) → same_reply r r ≡ true
reply_same r = reply_laws.laws-law.refl r

-- cases of a refusal

pub case_none : (b : Bool) (e : FamError) (cases : List (Bool × FamError)) → first_case ((b, e) ∷ cases) ≡ None → (b ≡ false) × (first_case cases ≡ None)
case_none false e cases h = (refl, h)
case_none true e cases h = cc

pub there_is : {A : Type 0} (e : FamError) (o : Option A) (cases : A → List (Bool × FamError)) → first_case (error_or e o cases) ≡ None → (x : A) × (o ≡ Some x) × (first_case (cases x) ≡ None)
there_is e None cases h = cc
there_is e (Some x) cases h = (x, refl, h)

-- requests

found_first : {A : Type 0} (test : A → Bool) (xs : List A) → list_any test xs ≡ true → (x : A) × (find test xs ≡ Some x) × (test x ≡ true)
found_first test [] h = cc
found_first {A} test (x ∷ xs) h = by_test (test x) refl (λ e. found_first test xs e)
  where
    by_test : (b : Bool) → test x ≡ b → (list_any test xs ≡ true → (y : A) × (find test xs ≡ Some y) × (test y ≡ true)) → (y : A) × (find test (x ∷ xs) ≡ Some y) × (test y ≡ true)
    by_test true e rest = (x, rw e refl, e)
    by_test false e rest =
        let behind : list_any test (x ∷ xs) ≡ list_any test xs = rw e refl in
        let y = rest (sym behind ∙ h) in
        let shown : find test (x ∷ xs) ≡ find test xs = rw e refl in
        (y.0, shown ∙ y.1, y.2)

not_false : (b : Bool) → not b ≡ false → b ≡ true
not_false true e = refl
not_false false e = cc

pub some_is : {A : Type 0} (o : Option A) → is_some o ≡ true → (x : A) × (o ≡ Some x)
some_is None h = cc
some_is (Some x) h = (x, refl)

-- the reply that is due, and that it may be given
abbrev pub HasReply : Rows → Who → Request → Type 0
HasReply rows who request = (given : Reply) × (due_reply rows who request ≡ Some given) × (may_reply rows who request given ≡ true)

-- where the directory has a reply of its own
unchanged_reply : (rows : Rows) (who : Who) (request : Request) (given : Reply) → unchanging_reply (refusal rows who request) rows request ≡ Some given → HasReply rows who request
unchanged_reply rows who request given e = (given, rw e refl, rw e (reply_same given))

-- where a change with this base serves the request
served_reply : (rows : Rows) (who : Who) (request : Request) (base : ℕ) (chosen : Change) → refusal rows who request ≡ None → found rows request ≡ None →
    first_base rows request ≡ Some base → change_at rows who request base ≡ Some chosen → told_base (answer chosen) ≡ base → may_lie rows request base ≡ true → HasReply rows who request
served_reply rows who request base chosen none unfound first change told lies =
    let quiet : unchanging_reply (refusal rows who request) rows request ≡ None = rw none unfound in
    let choice : first_choice rows who request ≡ Some chosen = rw first change in
    let due : due_reply rows who request ≡ Some (answer chosen) = rw (quiet, choice) refl in
    let told_is : told_change rows who request (answer chosen) ≡ Some chosen = told_by (told_base (answer chosen)) told in
    let may : may_reply rows who request (answer chosen) ≡ true = rw (quiet, told_is) refl in
    (answer chosen, due, may)
  where
    told_by : (n : ℕ) → n ≡ base → (change_at rows who request n >>= λ c. when (is_none (refusal rows who request) && may_lie rows request n && same_reply (answer chosen) (answer c)) c) ≡ Some chosen
    told_by n e =
        ap (λ m. change_at rows who request m >>= λ c. when (is_none (refusal rows who request) && may_lie rows request m && same_reply (answer chosen) (answer c)) c) e
        ∙ rw (change, none, lies, reply_same (answer chosen)) refl

bind_known : {A B : Type 0} (o : Option A) (x : A) (f : A → Option B) (y : B) → o ≡ Some x → f x ≡ Some y → (o >>= f) ≡ Some y
bind_known o x f y e h = rw e h

-- where a request that is not refused finds something
found_reply : (rows : Rows) (who : Who) (asked : Request) (given : Reply) → refusal rows who asked ≡ None → found rows asked ≡ Some given → HasReply rows who asked
found_reply rows who asked given none seen = unchanged_reply rows who asked given (ap (λ o. unchanging_reply o rows asked) none ∙ seen)

none_is : (rows : Rows) (row : RegionRow) (n : ℕ) → no_gap rows row n ≡ false → (base : ℕ) × (least_base rows row n ≡ Some base) × (fits rows row n base ≡ true)
none_is rows row n e = found_first (fits rows row n) (bases_up_to row.size) (not_false (list_any (fits rows row n) (bases_up_to row.size)) e)

-- a request that is not refused has a reply
not_refused : (rows : Rows) (who : Who) (asked : Request) → refusal rows who asked ≡ None → HasReply rows who asked
not_refused rows who (request.CreateRegion name size mode) none = served_reply rows who (request.CreateRegion name size mode) 0 (change.CreateRegion (record { 0 = rows.next_region }) who.uid who.gid mode size name) none refl refl refl refl refl
not_refused rows who (request.DestroyRegion region) none = served_reply rows who (request.DestroyRegion region) 0 (change.DestroyRegion region) none refl refl refl refl refl
not_refused rows who (request.ResizeRegion region size) none = served_reply rows who (request.ResizeRegion region size) 0 (change.ResizeRegion region size) none refl refl refl refl refl
not_refused rows who (request.SetRegionMode region mode) none = served_reply rows who (request.SetRegionMode region mode) 0 (change.SetRegionMode region mode) none refl refl refl refl refl
not_refused rows who (request.LookupRegion name) none =
    let a = case_none (not (is_good_name name)) BadName (error_or Absent (region_named rows name) (λ row. [])) none in
    let row = there_is Absent (region_named rows name) (λ row. []) a.1 in
    found_reply rows who (request.LookupRegion name) (reply.Region row.0.number) none
    (bind_known (region_named rows name) row.0 (λ r. Some (reply.Region r.number)) (reply.Region row.0.number) row.1 refl)
not_refused rows who (request.StatRegion region) none =
    let row = there_is Absent (region_of rows region.0) (λ row. []) none in
    found_reply rows who (request.StatRegion region) (reply.RegionStat (region_info row.0)) none
    (bind_known (region_of rows region.0) row.0 (λ r. Some (reply.RegionStat (region_info r))) (reply.RegionStat (region_info row.0)) row.1 refl)
not_refused rows who (request.Allocate name size mode region) none =
    let last : RegionRow → List (Bool × FamError) = λ row. (nat_le number_end rows.next_item, NoSpace) ∷ [] in
    let room : RegionRow → List (Bool × FamError) = λ row. (no_gap rows row size, NoSpace) ∷ last row in
    let count : RegionRow → List (Bool × FamError) = λ row. (nat_le max_items (length rows.items), NoSpace) ∷ room row in
    let may : RegionRow → List (Bool × FamError) = λ row. (not (is_allowed (region_owner row) row.mode who Write), NoPermission) ∷ count row in
    let fresh : RegionRow → List (Bool × FamError) = λ row. (is_some (item_named rows region.0 name), Exists) ∷ may row in
    let sized = (nat_lt max_region_size size, TooLarge) ∷ error_or Absent (region_of rows region.0) fresh in
    let a = case_none (not (is_good_name name)) BadName sized none in
    let b = case_none (nat_lt max_region_size size) TooLarge (error_or Absent (region_of rows region.0) fresh) a.1 in
    let row = there_is Absent (region_of rows region.0) fresh b.1 in
    let c = case_none (is_some (item_named rows region.0 name)) Exists (may row.0) row.2 in
    let d = case_none (not (is_allowed (region_owner row.0) row.0.mode who Write)) NoPermission (count row.0) c.1 in
    let e = case_none (nat_le max_items (length rows.items)) NoSpace (room row.0) d.1 in
    let f = case_none (no_gap rows row.0 size) NoSpace (last row.0) e.1 in
    let base = none_is rows row.0 size f.0 in
    let chosen = change.Allocate (record { 0 = rows.next_item }) region base.0 size who.uid who.gid mode name in
    served_reply rows who (request.Allocate name size mode region) base.0 chosen none refl
    (bind_known (region_of rows region.0) row.0 (λ r. least_base rows r size) base.0 row.1 base.1) refl refl (may_lie_by base.0 (region_of rows region.0) row.0 row.1 base.2)
  where
    may_lie_by : (n : ℕ) (o : Option RegionRow) (row : RegionRow) → o ≡ Some row → fits rows row size n ≡ true → is_some_and o (λ r. fits rows r size n) ≡ true
    may_lie_by n o row e h = rw e h
not_refused rows who (request.Deallocate item) none = served_reply rows who (request.Deallocate item) 0 (change.Deallocate item) none refl refl refl refl refl
not_refused rows who (request.SetItemMode item mode) none = served_reply rows who (request.SetItemMode item mode) 0 (change.SetItemMode item mode) none refl refl refl refl refl
not_refused rows who (request.Lookup name region) none =
    let item_cases : RegionRow → List (Bool × FamError) = λ row. error_or Absent (item_named rows (region_number row) name) (λ item. []) in
    let second = (not (is_good_name region), BadName) ∷ error_or Absent (region_named rows region) item_cases in
    let a = case_none (not (is_good_name name)) BadName second none in
    let b = case_none (not (is_good_name region)) BadName (error_or Absent (region_named rows region) item_cases) a.1 in
    let row = there_is Absent (region_named rows region) item_cases b.1 in
    let item = there_is Absent (item_named rows (region_number row.0) name) (λ item. []) row.2 in
    let told : Reply = reply.Item (descriptor_of item.0) in
    let second_part : (item_named rows (region_number row.0) name >>= λ i. Some (reply.Item (descriptor_of i))) ≡ Some told =
    bind_known (item_named rows (region_number row.0) name) item.0 (λ i. Some (reply.Item (descriptor_of i))) told item.1 refl in
    found_reply rows who (request.Lookup name region) told none
    (bind_known (region_named rows region) row.0 (λ r. item_named rows (region_number r) name >>= λ i. Some (reply.Item (descriptor_of i))) told row.1 second_part)
not_refused rows who (request.Stat item) none =
    let row = there_is Absent (item_of rows item.0) (λ row. []) none in
    found_reply rows who (request.Stat item) (reply.ItemStat (item_info row.0)) none
    (bind_known (item_of rows item.0) row.0 (λ r. Some (reply.ItemStat (item_info r))) (reply.ItemStat (item_info row.0)) row.1 refl)

reply_by : (o : Option FamError) (rows : Rows) (who : Who) (asked : Request) → refusal rows who asked ≡ o → HasReply rows who asked
reply_by None rows who asked e = not_refused rows who asked e
reply_by (Some error) rows who asked e = unchanged_reply rows who asked (reply.Error error) (rw e refl)

-- every request has a reply that may be given
pub has_reply : (rows : Rows) (who : Who) (asked : Request) → HasReply rows who asked
has_reply rows who asked = reply_by (refusal rows who asked) rows who asked refl
