-- The rows in slots: what is found there, and what stays when a slot changes.
use Rattle.std.proofs.Common.{◌≡◌, ◌≢◌, ℕ, suc, ◌+◌, ◌-◌, ◌<◌, ◌≤◌, Bool, true, false, cond, eqb, List, [], ◌∷◌, ◌++◌, length, get_or, set, take, drop, map, Option, Some, None, is_some, inl, inr, refl, sym, ap, ◌∙◌, subst, arith}
use mathlib.Core.Bool.{not, ◌&&◌, ◌||◌}
use mir.Val.{bool_byte}
use Rattle.std.specs.List.{All, AllPairs, cons_option, filter, find, list_any, slice_get}
use Rattle.std.specs.List.Sorted.{IsStrictlyIncreasing}
use Rattle.std.specs.Option.{IfSome, option_map, option_map_or, option_to_list}
use Rattle.std.proofs.lemmas.Bool.{cases_Bool, cases_eq, eq-eqb, ne_eqb, false≢true}
use Rattle.std.proofs.lemmas.List.{get_or-map, length-append, length-map, take_more, drop_more}
use Rattle.std.proofs.lemmas.List.Elements.{All-head, All-tail, All-append, All-cons, All-nil, All-filter, filter_map-append, filter_passes}
use Rattle.std.proofs.lemmas.List.Kept.{AllPairs-cons, AllPairs-filter}
use Rattle.std.proofs.lemmas.List.Quantifiers.{all_pairs_push}
use Rattle.std.proofs.lemmas.Option.{slice_get_within, slice_get-get_or}
use Rattle.fam_model.specs.declared.rows.ItemRow.{ItemRow}
use Rattle.fam_model.specs.Lists.{◌>>=◌, change_place, find_number, is_some_and, place_of}
use Rattle.fam_model.specs.Rows.{item_number}
use Rattle.fam_rows.proofs.Edits.{All_unfound, changed_one, change_is_map, rise_mapped}
use Rattle.fam_rows.proofs.Searches.{find_number_is}
use Rattle.fam_directory.specs.declared.slots.Slot.{Slot}
use Rattle.fam_directory.specs.Slots.{AreNumbered, AreSlots, HasNumber, IsBelow, is_item_of, rows_in, slot_number, with_mode, without_numbers}
use Rattle.fam_directory.proofs.Lookups.{at_place, has_number, no_place}
use Rattle.fam_directory.proofs.Moves.{changed_is, filter_alike, filter_kept}

-- numbers that rise pair by pair rise from each to the next
pub increasing : {A : Type 0} (number : A → ℕ) (xs : List A) → AllPairs (λ a b. number a < number b) xs → IsStrictlyIncreasing (map number xs)
increasing number [] rise k lt = absurd (omega arith)
increasing number (x ∷ xs) rise k lt =
    let count = length-map (x ∷ xs) number in
    let within : k + 1 < length (x ∷ xs) = omega (arith, count, lt) in
    let first = get_or-map number (x ∷ xs) k x 0 (omega (arith, within)) in
    let second = get_or-map number (x ∷ xs) (k + 1) x 0 within in
    let less = rise k (k + 1) x (omega arith) within in
    omega (arith, first, second, less)

-- one slot more

row_more : (P : ℕ → Type 0) (n : ℕ) (o : Option ItemRow) (rows : List ItemRow) → IfSome o (λ row. item_number row ≡ n) → P n → All (λ r. P (item_number r)) rows → All (λ r. P (item_number r)) (cons_option o rows)
row_more P n None rows number here rest = rest
row_more P n (Some r) rows number here rest = All-cons (λ x. P (item_number x)) r rows (subst P (sym number) here) rest

-- what holds of the numbers of slots holds of those of their rows
pub row_numbers : (P : ℕ → Type 0) (slots : List Slot) → All HasNumber slots → All (λ s. P (slot_number s)) slots → All (λ r. P (item_number r)) (rows_in slots)
row_numbers P [] each all = All-nil (λ r. P (item_number r))
row_numbers P (s ∷ ss) each all =
    row_more P s.number s.row (rows_in ss) (All-head HasNumber s ss each) (All-head (λ t. P (slot_number t)) s ss all) (row_numbers P ss (All-tail HasNumber s ss each) (All-tail (λ t. P (slot_number t)) s ss all))

abbrev Rises : List Slot → Type 0
Rises slots = AllPairs (λ a b. slot_number a < slot_number b) slots

head_below : (s : Slot) (ss : List Slot) → Rises (s ∷ ss) → All (λ t. slot_number s < slot_number t) ss
head_below s ss rise k d lt = rise 0 (suc k) d (omega arith) (omega arith)

tail_rises : (s : Slot) (ss : List Slot) → Rises (s ∷ ss) → Rises ss
tail_rises s ss rise i j d lt within = rise (suc i) (suc j) d (omega arith) (omega arith)

rise_more : (n : ℕ) (o : Option ItemRow) (rows : List ItemRow) → IfSome o (λ row. item_number row ≡ n) → All (λ r. n < item_number r) rows → AllPairs (λ a b. item_number a < item_number b) rows → AllPairs (λ a b. item_number a < item_number b) (cons_option o rows)
rise_more n None rows number above rest = rest
rise_more n (Some r) rows number above rest = AllPairs-cons (λ a b. item_number a < item_number b) r rows (λ k d lt. (let less = above k d lt in omega (arith, number, less))) rest

-- the numbers of the rows rise
pub rows_rise : (slots : List Slot) → Rises slots → All HasNumber slots → AllPairs (λ a b. item_number a < item_number b) (rows_in slots)
rows_rise [] rise each = λ i j d lt within. absurd (omega arith)
rows_rise (s ∷ ss) rise each =
    let rest = All-tail HasNumber s ss each in
    rise_more s.number s.row (rows_in ss) (All-head HasNumber s ss each) (row_numbers (λ n. s.number < n) ss rest (head_below s ss rise)) (rows_rise ss (tail_rises s ss rise) rest)

-- what is found

-- no row has the number that no slot has
absent : (n : ℕ) (rows : List ItemRow) → All (λ r. item_number r ≢ n) rows → find (λ r. eqb (item_number r) n) rows ≡ None
absent n [] none = refl
absent n (r ∷ rs) none = rw (ne_eqb (item_number r) n (All-head (λ x. item_number x ≢ n) r rs none)) (absent n rs (All-tail (λ x. item_number x ≢ n) r rs none))

found_here : (n : ℕ) (o : Option ItemRow) (rows : List ItemRow) → IfSome o (λ row. item_number row ≡ n) → All (λ r. item_number r ≢ n) rows → find (λ r. eqb (item_number r) n) (cons_option o rows) ≡ o
found_here n None rows number none = absent n rows none
found_here n (Some r) rows number none = rw (eq-eqb (item_number r) n number) refl

found_later : (n m : ℕ) (o : Option ItemRow) (rows : List ItemRow) → IfSome o (λ row. item_number row ≡ m) → m ≢ n → find (λ r. eqb (item_number r) n) (cons_option o rows) ≡ find (λ r. eqb (item_number r) n) rows
found_later n m None rows number other = refl
found_later n m (Some r) rows number other = rw (ne_eqb (item_number r) n (λ e. other (sym number ∙ e))) refl

pub found_in : (n : ℕ) (slots : List Slot) → Rises slots → All HasNumber slots → find (λ r. eqb (item_number r) n) (rows_in slots) ≡ (find (λ s. eqb (slot_number s) n) slots >>= λ s. s.row)
found_in n [] rise each = refl
found_in n (s ∷ ss) rise each =
    let number = All-head HasNumber s ss each in
    let rest = All-tail HasNumber s ss each in
    elim (cases_eq s.number n) [
      | inl same ↦
          let above : All (λ r. s.number < item_number r) (rows_in ss) = row_numbers (λ m. s.number < m) ss rest (head_below s ss rise) in
          rw (eq-eqb s.number n same) (found_here n s.row (rows_in ss) (subst (λ m. IfSome s.row (λ row. item_number row ≡ m)) same number) (λ k d lt e. (let less = above k d lt in absurd (omega (arith, less, e, same)))))
      | inr other ↦
          rw (ne_eqb s.number n other) (found_later n s.number s.row (rows_in ss) number other ∙ found_in n ss (tail_rises s ss rise) rest)
    ]

-- a slot is changed

-- an empty slot
abbrev pub emptied : Slot → Slot
emptied slot = record slot { row = None }

-- a slot whose row has another mode
abbrev pub moded : ℕ → Slot → Slot
moded mode slot = record slot { row = option_map (with_mode mode) slot.row }

row_of_one : (n : ℕ) (f : Slot → Slot) (s : Slot) → (changed_one slot_number n f s).row ≡ cond (eqb s.number n) (f s).row s.row
row_of_one n f s = elim (cases_Bool (eqb s.number n)) [ inl holds ↦ rw holds refl | inr fails ↦ rw fails refl ]

emptied_more : (n m : ℕ) (o : Option ItemRow) (rows : List ItemRow) → IfSome o (λ row. item_number row ≡ m) → cons_option (cond (eqb m n) None o) (filter (λ r. not (eqb (item_number r) n)) rows) ≡ filter (λ r. not (eqb (item_number r) n)) (cons_option o rows)
emptied_more n m None rows number = elim (cases_Bool (eqb m n)) [ inl holds ↦ rw holds refl | inr fails ↦ rw fails refl ]
emptied_more n m (Some r) rows number = rw number (elim (cases_Bool (eqb m n)) [ inl holds ↦ rw holds refl | inr fails ↦ rw fails refl ])

-- the rows without that of the slot
pub rows_emptied : (n : ℕ) (slots : List Slot) → All HasNumber slots → rows_in (map (changed_one slot_number n emptied) slots) ≡ filter (λ r. not (eqb (item_number r) n)) (rows_in slots)
rows_emptied n [] each = refl
rows_emptied n (s ∷ ss) each =
    (λ i. cons_option (row_of_one n emptied s i) (rows_emptied n ss (All-tail HasNumber s ss each) i))
    ∙ emptied_more n s.number s.row (rows_in ss) (All-head HasNumber s ss each)

moded_more : (n m mode : ℕ) (o : Option ItemRow) (rows : List ItemRow) → IfSome o (λ row. item_number row ≡ m) → cons_option (cond (eqb m n) (option_map (with_mode mode) o) o) (map (changed_one item_number n (with_mode mode)) rows) ≡ map (changed_one item_number n (with_mode mode)) (cons_option o rows)
moded_more n m mode None rows number = elim (cases_Bool (eqb m n)) [ inl holds ↦ rw holds refl | inr fails ↦ rw fails refl ]
moded_more n m mode (Some r) rows number = rw number (elim (cases_Bool (eqb m n)) [ inl holds ↦ rw holds refl | inr fails ↦ rw fails refl ])

-- the rows with another mode in it
pub rows_moded : (n mode : ℕ) (slots : List Slot) → All HasNumber slots → rows_in (map (changed_one slot_number n (moded mode)) slots) ≡ map (changed_one item_number n (with_mode mode)) (rows_in slots)
rows_moded n mode [] each = refl
rows_moded n mode (s ∷ ss) each =
    (λ i. cons_option (row_of_one n (moded mode) s i) (rows_moded n mode ss (All-tail HasNumber s ss each) i))
    ∙ moded_more n s.number mode s.row (rows_in ss) (All-head HasNumber s ss each)

-- the slot at the place of a number

pub row_found : (n k : ℕ) (slots : List Slot) (s : Slot) → AreNumbered slots → Some k ≡ place_of slot_number n slots → k < length slots → s ≡ get_or slots k s → s.row ≡ find_number item_number n (rows_in slots)
row_found n k slots s h is lt read =
    sym (find_number_is item_number n (rows_in slots) ∙ found_in n slots h.rise h.each
    ∙ ap (λ (o : Option Slot). o >>= λ t. t.row) (sym (find_number_is slot_number n slots) ∙ at_place slot_number n k slots s is lt read))

pub no_row_found : (n : ℕ) (slots : List Slot) → AreNumbered slots → None ≡ place_of slot_number n slots → None ≡ find_number item_number n (rows_in slots)
no_row_found n slots h is =
    sym (find_number_is item_number n (rows_in slots) ∙ found_in n slots h.rise h.each
    ∙ ap (λ (o : Option Slot). o >>= λ t. t.row) (sym (find_number_is slot_number n slots) ∙ no_place slot_number n slots is))

-- what its change makes of all slots
pub slot_changed : (f : Slot → Slot) (n k : ℕ) (slots : List Slot) (s now : Slot) → AreNumbered slots → Some k ≡ place_of slot_number n slots → k < length slots → s ≡ get_or slots k s → now ≡ f s → set slots k now ≡ map (changed_one slot_number n f) slots
slot_changed f n k slots s now h is lt read change =
    let number : slot_number (get_or slots k s) ≡ n = ap slot_number (sym read) ∙ has_number slot_number n slots s (at_place slot_number n k slots s is lt read) in
    ap (set slots k) (change ∙ ap f read) ∙ sym (changed_is slot_number n k f slots s h.rise lt number) ∙ change_is_map slot_number n f slots h.rise

pub none_changed : (f : Slot → Slot) (n : ℕ) (slots : List Slot) → AreNumbered slots → None ≡ place_of slot_number n slots → slots ≡ map (changed_one slot_number n f) slots
none_changed f n slots h is = ap (λ o. option_map_or (λ k. change_place k f slots) o slots) is ∙ change_is_map slot_number n f slots h.rise

-- what stays

all_mapped : {A : Type 0} (P : A → Type 0) (g : A → A) (xs : List A) → ((x : A) → P x → P (g x)) → All P xs → All P (map g xs)
all_mapped P g [] keeps all = All-nil P
all_mapped P g (x ∷ xs) keeps all = All-cons P (g x) (map g xs) (keeps x (All-head P x xs all)) (all_mapped P g xs keeps (All-tail P x xs all))

either : (P : Slot → Type 0) (n : ℕ) (f : Slot → Slot) (s : Slot) → P s → P (f s) → P (changed_one slot_number n f s)
either P n f s here there = elim (cases_Bool (eqb s.number n)) [ inl holds ↦ rw holds there | inr fails ↦ rw fails here ]

-- a change that keeps the number
pub numbered_still : (f : Slot → Slot) (n : ℕ) (slots new : List Slot) → ((s : Slot) → slot_number (f s) ≡ slot_number s) → ((s : Slot) → HasNumber s → HasNumber (f s)) → new ≡ map (changed_one slot_number n f) slots → AreNumbered slots → AreNumbered new
numbered_still f n slots new same keeps is h = subst AreNumbered (sym is) (record {
  rise = rise_mapped slot_number (changed_one slot_number n f) slots (λ s. either (λ t. slot_number t ≡ slot_number s) n f s refl (same s)) h.rise;
  each = all_mapped HasNumber (changed_one slot_number n f) slots (λ s right. either HasNumber n f s right (keeps s right)) h.each;
})

pub below_still : (f : Slot → Slot) (n next : ℕ) (slots new : List Slot) → ((s : Slot) → slot_number (f s) ≡ slot_number s) → new ≡ map (changed_one slot_number n f) slots → All (IsBelow next) slots → All (IsBelow next) new
below_still f n next slots new same is all =
    subst (All (IsBelow next)) (sym is) (all_mapped (IsBelow next) (changed_one slot_number n f) slots (λ s lt. either (IsBelow next) n f s lt (subst (λ m. m < next) (sym (same s)) lt)) all)

pub moded_number : (mode : ℕ) (s : Slot) → HasNumber s → HasNumber (moded mode s)
moded_number mode s h = by s.number s.row h where
  by : (n : ℕ) (o : Option ItemRow) → IfSome o (λ row. item_number row ≡ n) → IfSome (option_map (with_mode mode) o) (λ row. item_number row ≡ n)
  by n None h = h
  by n (Some r) h = h

-- empty slots are taken out

kept_more : (s : Slot) (o : Option ItemRow) (kept : List Slot) (rows : List ItemRow) → s.row ≡ o → rows_in kept ≡ rows → rows_in (cond (is_some s.row) (s ∷ kept) kept) ≡ cons_option s.row rows
kept_more s None kept rows e same = rw e same
kept_more s (Some r) kept rows e same = ap (λ o. rows_in (cond (is_some o) (s ∷ kept) kept)) e ∙ ap (cons_option s.row) same

pub rows_kept : (slots : List Slot) → rows_in (filter (λ s. is_some s.row) slots) ≡ rows_in slots
rows_kept [] = refl
rows_kept (s ∷ ss) = kept_more s s.row (filter (λ t. is_some t.row) ss) (rows_in ss) refl (rows_kept ss)

pub numbered_kept : (p : Slot → Bool) (slots new : List Slot) → new ≡ filter p slots → AreNumbered slots → AreNumbered new
numbered_kept p slots new is h = subst AreNumbered (sym is) (record {
  rise = AllPairs-filter (λ a b. slot_number a < slot_number b) p slots h.rise;
  each = All-filter p HasNumber slots h.each;
})

pub below_kept : (p : Slot → Bool) (next : ℕ) (slots new : List Slot) → new ≡ filter p slots → All (IsBelow next) slots → All (IsBelow next) new
below_kept p next slots new is all = subst (All (IsBelow next)) (sym is) (All-filter p (IsBelow next) slots all)

-- counts and new slots

all_stay : (n : ℕ) (rows : List ItemRow) → All (λ r. n < item_number r) rows → filter (λ r. not (eqb (item_number r) n)) rows ≡ rows
all_stay n [] all = refl
all_stay n (r ∷ rs) all =
    rw (ne_eqb (item_number r) n (λ e. (let lt = All-head (λ x. n < item_number x) r rs all in absurd (omega (arith, lt, e))))) (ap (λ l. r ∷ l) (all_stay n rs (All-tail (λ x. n < item_number x) r rs all)))

less : (n : ℕ) (rows : List ItemRow) → AllPairs (λ a b. item_number a < item_number b) rows → cond (is_some (find (λ r. eqb (item_number r) n) rows)) 1 0 + length (filter (λ r. not (eqb (item_number r) n)) rows) ≡ length rows
less n [] rise = refl
less n (r ∷ rs) rise = elim (cases_eq (item_number r) n) [
  | inl same ↦
      let rest = all_stay n rs (λ k d lt. (let above = rise 0 (suc k) d (omega arith) (omega arith) in omega (arith, above, same))) in
      let size = ap length rest in
      rw (eq-eqb (item_number r) n same) (omega (arith, size))
  | inr other ↦
      let rest = less n rs (λ i j d lt within. rise (suc i) (suc j) d (omega arith) (omega arith)) in
      rw (ne_eqb (item_number r) n other) (omega (arith, rest))
]

-- a number that is found is of one row
pub one_less : (n : ℕ) (rows : List ItemRow) → AllPairs (λ a b. item_number a < item_number b) rows → cond (is_some (find_number item_number n rows)) 1 0 + length (filter (λ r. not (eqb (item_number r) n)) rows) ≡ length rows
one_less n rows rise = ap (λ o. cond (is_some o) 1 0 + length (filter (λ (r : ItemRow). not (eqb (item_number r) n)) rows)) (find_number_is item_number n rows) ∙ less n rows rise

one_row : (o : Option ItemRow) → cons_option o [] ≡ option_to_list o
one_row None = refl
one_row (Some r) = refl

-- the rows of the slots so far, and of one more
pub rows_more : (slots : List Slot) (k : ℕ) (s : Slot) → k < length slots → s ≡ get_or slots k s → rows_in (take (k + 1) slots) ≡ rows_in (take k slots) ++ option_to_list s.row
rows_more slots k s lt is =
    ap rows_in (take_more slots k s lt)
    ∙ filter_map-append (λ (t : Slot). t.row) (take k slots) (get_or slots k s ∷ [])
    ∙ ap (λ (t : Slot). rows_in (take k slots) ++ cons_option t.row []) (sym is)
    ∙ ap (λ l. rows_in (take k slots) ++ l) (one_row s.row)

-- a new row in the last slot
pub rows_grown : (slots : List Slot) (n : ℕ) (r : ItemRow) → rows_in (slots ++ (let s : Slot = record { number = n; row = Some r } in s) ∷ []) ≡ rows_in slots ++ r ∷ []
rows_grown slots n r = filter_map-append (λ (t : Slot). t.row) slots ((let s : Slot = record { number = n; row = Some r } in s) ∷ [])

-- numbers that rise below an end are not more than it
few : (low next : ℕ) (slots : List Slot) → All (λ s. low ≤ slot_number s) slots → Rises slots → All (IsBelow next) slots → low ≤ next → low + length slots ≤ next
few low next [] above rise below le = omega (arith, le)
few low next (s ∷ ss) above rise below le =
    let first = All-head (λ t. low ≤ slot_number t) s ss above in
    let last = All-head (IsBelow next) s ss below in
    let rest = few (s.number + 1) next ss (λ k d lt. (let up = head_below s ss rise k d lt in omega (arith, up))) (tail_rises s ss rise) (All-tail (IsBelow next) s ss below) (omega (arith, last)) in
    omega (arith, first, last, rest)

fewer_more : (o : Option ItemRow) (rows : List ItemRow) (n : ℕ) → length rows ≤ n → length (cons_option o rows) ≤ suc n
fewer_more None rows n le = omega (arith, le)
fewer_more (Some r) rows n le = omega (arith, le)

fewer : (slots : List Slot) → length (rows_in slots) ≤ length slots
fewer [] = omega arith
fewer (s ∷ ss) = fewer_more s.row (rows_in ss) (length ss) (fewer ss)

pub count_below : (slots : List Slot) (count next : ℕ) → AreSlots slots count next → count ≤ next
count_below slots count next h =
    let all = few 0 next slots (λ k d lt. omega arith) h.numbered.rise h.below (omega arith) in
    let rows = fewer slots in
    let is = h.counted in
    omega (arith, all, rows, is)

-- a new row
pub slots_grown : (slots new : List Slot) (count next : ℕ) (row : ItemRow) → AreSlots slots count next → next ≤ item_number row → new ≡ slots ++ (let s : Slot = record { number = item_number row; row = Some row } in s) ∷ [] → AreSlots new (count + 1) (item_number row + 1)
slots_grown slots new count next row h le is =
    let last : Slot = record { number = item_number row; row = Some row } in
    let R : Slot → Slot → Type 0 = λ a b. slot_number a < slot_number b in
    let end = item_number row + 1 in
    let more = ap length (rows_grown slots (item_number row) row) ∙ length-append (rows_in slots) (row ∷ []) in
    let was = h.counted in
    subst (λ l. AreSlots l (count + 1) end) (sym is) (record {
      numbered = record {
        rise = all_pairs_push R slots last h.numbered.rise (λ k d lt. (let below = h.below k d lt in omega (arith, below, le)));
        each = All-append HasNumber slots (last ∷ []) h.numbered.each (All-cons HasNumber last [] refl (All-nil HasNumber));
      };
      below = All-append (IsBelow end) slots (last ∷ []) (λ k d lt. (let below = h.below k d lt in omega (arith, below, le))) (All-cons (IsBelow end) last [] (omega arith) (All-nil (IsBelow end)));
      counted = omega (arith, more, was);
    })

byte_is : (b : Bool) → bool_byte b ≡ cond b 1 0
byte_is true = refl
byte_is false = refl

-- a row that went
pub slots_emptied : (slots new : List Slot) (count next less n : ℕ) (found : Option ItemRow) → AreSlots slots count next → found ≡ find_number item_number n (rows_in slots) → less ≡ bool_byte (is_some found) → rows_in new ≡ filter (λ r. not (eqb (item_number r) n)) (rows_in slots) → AreNumbered new → All (IsBelow next) new → AreSlots new (count - less) next
slots_emptied slots new count next less n found h is fewer rows numbered below =
    let one = one_less n (rows_in slots) (rows_rise slots h.numbered.rise h.numbered.each) in
    let less_is = fewer ∙ byte_is (is_some found) ∙ ap (λ (o : Option ItemRow). cond (is_some o) 1 0) is in
    let left = ap length rows in
    let was = h.counted in
    record { numbered = numbered; below = below; counted = omega (arith, one, less_is, left, was) }

-- the items of a region that have some numbers go

all_pass : (p : ItemRow → Bool) (xs : List ItemRow) → All (λ x. p x ≡ true) xs → filter p xs ≡ xs
all_pass p [] all = refl
all_pass p (x ∷ xs) all = rw (All-head (λ y. p y ≡ true) x xs all) (ap (λ l. x ∷ l) (all_pass p xs (All-tail (λ y. p y ≡ true) x xs all)))

abbrev Rising : List ItemRow → Type 0
Rising rows = AllPairs (λ a b. item_number a < item_number b) rows

-- one row has the number
one_found : (n : ℕ) (xs : List ItemRow) (x : ItemRow) → Rising xs → find (λ y. eqb (item_number y) n) xs ≡ Some x → All (λ y. item_number y ≡ n → y ≡ x) xs
one_found n [] x rise e = absurd (cc e)
one_found n (y ∷ ys) x rise e = elim (cases_eq (item_number y) n) [
  | inl same ↦
      let is : y ≡ x = cc (rw (eq-eqb (item_number y) n same) at e) in
      All-cons (λ z. item_number z ≡ n → z ≡ x) y ys (λ _. is) (λ k d lt number. (let above = rise 0 (suc k) d (omega arith) (omega arith) in absurd (omega (arith, above, same, number))))
  | inr other ↦ All-cons (λ z. item_number z ≡ n → z ≡ x) y ys (λ number. absurd (other number)) (one_found n ys x (λ i j d lt within. rise (suc i) (suc j) d (omega arith) (omega arith)) (rw (ne_eqb (item_number y) n other) at e))
]

others_stay : (n r : ℕ) (xs : List ItemRow) (o : Option ItemRow) → Rising xs → find (λ y. eqb (item_number y) n) xs ≡ o → is_some_and o (λ item. eqb item.region.0 r) ≡ false → All (λ x. not (is_item_of r n x) ≡ true) xs
others_stay n r xs None rise e elsewhere = All-weaker xs (All_unfound (λ y. eqb (item_number y) n) xs e) where
  All-weaker : (l : List ItemRow) → All (λ x. eqb (item_number x) n ≡ false) l → All (λ x. not (is_item_of r n x) ≡ true) l
  All-weaker l all k d lt = ap (λ t. not (t && eqb (get_or l k d).region.0 r)) (all k d lt)
others_stay n r xs (Some x) rise e elsewhere = λ k d lt. elim (cases_eq (item_number (get_or xs k d)) n) [
  | inl same ↦
      let is = one_found n xs x rise e k d lt same in
      let away : eqb (get_or xs k d).region.0 r ≡ false = ap (λ (y : ItemRow). eqb y.region.0 r) is ∙ elsewhere in
      rw (eq-eqb _ n same, away) refl
  | inr other ↦ rw (ne_eqb _ n other) refl
]

here_too : (n r : ℕ) (xs : List ItemRow) (o : Option ItemRow) → Rising xs → find (λ y. eqb (item_number y) n) xs ≡ o → is_some_and o (λ item. eqb item.region.0 r) ≡ true → All (λ x. not (eqb (item_number x) n) ≡ not (is_item_of r n x)) xs
here_too n r xs None rise e here = absurd (false≢true here)
here_too n r xs (Some x) rise e here = λ k d lt. elim (cases_eq (item_number (get_or xs k d)) n) [
  | inl same ↦
      let is = one_found n xs x rise e k d lt same in
      let region : eqb (get_or xs k d).region.0 r ≡ true = ap (λ (y : ItemRow). eqb y.region.0 r) is ∙ here in
      rw (eq-eqb _ n same, region) refl
  | inr other ↦ rw (ne_eqb _ n other) refl
]

pub one_taken : (n r : ℕ) (rows : List ItemRow) → Rising rows → is_some_and (find_number item_number n rows) (λ item. eqb item.region.0 r) ≡ true → filter (λ x. not (eqb (item_number x) n)) rows ≡ filter (λ x. not (is_item_of r n x)) rows
one_taken n r rows rise here = filter_alike (λ (x : ItemRow). not (eqb (item_number x) n)) (λ x. not (is_item_of r n x)) rows (here_too n r rows (find_number item_number n rows) rise (sym (find_number_is item_number n rows)) here)

pub none_taken : (n r : ℕ) (rows : List ItemRow) → Rising rows → is_some_and (find_number item_number n rows) (λ item. eqb item.region.0 r) ≡ false → rows ≡ filter (λ x. not (is_item_of r n x)) rows
none_taken n r rows rise elsewhere = sym (all_pass (λ x. not (is_item_of r n x)) rows (others_stay n r rows (find_number item_number n rows) rise (sym (find_number_is item_number n rows)) elsewhere))

-- what is left at a place that was read
pub drop_read : (xs : List ℕ) (k n : ℕ) → slice_get xs k ≡ Some n → drop k xs ≡ n ∷ drop (k + 1) xs
drop_read xs k n e =
    let lt = slice_get_within xs k n e in
    let is : get_or xs k n ≡ n = cc (sym (slice_get-get_or xs k n lt) ∙ e) in
    drop_more xs k n lt ∙ ap (λ m. m ∷ drop (k + 1) xs) is

-- an item that stays where others of its number went
abbrev pub IsNamed : ℕ → List ℕ → ItemRow → Type 0
IsNamed r ns item = eqb item.region.0 r ≡ true → list_any (λ n. eqb (item_number item) n) ns ≡ true

both_fail : (a b : Bool) → a ≡ true → b ≡ true → not (a && b) ≡ true → false ≡ true
both_fail true true same here e = e
both_fail true false same here e = here
both_fail false b same here e = same

rest_holds : (a t : Bool) → a ≡ false → (a || t) ≡ true → t ≡ true
rest_holds true t e holds = absurd (false≢true (sym e))
rest_holds false t e holds = holds

named_still : (r n : ℕ) (ns : List ℕ) (rows : List ItemRow) → All (IsNamed r (n ∷ ns)) rows → All (λ item. not (is_item_of r n item) ≡ true) rows → All (IsNamed r ns) rows
named_still r n ns rows all stay k d lt here = elim (cases_Bool (eqb (item_number (get_or rows k d)) n)) [
  | inl same ↦ absurd (false≢true (both_fail (eqb (item_number (get_or rows k d)) n) (eqb (get_or rows k d).region.0 r) same here (stay k d lt)))
  | inr other ↦ rest_holds (eqb (item_number (get_or rows k d)) n) (list_any (λ m. eqb (item_number (get_or rows k d)) m) ns) other (all k d lt here)
]

pub all_taken : (r : ℕ) (ns : List ℕ) (rows : List ItemRow) → All (IsNamed r ns) rows → without_numbers r ns rows ≡ filter (λ item. not (eqb item.region.0 r)) rows
all_taken r [] rows all = sym (all_pass (λ item. not (eqb item.region.0 r)) rows (λ k d lt. elim (cases_Bool (eqb (get_or rows k d).region.0 r)) [
  | inl here ↦ absurd (false≢true (all k d lt here))
  | inr away ↦ rw away refl
]))
all_taken r (n ∷ ns) rows all =
    let stays : ItemRow → Bool = λ item. not (is_item_of r n item) in
    all_taken r ns (filter stays rows) (named_still r n ns (filter stays rows) (All-filter stays (IsNamed r (n ∷ ns)) rows all) (filter_passes stays rows))
    ∙ filter_kept (λ (item : ItemRow). not (eqb item.region.0 r)) stays rows (λ k d lt away. not_both (eqb (item_number (get_or rows k d)) n) (eqb (get_or rows k d).region.0 r) away) where
      not_both : (a b : Bool) → not b ≡ true → not (a && b) ≡ true
      not_both true b e = e
      not_both false b e = refl

-- where memory was held, the first of two results is the one
pub edited : {A : Type 0} (ok : Bool) (new a b : List A) → new ≡ cond ok a b → ok ≡ true → new ≡ a
edited ok new a b e sure = e ∙ ap (λ t. cond t a b) sure
