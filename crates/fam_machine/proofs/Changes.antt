-- What a change of the directory leaves of items, and of memory.
use Rattle.std.proofs.Common.{◌≡◌, ℕ, ◌<◌, ◌≤◌, List, [], ◌∷◌, ◌++◌, get_or, map, Option, Some, None, Bool, true, false, sym, ap, subst, ◌∙◌, arith, refl, eqb-true}
use Rattle.std.specs.Prelude.{◌==◌, ◌&&◌, not, nat_le, nat_lt, cond, All, filter, find, is_some, remove, replicate, slice_get, IsTrue}
use Rattle.std.specs.Option.{option_map, option_or}
use Rattle.std.specs.List.Sorted.{IsStrictlyIncreasing}
use Rattle.std.proofs.lemmas.Bool.{false≢true}
use Rattle.std.proofs.lemmas.Bool.Decides.{nat_tests}
use Rattle.std.proofs.lemmas.List.{map-append, length-map, length-replicate, append-nil, get_or-map}
use Rattle.std.proofs.lemmas.List.Elements.{All-cons, All-tail, All-head, All-nil, All-filter, All-map}
use Rattle.std.proofs.lemmas.List.Folds.{find-append}
use Rattle.std.proofs.lemmas.List.Quantifiers.{position-Some}
use Rattle.std.proofs.lemmas.Option.{none-some, same_Some}
use Rattle.fam_base.specs.declared.naming.ItemId.{ItemId}
use Rattle.fam_model.specs.declared.change.Change.{Change}
use Rattle.fam_model.specs.declared.change.Change.TheVariants as change
use Rattle.fam_model.specs.declared.rows.ItemRow.{ItemRow}
use Rattle.fam_model.specs.declared.rows.Rows.{Rows}
use Rattle.fam_model.specs.Directory.{after, memory_after, new_bytes, Memory}
use Rattle.fam_model.specs.Lawful.{is_lawful_change, is_next_number}
use Rattle.fam_model.specs.Limits.{number_end}
use Rattle.fam_model.specs.Lists.{◌>>=◌, change_number, drop_number, find_number, place_of}
use Rattle.fam_model.specs.PieceStep.{entry_number}
use Rattle.fam_model.specs.Rows.{IsLawful, item_of, item_number}
use Rattle.fam_rows.proofs.Places.{rises}
use Rattle.fam_directory.proofs.Moves.{removed_is}
use Rattle.fam_machine.specs.Sound.{entry_extent, item_extent, IsMemoryOf, taken_item, takes_region}
use Rattle.fam_machine.proofs.Lists.{find_number-find, found-filter, found_passes, found_holds, rise_behind, above_first, map-change_number, both_true}

-- lists

-- looking up in what a map leaves
pub found-map : {A B : Type 0} (h : A → B) (p : B → Bool) (xs : List A) → find p (map h xs) ≡ option_map h (find (λ x. p (h x)) xs)
found-map h p [] = refl
found-map h p (x ∷ xs) = here (p (h x)) (found-map h p xs)
  where
    here : (b : Bool) → find p (map h xs) ≡ option_map h (find (λ x. p (h x)) xs) → cond b (Some (h x)) (find p (map h xs)) ≡ option_map h (cond b (Some x) (find (λ x. p (h x)) xs))
    here true e = refl
    here false e = e

-- a filter before and after a map
filter-map : {A B : Type 0} (h : A → B) (p : B → Bool) (xs : List A) → filter p (map h xs) ≡ map h (filter (λ x. p (h x)) xs)
filter-map h p [] = refl
filter-map h p (x ∷ xs) = here (p (h x)) (filter-map h p xs)
  where
    here : (b : Bool) → filter p (map h xs) ≡ map h (filter (λ x. p (h x)) xs) → cond b (h x ∷ filter p (map h xs)) (filter p (map h xs)) ≡ map h (cond b (x ∷ filter (λ x. p (h x)) xs) (filter (λ x. p (h x)) xs))
    here true e = ap (λ ys. h x ∷ ys) e
    here false e = e

-- tests that agree at each element keep the same ones
filter_agree_on : {A : Type 0} (p q : A → Bool) (xs : List A) → All (λ x. p x ≡ q x) xs → filter p xs ≡ filter q xs
filter_agree_on p q [] all = refl
filter_agree_on p q (x ∷ xs) all =
    let here : p x ≡ q x = All-head (λ x. p x ≡ q x) x xs all in
    let rest : filter p xs ≡ filter q xs = filter_agree_on p q xs (All-tail (λ x. p x ≡ q x) x xs all) in
    (λ i. cond (here i) (x ∷ rest i) (rest i))

filter_all : {A : Type 0} (xs : List A) → filter (λ x. true) xs ≡ xs
filter_all [] = refl
filter_all (x ∷ xs) = ap (λ ys. x ∷ ys) (filter_all xs)

some-map : {A B : Type 0} (h : A → B) (o : Option A) → is_some (option_map h o) ≡ is_some o
some-map h None = refl
some-map h (Some x) = refl

or_none : {A : Type 0} (o : Option A) → option_or o None ≡ o
or_none None = refl
or_none (Some x) = refl

some-or : {A : Type 0} (o p : Option A) → is_some o ≡ true → is_some (option_or o p) ≡ true
some-or None p e = absurd (false≢true e)
some-or (Some x) p e = refl

pub mapped_some : {A B : Type 0} (h : A → B) (o : Option A) (y : B) → option_map h o ≡ Some y → (x : A) × (o ≡ Some x) × (h x ≡ y)
mapped_some h None y e = absurd (none-some y e)
mapped_some h (Some x) y e = (x, refl, same_Some (h x) y e)

-- which numbers are found among the kept elements

no_lower : {A : Type 0} (number : A → ℕ) (x : A) (xs : List A) (o : Option A) → find (λ y. number y == number x) xs ≡ o → All (λ y. number x < number y) xs → is_some o ≡ false
no_lower number x xs None e above = refl
no_lower number x xs (Some y) e above =
    let pass : (number y == number x) ≡ true = found_passes (λ y. number y == number x) xs y e in
    let less : number x < number y = found_holds (λ y. number x < number y) (λ y. number y == number x) xs y e above in
    absurd (grind (arith, nat_tests))

kept_head : {A : Type 0} (number : A → ℕ) (x : A) (xs : List A) (keep : Bool) → All (λ y. number x < number y) xs → is_some (find (λ y. number y == number x) (cond keep (x ∷ xs) xs)) ≡ keep
kept_head number x xs true above = let same : (number x == number x) ≡ true = grind (arith, nat_tests) in ap (λ b. is_some (cond b (Some x) (find (λ y. number y == number x) xs))) same
kept_head number x xs false above = no_lower number x xs (find (λ y. number y == number x) xs) refl above

kept_tail : {A : Type 0} (number : A → ℕ) (x z : A) (xs : List A) (keep : Bool) → number x < number z → find (λ y. number y == number z) (cond keep (x ∷ xs) xs) ≡ find (λ y. number y == number z) xs
kept_tail number x z xs true less = let other : (number x == number z) ≡ false = grind (arith, nat_tests) in ap (λ b. cond b (Some x) (find (λ y. number y == number z) xs)) other
kept_tail number x z xs false less = refl

-- of different numbers just those of the kept elements are found
kept_found : {A : Type 0} (number : A → ℕ) (keep : A → Bool) (xs : List A) → IsStrictlyIncreasing (map number xs) → All (λ x. is_some (find (λ y. number y == number x) (filter keep xs)) ≡ keep x) xs
kept_found number keep [] rise = All-nil _
kept_found number keep (x ∷ xs) rise =
    let above = above_first number x xs rise in
    let all = kept_found number keep xs (rise_behind number x xs rise) in
    All-cons (λ z. is_some (find (λ y. number y == number z) (filter keep (x ∷ xs))) ≡ keep z) x xs
    (kept_head number x (filter keep xs) (keep x) (All-filter keep (λ y. number x < number y) xs above))
    (λ k d lt. ap is_some (kept_tail number x (get_or xs k d) (filter keep xs) (keep x) (above k d lt)) ∙ all k d lt)

all_found : {A : Type 0} (number : A → ℕ) (xs : List A) → IsStrictlyIncreasing (map number xs) → All (λ x. is_some (find (λ y. number y == number x) xs) ≡ true) xs
all_found {A} number xs rise =
    subst (λ ys. All (λ x. is_some (find (λ y. number y == number x) ys) ≡ true) xs) (filter_all xs) (kept_found number (λ (x : A). true) xs rise)

-- items

-- what a change leaves of the items that there were: none is new under an old number, and none has another size
pub record KeepsItems (old new : Rows) : Type 0 where
  pub next : old.next_item ≤ new.next_item
  pub items : (n : ℕ) (row : ItemRow) → n < old.next_item → item_of new n ≡ Some row → (before : ItemRow) × (item_of old n ≡ Some before) × (row.size ≡ before.size)

-- rows whose items are the same
same_items : (old new : Rows) → old.items ≡ new.items → old.next_item ≤ new.next_item → KeepsItems old new
same_items old new e le = record { next = le; items = λ n row lt f. (row, ap (λ xs. find_number item_number n xs) e ∙ f, refl) }

-- rows of which some items are kept
kept_items : (old new : Rows) (keep : ItemRow → Bool) → IsStrictlyIncreasing (map item_number old.items) → new.items ≡ filter keep old.items → old.next_item ≤ new.next_item → KeepsItems old new
kept_items old new keep rise e le =
    record {
      next = le;
      items = λ n row lt f. (row, find_number-find item_number n old.items ∙ found-filter item_number keep n old.items row rise (sym (find_number-find item_number n (filter keep old.items)) ∙ sym (ap (λ xs. find_number item_number n xs) e) ∙ f), refl);
    }

-- the extent of an item, by the extents of all
pub extent_of : (n : ℕ) (items : List ItemRow) → option_map item_extent (find_number item_number n items) ≡ find (λ e. e.0 == n) (map item_extent items)
extent_of n items = ap (λ o. option_map item_extent o) (find_number-find item_number n items) ∙ sym (found-map item_extent (λ e. e.0 == n) items)

-- rows whose items have the same numbers and sizes
same_extents : (old new : Rows) → map item_extent new.items ≡ map item_extent old.items → old.next_item ≤ new.next_item → KeepsItems old new
same_extents old new e le =
    record {
      next = le;
      items = λ n row lt f.
          let there = mapped_some item_extent (item_of old n) (item_extent row)
          (extent_of n old.items ∙ ap (λ es. find (λ e. e.0 == n) es) (sym e) ∙ sym (extent_of n new.items) ∙ ap (λ o. option_map item_extent o) f) in
          (there.0, there.1, sym (ap (λ e. e.1) there.2));
    }

-- rows with one more item, of the next number
one_more_item : (old new : Rows) (row : ItemRow) → new.items ≡ old.items ++ row ∷ [] → item_number row ≡ old.next_item → old.next_item ≤ new.next_item → KeepsItems old new
one_more_item old new added e number le =
    record {
      next = le;
      items = λ n row lt f.
          let other : (item_number added == n) ≡ false = grind (arith, nat_tests) in
          let last : find (λ x. item_number x == n) (added ∷ []) ≡ None = ap (λ b. cond b (Some added) None) other in (
            row,
            find_number-find item_number n old.items
                ∙ sym (or_none (find (λ x. item_number x == n) old.items))
                ∙ ap (λ o. option_or (find (λ x. item_number x == n) old.items) o) (sym last)
                ∙ sym (find-append (λ x. item_number x == n) old.items (added ∷ []))
                ∙ sym (find_number-find item_number n (old.items ++ added ∷ []))
                ∙ ap (λ xs. find_number item_number n xs) (sym e) ∙ f,
            refl,
          );
    }

first_of_five : (a b c d e : Bool) → (a && b && c && d && e) ≡ true → a ≡ true
first_of_five true b c d e t = refl
first_of_five false b c d e t = absurd (false≢true t)

last_of_four : (a b c d : Bool) → (a && b && c && d) ≡ true → c ≡ true
last_of_four true true true d t = refl
last_of_four true true false d t = absurd (false≢true t)
last_of_four true false c d t = absurd (false≢true t)
last_of_four false b c d t = absurd (false≢true t)

-- the number that a lawful allocation takes is the next one
next_taken : (number next : ℕ) → is_next_number number next ≡ true → number ≡ next
next_taken number next e = let parts = both_true (number == next) (nat_lt number number_end) e in grind (arith, nat_tests, parts.0)

-- a lawful change keeps items
pub keeps_items : (rows : Rows) (chosen : Change) → IsLawful rows → IsTrue (is_lawful_change rows chosen) → KeepsItems rows (after rows chosen)
keeps_items rows (change.CreateRegion region uid gid mode size name) lawful ok = same_items _ _ refl (omega arith)
keeps_items rows (change.DestroyRegion region) lawful ok =
    kept_items _ _ (λ item. not (item.region.0 == region.0)) lawful.item_numbers_rise refl (omega arith)
keeps_items rows (change.ResizeRegion region size) lawful ok = same_items _ _ refl (omega arith)
keeps_items rows (change.SetRegionMode region mode) lawful ok = same_items _ _ refl (omega arith)
keeps_items rows (change.Allocate item region base size uid gid mode name) lawful ok =
    let taken : item.0 ≡ rows.next_item = next_taken _ _ (first_of_five (is_next_number item.0 rows.next_item) _ _ _ _ ok) in
    one_more_item _ _ _ refl taken (omega arith)
keeps_items rows (change.Deallocate item) lawful ok =
    kept_items _ _ (λ row. not (item_number row == item.0)) lawful.item_numbers_rise refl (omega arith)
keeps_items rows (change.SetItemMode item mode) lawful ok =
    same_extents _ _ (map-change_number item_extent item_number item.0 (λ row. record row { mode = mode }) rows.items (λ row. refl)) (omega arith)
keeps_items rows (change.Skip next_region next_item) lawful ok =
    let above : nat_le rows.next_item next_item ≡ true = last_of_four (nat_le rows.next_region next_region) (nat_le next_region number_end) (nat_le rows.next_item next_item) (nat_le next_item number_end) ok in
    same_items _ _ refl (grind (arith, nat_tests))

-- memory

-- memory of which just the bytes of items that are there are kept
memory_kept : (items now : List ItemRow) (memory : Memory) (keep : ItemRow → Bool) → IsMemoryOf items memory → All (λ row. is_some (find_number item_number (item_number row) now) ≡ keep row) items → IsMemoryOf (filter keep items) (filter (λ entry. is_some (find_number item_number entry.0.0 now)) memory)
memory_kept items now memory keep same there =
    let is_there : ℕ × ℕ → Bool = λ e. is_some (find_number item_number e.0 now) in
    sym (filter-map entry_extent is_there memory) ∙ ap (λ es. filter is_there es) same ∙ filter-map item_extent is_there items
    ∙ ap (λ xs. map item_extent xs) (filter_agree_on (λ row. is_some (find_number item_number (item_number row) now)) keep items there)

-- items of the same numbers and sizes are all found
same_found : (items now : List ItemRow) → IsStrictlyIncreasing (map item_number items) → map item_extent now ≡ map item_extent items → All (λ row. is_some (find_number item_number (item_number row) now) ≡ true) items
same_found items now rise e = λ k d lt.
    let n = item_number (get_or items k d) in
    sym (some-map item_extent (find_number item_number n now)) ∙ ap is_some (extent_of n now ∙ ap (λ es. find (λ e. e.0 == n) es) e ∙ sym (extent_of n items))
    ∙ some-map item_extent (find_number item_number n items) ∙ ap is_some (find_number-find item_number n items) ∙ all_found item_number items rise k d lt

-- memory of rows that have items of the same numbers and sizes
memory_same : (items now : List ItemRow) (memory : Memory) → IsMemoryOf items memory → IsStrictlyIncreasing (map item_number items) → map item_extent now ≡ map item_extent items → IsMemoryOf now (filter (λ entry. is_some (find_number item_number entry.0.0 now)) memory)
memory_same items now memory same rise e =
    memory_kept items now memory (λ row. true) same (same_found items now rise e) ∙ ap (λ xs. map item_extent xs) (filter_all items) ∙ sym e

-- memory with the bytes of one more item
memory_more : (items : List ItemRow) (added : ItemRow) (memory more : Memory) → IsMemoryOf items memory → IsStrictlyIncreasing (map item_number items) → map entry_extent more ≡ item_extent added ∷ [] → IsMemoryOf (items ++ added ∷ []) (filter (λ entry. is_some (find_number item_number entry.0.0 (items ++ added ∷ []))) memory ++ more)
memory_more items added memory more same rise e =
    let now = items ++ added ∷ [] in
    let all : All (λ row. is_some (find_number item_number (item_number row) now) ≡ true) items = λ k d lt.
    let n = item_number (get_or items k d) in
    ap is_some (find_number-find item_number n now ∙ find-append (λ row. item_number row == n) items (added ∷ []))
    ∙ some-or (find (λ row. item_number row == n) items) (find (λ row. item_number row == n) (added ∷ [])) (all_found item_number items rise k d lt)
    in
    map-append entry_extent (filter (λ entry. is_some (find_number item_number entry.0.0 now)) memory) more
    ∙ ap (λ es. es ++ map entry_extent more) (memory_kept items now memory (λ row. true) same all ∙ ap (λ xs. map item_extent xs) (filter_all items))
    ∙ ap (λ es. map item_extent items ++ es) e ∙ sym (map-append item_extent items (added ∷ []))

-- what a filter keeps, looked up by number
kept_by_number : (items : List ItemRow) (keep : ItemRow → Bool) → IsStrictlyIncreasing (map item_number items) → All (λ row. is_some (find_number item_number (item_number row) (filter keep items)) ≡ keep row) items
kept_by_number items keep rise k d lt =
    ap is_some (find_number-find item_number (item_number (get_or items k d)) (filter keep items)) ∙ kept_found item_number keep items rise k d lt

nothing_more : (items now : List ItemRow) (memory : Memory) → IsMemoryOf now memory → IsMemoryOf now (memory ++ [])
nothing_more items now memory same = ap (λ xs. map entry_extent xs) (append-nil memory) ∙ same

-- memory follows the rows
pub memory_follows : (rows : Rows) (chosen : Change) (memory : Memory) → IsLawful rows → IsMemoryOf rows.items memory → IsMemoryOf (after rows chosen).items (memory_after rows chosen memory)
memory_follows rows (change.CreateRegion region uid gid mode size name) memory lawful same =
    nothing_more rows.items _ _ (memory_same rows.items rows.items memory same lawful.item_numbers_rise refl)
memory_follows rows (change.DestroyRegion region) memory lawful same =
    let keep : ItemRow → Bool = λ item. not (item.region.0 == region.0) in
    nothing_more rows.items _ _ (memory_kept rows.items (filter keep rows.items) memory keep same (kept_by_number rows.items keep lawful.item_numbers_rise))
memory_follows rows (change.ResizeRegion region size) memory lawful same =
    nothing_more rows.items _ _ (memory_same rows.items rows.items memory same lawful.item_numbers_rise refl)
memory_follows rows (change.SetRegionMode region mode) memory lawful same =
    nothing_more rows.items _ _ (memory_same rows.items rows.items memory same lawful.item_numbers_rise refl)
memory_follows rows (change.Allocate item region base size uid gid mode name) memory lawful same =
    memory_more rows.items _ memory _ same lawful.item_numbers_rise (ap (λ n. (item.0, n) ∷ []) (length-replicate size 0))
memory_follows rows (change.Deallocate item) memory lawful same =
    let keep : ItemRow → Bool = λ row. not (item_number row == item.0) in
    nothing_more rows.items _ _ (memory_kept rows.items (filter keep rows.items) memory keep same (kept_by_number rows.items keep lawful.item_numbers_rise))
memory_follows rows (change.SetItemMode item mode) memory lawful same =
    nothing_more rows.items _ _ (memory_same rows.items _ memory same lawful.item_numbers_rise
    (map-change_number item_extent item_number item.0 (λ row. record row { mode = mode }) rows.items (λ row. refl)))
memory_follows rows (change.Skip next_region next_item) memory lawful same =
    nothing_more rows.items _ _ (memory_same rows.items rows.items memory same lawful.item_numbers_rise refl)

-- allocations

unmapped : {A B : Type 0} (P : B → Type 0) (f : A → B) (xs : List A) → All P (map f xs) → All (λ x. P (f x)) xs
unmapped P f xs all k d lt = subst P (get_or-map f xs k d (f d) lt) (all k (f d) (omega (arith, length-map xs f)))

-- the bytes of items that are all found stay
all_stay : (items now : List ItemRow) (memory : Memory) → IsMemoryOf items memory → All (λ row. is_some (find_number item_number (item_number row) now) ≡ true) items → filter (λ entry. is_some (find_number item_number entry.0.0 now)) memory ≡ memory
all_stay items now memory same rows =
    let is_there : ℕ × ℕ → Type 0 = λ e. is_some (find_number item_number e.0 now) ≡ true in
    let extents : All is_there (map entry_extent memory) = subst (All is_there) (sym same) (All-map is_there item_extent items rows) in
    let entries : All (λ entry. is_there (entry_extent entry)) memory = unmapped is_there entry_extent memory extents in
    filter_agree_on (λ entry. is_some (find_number item_number entry.0.0 now)) (λ entry. true) memory entries ∙ filter_all memory

-- memory keeps the bytes of all items where one more is there
old_kept : (items : List ItemRow) (added : ItemRow) (memory : Memory) → IsMemoryOf items memory → IsStrictlyIncreasing (map item_number items) → filter (λ entry. is_some (find_number item_number entry.0.0 (items ++ added ∷ []))) memory ≡ memory
old_kept items added memory same rise =
    let now = items ++ added ∷ [] in
    all_stay items now memory same (λ k d lt.
    let n = item_number (get_or items k d) in
    ap is_some (find_number-find item_number n now ∙ find-append (λ row. item_number row == n) items (added ∷ []))
    ∙ some-or (find (λ row. item_number row == n) items) (find (λ row. item_number row == n) (added ∷ [])) (all_found item_number items rise k d lt))

-- a change that makes an item adds its bytes, and leaves those of the others
pub memory_with_new : (rows : Rows) (chosen : Change) (memory : Memory) (new : ItemId × List ℕ) → IsLawful rows → IsMemoryOf rows.items memory → new_bytes chosen ≡ new ∷ [] → memory_after rows chosen memory ≡ memory ++ new ∷ []
memory_with_new rows (change.Allocate item region base size uid gid mode name) memory new lawful same e =
    (λ i. old_kept rows.items (record { number = item; region = region; base = base; size = size; uid = uid; gid = gid; mode = mode; name = name }) memory same lawful.item_numbers_rise i ++ e i)
memory_with_new rows chosen memory new lawful same e = absurd (no_bytes e)
  where
    no_bytes : ◌≡◌ {A = Memory} [] (new ∷ []) → ⊥
    no_bytes e = cc

-- a change that makes none only drops bytes
pub memory_without_new : (rows : Rows) (chosen : Change) (memory : Memory) → new_bytes chosen ≡ [] → memory_after rows chosen memory ≡ filter (λ entry. is_some (item_of (after rows chosen) entry.0.0)) memory
memory_without_new rows chosen memory e =
    let kept = filter (λ entry. is_some (item_of (after rows chosen) entry.0.0)) memory in ap (λ new. kept ++ new) e ∙ append-nil kept

-- a change that takes one item away drops its bytes
pub one_taken : (rows : Rows) (chosen : Change) (memory : Memory) (item : ItemId) → IsLawful rows → IsMemoryOf rows.items memory → taken_item chosen ≡ Some item →
    drop_number entry_number item.0 memory ≡ filter (λ entry. is_some (item_of (after rows chosen) entry.0.0)) memory
one_taken rows (change.Deallocate gone) memory item lawful same e =
    let keep : ItemRow → Bool = λ row. not (item_number row == gone.0) in
    let now = filter keep rows.items in
    let agrees : ℕ × ℕ → Type 0 = λ x. is_some (find_number item_number x.0 now) ≡ not (x.0 == gone.0) in
    let extents : All agrees (map entry_extent memory) = subst (All agrees) (sym same) (All-map agrees item_extent rows.items (kept_by_number rows.items keep lawful.item_numbers_rise)) in
    let entries : All (λ entry. agrees (entry_extent entry)) memory = unmapped agrees entry_extent memory extents in
    ap (λ (i : ItemId). drop_number entry_number i.0 memory) (sym (same_Some gone item e))
    ∙ sym (filter_agree_on (λ entry. is_some (find_number item_number entry.0.0 now)) (λ entry. not (entry.0.0 == gone.0)) memory entries)
one_taken rows (change.CreateRegion region uid gid mode size name) memory item lawful same e = absurd (none-some item e)
one_taken rows (change.DestroyRegion region) memory item lawful same e = absurd (none-some item e)
one_taken rows (change.ResizeRegion region size) memory item lawful same e = absurd (none-some item e)
one_taken rows (change.SetRegionMode region mode) memory item lawful same e = absurd (none-some item e)
one_taken rows (change.Allocate i region base size uid gid mode name) memory item lawful same e = absurd (none-some item e)
one_taken rows (change.SetItemMode i mode) memory item lawful same e = absurd (none-some item e)
one_taken rows (change.Skip next_region next_item) memory item lawful same e = absurd (none-some item e)

-- a change that takes no item away and makes none leaves all bytes
pub none_taken : (rows : Rows) (chosen : Change) (memory : Memory) → IsLawful rows → IsMemoryOf rows.items memory → taken_item chosen ≡ None → takes_region chosen ≡ false → new_bytes chosen ≡ [] →
    filter (λ entry. is_some (item_of (after rows chosen) entry.0.0)) memory ≡ memory
none_taken rows (change.CreateRegion region uid gid mode size name) memory lawful same none stays makes = all_stay rows.items rows.items memory same (same_found rows.items rows.items lawful.item_numbers_rise refl)
none_taken rows (change.ResizeRegion region size) memory lawful same none stays makes = all_stay rows.items rows.items memory same (same_found rows.items rows.items lawful.item_numbers_rise refl)
none_taken rows (change.SetRegionMode region mode) memory lawful same none stays makes = all_stay rows.items rows.items memory same (same_found rows.items rows.items lawful.item_numbers_rise refl)
none_taken rows (change.Skip next_region next_item) memory lawful same none stays makes = all_stay rows.items rows.items memory same (same_found rows.items rows.items lawful.item_numbers_rise refl)
none_taken rows (change.SetItemMode item mode) memory lawful same none stays makes =
    let now = change_number item_number item.0 (λ row. record row { mode = mode }) rows.items in
    all_stay rows.items now memory same (same_found rows.items now lawful.item_numbers_rise (map-change_number item_extent item_number item.0 (λ row. record row { mode = mode }) rows.items (λ row. refl)))
none_taken rows (change.Deallocate item) memory lawful same none stays makes = absurd (none-some item (sym none))
none_taken rows (change.DestroyRegion region) memory lawful same none stays makes = absurd (false≢true (sym stays))
none_taken rows (change.Allocate item region base size uid gid mode name) memory lawful same none stays makes = absurd (some_bytes makes)
  where
    some_bytes : ◌≡◌ {A = Memory} ((item, replicate size 0) ∷ []) [] → ⊥
    some_bytes e = cc

-- what is not there is dropped from nowhere
pub nothing_dropped : {A : Type 0} (number : A → ℕ) (n : ℕ) (xs : List A) → find (λ x. number x == n) xs ≡ None → drop_number number n xs ≡ xs
nothing_dropped number n [] e = refl
nothing_dropped number n (x ∷ xs) e = here (number x == n) refl e (nothing_dropped number n xs)
  where
    here : (b : Bool) → (number x == n) ≡ b → cond b (Some x) (find (λ y. number y == n) xs) ≡ None → (find (λ y. number y == n) xs ≡ None → drop_number number n xs ≡ xs) → drop_number number n (x ∷ xs) ≡ x ∷ xs
    here true is none rest = absurd (none-some x (sym none))
    here false is none rest = ap (λ b. cond (not b) (x ∷ drop_number number n xs) (drop_number number n xs)) is ∙ ap (λ ys. x ∷ ys) (rest none)

pub nothing_there : (memory : Memory) (item : ItemId) → place_of entry_number item.0 memory ≡ None → drop_number entry_number item.0 memory ≡ memory
nothing_there memory item e =
    nothing_dropped entry_number item.0 memory (sym (find_number-find entry_number item.0 memory) ∙ ap (λ o. o >>= λ k. slice_get memory k) e)

-- where an entry lies it is taken out
pub entry_removed : (memory : Memory) (item : ItemId) (at : ℕ) → IsStrictlyIncreasing (map entry_number memory) → place_of entry_number item.0 memory ≡ Some at → remove memory at ≡ drop_number entry_number item.0 memory
entry_removed memory item at rise e =
    let there = position-Some (λ entry. entry_number entry == item.0) memory at (item, []) e in
    removed_is entry_number item.0 at memory (item, []) (rises entry_number memory rise) there.0 (eqb-true _ _ there.1)
