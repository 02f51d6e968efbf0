-- All lists together, and those of the schedule.
use Rattle.std.proofs.Common.{subst, ◌≡◌, ℕ, zero, suc, ◌+◌, ◌<◌, ◌≤◌, Bool, true, false, List, [], ◌∷◌, length, get_or, set, map, Option, Some, None, refl, sym, ap, ◌∙◌, arith}
use Rattle.std.specs.Prelude.{◌≢◌, filter, slice_get, slice_set}
use Rattle.std.specs.List.{range_with_len}
use Rattle.std.specs.Option.{option_map_or}
use Rattle.std.proofs.lemmas.List.{ext_get_or, get_or-set_same, get_or-set_other, length-set}
use Rattle.std.proofs.lemmas.List.FromFn.{get_or-map-range_with_len, length-map-range_with_len}
use Rattle.std.proofs.lemmas.Option.{slice_get-get_or}
use Rattle.fam_model.specs.declared.state.State.{State}
use Rattle.fam_model.specs.Lists.{change_place, numbers_below}
use Rattle.fam_schedule.specs.Schedule.{PieceName, ready_on, is_some_of}
use Rattle.ready_lists.specs.Lists.{has_name, IsSorted, AreSorted, names_at, may_come_on, busy_stripes}
use Rattle.ready_lists.proofs.Ready.{is_ready_on}

-- the list of a stripe

pub names_at-get_or : (lists : List (List PieceName)) (k : ℕ) → names_at lists k ≡ get_or lists k []
names_at-get_or [] k = refl
names_at-get_or (x ∷ xs) zero = refl
names_at-get_or (x ∷ xs) (suc k) = names_at-get_or xs k

pub names_at-changed : (f : List PieceName → List PieceName) (lists : List (List PieceName)) (k : ℕ) → k < length lists → names_at (change_place k f lists) k ≡ f (names_at lists k)
names_at-changed f lists k within =
    let there : slice_get lists k ≡ Some (get_or lists k []) = slice_get-get_or lists k [] within in
    let new : List PieceName = f (get_or lists k []) in
    ap (λ o. names_at (option_map_or (λ x. slice_set lists k (f x)) o lists) k) there
    ∙ names_at-get_or (set lists k new) k
    ∙ get_or-set_same lists k new [] within
    ∙ ap f (sym (names_at-get_or lists k))

other_by : (f : List PieceName → List PieceName) (lists : List (List PieceName)) (k j : ℕ) → j ≢ k → (o : Option (List PieceName)) → names_at (option_map_or (λ x. slice_set lists k (f x)) o lists) j ≡ names_at lists j
other_by f lists k j apart None = refl
other_by f lists k j apart (Some x) =
    names_at-get_or (set lists k (f x)) j ∙ get_or-set_other lists k j (f x) [] apart ∙ sym (names_at-get_or lists j)

pub names_at-other : (f : List PieceName → List PieceName) (lists : List (List PieceName)) (k j : ℕ) → j ≢ k → names_at (change_place k f lists) j ≡ names_at lists j
names_at-other f lists k j apart = other_by f lists k j apart (slice_get lists k)

length_by : {A : Type 0} (f : A → A) (xs : List A) (k : ℕ) (o : Option A) → length (option_map_or (λ x. slice_set xs k (f x)) o xs) ≡ length xs
length_by f xs k None = refl
length_by f xs k (Some x) = length-set xs k (f x)

pub length-change_place : {A : Type 0} (k : ℕ) (f : A → A) (xs : List A) → length (change_place k f xs) ≡ length xs
length-change_place k f xs = length_by f xs k (slice_get xs k)

-- each of them is sorted
pub names_at_sorted : (lists : List (List PieceName)) (k : ℕ) → AreSorted lists → k < length lists → IsSorted (names_at lists k)
names_at_sorted lists k all within = subst IsSorted (sym (names_at-get_or lists k)) (all k [] within)

-- all lists

pub same_lists : (xs ys : List (List PieceName)) → length xs ≡ length ys → ((k : ℕ) → k < length xs → names_at xs k ≡ names_at ys k) → xs ≡ ys
same_lists xs ys e same = ext_get_or [] xs ys e (λ k h. sym (names_at-get_or xs k) ∙ same k h ∙ names_at-get_or ys k)

-- those of the schedule
pub names_at-ready : (state : State) (n k : ℕ) → k < n → names_at (map (ready_on state) (numbers_below n)) k ≡ ready_on state k
names_at-ready state n k within =
    let from : 0 + k ≡ k = omega arith in
    names_at-get_or (map (ready_on state) (numbers_below n)) k ∙ get_or-map-range_with_len (ready_on state) 0 n k k [] within from

-- sorted lists of just the pieces that may come are those of the schedule
pub are_ready : (state : State) (n : ℕ) (lists : List (List PieceName)) → length lists ≡ n → AreSorted lists →
    ((k : ℕ) (name : PieceName) → k < n → has_name name (names_at lists k) ≡ may_come_on state k name) → lists ≡ map (ready_on state) (numbers_below n)
are_ready state n lists many sorted same =
    same_lists lists (map (ready_on state) (numbers_below n)) (many ∙ sym (length-map-range_with_len (ready_on state) 0 n)) (λ k h.
    let within : k < n = omega arith in
    is_ready_on state k (names_at lists k) (names_at_sorted lists k sorted h) (λ name. same k name within) ∙ sym (names_at-ready state n k within))

-- the stripes that have a piece

filtered_by : (p q : ℕ → Bool) (a : ℕ) (xs ys : List ℕ) (test : Bool) → p a ≡ test → p a ≡ q a → filter p xs ≡ filter q ys → filter p (a ∷ xs) ≡ filter q (a ∷ ys)
filtered_by p q a xs ys true e same rest = let other : q a ≡ true = sym same ∙ e in rw (e, other) (ap (λ zs. a ∷ zs) rest)
filtered_by p q a xs ys false e same rest = let other : q a ≡ false = sym same ∙ e in rw (e, other) rest

same_filter : (p q : ℕ → Bool) (end a n : ℕ) → a + n ≤ end → ((k : ℕ) → k < end → p k ≡ q k) → filter p (range_with_len a n) ≡ filter q (range_with_len a n)
same_filter p q end a zero within same = refl
same_filter p q end a (suc n) within same =
    let here : a < end = omega arith in
    let later : (a + 1) + n ≤ end = omega arith in
    filtered_by p q a (range_with_len (a + 1) n) (range_with_len (a + 1) n) (p a) refl (same a here) (same_filter p q end (a + 1) n later same)

-- are those that may act
pub busy_ready : (state : State) (n : ℕ) → busy_stripes (map (ready_on state) (numbers_below n)) ≡ filter (λ stripe. is_some_of (ready_on state stripe)) (numbers_below n)
busy_ready state n =
    let lists : List (List PieceName) = map (ready_on state) (numbers_below n) in
    let all : 0 + n ≤ n = omega arith in
    ap (λ m. filter (λ stripe. is_some_of (names_at lists stripe)) (numbers_below m)) (length-map-range_with_len (ready_on state) 0 n)
    ∙ same_filter (λ stripe. is_some_of (names_at lists stripe)) (λ stripe. is_some_of (ready_on state stripe)) n 0 n all (λ k h. ap is_some_of (names_at-ready state n k h))
