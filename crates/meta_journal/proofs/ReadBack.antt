-- What is read of an area stands there.
use Rattle.std.proofs.Common.{◌≡◌, ◌≢◌, ℕ, zero, suc, ◌+◌, ◌-◌, ◌<◌, ◌≤◌, Bool, true, false, cond, List, [], ◌∷◌, ◌++◌, length, get_or, take, drop, refl, sym, ap, subst, ◌∙◌, append_assoc, arith, rules, inl, inr, nat_lt, nat_le, length-take, length-drop, length-append}
use Rattle.std.specs.Prelude.{◌⊎◌, Option, Some, None, Result, Ok, Err, IsTrue, ◌==◌, ◌&&◌}
use Rattle.std.specs.Int.{w32, from_le_bytes}
use Rattle.std.proofs.lemmas.Bool.{cases_lt}
use Rattle.std.proofs.lemmas.Bool.Decides.{nat_tests}
use Rattle.std.proofs.lemmas.List.{take_all, take-append-drop, get_or-drop, get_or-take, get_or_past}
use Rattle.std.proofs.lemmas.Nat.{le_bytes_4}
use Rattle.fam_model.specs.declared.rows.Rows.{Rows}
use Rattle.fam_model.specs.declared.change.Change.{Change}
use Rattle.fam_model.specs.Directory.{after}
use Rattle.fam_model.specs.Journal.{record_length}
use Rattle.fam_model.specs.Lawful.{is_lawful_change}
use Rattle.fam_model.specs.Lists.{◌>>=◌, when}
use Rattle.meta_codec.specs.Body.{HasBody, u32}
use Rattle.meta_codec.specs.Reading.{Field, number_at, decoded}
use Rattle.meta_codec.proofs.Spelled.{IsBytes, decoded-spelled}
use Rattle.meta_codec.proofs.OneSpelling.{length-body}
use Rattle.meta_journal.specs.Image.{AreLawful}
use Rattle.meta_journal.specs.Layout.{record_bytes, records}
use Rattle.meta_journal.specs.Opening.{summed, read_from}
use Rattle.meta_journal.specs.Reading.{Contents, body_at, change_at, records_from, with_first, damaged_unless}
use Rattle.meta_journal.specs.Versions.{may_hold, fits_first_version}

pub is_bytes-drop : (n : ℕ) (bytes : List ℕ) → IsBytes bytes → IsBytes (drop n bytes)
is_bytes-drop n bytes fits i = rw get_or-drop (fits (n + i))

pub is_bytes-take : (n : ℕ) (bytes : List ℕ) → IsBytes bytes → IsBytes (take n bytes)
is_bytes-take n bytes fits i =
    elim (cases_lt i n) [
      | inl lt ↦ rw (get_or-take n bytes i 0 lt) (fits i)
      | inr le ↦ rw (get_or_past (take n bytes) i 0 (omega (arith, length-take n bytes))) (omega arith)
    ]

-- the value of a step that gave one
bound : {A B : Type 0} (o : Option A) (f : A → Option B) (y : B) → (o >>= f) ≡ Some y → (x : A) × (o ≡ Some x) × (f x ≡ Some y)
bound (Some x) f y is = (x, refl, is)
bound None f y is = absurd cc

-- a test that held
held : {A : Type 0} (test : Bool) (x y : A) → when test x ≡ Some y → (test ≡ true) × (x ≡ y)
held true x y is = (refl, cc)
held false x y is = absurd cc

at_most : (a b : ℕ) → nat_le a b ≡ true → a ≤ b
at_most a b test = grind (arith, nat_tests)

below : (a b : ℕ) → nat_lt a b ≡ true → a < b
below a b test = grind (arith, nat_tests)

-- a length in front
record Sized (bytes : List ℕ) (size : ℕ) (rest : List ℕ) : Type 0 where
  parts : bytes ≡ u32 size ++ rest
  rest_fits : IsBytes rest

sized : (bytes : List ℕ) (x : ℕ × List ℕ) → IsBytes bytes → number_at w32 bytes ≡ Some x → Sized bytes x.0 x.1
unfolding number_at
sized bytes x fits is =
    let made : ℕ × List ℕ = (from_le_bytes w32 (take 4 bytes), drop 4 bytes) in
    let test = held (nat_le 4 (length bytes)) made x is in
    let long : length (take 4 bytes) ≡ 4 = omega (arith, at_most 4 (length bytes) test.0, length-take 4 bytes) in
    let again : u32 (from_le_bytes w32 (take 4 bytes)) ≡ take 4 bytes = le_bytes_4 (take 4 bytes) _ long (is_bytes-take 4 bytes fits) refl in
    subst (λ (y : ℕ × List ℕ). Sized bytes y.0 y.1) test.1
    (record { parts = sym (ap (λ (l : List ℕ). l ++ drop 4 bytes) again ∙ take-append-drop 4 bytes); rest_fits = is_bytes-drop 4 bytes fits })

-- a body, with its length in front and something behind
record Bodied (bytes text rest : List ℕ) : Type 0 where
  parts : bytes ≡ (u32 (length text) ++ text) ++ rest
  behind : 0 < length rest
  text_fits : IsBytes text
  rest_fits : IsBytes rest

bodied : (bytes : List ℕ) (x : List ℕ × List ℕ) → IsBytes bytes → body_at bytes ≡ Some x → Bodied bytes x.0 x.1
unfolding body_at
bodied bytes x fits is =
    let size = bound (number_at w32 bytes) (λ size. when (nat_lt size.0 (length size.1)) (take size.0 size.1, drop size.0 size.1)) x is in
    let front = sized bytes size.0 fits size.1 in
    let n : ℕ = size.0.0 in
    let rest : List ℕ = size.0.1 in
    let made : List ℕ × List ℕ = (take n rest, drop n rest) in
    let test = held (nat_lt n (length rest)) made x size.2 in
    let inside : n < length rest = below n (length rest) test.0 in
    let long : length (take n rest) ≡ n = omega (arith, length-take n rest) in
    let parts : bytes ≡ (u32 n ++ take n rest) ++ drop n rest =
    front.parts ∙ ap (λ (l : List ℕ). u32 n ++ l) (sym (take-append-drop n rest)) ∙ sym (append_assoc (u32 n) (take n rest) (drop n rest)) in
    subst (λ (y : List ℕ × List ℕ). Bodied bytes y.0 y.1) test.1
    (record {
      parts = parts ∙ ap (λ (m : ℕ). (u32 m ++ take n rest) ++ drop n rest) (sym long);
      behind = omega (arith, length-drop n rest);
      text_fits = is_bytes-take n rest front.rest_fits;
      rest_fits = is_bytes-drop n rest front.rest_fits;
    })

-- a record that was read, behind its gate
pub record Recorded (is_first : Bool) (rows : Rows) (bytes : List ℕ) (c : Change) (rest : List ℕ) : Type 0 where
  pub parts : bytes ≡ record_bytes c ++ rest
  pub behind : 0 < length rest
  pub has_body : HasBody c
  pub may : may_hold is_first rows c ≡ true
  pub rest_fits : IsBytes rest

pub recorded : (is_first : Bool) (rows : Rows) (bytes : List ℕ) (x : Change × List ℕ) → IsBytes bytes → change_at is_first rows bytes ≡ Some x → Recorded is_first rows bytes x.0 x.1
unfolding change_at
recorded is_first rows bytes x fits is =
    let found = bound (body_at bytes) (λ found. decoded found.0 >>= λ change. when (may_hold is_first rows change) (change, found.1)) x is in
    let change = bound (decoded found.0.0) (λ change. when (may_hold is_first rows change) (change, found.0.1)) x found.2 in
    let made : Change × List ℕ = (change.0, found.0.1) in
    let test = held (may_hold is_first rows change.0) made x change.2 in
    let front = bodied bytes found.0 fits found.1 in
    let spelled = decoded-spelled found.0.0 change.0 front.text_fits change.1 in
    subst (λ (y : Change × List ℕ). Recorded is_first rows bytes y.0 y.1) test.1
    (record {
      parts = front.parts ∙ ap (λ (text : List ℕ). (u32 (length text) ++ text) ++ found.0.1) spelled.1;
      behind = front.behind;
      has_body = spelled.0;
      may = test.0;
      rest_fits = front.rest_fits;
    })

-- the bytes of a record are counted
pub record_is_counted : (c : Change) → length (record_bytes c) + 1 ≡ record_length c
record_is_counted c = omega (arith, length-body c)

-- what is behind a record is shorter, without a look at the bytes
shorter : (is_first : Bool) (rows : Rows) (bytes : List ℕ) (x : Change × List ℕ) → change_at is_first rows bytes ≡ Some x → length x.1 ≤ length bytes
unfolding change_at body_at number_at
shorter is_first rows bytes x is =
    let found = bound (body_at bytes) (λ found. decoded found.0 >>= λ change. when (may_hold is_first rows change) (change, found.1)) x is in
    let change = bound (decoded found.0.0) (λ change. when (may_hold is_first rows change) (change, found.0.1)) x found.2 in
    let made : Change × List ℕ = (change.0, found.0.1) in
    let test = held (may_hold is_first rows change.0) made x change.2 in
    let size = bound (number_at w32 bytes) (λ size. when (nat_lt size.0 (length size.1)) (take size.0 size.1, drop size.0 size.1)) found.0 found.1 in
    let cut : List ℕ × List ℕ = (take size.0.0 size.0.1, drop size.0.0 size.0.1) in
    let there = held (nat_lt size.0.0 (length size.0.1)) cut found.0 size.2 in
    let front : ℕ × List ℕ = (from_le_bytes w32 (take 4 bytes), drop 4 bytes) in
    let long = held (nat_le 4 (length bytes)) front size.0 size.1 in
    let first : length size.0.1 ≤ length bytes = subst (λ (y : ℕ × List ℕ). length y.1 ≤ length bytes) long.1 (omega (arith, length-drop 4 bytes)) in
    let second : length found.0.1 ≤ length bytes = subst (λ (y : List ℕ × List ℕ). length y.1 ≤ length bytes) there.1 (omega (arith, length-drop size.0.0 size.0.1)) in
    subst (λ (y : Change × List ℕ). length y.1 ≤ length bytes) test.1 second

-- one record, and what follows from the bytes behind it
same_step : (test : Bool) (place : ℕ) (field : Field Change) (f g : Change × List ℕ → Result Contents ℕ) (other : Result Contents ℕ)
    → ((x : Change × List ℕ) → field ≡ Some x → f x ≡ g x) → cond test (damaged_unless place field f) other ≡ cond test (damaged_unless place field g) other
same_step true place None f g other same = refl
same_step true place (Some x) f g other same = same x refl
same_step false place field f g other same = refl

-- more steps than bytes change nothing
pub enough : (m n : ℕ) (is_first : Bool) (rows : Rows) (place : ℕ) (bytes : List ℕ) → length bytes ≤ m → length bytes ≤ n
    → records_from m is_first rows place bytes ≡ records_from n is_first rows place bytes
enough m n is_first rows place [] long also = refl
enough zero n is_first rows place (gate ∷ bytes) long also = absurd (omega arith)
enough (suc m) zero is_first rows place (gate ∷ bytes) long also = absurd (omega arith)
enough (suc m) (suc n) is_first rows place (gate ∷ bytes) long also =
    same_step (gate == 1) place (change_at is_first rows bytes)
    (λ x. with_first x.0 (records_from m is_first (after rows x.0) (place + record_length x.0) x.1))
    (λ x. with_first x.0 (records_from n is_first (after rows x.0) (place + record_length x.0) x.1))
    (Ok (record { changes = []; place = place }))
    (λ x is.
    let less : length x.1 ≤ length bytes = shorter is_first rows bytes x is in
    ap (with_first x.0) (enough m n is_first (after rows x.0) (place + record_length x.0) x.1 (omega arith) (omega arith)))

-- Reading on

summed-first : (rows : Rows) (c : Change) (read : Result Contents ℕ) → summed rows (with_first c read) ≡ summed (after rows c) read
summed-first rows c (Ok contents) = refl
summed-first rows c (Err place) = refl

-- an open gate and its record are taken
pub taken : (is_first : Bool) (rows : Rows) (place : ℕ) (bytes : List ℕ) (c : Change) (rest : List ℕ) → IsBytes bytes → change_at is_first rows bytes ≡ Some (c, rest)
    → read_from is_first rows place (1 ∷ bytes) ≡ read_from is_first (after rows c) (place + (length (1 ∷ bytes) - length rest)) rest
taken is_first rows place bytes c rest fits is =
    let found = recorded is_first rows bytes (c, rest) fits is in
    let size : place + record_length c ≡ place + (length (1 ∷ bytes) - length rest) = omega (arith, record_is_counted c, ap length found.parts, length-append (record_bytes c) rest) in
    ap (λ (field : Field Change). summed rows (damaged_unless place field (λ x. with_first x.0 (records_from (length bytes) is_first (after rows x.0) (place + record_length x.0) x.1)))) is
    ∙ summed-first rows c (records_from (length bytes) is_first (after rows c) (place + record_length c) rest)
    ∙ ap (summed (after rows c)) (enough (length bytes) (length rest) is_first (after rows c) (place + record_length c) rest (shorter is_first rows bytes (c, rest) is) (omega arith))
    ∙ ap (λ (p : ℕ). read_from is_first (after rows c) p rest) size

pub damaged : (is_first : Bool) (rows : Rows) (place : ℕ) (bytes : List ℕ) → change_at is_first rows bytes ≡ None → read_from is_first rows place (1 ∷ bytes) ≡ Err place
damaged is_first rows place bytes is =
    ap (λ (field : Field Change). summed rows (damaged_unless place field (λ x. with_first x.0 (records_from (length bytes) is_first (after rows x.0) (place + record_length x.0) x.1)))) is

pub closed : (is_first : Bool) (rows : Rows) (place gate : ℕ) (bytes : List ℕ) → gate ≢ 1 → read_from is_first rows place (gate ∷ bytes) ≡ Ok (record { rows = rows; place = place })
closed is_first rows place gate bytes shut =
    let test : (gate == 1) ≡ false = grind (arith, nat_tests) in
    rw test refl

pub ended : (is_first : Bool) (rows : Rows) (place : ℕ) → read_from is_first rows place [] ≡ Ok (record { rows = rows; place = place })
ended is_first rows place = refl

true_holds : (b : Bool) → b ≡ true → IsTrue b
true_holds b is = search rules

both_held : (a b : Bool) → (a && b) ≡ true → a ≡ true
both_held true b is = refl
both_held false b is = cc

pub lawful_if_held : (is_first : Bool) (rows : Rows) (c : Change) → may_hold is_first rows c ≡ true → IsTrue (is_lawful_change rows c)
lawful_if_held true rows c may = true_holds (is_lawful_change rows c) (both_held (is_lawful_change rows c) (fits_first_version rows c) may)
lawful_if_held false rows c may = true_holds (is_lawful_change rows c) may

-- a record that was taken
pub record Taken (is_first : Bool) (rows : Rows) (place : ℕ) (bytes : List ℕ) (c : Change) (rest : List ℕ) : Type 0 where
  pub lawful : IsTrue (is_lawful_change rows c)
  pub shorter : length rest < length bytes
  pub reads : read_from is_first rows place bytes ≡ read_from is_first (after rows c) (place + (length bytes - length rest)) rest

-- a change and the bytes behind it
abbrev pub found : Change → List ℕ → Field Change
found c rest = Some (c, rest)

pub taken_at : (is_first : Bool) (rows : Rows) (place : ℕ) (bytes : List ℕ) (c : Change) (rest : List ℕ) → IsBytes bytes → 1 ≤ length bytes → get_or bytes 0 0 ≡ 1
    → change_at is_first rows (take (length bytes - 1) (drop 1 bytes)) ≡ found c rest → Taken is_first rows place bytes c rest
taken_at is_first rows place [] c rest fits some gate is = absurd (omega arith)
taken_at is_first rows place (g ∷ bytes) c rest fits some gate is =
    let tail_fits : IsBytes bytes = λ i. fits (suc i) in
    let one : g ≡ 1 = gate in
    let whole : take (length (g ∷ bytes) - 1) bytes ≡ bytes = take_all (length (g ∷ bytes) - 1) bytes (omega arith) in
    let is' : change_at is_first rows bytes ≡ found c rest = ap (λ (l : List ℕ). change_at is_first rows l) (sym whole) ∙ is in
    record {
      lawful = lawful_if_held is_first rows c (recorded is_first rows bytes (c, rest) tail_fits is').may;
      shorter = omega (arith, shorter is_first rows bytes (c, rest) is');
      reads = subst (λ (b : ℕ). read_from is_first rows place (b ∷ bytes) ≡ read_from is_first (after rows c) (place + (length (b ∷ bytes) - length rest)) rest) (sym one)
          (taken is_first rows place bytes c rest tail_fits is');
    }

-- What was read stands there

-- records of lawful changes, and a closed gate behind them
pub record Stands (rows : Rows) (place : ℕ) (bytes : List ℕ) (contents : Contents) : Type 0 where
  pub gate : ℕ
  pub rest : List ℕ
  pub parts : bytes ≡ records contents.changes ++ gate ∷ rest
  pub shut : gate ≢ 1
  pub lawful : AreLawful rows contents.changes
  pub place_is : contents.place ≡ place + length (records contents.changes)

-- contents that were read
abbrev done : Contents → Result Contents ℕ
done contents = Ok contents

-- no changes before a place
abbrev none_at : ℕ → Contents
none_at place = record { changes = []; place = place }

nothing_more : (rows : Rows) (place gate : ℕ) (bytes : List ℕ) (contents : Contents) → gate ≢ 1 → done (none_at place) ≡ done contents → Stands rows place (gate ∷ bytes) contents
nothing_more rows place gate bytes contents shut is =
    let same : none_at place ≡ contents = cc in
    subst (λ (k : Contents). Stands rows place (gate ∷ bytes) k) same
    (record { gate = gate; rest = bytes; parts = refl; shut = shut; lawful = tt; place_is = omega arith })

not_open : (gate : ℕ) → (gate == 1) ≡ false → gate ≢ 1
not_open gate test = grind (arith, nat_tests)

is_open : (gate : ℕ) → (gate == 1) ≡ true → gate ≡ 1
is_open gate test = grind (arith, nat_tests)

-- contents with a first change
first_of : (c : Change) (read : Result Contents ℕ) (contents : Contents) → with_first c read ≡ Ok contents
    → (others : Contents) × (read ≡ Ok others) × (record others { changes = c ∷ others.changes } ≡ contents)
first_of c (Ok others) contents is =
    let made : Contents = record others { changes = c ∷ others.changes } in
    let same : made ≡ contents = cc in
    (others, refl, same)
first_of c (Err place) contents is = absurd cc

one_more : (rows : Rows) (place : ℕ) (bytes : List ℕ) (c : Change) (rest : List ℕ) (is_first : Bool) (others contents : Contents) → Recorded is_first rows bytes c rest
    → record others { changes = c ∷ others.changes } ≡ contents → Stands (after rows c) (place + record_length c) rest others → Stands rows place (1 ∷ bytes) contents
one_more rows place bytes c rest is_first others contents found same stands =
    let parts : 1 ∷ bytes ≡ records (c ∷ others.changes) ++ stands.gate ∷ stands.rest =
    ap (λ (l : List ℕ). 1 ∷ l) (found.parts ∙ ap (λ (l : List ℕ). record_bytes c ++ l) stands.parts
    ∙ sym (append_assoc (record_bytes c) (records others.changes) (stands.gate ∷ stands.rest))) in
    subst (λ (k : Contents). Stands rows place (1 ∷ bytes) k) same
    (record {
      gate = stands.gate;
      rest = stands.rest;
      parts = parts;
      shut = stands.shut;
      lawful = (lawful_if_held is_first rows c found.may, found.has_body, stands.lawful);
      place_is = omega (arith, stands.place_is, record_is_counted c, length-append (1 ∷ record_bytes c) (records others.changes));
    })

branch : (test : Bool) (gate place : ℕ) (field : Field Change) (f : Change × List ℕ → Result Contents ℕ) (contents : Contents)
    → (gate == 1) ≡ test → cond test (damaged_unless place field f) (done (none_at place)) ≡ done contents
    → ((gate ≡ 1) × (x : Change × List ℕ) × (field ≡ Some x) × (f x ≡ done contents)) ⊎ ((gate ≢ 1) × (done (none_at place) ≡ done contents))
branch true gate place (Some x) f contents test is = inl (is_open gate test, x, refl, is)
branch true gate place None f contents test is = absurd cc
branch false gate place field f contents test is = inr (not_open gate test, is)

pub stands_there : (most : ℕ) (is_first : Bool) (rows : Rows) (place : ℕ) (bytes : List ℕ) (contents : Contents) → IsBytes bytes → 0 < length bytes → length bytes ≤ most
    → records_from most is_first rows place bytes ≡ Ok contents → Stands rows place bytes contents
stands_there most is_first rows place [] contents fits some long is = absurd (omega arith)
stands_there zero is_first rows place (gate ∷ bytes) contents fits some long is = absurd (omega arith)
stands_there (suc most) is_first rows place (gate ∷ bytes) contents fits some long is =
    elim (branch (gate == 1) gate place (change_at is_first rows bytes)
    (λ x. with_first x.0 (records_from most is_first (after rows x.0) (place + record_length x.0) x.1)) contents refl is) [
      | inl h ↦
          let tail_fits : IsBytes bytes = λ i. fits (suc i) in
          let found = recorded is_first rows bytes h.1 tail_fits h.2 in
          let others = first_of h.1.0 (records_from most is_first (after rows h.1.0) (place + record_length h.1.0) h.1.1) contents h.3 in
          let less : length h.1.1 ≤ length bytes = shorter is_first rows bytes h.1 h.2 in
          let later = stands_there most is_first (after rows h.1.0) (place + record_length h.1.0) h.1.1 others.0 found.rest_fits found.behind (omega arith) others.1 in
          subst (λ (g : ℕ). Stands rows place (g ∷ bytes) contents) (sym h.0)
          (one_more rows place bytes h.1.0 h.1.1 is_first others.0 contents found others.2 later)
      | inr h ↦ nothing_more rows place gate bytes contents h.0 h.1
    ]

-- A journal of the first version reads the same as one of the second

also_held : (is_first : Bool) (rows : Rows) (c : Change) → may_hold true rows c ≡ true → may_hold false rows c ≡ true
also_held is_first rows c may = both_held (is_lawful_change rows c) (fits_first_version rows c) may

also_found : (rows : Rows) (bytes : List ℕ) (x : Change × List ℕ) → change_at true rows bytes ≡ Some x → change_at false rows bytes ≡ Some x
unfolding change_at
also_found rows bytes x is =
    let found = bound (body_at bytes) (λ found. decoded found.0 >>= λ change. when (may_hold true rows change) (change, found.1)) x is in
    let change = bound (decoded found.0.0) (λ change. when (may_hold true rows change) (change, found.0.1)) x found.2 in
    let made : Change × List ℕ = (change.0, found.0.1) in
    let test = held (may_hold true rows change.0) made x change.2 in
    let may = also_held true rows change.0 test.0 in
    rw (found.1, change.1, may) (ap (λ (y : Change × List ℕ). Some y) test.1)

pub also_read : (most : ℕ) (rows : Rows) (place : ℕ) (bytes : List ℕ) (contents : Contents) → records_from most true rows place bytes ≡ Ok contents
    → records_from most false rows place bytes ≡ Ok contents
also_read most rows place [] contents is = is
also_read zero rows place (gate ∷ bytes) contents is = is
also_read (suc most) rows place (gate ∷ bytes) contents is =
    elim (branch (gate == 1) gate place (change_at true rows bytes)
    (λ x. with_first x.0 (records_from most true (after rows x.0) (place + record_length x.0) x.1)) contents refl is) [
      | inl h ↦
          let others = first_of h.1.0 (records_from most true (after rows h.1.0) (place + record_length h.1.0) h.1.1) contents h.3 in
          let later = also_read most (after rows h.1.0) (place + record_length h.1.0) h.1.1 others.0 others.1 in
          let found : change_at false rows bytes ≡ Some h.1 = also_found rows bytes h.1 h.2 in
          rw (h.0, found, later) (ap (λ (k : Contents). Ok k) others.2)
      | inr h ↦
          let test : (gate == 1) ≡ false = grind (arith, nat_tests, h.0) in
          rw test h.1
    ]
