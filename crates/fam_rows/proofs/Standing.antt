-- Rows stay lawful where what they stand on stays.
use Rattle.std.proofs.Common.{◌≡◌, ◌≢◌, ℕ, ◌≤◌, Bool, true, false, eqb, List, Option, Some, None, is_none, refl, sym, ap, ◌∙◌, arith}
use mathlib.Core.Bool.{◌&&◌}
use Rattle.std.specs.List.{find}
use Rattle.std.specs.Str.{bytes_eq}
use Rattle.std.proofs.lemmas.Bool.{false≢true, and_parts}
use Rattle.std.proofs.lemmas.Slice.Eq.{bytes_eq-Decides}
use Rattle.fam_model.specs.declared.rows.RegionRow.{RegionRow}
use Rattle.fam_model.specs.declared.rows.ItemRow.{ItemRow}
use Rattle.fam_model.specs.declared.rows.Rows.{Rows}
use Rattle.fam_model.specs.Lists.{is_some_and, when, ◌>>=◌}
use Rattle.fam_model.specs.Rows.{IsLawfulRegion, IsLawfulItem, region_of, region_number, room_end}
use Rattle.fam_rows.proofs.Searches.{find_number_is}

-- the parts of tests in a row
pub three_parts : (a b c : Bool) → (a && b && c) ≡ true → (a ≡ true) × (b ≡ true) × (c ≡ true)
three_parts a b c e = let last = and_parts (a && b) c e in let first = and_parts a b last.0 in (first.0, first.1, last.1)

pub four_parts : (a b c d : Bool) → (a && b && c && d) ≡ true → (a ≡ true) × (b ≡ true) × (c ≡ true) × (d ≡ true)
four_parts a b c d e = let last = and_parts (a && b && c) d e in let rest = three_parts a b c last.0 in (rest.0, rest.1, rest.2, last.1)

pub five_parts : (a b c d e : Bool) → (a && b && c && d && e) ≡ true → (a ≡ true) × (b ≡ true) × (c ≡ true) × (d ≡ true) × (e ≡ true)
five_parts a b c d e h = let last = and_parts (a && b && c && d) e h in let rest = four_parts a b c d last.0 in (rest.0, rest.1, rest.2, rest.3, last.1)

-- a test of a value that passes has a value
pub value_tested : {A : Type 0} (o : Option A) (test : A → Bool) → is_some_and o test ≡ true → (x : A) × (o ≡ Some x) × (test x ≡ true)
value_tested None test e = absurd (false≢true e)
value_tested (Some x) test e = (x, refl, e)

-- nothing is there
pub nothing_there : {A : Type 0} (o : Option A) → is_none o ≡ true → o ≡ None
nothing_there None e = refl
nothing_there (Some x) e = absurd (false≢true e)

-- names that the test tells apart differ
pub differ : (a b : List ℕ) → bytes_eq a b ≡ false → a ≢ b
differ a b e same = false≢true (sym e ∙ (bytes_eq-Decides a b).1 same)

-- the region of a number, by a search from the first on
pub region_is : (rows : Rows) (n : ℕ) → region_of rows n ≡ find (λ row. eqb (region_number row) n) rows.regions
region_is rows n = find_number_is region_number n rows.regions

-- a region's row stays lawful where the next number does not fall
pub region_stands : (old new : Rows) (row : RegionRow) → old.next_region ≤ new.next_region → IsLawfulRegion old row → IsLawfulRegion new row
region_stands old new row le h = record { number = (let below = h.number in omega arith); name = h.name; mode = h.mode; owner = h.owner; size = h.size }

-- an item's row stays lawful where the next number does not fall and its region still holds it
pub item_stands : (old new : Rows) (row : ItemRow) → old.next_item ≤ new.next_item → (region : RegionRow) → region_of new row.region.0 ≡ Some region → room_end row ≤ region.size → IsLawfulItem old row → IsLawfulItem new row
item_stands old new row le region there ends h = record { number = (let below = h.number in omega arith); name = h.name; mode = h.mode; owner = h.owner; size = h.size; base = h.base; inside = (region, there, ends) }

-- the same where regions are found as before
pub item_stays : (old new : Rows) (row : ItemRow) → old.next_item ≤ new.next_item → ((region : RegionRow) → region_of old row.region.0 ≡ Some region → region_of new row.region.0 ≡ Some region) → IsLawfulItem old row → IsLawfulItem new row
item_stays old new row le found h = item_stands old new row le h.inside.0 (found h.inside.0 h.inside.1) h.inside.2 h

-- tests in a row, each of which passes
pub three_from : (a b c : Bool) → a ≡ true → b ≡ true → c ≡ true → (a && b && c) ≡ true
three_from a b c p q r = rw (p, q, r) refl

pub five_from : (a b c d e : Bool) → a ≡ true → b ≡ true → c ≡ true → d ≡ true → e ≡ true → (a && b && c && d && e) ≡ true
five_from a b c d e p q r s t = rw (p, q, r, s, t) refl

-- a value that is there passes where its test does
pub tested : {A : Type 0} (o : Option A) (test : A → Bool) (x : A) → o ≡ Some x → test x ≡ true → is_some_and o test ≡ true
tested o test x there holds = ap (λ p. is_some_and p test) there ∙ holds

-- what comes of a value, came of one that is there
pub came_of : {A B : Type 0} (o : Option A) (f : A → Option B) (y : B) → (o >>= f) ≡ Some y → (x : A) × (o ≡ Some x) × (f x ≡ Some y)
came_of None f y e = absurd (cc e)
came_of (Some x) f y e = (x, refl, e)

-- a value that comes under a test, comes where it holds
pub came_when : {A : Type 0} (test : Bool) (x y : A) → when test x ≡ Some y → (test ≡ true) × (x ≡ y)
came_when true x y e = (refl, cc e)
came_when false x y e = absurd (cc e)
