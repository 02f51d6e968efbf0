-- Lists that are gone through from a place on.
use Rattle.std.proofs.Common.{◌≡◌, ℕ, zero, suc, ◌+◌, ◌<◌, ◌≤◌, Bool, true, false, List, [], ◌∷◌, ◌++◌, length, take, drop, refl, sym, ap, ◌∙◌, arith}
use Rattle.std.specs.Prelude.{◌&&◌, Option, Some, None, slice_get, if◌then◌else◌}
use Rattle.std.specs.List.{list_all}
use Rattle.std.specs.Option.{option_map_or}
use Rattle.std.proofs.lemmas.List.{drop_all}
use Rattle.fam_model.specs.declared.report.ReplyLine.{ReplyLine}
use Rattle.fam_model.specs.Lists.{is_some_and}
use Rattle.fam_audit.specs.Verdict.{first_wrong_from, is_same_line}
use Rattle.fam_audit.proofs.Going.{element, missing}

some_same : {A : Type 0} (x y : A) → Some x ≡ Some y → x ≡ y
some_same x y e = cc

-- the element at a place, and what is behind it
pub drop_at : {A : Type 0} (xs : List A) (k : ℕ) (x : A) → slice_get xs k ≡ Some x → drop k xs ≡ x ∷ drop (k + 1) xs
drop_at [] k x e = cc
drop_at (y ∷ ys) zero x e = ap (λ z. z ∷ ys) (some_same y x e)
drop_at (y ∷ ys) (suc k) x e =
    let number : suc (k + 1) ≡ suc k + 1 = omega arith in
    drop_at ys k x e ∙ ap (λ n. x ∷ drop n (y ∷ ys)) number

-- the elements before the next place
pub take_at : {A : Type 0} (xs : List A) (k : ℕ) (x : A) → slice_get xs k ≡ Some x → take (k + 1) xs ≡ take k xs ++ x ∷ []
take_at [] k x e = cc
take_at (y ∷ ys) zero x e = ap (λ z. z ∷ []) (some_same y x e)
take_at (y ∷ ys) (suc k) x e =
    let number : suc k + 1 ≡ suc (k + 1) = omega arith in
    ap (λ n. take n (y ∷ ys)) number ∙ ap (λ zs. y ∷ zs) (take_at ys k x e)

-- reply lines

wrong_by : (k : ℕ) (line : ReplyLine) (lines due : List ReplyLine) (other : Option ReplyLine) → slice_get due k ≡ other → is_some_and other (is_same_line line) ≡ false →
    first_wrong_from k (line ∷ lines) (drop k due) ≡ Some k
wrong_by k line lines due None none e = ap (first_wrong_from k (line ∷ lines)) (drop_all k due (missing due k none))
wrong_by k line lines due (Some other) there e =
    ap (first_wrong_from k (line ∷ lines)) (drop_at due k other there)
    ∙ ap (λ (b : Bool). if b then first_wrong_from (k + 1) lines (drop (k + 1) due) else Some k) e

-- this line is not the one that is due
pub wrong_here : (k : ℕ) (line : ReplyLine) (lines due : List ReplyLine) → slice_get lines k ≡ Some line → is_some_and (slice_get due k) (is_same_line line) ≡ false →
    first_wrong_from k (drop k lines) (drop k due) ≡ Some k
wrong_here k line lines due there e =
    ap (λ ls. first_wrong_from k ls (drop k due)) (drop_at lines k line there) ∙ wrong_by k line (drop (k + 1) lines) due (slice_get due k) refl e

later_by : (k : ℕ) (line : ReplyLine) (lines due : List ReplyLine) (other : Option ReplyLine) → slice_get due k ≡ other → is_some_and other (is_same_line line) ≡ true →
    first_wrong_from k (line ∷ lines) (drop k due) ≡ first_wrong_from (k + 1) lines (drop (k + 1) due)
later_by k line lines due None none e = cc
later_by k line lines due (Some other) there e =
    ap (first_wrong_from k (line ∷ lines)) (drop_at due k other there)
    ∙ ap (λ (b : Bool). if b then first_wrong_from (k + 1) lines (drop (k + 1) due) else Some k) e

-- it is
pub wrong_later : (k : ℕ) (line : ReplyLine) (lines due : List ReplyLine) → slice_get lines k ≡ Some line → is_some_and (slice_get due k) (is_same_line line) ≡ true →
    first_wrong_from k (drop k lines) (drop k due) ≡ first_wrong_from (k + 1) (drop (k + 1) lines) (drop (k + 1) due)
wrong_later k line lines due there e =
    ap (λ ls. first_wrong_from k ls (drop k due)) (drop_at lines k line there) ∙ later_by k line (drop (k + 1) lines) due (slice_get due k) refl e

pub due_within : (k : ℕ) (line : ReplyLine) (due : List ReplyLine) → is_some_and (slice_get due k) (is_same_line line) ≡ true → k < length due
due_within k line [] e = cc
due_within zero line (d ∷ due) e = omega arith
due_within (suc k) line (d ∷ due) e = let rest = due_within k line due e in omega (arith, rest)

-- where the lines end

pub ends_short : (lines due : List ReplyLine) (k : ℕ) → length lines ≤ k → k < length due → first_wrong_from k (drop k lines) (drop k due) ≡ Some k
ends_short lines due k all low =
    let next = element due k low in
    ap (λ ls. first_wrong_from k ls (drop k due)) (drop_all k lines all) ∙ ap (first_wrong_from k []) (drop_at due k next.0 next.1)

pub ends_even : (lines due : List ReplyLine) (k : ℕ) → length lines ≤ k → length due ≤ k → first_wrong_from k (drop k lines) (drop k due) ≡ None
ends_even lines due k all none =
    ap (λ ls. first_wrong_from k ls (drop k due)) (drop_all k lines all) ∙ ap (first_wrong_from k []) (drop_all k due none)

-- tests of all elements

first_true : (a b : Bool) → (a && b) ≡ true → a ≡ true
first_true true b e = refl
first_true false b e = cc

second_true : (a b : Bool) → (a && b) ≡ true → b ≡ true
second_true true b e = e
second_true false b e = cc

both_true : (a b : Bool) → a ≡ true → b ≡ true → (a && b) ≡ true
both_true a b e f = rw (e, f) refl

all_last : {A : Type 0} (test : A → Bool) (xs : List A) (x : A) → list_all test xs ≡ true → test x ≡ true → list_all test (xs ++ x ∷ []) ≡ true
all_last test [] x e f = both_true (test x) true f refl
all_last test (y ∷ ys) x e f =
    both_true (test y) (list_all test (ys ++ x ∷ [])) (first_true (test y) (list_all test ys) e) (all_last test ys x (second_true (test y) (list_all test ys) e) f)

-- one more passes
pub passes_more : {A : Type 0} (test : A → Bool) (xs : List A) (k : ℕ) → k < length xs → list_all test (take k xs) ≡ true → option_map_or test (slice_get xs k) true ≡ true →
    list_all test (take (k + 1) xs) ≡ true
passes_more test xs k low e f =
    let x = element xs k low in
    ap (list_all test) (take_at xs k x.0 x.1) ∙ all_last test (take k xs) x.0 e (ap (λ o. option_map_or test o true) (sym x.1) ∙ f)

fails_by : (y rest : Bool) → rest ≡ false → (y && rest) ≡ false
fails_by true rest e = e
fails_by false rest e = refl

first_false : (a b : Bool) → a ≡ false → (a && b) ≡ false
first_false a b e = rw e refl

-- one does not
pub fails_here : {A : Type 0} (test : A → Bool) (xs : List A) (k : ℕ) → option_map_or test (slice_get xs k) true ≡ false → list_all test xs ≡ false
fails_here test [] k f = cc
fails_here test (x ∷ xs) zero f = first_false (test x) (list_all test xs) f
fails_here test (x ∷ xs) (suc k) f = fails_by (test x) (list_all test xs) (fails_here test xs k f)
