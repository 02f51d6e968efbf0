-- Numbers read from their decimal digits.
use Rattle.std.proofs.Common.{◌≡◌, ℕ, ◌<◌, ◌≤◌, ◌^◌, Bool, true, false, List, [], ◌∷◌, Option, Some, None, Result, Ok, refl, sym, ap, subst, ◌∙◌, lit≤, lt_of_lt_of_le, arith, rules}
use Rattle.std.specs.Prelude.{◌+◌, ◌-◌, ◌*◌, length, slice_index, nat_lt, ◌&&◌, ◌≢◌, IfSome, IfNone}
use Rattle.std.specs.List.{list_all}
use Rattle.std.specs.Str.{bytes_eq, IsUtf8}
use Rattle.std.specs.Str.Parse.{digits_value, ParsesUnsigned}
use Rattle.std.specs.Fmt.{decimal}
use Rattle.std.proofs.lemmas.Bool.{ltb-true, lt-ltb}
use Rattle.std.proofs.lemmas.Str.Parse.{IsNumeralModel, numerals_by_fold, digits_value_short}
use Rattle.std.proofs.lemmas.Fmt.{decimal-digits_value, decimal_is_IsNumeral_wide, parse-decimal_wide, IsAscii-decimal_wide}
use Rattle.std.proofs.lemmas.Str.{IsUtf8-from_ascii}
use Rattle.fam_model.specs.Lists.{when}
use Rattle.std.specs.Char.{is_ascii_digit}
use Rattle.fam_script.specs.Digits.{IsShort, number_after}
use Rattle.fam_script.specs.Reading.{number_of, wide_of}
use Rattle.fam_script.proofs.Tests.{and_left, and_right, and_both, when_true, same_bytes, bytes_same}

abbrev number : ℕ → Option ℕ
number n = Some n

-- the number of k bits whose digits these are
abbrev read_of : ℕ → List ℕ → Option ℕ
read_of k word = let n = digits_value 10 word in when (nat_lt n (2 ^ k) && bytes_eq (decimal n) word) n

module _ (k : ℕ) (few : 2 ^ k ≤ 10 ^ 64) where
  short : (n : ℕ) → n < 2 ^ k → n < 10 ^ 64
  short n low = lt_of_lt_of_le low few

  -- a number is read from its digits
  pub read_back : (n : ℕ) → n < 2 ^ k → read_of k (decimal n) ≡ Some n
  read_back n low =
      let value : digits_value 10 (decimal n) ≡ n = (decimal_is_IsNumeral_wide n (short n low)).1 in
      ap (λ (m : ℕ). when (nat_lt m (2 ^ k) && bytes_eq (decimal m) (decimal n)) m) value
      ∙ when_true (nat_lt n (2 ^ k) && bytes_eq (decimal n) (decimal n)) n (and_both (nat_lt n (2 ^ k)) (bytes_eq (decimal n) (decimal n)) (lt-ltb n (2 ^ k) low) (bytes_same (decimal n) (decimal n) refl))

  pub read_some : (word : List ℕ) (n : ℕ) → n < 2 ^ k → decimal n ≡ word → number n ≡ read_of k word
  read_some word n low e = sym (ap (read_of k) (sym e) ∙ read_back n low)

  -- a word that is no number's
  read_none : (word : List ℕ) → ((n : ℕ) → n < 2 ^ k → decimal n ≡ word → ⊥) → None ≡ read_of k word
  read_none word never = sym (by_test (digits_value 10 word) (never (digits_value 10 word)) (nat_lt (digits_value 10 word) (2 ^ k) && bytes_eq (decimal (digits_value 10 word)) word) refl)
    where
      by_test : (n : ℕ) → (n < 2 ^ k → decimal n ≡ word → ⊥) → (b : Bool) → (nat_lt n (2 ^ k) && bytes_eq (decimal n) word) ≡ b → when b n ≡ None
      by_test n not_it true h =
          absurd (not_it (ltb-true _ _ (and_left (nat_lt n (2 ^ k)) (bytes_eq (decimal n) word) h))
          (same_bytes (decimal n) word (and_right (nat_lt n (2 ^ k)) (bytes_eq (decimal n) word) h)))
      by_test n not_it false h = refl

  -- bytes that are no text
  pub no_text : (word : List ℕ) → (IsUtf8 word → ⊥) → None ≡ read_of k word
  no_text word not_text = read_none word (λ n low e. not_text (subst IsUtf8 e (IsUtf8-from_ascii (decimal n) (IsAscii-decimal_wide n (short n low)))))

  -- a text that is no number
  pub not_parsed : {E : Type 0} (word text : List ℕ) (result : Result ℕ E) → text ≡ word → ParsesUnsigned k 10 text result → ((n : ℕ) → result ≡ Ok n → ⊥) → None ≡ read_of k word
  not_parsed word text result same parses never =
      read_none word (λ n low e. never n (parse-decimal_wide k n text result low (short n low) (same ∙ sym e) parses))

  -- a number that is written otherwise
  pub not_printed : {E : Type 0} (word text : List ℕ) (value : ℕ) (result : Result ℕ E) → text ≡ word → result ≡ Ok value → ParsesUnsigned k 10 text result → bytes_eq (decimal value) word ≡ false → None ≡ read_of k word
  not_printed {E} word text value result same is parses differs =
      read_none word (λ n low e.
      let found : result ≡ Ok n = parse-decimal_wide k n text result low (short n low) (same ∙ sym e) parses in
      let value-is : value ≡ n = cc in
      let never : true ≡ false = sym (bytes_same (decimal value) word (ap decimal value-is ∙ e)) ∙ differs in
      absurd (cc never))

pub few_64 : 2 ^ 64 ≤ 10 ^ 64
few_64 = lit≤ tt

pub few_128 : 2 ^ 128 ≤ 10 ^ 64
few_128 = lit≤ tt

pub number_back : (n : ℕ) → n < 2 ^ 64 → number_of (decimal n) ≡ Some n
number_back n low = read_back 64 few_64 n low

-- what is read of a word is its number
pub number_is : (word : List ℕ) → IfSome (number_of word) (λ n. (n < 2 ^ 64) × (word ≡ decimal n))
number_is word = by_test (digits_value 10 word) (nat_lt (digits_value 10 word) (2 ^ 64) && bytes_eq (decimal (digits_value 10 word)) word) refl
  where
    by_test : (n : ℕ) (b : Bool) → (nat_lt n (2 ^ 64) && bytes_eq (decimal n) word) ≡ b → IfSome (when b n) (λ m. (m < 2 ^ 64) × (word ≡ decimal m))
    by_test n true h = (
      ltb-true _ _ (and_left (nat_lt n (2 ^ 64)) (bytes_eq (decimal n) word) h),
      sym (same_bytes (decimal n) word (and_right (nat_lt n (2 ^ 64)) (bytes_eq (decimal n) word) h)),
    )
    by_test n false h = tt

-- a word of which nothing is read is the text of no number
pub number_only : (word : List ℕ) → IfNone (number_of word) ((n : ℕ) → n < 2 ^ 64 → word ≢ decimal n)
number_only word = by_answer (number_of word) refl
  where
    by_answer : (o : Option ℕ) → number_of word ≡ o → IfNone o ((n : ℕ) → n < 2 ^ 64 → word ≢ decimal n)
    by_answer None e = λ n low same. (let found : None ≡ Some n = sym e ∙ ap number_of same ∙ number_back n low in cc)
    by_answer (Some m) e = tt

-- a few digits

own : IsNumeralModel (λ ds. list_all is_ascii_digit ds ≡ true) (number_after 0)
own = numerals_by_fold _ (search rules) number_after (search rules)

ten_to_19 : 10 ^ 19 ≤ 2 ^ 64
ten_to_19 = lit≤ tt

pub short_low : (word : List ℕ) → IsShort word → number_after 0 word < 2 ^ 64
short_low word is = lt_of_lt_of_le (digits_value_short own word 19 is.digits is.few) ten_to_19

-- a short word is read as its digits say
pub short_read : (word : List ℕ) → IsShort word → number (number_after 0 word) ≡ number_of word
short_read word is =
    let low = short_low word is in
    read_some 64 few_64 word (number_after 0 word) low (decimal-digits_value own word is.digits is.some is.first low)

-- digits that follow make the number no smaller
pub no_smaller : (n : ℕ) (ds : List ℕ) → n ≤ number_after n ds
no_smaller n [] = omega arith
no_smaller n (d ∷ ds) = omega (arith, no_smaller (n * 10 + (d - 48)) ds)

-- the number with the next digit is no larger than the whole number
pub next_low : (limit n : ℕ) (ds : List ℕ) → 1 ≤ length ds → number_after n ds < limit → n * 10 + (slice_index ds 0 - 48) < limit
next_low limit n [] some low = absurd (omega (arith, some))
next_low limit n (d ∷ ds) some low = omega (arith, no_smaller (n * 10 + (d - 48)) ds, low)

-- a number of 64 bits is one of 128
pub wide_from : (word : List ℕ) (n : ℕ) → number n ≡ number_of word → number n ≡ wide_of word
wide_from word n e =
    let is : (n < 2 ^ 64) × (word ≡ decimal n) = subst (λ (o : Option ℕ). IfSome o (λ m. (m < 2 ^ 64) × (word ≡ decimal m))) (sym e) (number_is word) in
    read_some 128 few_128 word n (lt_of_lt_of_le is.0 (lit≤ tt)) (sym is.1)
