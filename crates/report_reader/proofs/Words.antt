-- Each word of a reply or an event is read back from its text.
use Rattle.std.proofs.Common.{◌≡◌, ℕ, zero, suc, ◌+◌, ◌/◌, ◌%◌, ◌^◌, ◌<◌, ◌≤◌, Bool, true, not, List, [], ◌∷◌, ◌++◌, length, Some, refl, ap, ◌∙◌, append_assoc, arith, lit≤, lt_of_lt_of_le}
use Rattle.std.specs.Prelude.{◌==◌, ◌&&◌, nat_le, slice_index}
use Rattle.std.specs.List.{list_all, join_with_byte}
use Rattle.std.specs.Fmt.{decimal}
use Rattle.std.proofs.lemmas.Bool.{leb-true, le-leb, ltb-true}
use Rattle.std.proofs.lemmas.Bool.Decides.{nat_tests}
use Rattle.std.proofs.lemmas.Fmt.{decimal_by_steps_wide}
use Rattle.hex.specs.Hex.{encode_lower, encode_with, lower_digits}
use Rattle.fam_base.specs.Name.{is_between}
use Rattle.fam_base.specs.declared.naming.PeId.{PeId}
use Rattle.fam_model.specs.EventText.{call_name}
use Rattle.fam_model.specs.Lists.{◌>>=◌}
use Rattle.fam_model.specs.Values.{is_byte, is_u32, is_u64, are_bytes}
use Rattle.fam_model.specs.Words.{hex_text, words_text}
use Rattle.fam_script.specs.Reading.{Words, parts, number_of, small_of, two_of}
use Rattle.fam_script.proofs.Splits.{lacks, split-cons, split-last, parts_back}
use Rattle.fam_script.proofs.Tests.{and_left, and_right, and_both, all_both, all_one, all_same}
use Rattle.fam_script.proofs.WordsBack.{is_printed, are_digits, printed_lacks, IsShort, IsLow, low_of, u64_back, small_back}
use Rattle.report_reader.specs.Reading.{name_from, name_of}

pub both : {b c : Bool} → b ≡ true → c ≡ true → (b && c) ≡ true
both {b} {c} p q = and_both b c p q

-- bytes that may stand in a word of a result: printed, and neither a slash nor an equals sign
abbrev pub is_plain : ℕ → Bool
is_plain c = is_between 33 126 c && not (c == 47) && not (c == 61)

abbrev pub are_plain : List ℕ → Bool
are_plain word = list_all is_plain word

between : (low high n : ℕ) → low ≤ n → n ≤ high → is_between low high n ≡ true
between low high n p q = and_both (nat_le low n) (nat_le n high) (le-leb low n p) (le-leb n high q)

above : (low high n : ℕ) → is_between low high n ≡ true → low ≤ n
above low high n e = leb-true low n (and_left (nat_le low n) (nat_le n high) e)

below : (low high n : ℕ) → is_between low high n ≡ true → n ≤ high
below low high n e = leb-true n high (and_right (nat_le low n) (nat_le n high) e)

not_equal : (c x : ℕ) → (x ≡ c → ⊥) → not (x == c) ≡ true
not_equal c x h = grind (arith, nat_tests)

pub plain_printed : (word : List ℕ) → are_plain word ≡ true → is_printed word ≡ true
plain_printed word e = all_same is_plain (is_between 33 126) (λ x h. and_left (is_between 33 126 x) (not (x == 47)) (and_left (is_between 33 126 x && not (x == 47)) (not (x == 61)) h)) word e

pub plain_lacks_slash : (word : List ℕ) → are_plain word ≡ true → lacks 47 word ≡ true
plain_lacks_slash word e = all_same is_plain (λ b. not (b == 47)) (λ x h. and_right (is_between 33 126 x) (not (x == 47)) (and_left (is_between 33 126 x && not (x == 47)) (not (x == 61)) h)) word e

pub plain_lacks_equals : (word : List ℕ) → are_plain word ≡ true → lacks 61 word ≡ true
plain_lacks_equals word e = all_same is_plain (λ b. not (b == 61)) (λ x h. and_right (is_between 33 126 x && not (x == 47)) (not (x == 61)) h) word e

-- each word of some is so
pub all_printed : (words : Words) → list_all are_plain words ≡ true → list_all is_printed words ≡ true
all_printed words e = all_same are_plain is_printed plain_printed words e

pub all_lack_slash : (words : Words) → list_all are_plain words ≡ true → list_all (lacks 47) words ≡ true
all_lack_slash words e = all_same are_plain (lacks 47) plain_lacks_slash words e

pub all_lack_equals : (words : Words) → list_all are_plain words ≡ true → list_all (lacks 61) words ≡ true
all_lack_equals words e = all_same are_plain (lacks 61) plain_lacks_equals words e

-- numbers

decimal_digits : (n : ℕ) → IsShort n → are_digits (decimal n) ≡ true
decimal_digits n h = decimal_by_steps_wide (λ n ds. are_digits ds ≡ true)
    (λ n lt. all_one (is_between 48 57) (48 + n) (between 48 57 (48 + n) (omega arith) (omega arith)))
    (λ n ds le all. all_both (is_between 48 57) ds ((48 + n % 10) ∷ []) all
    (all_one (is_between 48 57) (48 + n % 10) (between 48 57 (48 + n % 10) (omega arith) (omega arith)))) n h

digit_plain : (x : ℕ) → is_between 48 57 x ≡ true → is_plain x ≡ true
digit_plain x h =
    let low = above 48 57 x h in
    let high = below 48 57 x h in
    and_both (is_between 33 126 x && not (x == 47)) (not (x == 61))
    (and_both (is_between 33 126 x) (not (x == 47)) (between 33 126 x (omega arith) (omega arith)) (not_equal 47 x (λ same. absurd (omega arith))))
    (not_equal 61 x (λ same. absurd (omega arith)))

low_digits : (n : ℕ) → IsLow n → are_digits (decimal n) ≡ true
low_digits n low = decimal_digits n (lt_of_lt_of_le low (lit≤ tt))

pub decimal_plain : (n : ℕ) → IsLow n → are_plain (decimal n) ≡ true
decimal_plain n low = all_same (is_between 48 57) is_plain digit_plain (decimal n) (low_digits n low)

pub decimal_lacks_dot : (n : ℕ) → IsLow n → lacks 46 (decimal n) ≡ true
decimal_lacks_dot n low = all_same (is_between 48 57) (λ b. not (b == 46))
    (λ x h. not_equal 46 x (λ same. absurd (omega (arith, above 48 57 x h)))) (decimal n) (low_digits n low)

pub u32_low : (n : ℕ) → is_u32 n ≡ true → n < 2 ^ 32
u32_low n e = ltb-true n (2 ^ 32) e

pub low_32 : (n : ℕ) → is_u32 n ≡ true → IsLow n
low_32 n e = lt_of_lt_of_le (u32_low n e) (lit≤ tt)

-- bytes

table_at : (p : ℕ → Bool) (xs : List ℕ) (i : ℕ) → list_all p xs ≡ true → i < length xs → p (slice_index xs i) ≡ true
table_at p [] i all low = absurd (omega arith)
table_at p (x ∷ xs) zero all low = and_left (p x) (list_all p xs) all
table_at p (x ∷ xs) (suc i) all low = table_at p xs i (and_right (p x) (list_all p xs) all) (omega arith)

digit_is : (d : ℕ) → d < 16 → is_plain (slice_index lower_digits d) ≡ true
digit_is d low = table_at is_plain lower_digits d refl low

encoded_plain : (bytes : List ℕ) → are_bytes bytes ≡ true → are_plain (encode_lower bytes) ≡ true
unfolding encode_with
encoded_plain [] e = refl
encoded_plain (b ∷ bytes) e =
    let low = ltb-true b 256 (and_left (is_byte b) (are_bytes bytes) e) in
    and_both (is_plain (slice_index lower_digits (b / 16))) _ (digit_is (b / 16) (omega arith))
    (and_both (is_plain (slice_index lower_digits (b % 16))) _ (digit_is (b % 16) (omega arith))
    (encoded_plain bytes (and_right (is_byte b) (are_bytes bytes) e)))

pub hex_plain : (bytes : List ℕ) → are_bytes bytes ≡ true → are_plain (hex_text bytes) ≡ true
hex_plain [] e = refl
hex_plain (b ∷ bytes) e = encoded_plain (b ∷ bytes) e

-- two words with a separator between them

pub two_back : (c : ℕ) (same : (c == c) ≡ true) (a b : List ℕ) → lacks c a ≡ true → lacks c b ≡ true → parts c (a ++ (c ∷ b)) ≡ a ∷ b ∷ []
two_back c same a b p q = split-cons c same a b p ∙ ap (λ (ws : Words). a ∷ ws) (split-last c same b q)

-- the name of a call
module _ (pe : PeId) (n : ℕ) (small : is_u32 pe.0 ≡ true) (low : is_u64 n ≡ true) where
  name_is : call_name pe n ≡ decimal pe.0 ++ (46 ∷ decimal n)
  name_is = append_assoc (decimal pe.0) (46 ∷ []) (decimal n)

  pub name_back : name_of (call_name pe n) ≡ Some (pe, n)
  name_back =
      let split = ap (parts 46) name_is ∙ two_back 46 refl (decimal pe.0) (decimal n) (decimal_lacks_dot pe.0 (low_32 pe.0 small)) (decimal_lacks_dot n (low_of n low)) in
      ap (λ (ws : Words). two_of ws >>= λ w. name_from (small_of w.0) (number_of w.1)) split
      ∙ (λ i. name_from (small_back pe.0 (u32_low pe.0 small) i) (u64_back n (low_of n low) i))

  pub name_printed : is_printed (call_name pe n) ≡ true
  name_printed =
      ap is_printed name_is
      ∙ all_both (is_between 33 126) (decimal pe.0) (46 ∷ decimal n) (plain_printed (decimal pe.0) (decimal_plain pe.0 (low_32 pe.0 small)))
      (plain_printed (decimal n) (decimal_plain n (low_of n low)))

-- words with spaces between them

pub all_lack : (c : ℕ) → c < 33 → (words : Words) → list_all is_printed words ≡ true → list_all (lacks c) words ≡ true
all_lack c low words e = all_same is_printed (lacks c) (λ w h. printed_lacks c low w h) words e

pub words_back : (w : List ℕ) (ws : Words) → list_all is_printed (w ∷ ws) ≡ true → parts 32 (words_text (w ∷ ws)) ≡ w ∷ ws
words_back w ws e = parts_back 32 refl w ws (all_lack 32 (omega arith) (w ∷ ws) e)

pub joined_lacks : (w : List ℕ) (ws : Words) → list_all (lacks 10) (w ∷ ws) ≡ true → lacks 10 (join_with_byte 32 (w ∷ ws)) ≡ true
joined_lacks w [] e = and_left (lacks 10 w) true e
joined_lacks w (v ∷ ws) e =
    all_both (λ b. not (b == 10)) w (32 ∷ join_with_byte 32 (v ∷ ws)) (and_left (lacks 10 w) (list_all (lacks 10) (v ∷ ws)) e)
    (joined_lacks v ws (and_right (lacks 10 w) (list_all (lacks 10) (v ∷ ws)) e))

pub words_lack_feed : (w : List ℕ) (ws : Words) → list_all is_printed (w ∷ ws) ≡ true → lacks 10 (words_text (w ∷ ws)) ≡ true
words_lack_feed w ws e = joined_lacks w ws (all_lack 10 (omega arith) (w ∷ ws) e)
