-- Each word is read back from its text, which has printed bytes alone.
use Rattle.std.proofs.Common.{◌≡◌, ℕ, zero, suc, ◌+◌, ◌-◌, ◌*◌, ◌/◌, ◌%◌, ◌^◌, ◌<◌, ◌≤◌, Bool, true, false, not, cond, List, [], ◌∷◌, length, map, Option, Some, None, refl, ap, ◌∙◌, arith, lit≤, lit<, lt_of_lt_of_le}
use Rattle.std.specs.Prelude.{◌==◌, ◌&&◌, nat_le, nat_lt, codes, drop, slice_index, ℤ, pos, negsuc}
use Rattle.std.specs.List.{list_all, slice_split}
use Rattle.std.specs.Str.{bytes_eq}
use Rattle.std.specs.Fmt.{decimal, signed_decimal}
use Rattle.std.proofs.lemmas.Bool.{leb-true, le-leb, ltb-true, lt-ltb}
use Rattle.std.proofs.lemmas.Bool.Decides.{nat_tests}
use Rattle.std.proofs.lemmas.Fmt.{decimal_by_steps_wide}
use Rattle.hex.specs.Hex.{encode_lower, encode_with, lower_digits, decode_of, IsBytes}
use Rattle.hex.proofs.HexLemmas.{decode_of-encode_lower}
use Rattle.fam_base.specs.Name.{is_between}
use Rattle.fam_model.specs.Lists.{◌>>=◌, when}
use Rattle.fam_model.specs.Values.{is_byte, is_u64, are_bytes}
use Rattle.fam_model.specs.Atomic.{is_in_range}
use Rattle.fam_model.specs.Words.{hex_text, list_text, mode_text}
use Rattle.fam_model.specs.declared.call.Width.{Width}
use Rattle.fam_model.specs.declared.call.Width.TheVariants.{I32, U32, I64, U64, I128, F32, F64}
use Rattle.fam_script.specs.Reading.{number_of, small_of, byte_of, slot_of, wide_of, below_zero, above_zero, signed_of, mode_within, mode_of, decoded, kept_where_printed, hex_of, onto, numbers_of, list_of}
use Rattle.fam_script.proofs.Numbers.{number_back, read_back, few_128}
use Rattle.fam_script.proofs.Splits.{lacks, parts_back}
use Rattle.fam_script.proofs.Tests.{and_left, and_right, and_both, all_both, all_one, all_same, when_true, bytes_same}

abbrev pub is_printed : List ℕ → Bool
is_printed word = list_all (is_between 33 126) word

abbrev pub are_digits : List ℕ → Bool
are_digits word = list_all (is_between 48 57) word

between : (low high n : ℕ) → low ≤ n → n ≤ high → is_between low high n ≡ true
between low high n p q = and_both (nat_le low n) (nat_le n high) (le-leb low n p) (le-leb n high q)

above : (low high n : ℕ) → is_between low high n ≡ true → low ≤ n
above low high n e = leb-true low n (and_left (nat_le low n) (nat_le n high) e)

below : (low high n : ℕ) → is_between low high n ≡ true → n ≤ high
below low high n e = leb-true n high (and_right (nat_le low n) (nat_le n high) e)

-- what holds of each entry of a table
table_at : (p : ℕ → Bool) (xs : List ℕ) (i : ℕ) → list_all p xs ≡ true → i < length xs → p (slice_index xs i) ≡ true
table_at p [] i all low = absurd (omega arith)
table_at p (x ∷ xs) zero all low = and_left (p x) (list_all p xs) all
table_at p (x ∷ xs) (suc i) all low = table_at p xs i (and_right (p x) (list_all p xs) all) (omega arith)

-- numbers

abbrev pub IsShort : ℕ → Type 0
IsShort n = n < 10 ^ 64

decimal_digits : (n : ℕ) → IsShort n → are_digits (decimal n) ≡ true
decimal_digits n h = decimal_by_steps_wide (λ n ds. are_digits ds ≡ true)
    (λ n lt. all_one (is_between 48 57) (48 + n) (between 48 57 (48 + n) (omega arith) (omega arith)))
    (λ n ds le all. all_both (is_between 48 57) ds ((48 + n % 10) ∷ []) all
    (all_one (is_between 48 57) (48 + n % 10) (between 48 57 (48 + n % 10) (omega arith) (omega arith)))) n h

digits_printed : (word : List ℕ) → are_digits word ≡ true → is_printed word ≡ true
digits_printed word e = all_same (is_between 48 57) (is_between 33 126)
    (λ x h. between 33 126 x (omega (arith, above 48 57 x h)) (omega (arith, below 48 57 x h))) word e

short_printed : (n : ℕ) → IsShort n → is_printed (decimal n) ≡ true
short_printed n h = digits_printed (decimal n) (decimal_digits n h)

not_equal : (c x : ℕ) → (x ≡ c → ⊥) → not (x == c) ≡ true
not_equal c x h = grind (arith, nat_tests)

not_zero : (n : ℕ) → (suc n == 0) ≡ false
not_zero n = grind (arith, nat_tests)

digits_lack : (c : ℕ) → c < 48 → (word : List ℕ) → are_digits word ≡ true → lacks c word ≡ true
digits_lack c low word e = all_same (is_between 48 57) (λ b. not (b == c))
    (λ x h. not_equal c x (λ same. absurd (omega (arith, above 48 57 x h)))) word e

pub printed_lacks : (c : ℕ) → c < 33 → (word : List ℕ) → is_printed word ≡ true → lacks c word ≡ true
printed_lacks c low word e = all_same (is_between 33 126) (λ b. not (b == c))
    (λ x h. not_equal c x (λ same. absurd (omega (arith, above 33 126 x h)))) word e

-- a number below 2^64
abbrev pub IsLow : ℕ → Type 0
IsLow n = n < 2 ^ 64

pub low_of : (n : ℕ) → is_u64 n ≡ true → IsLow n
low_of n e = ltb-true _ _ e

short : (n : ℕ) → IsLow n → IsShort n
short n low = lt_of_lt_of_le low (lit≤ tt)

pub decimal_printed : (n : ℕ) → IsLow n → is_printed (decimal n) ≡ true
decimal_printed n low = short_printed n (short n low)

pub u64_back : (n : ℕ) → IsLow n → number_of (decimal n) ≡ Some n
u64_back n low = number_back n low

pub small_back : (n : ℕ) → n < 2 ^ 32 → small_of (decimal n) ≡ Some n
small_back n low =
    ap (λ (o : Option ℕ). o >>= λ n. when (nat_lt n (2 ^ 32)) n) (number_back n (lt_of_lt_of_le low (lit≤ tt))) ∙ when_true (nat_lt n (2 ^ 32)) n (lt-ltb n (2 ^ 32) low)

pub byte_back : (n : ℕ) → n < 2 ^ 8 → byte_of (decimal n) ≡ Some n
byte_back n low =
    ap (λ (o : Option ℕ). o >>= λ n. when (nat_lt n (2 ^ 8)) n) (number_back n (lt_of_lt_of_le low (lit≤ tt))) ∙ when_true (nat_lt n (2 ^ 8)) n (lt-ltb n (2 ^ 8) low)

-- a number behind a letter
pub slot_of-cons : (letter : ℕ) (digits : List ℕ) → slot_of (letter ∷ digits) ≡ byte_of digits
slot_of-cons letter digits = ap (λ (t : Bool). cond t None (byte_of digits)) (not_zero (length digits))

-- modes

abbrev some : ℕ → Option ℕ
some n = Some n

pub mode_back : (m : ℕ) → m ≤ 511 → mode_of (mode_text m) ≡ Some m
mode_back m low =
    let bits : 64 * (48 + m / 64 - 48) + 8 * (48 + m / 8 % 8 - 48) + (48 + m % 8 - 48) ≡ m = omega arith in
    ap mode_within bits ∙ ap (λ (t : Bool). cond t (some m) None) (le-leb m 511 low)

pub mode_printed : (m : ℕ) → m ≤ 511 → is_printed (mode_text m) ≡ true
mode_printed m low =
    let a = 48 + m / 64 in
    let b = 48 + m / 8 % 8 in
    let c = 48 + m % 8 in
    and_both (is_between 33 126 a) (is_printed (b ∷ c ∷ [])) (between 33 126 a (omega arith) (omega arith))
    (and_both (is_between 33 126 b) (is_printed (c ∷ [])) (between 33 126 b (omega arith) (omega arith))
    (all_one (is_between 33 126) c (between 33 126 c (omega arith) (omega arith))))

-- a word that is no dash

lacks_dash : (word : List ℕ) → lacks 45 word ≡ true → bytes_eq word (codes "-") ≡ false
lacks_dash [] e = refl
lacks_dash (x ∷ word) e = no_dash x word (and_left (not (x == 45)) (lacks 45 word) e)
  where
    no_dash : (x : ℕ) (word : List ℕ) → not (x == 45) ≡ true → bytes_eq (x ∷ word) (codes "-") ≡ false
    no_dash x word h = grind (arith, nat_tests)

-- bytes

bytes_are : (bytes : List ℕ) → are_bytes bytes ≡ true → IsBytes bytes
bytes_are [] e i = omega arith
bytes_are (b ∷ bytes) e zero = ltb-true b 256 (and_left (is_byte b) (are_bytes bytes) e)
bytes_are (b ∷ bytes) e (suc i) = bytes_are bytes (and_right (is_byte b) (are_bytes bytes) e) i

-- the sixteen digits, none of which is a dash
abbrev is_hex_byte : ℕ → Bool
is_hex_byte c = is_between 33 126 c && not (c == 45)

digit_is : (d : ℕ) → d < 16 → is_hex_byte (slice_index lower_digits d) ≡ true
digit_is d low = table_at is_hex_byte lower_digits d refl low

hex_bytes : (bytes : List ℕ) → are_bytes bytes ≡ true → list_all is_hex_byte (encode_lower bytes) ≡ true
unfolding encode_with
hex_bytes [] e = refl
hex_bytes (b ∷ bytes) e =
    let low = ltb-true b 256 (and_left (is_byte b) (are_bytes bytes) e) in
    and_both (is_hex_byte (slice_index lower_digits (b / 16))) _ (digit_is (b / 16) (omega arith))
    (and_both (is_hex_byte (slice_index lower_digits (b % 16))) _ (digit_is (b % 16) (omega arith))
    (hex_bytes bytes (and_right (is_byte b) (are_bytes bytes) e)))

pub hex_printed : (bytes : List ℕ) → are_bytes bytes ≡ true → is_printed (hex_text bytes) ≡ true
hex_printed [] e = refl
hex_printed (b ∷ bytes) e =
    all_same is_hex_byte (is_between 33 126) (λ x h. and_left (is_between 33 126 x) (not (x == 45)) h) (encode_lower (b ∷ bytes)) (hex_bytes (b ∷ bytes) e)

pub hex_back : (bytes : List ℕ) → are_bytes bytes ≡ true → hex_of (hex_text bytes) ≡ Some bytes
hex_back [] e = refl
hex_back (b ∷ bytes) e =
    let all = b ∷ bytes in
    let text = encode_lower all in
    let none = all_same is_hex_byte (λ x. not (x == 45)) (λ x h. and_right (is_between 33 126 x) (not (x == 45)) h) text (hex_bytes all e) in
    ap (λ (t : Bool). cond t (Some []) (decoded (decode_of text) >>= λ found. kept_where_printed found text)) (lacks_dash text none)
    ∙ ap (λ (o : Option (List ℕ)). o >>= λ found. kept_where_printed found text) (ap decoded (decode_of-encode_lower all (bytes_are all e)))
    ∙ when_true (not (length all == 0) && bytes_eq text text) all
    (and_both (not (length all == 0)) (bytes_eq text text) (not_equal 0 (length all) (λ none. absurd (omega arith))) (bytes_same text text refl))

-- lists

-- a digit or a comma
abbrev is_list_byte : ℕ → Bool
is_list_byte c = is_between 33 126 c && not (c == 45)

digits_in_list : (word : List ℕ) → are_digits word ≡ true → list_all is_list_byte word ≡ true
digits_in_list word e = all_same (is_between 48 57) is_list_byte
    (λ x h. and_both (is_between 33 126 x) (not (x == 45)) (between 33 126 x (omega (arith, above 48 57 x h)) (omega (arith, below 48 57 x h)))
    (not_equal 45 x (λ same. absurd (omega (arith, above 48 57 x h))))) word e

u64_digits : (n : ℕ) → is_u64 n ≡ true → are_digits (decimal n) ≡ true
u64_digits n e = decimal_digits n (short n (low_of n e))

list_bytes : (n : ℕ) (ns : List ℕ) → list_all is_u64 (n ∷ ns) ≡ true → list_all is_list_byte (list_text (n ∷ ns)) ≡ true
list_bytes n [] e = digits_in_list (decimal n) (u64_digits n (and_left (is_u64 n) true e))
list_bytes n (m ∷ ns) e =
    all_both is_list_byte (decimal n) (44 ∷ list_text (m ∷ ns))
    (digits_in_list (decimal n) (u64_digits n (and_left (is_u64 n) (list_all is_u64 (m ∷ ns)) e)))
    (list_bytes m ns (and_right (is_u64 n) (list_all is_u64 (m ∷ ns)) e))

pub list_printed : (ns : List ℕ) → list_all is_u64 ns ≡ true → is_printed (list_text ns) ≡ true
list_printed [] e = refl
list_printed (n ∷ ns) e =
    all_same is_list_byte (is_between 33 126) (λ x h. and_left (is_between 33 126 x) (not (x == 45)) h) (list_text (n ∷ ns)) (list_bytes n ns e)

no_commas : (ns : List ℕ) → list_all is_u64 ns ≡ true → list_all (lacks 44) (map decimal ns) ≡ true
no_commas [] e = refl
no_commas (n ∷ ns) e =
    and_both (lacks 44 (decimal n)) (list_all (lacks 44) (map decimal ns))
    (digits_lack 44 (omega arith) (decimal n) (u64_digits n (and_left (is_u64 n) (list_all is_u64 ns) e)))
    (no_commas ns (and_right (is_u64 n) (list_all is_u64 ns) e))

numbers_back : (ns : List ℕ) → list_all is_u64 ns ≡ true → numbers_of (map decimal ns) ≡ Some ns
numbers_back [] e = refl
numbers_back (n ∷ ns) e =
    let first = number_back n (low_of n (and_left (is_u64 n) (list_all is_u64 ns) e)) in
    let others = numbers_back ns (and_right (is_u64 n) (list_all is_u64 ns) e) in
    λ i. onto (first i) (others i)

pub list_back : (ns : List ℕ) → list_all is_u64 ns ≡ true → list_of (list_text ns) ≡ Some ns
list_back [] e = refl
list_back (n ∷ ns) e =
    let text = list_text (n ∷ ns) in
    let none = all_same is_list_byte (λ x. not (x == 45)) (λ x h. and_right (is_between 33 126 x) (not (x == 45)) h) text (list_bytes n ns e) in
    ap (λ (t : Bool). cond t (Some []) (numbers_of (slice_split (λ b. b == 44) text))) (lacks_dash text none)
    ∙ ap numbers_of (parts_back 44 refl (decimal n) (map decimal ns) (no_commas (n ∷ ns) e))
    ∙ numbers_back (n ∷ ns) e

-- signed numbers

wide_back : (n : ℕ) → n < 2 ^ 128 → wide_of (decimal n) ≡ Some n
wide_back n low = read_back 128 few_128 n low

-- a number in the range of 128 bits
abbrev pub IsNarrow : ℤ → Type 0
IsNarrow (pos n) = n < 2 ^ 127
IsNarrow (negsuc n) = n < 2 ^ 127

first_lacks : (c : ℕ) (word : List ℕ) → 0 < c → lacks c word ≡ true → (not (length word == 0) && slice_index word 0 == c) ≡ false
first_lacks c [] low e = refl
first_lacks c (x ∷ word) low e =
    ap (λ (t : Bool). not t && x == c) (not_zero (length word)) ∙ not_true (x == c) (and_left (not (x == c)) (lacks c word) e)
  where
    not_true : (b : Bool) → not b ≡ true → b ≡ false
    not_true true e = cc
    not_true false e = refl

wide_short : (n : ℕ) → n < 2 ^ 127 → IsShort n
wide_short n low = lt_of_lt_of_le low (lit≤ tt)

next_short : (n : ℕ) → n < 2 ^ 127 → IsShort (suc n)
next_short n low =
    let one : suc n < 2 ^ 127 + 1 = omega arith in lt_of_lt_of_le one (lit≤ tt)

next_wide : (n : ℕ) → n < 2 ^ 127 → suc n < 2 ^ 128
next_wide n low =
    let one : suc n < 2 ^ 127 + 1 = omega arith in lt_of_lt_of_le one (lit≤ tt)

pub signed_back : (z : ℤ) → IsNarrow z → signed_of (signed_decimal z) ≡ Some z
signed_back (pos n) h =
    let word = decimal n in
    ap (λ (t : Bool). cond t (wide_of (drop 1 word) >>= below_zero) (wide_of word >>= above_zero))
    (first_lacks 45 word (omega arith) (digits_lack 45 (omega arith) word (decimal_digits n (wide_short n h))))
    ∙ ap (λ (o : Option ℕ). o >>= above_zero) (wide_back n (lt_of_lt_of_le h (lit≤ tt)))
    ∙ when_true (nat_lt n (2 ^ 127)) (pos n) (lt-ltb n (2 ^ 127) h)
signed_back (negsuc n) h =
    let word = decimal (suc n) in
    let less : suc n - 1 ≡ n = omega arith in
    ap (λ (t : Bool). cond (not t && 45 == 45) (wide_of word >>= below_zero) (wide_of (45 ∷ word) >>= above_zero)) (not_zero (length word))
    ∙ ap (λ (o : Option ℕ). o >>= below_zero) (wide_back (suc n) (next_wide n h))
    ∙ ap (λ (m : ℕ). when (not (suc n == 0) && nat_le (suc n) (2 ^ 127)) (negsuc m)) less
    ∙ when_true (not (suc n == 0) && nat_le (suc n) (2 ^ 127)) (negsuc n)
    (and_both (not (suc n == 0)) (nat_le (suc n) (2 ^ 127)) (ap not (not_zero n)) (le-leb (suc n) (2 ^ 127) (omega arith)))

pub signed_printed : (z : ℤ) → IsNarrow z → is_printed (signed_decimal z) ≡ true
signed_printed (pos n) h = short_printed n (wide_short n h)
signed_printed (negsuc n) h = short_printed (suc n) (next_short n h)

-- a number of so many bits
pos_narrow : (n : ℕ) (most : ℕ) → nat_lt n most ≡ true → most ≤ 2 ^ 127 → n < 2 ^ 127
pos_narrow n most e low = lt_of_lt_of_le (ltb-true n most e) low

neg_narrow : (n : ℕ) (most : ℕ) → nat_le n most ≡ true → most < 2 ^ 127 → n < 2 ^ 127
neg_narrow n most e low = let h = leb-true n most e in omega arith

pub in_range_narrow : (width : Width) (z : ℤ) → is_in_range width z ≡ true → IsNarrow z
in_range_narrow I32 (pos n) e = pos_narrow n (2 ^ 31) e (lit≤ tt)
in_range_narrow I32 (negsuc n) e = neg_narrow n (2 ^ 31 - 1) (and_left (nat_le n (2 ^ 31 - 1)) true e) (lit< tt)
in_range_narrow I64 (pos n) e = pos_narrow n (2 ^ 63) e (lit≤ tt)
in_range_narrow I64 (negsuc n) e = neg_narrow n (2 ^ 63 - 1) (and_left (nat_le n (2 ^ 63 - 1)) true e) (lit< tt)
in_range_narrow I128 (pos n) e = pos_narrow n (2 ^ 127) e (lit≤ tt)
in_range_narrow I128 (negsuc n) e = neg_narrow n (2 ^ 127 - 1) (and_left (nat_le n (2 ^ 127 - 1)) true e) (lit< tt)
in_range_narrow U32 (pos n) e = pos_narrow n (2 ^ 32) (and_right (nat_le 0 n) (nat_lt n (2 ^ 32)) e) (lit≤ tt)
in_range_narrow U32 (negsuc n) e = absurd cc
in_range_narrow U64 (pos n) e = pos_narrow n (2 ^ 64) (and_right (nat_le 0 n) (nat_lt n (2 ^ 64)) e) (lit≤ tt)
in_range_narrow U64 (negsuc n) e = absurd cc
in_range_narrow F32 (pos n) e = pos_narrow n (2 ^ 32) (and_right (nat_le 0 n) (nat_lt n (2 ^ 32)) e) (lit≤ tt)
in_range_narrow F32 (negsuc n) e = absurd cc
in_range_narrow F64 (pos n) e = pos_narrow n (2 ^ 64) (and_right (nat_le 0 n) (nat_lt n (2 ^ 64)) e) (lit≤ tt)
in_range_narrow F64 (negsuc n) e = absurd cc
