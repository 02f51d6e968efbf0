-- A script that is made is lawful.
use Rattle.std.proofs.Common.{◌≡◌, ℕ, zero, suc, ◌+◌, ◌*◌, ◌/◌, ◌%◌, ◌^◌, ◌<◌, ◌≤◌, ◌⊎◌, inl, inr, Bool, true, false, List, [], ◌∷◌, ◌++◌, length, map, refl, ap, ◌∙◌, arith, length-append}
use Rattle.std.specs.Prelude.{◌&&◌, nat_le, nat_lt, sum_by, slice_index_or, codes, pos, int_le, int_lt}
use Rattle.std.specs.Fmt.{decimal}
use Rattle.std.specs.List.{list_all, flat_map, range_with_len}
use Rattle.std.proofs.lemmas.Bool.{cases_lt}
use Rattle.std.proofs.lemmas.Int.{ints}
use Rattle.std.proofs.lemmas.Fmt.{decimal_digit, decimal_step}
use Rattle.std.proofs.lemmas.List.{length-map}
use Rattle.std.proofs.lemmas.List.Folds.{list_all-append}
use Rattle.std.proofs.lemmas.List.Sums.{sum_by-cons}
use Rattle.rand_pcg.specs.Lcg.{Lcg}
use Rattle.rand_pcg.specs.Pcg.{pcg32}
use Rattle.fam_base.specs.Name.{is_between}
use Rattle.fam_model.specs.declared.call.Call.{Call}
use Rattle.fam_model.specs.declared.call.Call.TheVariants as call
use Rattle.fam_model.specs.declared.call.Width.TheVariants as width
use Rattle.fam_model.specs.declared.line.Line.{Line}
use Rattle.fam_model.specs.declared.line.Line.TheVariants as line
use Rattle.fam_model.specs.declared.script.Statement.TheVariants as statement
use Rattle.fam_model.specs.declared.script.Program.{Program}
use Rattle.fam_model.specs.Atomic.{is_in_range}
use Rattle.fam_model.specs.Grammar.{IsLawfulScript, is_line, is_shallow, is_within, max_count, max_nesting}
use Rattle.fam_model.specs.Limits.{nobody}
use Rattle.fam_model.specs.Lists.{numbers_below}
use Rattle.fam_model.specs.ScriptText.{program_lines, statement_lines, call_count, nesting}
use Rattle.fam_model.specs.Shape.{is_name}
use Rattle.fam_trial.specs.Generator.{kinds_of_call, made_call, made_calls, made_program, made_programs, made_script, new_item, new_region, statements_of, words_from, words_of_program}

both_true : (a b : Bool) → a ≡ true → b ≡ true → (a && b) ≡ true
both_true a b e f = rw (e, f) refl

lt_true : (n m : ℕ) → n < m → nat_lt n m ≡ true
lt_true n m h = grind arith

le_true : (n m : ℕ) → n ≤ m → nat_le n m ≡ true
le_true n m h = grind arith

first_true : (a b : Bool) → (a && b) ≡ true → a ≡ true
first_true true b e = refl
first_true false b e = cc

second_true : (a b : Bool) → (a && b) ≡ true → b ≡ true
second_true true b e = e
second_true false b e = cc

-- names of regions and items

digit_shown : (d : ℕ) → d < 10 → is_between 33 126 (48 + d) ≡ true
digit_shown d small =
    let low : 33 ≤ 48 + d = omega arith in
    let high : 48 + d ≤ 126 = omega arith in
    both_true (nat_le 33 (48 + d)) (nat_le (48 + d) 126) (le_true 33 (48 + d) low) (le_true (48 + d) 126 high)

one_digit : (letter d : ℕ) → is_between 33 126 letter ≡ true → is_between 33 126 (48 + d) ≡ true → is_name (letter ∷ (48 + d) ∷ []) ≡ true
one_digit letter d e f = rw (e, f) refl

two_digits : (letter d n : ℕ) → is_between 33 126 letter ≡ true → is_between 33 126 (48 + d) ≡ true → is_between 33 126 (48 + n) ≡ true →
    is_name (letter ∷ (48 + d) ∷ (48 + n) ∷ []) ≡ true
two_digits letter d n e f g = rw (e, f, g) refl

name_by : (letter pe : ℕ) → is_between 33 126 letter ≡ true → pe < 64 → (pe < 10) ⊎ (10 ≤ pe) → is_name (letter ∷ decimal pe) ≡ true
name_by letter pe e small (inl low) = ap (λ ds. is_name (letter ∷ ds)) (decimal_digit pe low) ∙ one_digit letter pe e (digit_shown pe low)
name_by letter pe e small (inr high) =
    let wide : pe < 2 ^ 64 = omega arith in
    let first : pe / 10 < 10 = omega arith in
    let last : pe % 10 < 10 = omega arith in
    ap (λ ds. is_name (letter ∷ ds)) (decimal_step pe high wide ∙ ap (λ ds. ds ++ (48 + pe % 10) ∷ []) (decimal_digit (pe / 10) first))
    ∙ two_digits letter (pe / 10) (pe % 10) e (digit_shown (pe / 10) first) (digit_shown (pe % 10) last)

region_name : (pe : ℕ) → pe < 64 → is_name (codes "g" ++ decimal pe) ≡ true
region_name pe small = name_by 103 pe refl small (cases_lt pe 10)

item_name : (pe : ℕ) → pe < 64 → is_name (codes "d" ++ decimal pe) ≡ true
item_name pe small = name_by 100 pe refl small (cases_lt pe 10)

-- lines of calls

abbrev is_call_line : Call → Bool
is_call_line asked = is_line (line.One asked)

region_line : (pe : ℕ) → pe < 64 → is_call_line (new_region pe) ≡ true
region_line pe small = ap (λ b. b && true) (region_name pe small)

item_line : (pe : ℕ) → pe < 64 → is_call_line (new_item pe) ≡ true
item_line pe small = ap (λ b. b && true) (item_name pe small)

byte_in_range : (byte : ℕ) → byte < 256 → is_in_range width.U64 (pos byte) ≡ true
byte_in_range byte small =
    both_true (int_le (pos 0) (pos byte)) (int_lt (pos byte) (pos (2 ^ 64))) (grind (arith, ints)) (lt_true byte (2 ^ 64) (omega arith))

kinds_lawful : (item offset byte : ℕ) → nat_lt item 16 ≡ true → nat_lt offset (2 ^ 64) ≡ true → nat_lt byte (2 ^ 8) ≡ true → is_in_range width.U64 (pos byte) ≡ true →
    list_all is_call_line (kinds_of_call item offset byte) ≡ true
kinds_lawful item offset byte i o b r = rw (i, o, b, r) refl

any_of_all : {A : Type 0} (test : A → Bool) (xs : List A) (k : ℕ) (d : A) → list_all test xs ≡ true → test d ≡ true → test (slice_index_or xs k d) ≡ true
any_of_all test [] k d e f = f
any_of_all test (x ∷ xs) zero d e f = first_true (test x) (list_all test xs) e
any_of_all test (x ∷ xs) (suc k) d e f = any_of_all test xs k d (second_true (test x) (list_all test xs) e) f

made_call_lawful : (word : ℕ) → is_call_line (made_call word) ≡ true
made_call_lawful word =
    let item = word / 4096 % 2 in
    let offset = 8 * (word / 8 % 512) in
    let byte = word / 8192 % 256 in
    let item_small : item < 16 = omega arith in
    let offset_small : offset < 2 ^ 64 = omega arith in
    let byte_small : byte < 256 = omega arith in
    any_of_all is_call_line (kinds_of_call item offset byte) (word % 8) call.Barrier
    (kinds_lawful item offset byte (lt_true item 16 item_small) (lt_true offset (2 ^ 64) offset_small) (lt_true byte (2 ^ 8) byte_small) (byte_in_range byte byte_small)) refl

words_lawful : (words : List ℕ) → list_all is_call_line (map made_call words) ≡ true
words_lawful [] = refl
words_lawful (word ∷ words) = both_true (is_call_line (made_call word)) (list_all is_call_line (map made_call words)) (made_call_lawful word) (words_lawful words)

calls_lawful : (pe : ℕ) (words : List ℕ) → pe < 64 → list_all is_call_line (made_calls pe words) ≡ true
calls_lawful pe words small =
    let rest = map made_call words ++ call.Quiet 0 ∷ [] in
    let rest_lawful : list_all is_call_line rest ≡ true = list_all-append is_call_line (map made_call words) (call.Quiet 0 ∷ []) ∙ both_true (list_all is_call_line (map made_call words)) true (words_lawful words) refl in
    both_true (is_call_line (new_region pe)) (is_call_line (new_item pe) && list_all is_call_line rest) (region_line pe small)
    (both_true (is_call_line (new_item pe)) (list_all is_call_line rest) (item_line pe small) rest_lawful)

-- statements of calls

lines_of_calls : (calls : List Call) → flat_map statement_lines (statements_of calls) ≡ map (λ (asked : Call). line.One asked) calls
lines_of_calls [] = refl
lines_of_calls (asked ∷ calls) = ap (λ ls. line.One asked ∷ ls) (lines_of_calls calls)

all_of_calls : (calls : List Call) → list_all is_call_line calls ≡ true → list_all is_line (map (λ (asked : Call). line.One asked) calls) ≡ true
all_of_calls [] e = refl
all_of_calls (asked ∷ calls) e =
    both_true (is_call_line asked) (list_all is_line (map (λ (a : Call). line.One a) calls)) (first_true (is_call_line asked) (list_all is_call_line calls) e)
    (all_of_calls calls (second_true (is_call_line asked) (list_all is_call_line calls) e))

count_of_calls : (calls : List Call) → sum_by call_count (statements_of calls) ≡ length calls
count_of_calls [] = refl
count_of_calls (asked ∷ calls) =
    let one = sum_by-cons call_count (statement.One asked) (statements_of calls) in
    let rest = count_of_calls calls in
    one ∙ ap (λ n. 1 + n) rest ∙ omega arith

shallow_calls : (calls : List Call) → list_all (λ s. nat_le (nesting s) max_nesting) (statements_of calls) ≡ true
shallow_calls [] = refl
shallow_calls (asked ∷ calls) = shallow_calls calls

length-words : (n : ℕ) (g : Lcg) → length (words_from n g) ≡ n
length-words zero g = refl
length-words (suc n) g = let rest = length-words n (pcg32 g).1 in omega (arith, rest)

length-made_calls : (pe : ℕ) (words : List ℕ) → length (made_calls pe words) ≡ length words + 3
length-made_calls pe words =
    let behind = length-append (map made_call words) (call.Quiet 0 ∷ []) in
    let mapped = length-map words made_call in
    let one : length (call.Quiet 0 ∷ []) ≡ 1 = refl in
    omega (arith, behind, mapped, one)

-- programs

program_lawful : (pe : ℕ) (words : List ℕ) → pe < 64 → list_all is_line (program_lines (made_program pe words)) ≡ true
program_lawful pe words small =
    let calls = made_calls pe words in
    let user : nat_lt (pe + 1) nobody ≡ true = lt_true (pe + 1) nobody (omega arith) in
    let body : list_all is_line (flat_map statement_lines (statements_of calls)) ≡ true =
    ap (list_all is_line) (lines_of_calls calls) ∙ all_of_calls calls (calls_lawful pe words small) in
    both_true (nat_lt (pe + 1) nobody && true) (list_all is_line (flat_map statement_lines (statements_of calls) ++ line.End ∷ [])) (both_true (nat_lt (pe + 1) nobody) true user refl)
    (list_all-append is_line (flat_map statement_lines (statements_of calls)) (line.End ∷ []) ∙ both_true (list_all is_line (flat_map statement_lines (statements_of calls))) true body refl)

length-program : (pe : ℕ) (words : List ℕ) → length (program_lines (made_program pe words)) ≡ length words + 5
length-program pe words =
    let calls = made_calls pe words in
    let behind = length-append (flat_map statement_lines (statements_of calls)) (line.End ∷ []) in
    let mapped : length (flat_map statement_lines (statements_of calls)) ≡ length calls = ap length (lines_of_calls calls) ∙ length-map calls (λ (asked : Call). line.One asked) in
    let made = length-made_calls pe words in
    let one : length (line.End ∷ []) ≡ 1 = refl in
    omega (arith, behind, mapped, made, one)

-- the programs of a script

all_flat : (test : Line → Bool) (each : ℕ → Program) (k n : ℕ) → ((pe : ℕ) → k ≤ pe → pe < k + n → list_all test (program_lines (each pe)) ≡ true) →
    list_all test (flat_map program_lines (map each (range_with_len k n))) ≡ true
all_flat test each k zero h = refl
all_flat test each k (suc n) h =
    let rest = flat_map program_lines (map each (range_with_len (k + 1) n)) in
    list_all-append test (program_lines (each k)) rest
    ∙ both_true (list_all test (program_lines (each k))) (list_all test rest) (h k (omega arith) (omega arith))
    (all_flat test each (k + 1) n (λ pe low high. h pe (omega arith) (omega arith)))

all_mapped : (test : Program → Bool) (each : ℕ → Program) (k n : ℕ) → ((pe : ℕ) → test (each pe) ≡ true) → list_all test (map each (range_with_len k n)) ≡ true
all_mapped test each k zero h = refl
all_mapped test each k (suc n) h = both_true (test (each k)) (list_all test (map each (range_with_len (k + 1) n))) (h k) (all_mapped test each (k + 1) n h)

length-flat : (each : ℕ → Program) (k n m : ℕ) → ((pe : ℕ) → length (program_lines (each pe)) ≡ m) → length (flat_map program_lines (map each (range_with_len k n))) ≡ n * m
length-flat each k zero m h = grind arith
length-flat each k (suc n) m h =
    let rest = flat_map program_lines (map each (range_with_len (k + 1) n)) in
    let one = h k in
    let joined = length-append (program_lines (each k)) rest in
    let others = length-flat each (k + 1) n m h in
    let product : suc n * m ≡ m + n * m = grind arith in
    omega (arith, one, joined, others, product)

length-range : (k n : ℕ) → length (range_with_len k n) ≡ n
length-range k zero = refl
length-range k (suc n) = let rest = length-range (k + 1) n in omega (arith, rest)

-- up to 64 programs with so few calls
pub made_lawful : (seed programs calls : ℕ) → programs ≤ 64 → calls ≤ 65_533 → IsLawfulScript (made_script seed programs calls)
made_lawful seed programs calls few small =
    let each : ℕ → Program = λ pe. made_program pe (words_of_program seed calls pe) in
    let all = flat_map program_lines (made_programs seed programs calls) in
    let lines : list_all is_line all ≡ true = all_flat is_line each 0 programs (λ pe low high. program_lawful pe (words_of_program seed calls pe) (omega arith)) in
    let long : length all ≡ programs * (calls + 5) =
    length-flat each 0 programs (calls + 5) (λ pe. length-program pe (words_of_program seed calls pe) ∙ ap (λ n. n + 5) (length-words calls _)) in
    let behind = length-append all (line.Stop ∷ []) in
    let one : length (line.Stop ∷ []) ≡ 1 = refl in
    let count : length (made_programs seed programs calls) ≡ programs = length-map (numbers_below programs) each ∙ length-range 0 programs in
    record {
      but_count = record {
        lines = list_all-append is_line all (line.Stop ∷ []) ∙ both_true (list_all is_line all) true lines refl;
        programs = omega (arith, count);
        nesting = all_mapped is_shallow each 0 programs (λ pe. shallow_calls (made_calls pe (words_of_program seed calls pe)));
        line_count = omega (arith, long, behind, one);
      };
      count = all_mapped (is_within max_count) each 0 programs (λ pe.
          le_true (sum_by call_count (statements_of (made_calls pe (words_of_program seed calls pe)))) max_count
          (let counted = count_of_calls (made_calls pe (words_of_program seed calls pe)) in
          let made = length-made_calls pe (words_of_program seed calls pe) in
          let drawn : length (words_of_program seed calls pe) ≡ calls = length-words calls _ in
          omega (arith, counted, made, drawn)));
    }
