-- The words of a generator, one more.
use Rattle.std.proofs.Common.{◌≡◌, ℕ, zero, suc, ◌+◌, ◌*◌, List, [], ◌∷◌, ◌++◌, map, refl, sym, ap, ◌∙◌, append_assoc, arith, add-one, zero-add}
use Rattle.std.specs.List.{range_with_len}
use Rattle.std.proofs.lemmas.List.{map-append}
use Rattle.rand_pcg.specs.Lcg.{Lcg}
use Rattle.rand_pcg.specs.Pcg.{pcg32}
use Rattle.fam_model.specs.declared.call.Call.{Call}
use Rattle.fam_model.specs.declared.script.Statement.{Statement}
use Rattle.fam_model.specs.declared.script.Statement.TheVariants as statement
use Rattle.fam_model.specs.declared.script.Program.{Program}
use Rattle.fam_model.specs.Lists.{numbers_below}
use Rattle.fam_schedule.specs.Schedule.{words_of}
use Rattle.fam_trial.specs.Generator.{words_from, after_words, words_of_program, made_call, made_program, made_programs, statements_of}

words_longer : (n : ℕ) (g : Lcg) → words_from (suc n) g ≡ words_from n g ++ (pcg32 (after_words n g)).0 ∷ []
words_longer zero g = refl
words_longer (suc n) g = ap (λ ws. (pcg32 g).0 ∷ ws) (words_longer n (pcg32 g).1)

words_later : (n : ℕ) (g : Lcg) → after_words (suc n) g ≡ (pcg32 (after_words n g)).1
words_later zero g = refl
words_later (suc n) g = words_later n (pcg32 g).1

-- the words behind so many, and behind so many more
after_both : (n m : ℕ) (g : Lcg) → after_words m (after_words n g) ≡ after_words (n + m) g
after_both zero m g = ap (λ k. after_words k g) (sym (zero-add m))
after_both (suc n) m g = let e : suc (n + m) ≡ suc n + m = omega arith in after_both n m (pcg32 g).1 ∙ ap (λ k. after_words k g) e

-- a word, and the generator behind it
abbrev pub drawn_word : ℕ → Lcg → ℕ × Lcg
drawn_word word g = (word, g)

statements_longer : (asked : List Call) (one : Call) → statements_of (asked ++ one ∷ []) ≡ statements_of asked ++ statement.One one ∷ []
statements_longer asked one = map-append (λ (c : Call). statement.One c) asked (one ∷ [])

-- one call more
pub calls_more : (start now next : List Statement) (n : ℕ) (first g later : Lcg) (word : ℕ) (asked : Call) → g ≡ after_words n first →
    now ≡ start ++ statements_of (map made_call (words_from n first)) → drawn_word word later ≡ pcg32 g → asked ≡ made_call word →
    next ≡ now ++ statement.One asked ∷ [] → next ≡ start ++ statements_of (map made_call (words_from (n + 1) first))
calls_more start now next n first g later word asked at so_far drew made grown =
    let word_is : word ≡ (pcg32 (after_words n first)).0 = ap (λ d. d.0) drew ∙ ap (λ x. (pcg32 x).0) at in
    let ws = words_from n first in
    let one : Call = made_call (pcg32 (after_words n first)).0 in
    let same : asked ≡ one = made ∙ ap made_call word_is in
    let longer : words_from (n + 1) first ≡ ws ++ (pcg32 (after_words n first)).0 ∷ [] = ap (λ k. words_from k first) (add-one n) ∙ words_longer n first in
    let statements : statements_of (map made_call (words_from (n + 1) first)) ≡ statements_of (map made_call ws) ++ statement.One one ∷ [] =
    ap (λ l. statements_of (map made_call l)) longer ∙ ap statements_of (map-append made_call ws ((pcg32 (after_words n first)).0 ∷ [])) ∙ statements_longer (map made_call ws) one in
    grown ∙ ap (λ l. l ++ statement.One asked ∷ []) so_far ∙ ap (λ c. (start ++ statements_of (map made_call ws)) ++ statement.One c ∷ []) same
    ∙ append_assoc start (statements_of (map made_call ws)) (statement.One one ∷ []) ∙ ap (λ l. start ++ l) (sym statements)

pub word_more : (n : ℕ) (first g later : Lcg) (word : ℕ) → g ≡ after_words n first → drawn_word word later ≡ pcg32 g → later ≡ after_words (n + 1) first
word_more n first g later word at drew =
    ap (λ d. d.1) drew ∙ ap (λ x. (pcg32 x).1) at ∙ sym (words_later n first) ∙ ap (λ k. after_words k first) (sym (add-one n))

range_more : (a n : ℕ) → range_with_len a (suc n) ≡ range_with_len a n ++ (a + n) ∷ []
range_more a zero = let same : a ≡ a + 0 = omega arith in ap (λ k. k ∷ []) same
range_more a (suc n) = let same : (a + 1) + n ≡ a + suc n = omega arith in ap (λ xs. a ∷ xs) (range_more (a + 1) n ∙ ap (λ k. range_with_len (a + 1) n ++ k ∷ []) same)

below_more : (n : ℕ) → numbers_below (n + 1) ≡ numbers_below n ++ n ∷ []
below_more n = ap (range_with_len 0) (add-one n) ∙ range_more 0 n ∙ ap (λ k. numbers_below n ++ k ∷ []) (zero-add n)

-- one program more
pub programs_more : (seed n calls : ℕ) (now next : List Program) (g : Lcg) (one : Program) → g ≡ after_words (n * calls) (words_of seed) →
    now ≡ made_programs seed n calls → one ≡ made_program n (words_from calls g) → next ≡ now ++ one ∷ [] → next ≡ made_programs seed (n + 1) calls
programs_more seed n calls now next g one at so_far made grown =
    let each : ℕ → Program = λ pe. made_program pe (words_of_program seed calls pe) in
    let same : one ≡ each n = made ∙ ap (λ x. made_program n (words_from calls x)) at in
    grown ∙ ap (λ l. l ++ one ∷ []) so_far ∙ ap (λ p. made_programs seed n calls ++ p ∷ []) same
    ∙ sym (ap (map each) (below_more n) ∙ map-append each (numbers_below n) (n ∷ []))

pub programs_later : (seed n calls : ℕ) (g later : Lcg) → g ≡ after_words (n * calls) (words_of seed) → later ≡ after_words calls g →
    later ≡ after_words ((n + 1) * calls) (words_of seed)
programs_later seed n calls g later at new =
    let count : n * calls + calls ≡ (n + 1) * calls = grind arith in
    new ∙ ap (after_words calls) at ∙ after_both (n * calls) calls (words_of seed) ∙ ap (λ k. after_words k (words_of seed)) count
