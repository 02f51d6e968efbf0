-- What a lawful script says of the texts of its programs.
use Rattle.std.proofs.Common.{◌≡◌, ℕ, ◌+◌, ◌*◌, ◌<◌, ◌≤◌, Bool, true, false, List, [], ◌∷◌, ◌++◌, refl, sym, ap, ◌∙◌, arith, zero, suc}
use Rattle.std.specs.Prelude.{◌&&◌, nat_le, Some, slice_get, sum_by}
use Rattle.std.specs.List.{list_all, flat_map, repeat}
use Rattle.std.proofs.lemmas.List.Folds.{list_all-append}
use Rattle.std.proofs.lemmas.List.Sums.{sum_by-cons}
use Rattle.fam_model.specs.declared.line.Line.TheVariants as line
use Rattle.fam_model.specs.declared.script.Program.{Program as Text}
use Rattle.fam_model.specs.declared.script.Script.{Script}
use Rattle.fam_model.specs.declared.script.Statement.{Statement, One, Repeat', Spin, Row_of-Statement, end_of-Statement, more_of-Statement}
use Rattle.fam_model.specs.CallText.{has_text}
use Rattle.fam_model.specs.Grammar.{is_line, IsLawfulScript, program_count, is_within, max_count}
use Rattle.fam_model.specs.ScriptText.{statement_lines, block_lines, program_lines, script_lines, call_count, block_count}
use Rattle.fam_model.specs.Atomic.{is_in_range}
use Rattle.fam_model.specs.Shape.{is_shaped, is_context, is_slot}
use Rattle.fam_model.specs.Values.{call_fits, is_u64}
use Rattle.fam_base.specs.Name.{is_between}
use Rattle.fam_model.specs.Text.{Turn, Once, Until, written_out, all_written_out}
use Rattle.fam_schedule.proofs.Finding.{get_zero, get_behind, get_none}
use Rattle.fam_schedule.proofs.Issued.{is_lawful}
use Rattle.fam_schedule.proofs.Texts.{total, call_of}

first_true : (a b : Bool) → (a && b) ≡ true → a ≡ true
first_true true b e = refl
first_true false b e = cc

second_true : (a b : Bool) → (a && b) ≡ true → b ≡ true
second_true true b e = e
second_true false b e = cc

both_true : (a b : Bool) → a ≡ true → b ≡ true → (a && b) ≡ true
both_true a b e f = rw (e, f) refl

-- counts

total_append : (xs ys : List Turn) → total (xs ++ ys) ≡ total xs + total ys
total_append [] ys = let none : total ys ≡ 0 + total ys = omega arith in none
total_append (Once asked ∷ xs) ys = let rest = total_append xs ys in omega arith
total_append (Until asked value tries ∷ xs) ys = let rest = total_append xs ys in omega arith

times_more : (n m : ℕ) → suc n * m ≡ m + n * m
times_more n m = grind arith

total_repeat : (n : ℕ) (xs : List Turn) → total (repeat n xs) ≡ n * total xs
total_repeat zero xs = let none : 0 ≡ 0 * total xs = grind arith in none
total_repeat (suc n) xs = total_append xs (repeat n xs) ∙ ap (λ k. total xs + k) (total_repeat n xs) ∙ sym (times_more n (total xs))

mutual
  counted : (s : Statement) → total (written_out s) ≡ call_count s
  counted (One asked) = refl
  counted (Repeat' times shape body) = total_repeat times (all_written_out body) ∙ ap (λ n. times * n) (counted_all body)
  counted (Spin context item offset width value tries) = let none : tries + 0 ≡ tries = omega arith in none

  counted_all : {n : _} (row : Row_of-Statement n) → total (all_written_out row) ≡ block_count row
  counted_all end_of-Statement = refl
  counted_all (more_of-Statement statement rest) =
      total_append (written_out statement) (all_written_out rest) ∙ ap (λ n. n + total (all_written_out rest)) (counted statement) ∙ ap (λ n. call_count statement + n) (counted_all rest)

-- shapes

abbrev pub all_shaped : List Turn → Bool
all_shaped turns = list_all (λ turn. is_shaped (call_of turn)) turns

shaped_append : (xs ys : List Turn) → all_shaped xs ≡ true → all_shaped ys ≡ true → all_shaped (xs ++ ys) ≡ true
shaped_append xs ys e f = list_all-append (λ turn. is_shaped (call_of turn)) xs ys ∙ both_true (all_shaped xs) (all_shaped ys) e f

shaped_repeat : (n : ℕ) (xs : List Turn) → all_shaped xs ≡ true → all_shaped (repeat n xs) ≡ true
shaped_repeat zero xs e = refl
shaped_repeat (suc n) xs e = shaped_append xs (repeat n xs) e (shaped_repeat n xs e)

one_picked : (a b c : Bool) → (a && b && c && true) ≡ true → (b && true) ≡ true
one_picked true true c e = refl
one_picked true false c e = cc
one_picked false b c e = cc

spin_picked : (a b c d e : Bool) → (a && b && c && d && e && true) ≡ true → (a && (b && true && true) && true) ≡ true
spin_picked true true c d e h = refl
spin_picked true false c d e h = cc
spin_picked false b c d e h = cc

mutual
  shaped_turns : (s : Statement) → list_all is_line (statement_lines s) ≡ true → all_shaped (written_out s) ≡ true
  shaped_turns (One asked) e = one_picked (has_text asked) (is_shaped asked) (call_fits asked) e
  shaped_turns (Repeat' times shape body) e = shaped_repeat times (all_written_out body) (shaped_all body
      (first_true (list_all is_line (block_lines body)) (list_all is_line (line.Done ∷ []))
      (sym (list_all-append is_line (block_lines body) (line.Done ∷ [])) ∙ second_true (is_line (line.Repeat times)) (list_all is_line (block_lines body ++ line.Done ∷ [])) e)))
  shaped_turns (Spin context item offset width value tries) e =
      spin_picked (is_context context) (is_slot item) (is_u64 offset) (is_in_range width value) (is_between 1 max_count tries) e

  shaped_all : {n : _} (row : Row_of-Statement n) → list_all is_line (block_lines row) ≡ true → all_shaped (all_written_out row) ≡ true
  shaped_all end_of-Statement e = refl
  shaped_all (more_of-Statement statement rest) e =
      let parts = sym (list_all-append is_line (statement_lines statement) (block_lines rest)) ∙ e in
      shaped_append (written_out statement) (all_written_out rest)
      (shaped_turns statement (first_true (list_all is_line (statement_lines statement)) (list_all is_line (block_lines rest)) parts))
      (shaped_all rest (second_true (list_all is_line (statement_lines statement)) (list_all is_line (block_lines rest)) parts))

-- programs

statements_counted : (statements : List Statement) → total (flat_map written_out statements) ≡ sum_by call_count statements
statements_counted [] = refl
statements_counted (s ∷ statements) =
    total_append (written_out s) (flat_map written_out statements)
    ∙ ap (λ n. n + total (flat_map written_out statements)) (counted s)
    ∙ ap (λ n. call_count s + n) (statements_counted statements)
    ∙ sym (sum_by-cons call_count s statements)

statements_shaped : (statements : List Statement) → list_all is_line (flat_map statement_lines statements) ≡ true → all_shaped (flat_map written_out statements) ≡ true
statements_shaped [] e = refl
statements_shaped (s ∷ statements) e =
    let parts = sym (list_all-append is_line (statement_lines s) (flat_map statement_lines statements)) ∙ e in
    shaped_append (written_out s) (flat_map written_out statements)
    (shaped_turns s (first_true (list_all is_line (statement_lines s)) (list_all is_line (flat_map statement_lines statements)) parts))
    (statements_shaped statements (second_true (list_all is_line (statement_lines s)) (list_all is_line (flat_map statement_lines statements)) parts))

flat_at : {A B : Type 0} (test : B → Bool) (f : A → List B) (xs : List A) (k : ℕ) (x : A) → list_all test (flat_map f xs) ≡ true → slice_get xs k ≡ Some x → list_all test (f x) ≡ true
flat_at test f [] k x h there = let low : k < k = get_none k x there in let no : ⊥ = omega arith in absurd no
flat_at test f (y ∷ xs) zero x h there =
    let same : Some y ≡ Some x = sym (get_zero y xs) ∙ there in
    let is : y ≡ x = cc in
    ap (λ z. list_all test (f z)) (sym is) ∙ first_true (list_all test (f y)) (list_all test (flat_map f xs)) (sym (list_all-append test (f y) (flat_map f xs)) ∙ h)
flat_at test f (y ∷ xs) (suc k) x h there =
    flat_at test f xs k x (second_true (list_all test (f y)) (list_all test (flat_map f xs)) (sym (list_all-append test (f y) (flat_map f xs)) ∙ h)) (get_behind y xs k x there)

list_at : {A : Type 0} (test : A → Bool) (xs : List A) (k : ℕ) (x : A) → list_all test xs ≡ true → slice_get xs k ≡ Some x → test x ≡ true
list_at test [] k x h there = let low : k < k = get_none k x there in let no : ⊥ = omega arith in absurd no
list_at test (y ∷ xs) zero x h there =
    let same : Some y ≡ Some x = sym (get_zero y xs) ∙ there in
    let is : y ≡ x = cc in
    ap test (sym is) ∙ first_true (test y) (list_all test xs) h
list_at test (y ∷ xs) (suc k) x h there = list_at test xs k x (second_true (test y) (list_all test xs) h) (get_behind y xs k x there)

-- the turns of a program of a lawful script are shaped, and not too many
pub record IsLawfulText (text : Text) : Type 0 where
  pub shaped : all_shaped (flat_map written_out text.statements) ≡ true
  pub few : total (flat_map written_out text.statements) ≤ 65_536

le_of : (n m : ℕ) → nat_le n m ≡ true → n ≤ m
le_of n m e = grind arith

pub lawful_text : (script : Script) (pe : ℕ) (text : Text) → IsLawfulScript script → slice_get script.programs pe ≡ Some text → IsLawfulText text
lawful_text script pe text lawful there =
    let lines : list_all is_line (script_lines script) ≡ true = lawful.but_count.lines in
    let rest = second_true (is_line (line.Service script.service)) (list_all is_line (flat_map program_lines script.programs ++ line.Stop ∷ [])) lines in
    let programs : list_all is_line (flat_map program_lines script.programs) ≡ true =
    first_true (list_all is_line (flat_map program_lines script.programs)) (list_all is_line (line.Stop ∷ []))
    (sym (list_all-append is_line (flat_map program_lines script.programs) (line.Stop ∷ [])) ∙ rest) in
    let one : list_all is_line (program_lines text) ≡ true = flat_at is_line program_lines script.programs pe text programs there in
    let body = second_true (is_line (line.Pe text.who)) (list_all is_line (flat_map statement_lines text.statements ++ line.End ∷ [])) one in
    let statements : list_all is_line (flat_map statement_lines text.statements) ≡ true =
    first_true (list_all is_line (flat_map statement_lines text.statements)) (list_all is_line (line.End ∷ []))
    (sym (list_all-append is_line (flat_map statement_lines text.statements) (line.End ∷ [])) ∙ body) in
    let within : nat_le (program_count text) max_count ≡ true = list_at (is_within max_count) script.programs pe text lawful.count there in
    let low : program_count text ≤ 65_536 = le_of (program_count text) 65_536 within in
    let same : total (flat_map written_out text.statements) ≡ program_count text = statements_counted text.statements in
    record { shaped = statements_shaped text.statements statements; few = omega arith }

pub lawful_service : (script : Script) → IsLawfulScript script → is_lawful script.service ≡ true
lawful_service script lawful =
    first_true (is_line (line.Service script.service)) (list_all is_line (flat_map program_lines script.programs ++ line.Stop ∷ [])) lawful.but_count.lines
