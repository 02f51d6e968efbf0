-- Reading bytes line by line gives the script, or the bad line.
use Rattle.std.proofs.Common.{◌≡◌, ◌⊎◌, inl, inr, ℕ, suc, ◌+◌, ◌<◌, ◌≤◌, true, List, [], ◌∷◌, ◌++◌, length, take, drop, map, Option, Some, None, Result, Ok, Err, refl, sym, ap, subst, ◌∙◌, arith}
use Rattle.std.specs.List.{list_all}
use Rattle.std.proofs.lemmas.List.{append-nil, take-append-drop, take-take, length-map}
use Rattle.std.proofs.Math.Seq.{take-length}
use Rattle.fam_model.specs.declared.service.Service.{Service}
use Rattle.fam_model.specs.declared.script.Program.{Program}
use Rattle.fam_model.specs.declared.script.Script.{Script}
use Rattle.fam_model.specs.Lists.{◌>>=◌}
use Rattle.fam_model.specs.declared.line.Line.{Line}
use Rattle.fam_model.specs.Words.{text_of}
use Rattle.fam_model.specs.ScriptText.{line_text, script_lines}
use Rattle.fam_script.specs.BadLine.{whole_lines, IsFirstBadLine, BeginsScript, IsBadLine}
use Rattle.fam_model.specs.Grammar.{is_line, max_count, IsLawfulScript, IsScript}
use Rattle.fam_script.specs.Machine.{Reading, Nothing, Between, Inside, Whole, step, run}
use Rattle.fam_script.specs.Parsing.{rest_of, script_of, ended_with, and_then, step_text, scan, parse_of}
use Rattle.fam_script.specs.Reading.{line_of}
use Rattle.fam_script.proofs.LinesBack.{line_reader}
use Rattle.fam_script.proofs.Tests.{and_left, and_right, and_both, bind_some, some_is}
use Rattle.fam_script.proofs.Spelled.{lines_of, step_spelled}
use Rattle.fam_script.proofs.Completed.{completed, begins, programs_within, run_reads, read_begins}
use Rattle.fam_script.proofs.Runs.{beginning_is_read, lawful_is_read}
use Rattle.fam_script.proofs.Splits.{lacks, whole_lines_back, rest_back, bytes_are}

abbrev good : Script → Result Script ℕ
good script = Ok script

abbrev bad : ℕ → Result Script ℕ
bad n = Err n

good_is : (a b : Script) → good a ≡ good b → a ≡ b
good_is a b e = cc

bad_is : (m n : ℕ) → bad m ≡ bad n → m ≡ n
bad_is m n e = cc

-- texts read in turn
abbrev texts_run : Reading → List (List ℕ) → Option Reading
texts_run reading [] = Some reading
texts_run reading (text ∷ texts) = do
  next ← step_text reading text
  texts_run next texts

-- lines that run are texts that run
lines_to_texts : (r now : Reading) (lines : List Line) → run max_count r lines ≡ Some now → texts_run r (map line_text lines) ≡ Some now
lines_to_texts r now [] e = e
lines_to_texts r now (l ∷ lines) e =
    let b = bind_some (step max_count r l) (λ next. run max_count next lines) now e in
    let one = step_spelled max_count r b.0 l b.1 in
    let first : step_text r (line_text l) ≡ Some b.0 = ap (λ (o : Option Line). o >>= step max_count r) (line_reader.again l one.0) ∙ b.1 in
    ap (λ (o : Option Reading). o >>= λ next. texts_run next (map line_text lines)) first ∙ lines_to_texts b.0 now lines b.2

-- and the other way round
texts_to_lines : (r now : Reading) (texts : List (List ℕ)) → texts_run r texts ≡ Some now → (lines : List Line) × (texts ≡ map line_text lines) × (run max_count r lines ≡ Some now)
texts_to_lines r now [] e = ([], refl, e)
texts_to_lines r now (t ∷ texts) e =
    let b = bind_some (step_text r t) (λ next. texts_run next texts) now e in
    let l = bind_some (line_of t) (step max_count r) b.0 b.1 in
    let others = texts_to_lines b.0 now texts b.2 in
    let first = (line_reader.takes t l.0 l.1).1 in
    (l.0 ∷ others.0, (λ i. first i ∷ others.1 i), ap (λ (o : Option Reading). o >>= λ next. run max_count next others.0) l.2 ∙ others.2)

texts_front : (r now : Reading) (xs ys : List (List ℕ)) → texts_run r (xs ++ ys) ≡ Some now → (m : Reading) × (texts_run r xs ≡ Some m)
texts_front r now [] ys e = (r, refl)
texts_front r now (x ∷ xs) ys e =
    let b = bind_some (step_text r x) (λ next. texts_run next (xs ++ ys)) now e in
    let rest = texts_front b.0 now xs ys b.2 in
    (rest.0, ap (λ (o : Option Reading). o >>= λ next. texts_run next xs) b.1 ∙ rest.1)

-- texts with which a script begins are those that run
begins_from_run : (now : Reading) (texts : List (List ℕ)) → texts_run Nothing texts ≡ Some now → BeginsScript texts
begins_from_run now texts e =
    let l = texts_to_lines Nothing now texts e in
    let b = read_begins now l.0 l.2 in
    record { lines = l.0; script = b.0; beginning = b.1; text = l.1 }

run_from_begins : (texts : List (List ℕ)) → BeginsScript texts → (now : Reading) × (texts_run Nothing texts ≡ Some now)
run_from_begins texts b =
    let r = beginning_is_read b.lines (b.script, b.beginning) in
    (r.0, subst (λ (t : List (List ℕ)). texts_run Nothing t ≡ Some r.0) (sym b.text) (lines_to_texts Nothing r.0 b.lines r.1))

-- a scan that came to the end of the lines
record Ran (n : ℕ) (r : Reading) (texts : List (List ℕ)) (rest : List ℕ) (result : Result Script ℕ) : Type 0 where
  now : Reading
  runs : texts_run r texts ≡ Some now
  gives : result ≡ ended_with (n + length texts) now rest

-- a scan that stopped at the first line that cannot stand
record Stopped (n : ℕ) (r : Reading) (texts : List (List ℕ)) (result : Result Script ℕ) : Type 0 where
  k : ℕ
  now : Reading
  within : k < length texts
  before : texts_run r (take k texts) ≡ Some now
  fails : texts_run r (take (suc k) texts) ≡ None
  gives : result ≡ Err (n + k + 1)

scanned_step : (n : ℕ) (r : Reading) (t : List ℕ) (texts : List (List ℕ)) (rest : List ℕ) (o : Option Reading) → step_text r t ≡ o →
    ((next : Reading) → Ran (n + 1) next texts rest (scan (n + 1) next texts rest) ⊎ Stopped (n + 1) next texts (scan (n + 1) next texts rest)) →
    Ran n r (t ∷ texts) rest (scan n r (t ∷ texts) rest) ⊎ Stopped n r (t ∷ texts) (scan n r (t ∷ texts) rest)
scanned_step n r t texts rest None e others = inr (record {
  k = 0;
  now = r;
  within = omega arith;
  before = refl;
  fails = ap (λ (o : Option Reading). o >>= λ next. texts_run next []) e;
  gives = ap (λ (o : Option Reading). and_then n o (λ next. scan (n + 1) next texts rest)) e ∙ ap (λ (m : ℕ). bad m) (omega arith);
})
scanned_step n r t texts rest (Some next) e others =
    let first = ap (λ (o : Option Reading). and_then n o (λ next. scan (n + 1) next texts rest)) e in
    elim (others next) [
      | inl ran ↦ inl (record {
        now = ran.now;
        runs = ap (λ (o : Option Reading). o >>= λ next. texts_run next texts) e ∙ ran.runs;
        gives = first ∙ ran.gives ∙ ap (λ (m : ℕ). ended_with m ran.now rest) (omega arith);
      })
      | inr stopped ↦ inr (record {
        k = suc stopped.k;
        now = stopped.now;
        within = omega (arith, stopped.within);
        before = ap (λ (o : Option Reading). o >>= λ next. texts_run next (take stopped.k texts)) e ∙ stopped.before;
        fails = ap (λ (o : Option Reading). o >>= λ next. texts_run next (take (suc stopped.k) texts)) e ∙ stopped.fails;
        gives = first ∙ stopped.gives ∙ ap (λ (m : ℕ). bad m) (omega arith);
      })
    ]

scanned : (n : ℕ) (r : Reading) (texts : List (List ℕ)) (rest : List ℕ) → Ran n r texts rest (scan n r texts rest) ⊎ Stopped n r texts (scan n r texts rest)
scanned n r [] rest = inl (record { now = r; runs = refl; gives = ap (λ (m : ℕ). ended_with m r rest) (omega arith) })
scanned n r (t ∷ texts) rest = scanned_step n r t texts rest (step_text r t) refl (λ next. scanned (n + 1) next texts rest)

-- the end of a scan

abbrev IsEnd : Reading → List ℕ → Type 0
IsEnd now rest = (s : Service) × (ps : List Program) × (now ≡ Whole s ps) × (rest ≡ [])

end_cases : (m : ℕ) (now : Reading) (rest : List ℕ) → IsEnd now rest ⊎ (ended_with m now rest ≡ Err (m + 1))
end_cases m Nothing rest = inr refl
end_cases m (Between s ps) rest = inr refl
end_cases m (Inside s ps u) rest = inr refl
end_cases m (Whole s ps) [] = inl (s, ps, refl, refl)
end_cases m (Whole s ps) (b ∷ rest) = inr refl

whole_script : (s : Service) (ps : List Program) (lines : List Line) → run max_count Nothing lines ≡ Some (Whole s ps) →
    IsLawfulScript (script_of (length lines) s ps) × (lines ≡ script_lines (script_of (length lines) s ps))
whole_script s ps lines e =
    let reads = run_reads max_count Nothing (Whole s ps) lines e tt in
    let b = begins (Whole s ps) reads.fits (subst (λ (ls : List Line). list_all is_line ls ≡ true) (sym reads.spelled) reads.lawful) in
    let count : length (lines_of (Whole s ps)) ≡ length lines = ap (λ (ls : List Line). length ls) reads.spelled in
    let script : completed (Whole s ps) ≡ script_of (length lines) s ps = ap (λ (n : ℕ). script_of n s ps) count in
    (subst IsLawfulScript script (record { but_count = b.lawful; count = programs_within (Whole s ps) reads.fits }), sym reads.spelled)

-- the texts of a lawful script's lines
abbrev texts_of : Script → List (List ℕ)
texts_of script = map line_text (script_lines script)

no_feeds : (lines : List Line) → list_all is_line lines ≡ true → list_all (lacks 10) (map line_text lines) ≡ true
no_feeds [] lawful = refl
no_feeds (l ∷ lines) lawful =
    and_both (lacks 10 (line_text l)) (list_all (lacks 10) (map line_text lines))
    (line_reader.no_feed l (and_left (is_line l) (list_all is_line lines) lawful))
    (no_feeds lines (and_right (is_line l) (list_all is_line lines) lawful))

record Parts (bytes : List ℕ) (script : Script) : Type 0 where
  lines : whole_lines bytes ≡ texts_of script
  rest : rest_of bytes ≡ []
  runs : texts_run Nothing (whole_lines bytes) ≡ Some (Whole script.service script.programs)

parts : (bytes : List ℕ) (script : Script) → IsScript bytes script → Parts bytes script
parts bytes script is =
    let none = no_feeds (script_lines script) is.lawful.but_count.lines in
    let lines : whole_lines bytes ≡ texts_of script = ap whole_lines is.text ∙ whole_lines_back (texts_of script) none in
    record {
      lines = lines;
      rest = ap rest_of is.text ∙ rest_back (texts_of script) none;
      runs = ap (texts_run Nothing) lines ∙ lines_to_texts Nothing (Whole script.service script.programs) (script_lines script) (lawful_is_read script is.lawful);
    }

-- a scan that ran gave a script only where the bytes are its text
ran_script : (bytes : List ℕ) (script : Script) → Ran 0 Nothing (whole_lines bytes) (rest_of bytes) (good script) → IsScript bytes script
ran_script bytes script ran =
    let m = 0 + length (whole_lines bytes) in
    elim (end_cases m ran.now (rest_of bytes)) [
      | inl whole ↦
          let ps = whole.1 in
          let l = texts_to_lines Nothing ran.now (whole_lines bytes) ran.runs in
          let w = whole_script whole.0 whole.1 l.0 (l.2 ∙ ap (λ (r : Reading). Some r) whole.2) in
          let counted : m ≡ length l.0 = omega (arith, ap (λ (t : List (List ℕ)). length t) l.1, length-map l.0 line_text) in
          let same : script ≡ script_of (length l.0) whole.0 whole.1 =
          good_is script (script_of (length l.0) whole.0 whole.1)
          (ran.gives ∙ ap (λ (r : Reading). ended_with m r (rest_of bytes)) whole.2 ∙ ap (λ (rest : List ℕ). ended_with m (Whole whole.0 whole.1) rest) whole.3
          ∙ ap (λ (n : ℕ). good (script_of n whole.0 whole.1)) counted) in
          subst (IsScript bytes) (sym same) (record {
            lawful = w.0;
            text = bytes_are bytes ∙ ap (λ (rest : List ℕ). text_of (whole_lines bytes) ++ rest) whole.3 ∙ append-nil (text_of (whole_lines bytes))
                ∙ ap text_of l.1 ∙ ap (λ (ls : List Line). text_of (map line_text ls)) w.1;
          })
      | inr wrong ↦ let never = ran.gives ∙ wrong in absurd (cc never)
    ]

pub parsed_script : (bytes : List ℕ) (script : Script) → parse_of bytes ≡ Ok script → IsScript bytes script
parsed_script bytes script e =
    elim (scanned 0 Nothing (whole_lines bytes) (rest_of bytes)) [
      | inl ran ↦ ran_script bytes script (subst (Ran 0 Nothing (whole_lines bytes) (rest_of bytes)) e ran)
      | inr stopped ↦ let never = sym e ∙ stopped.gives in absurd (cc never)
    ]

-- where some lines run, each front of them begins a script
fronts : (texts : List (List ℕ)) (k : ℕ) (now : Reading) → texts_run Nothing (take k texts) ≡ Some now → (j : ℕ) → j ≤ k → BeginsScript (take j texts)
fronts texts k now e j low =
    let front = texts_front Nothing now (take j (take k texts)) (drop j (take k texts)) (ap (texts_run Nothing) (take-append-drop j (take k texts)) ∙ e) in
    begins_from_run front.0 (take j texts) (ap (texts_run Nothing) (sym (take-take j k texts low)) ∙ front.1)

some_not_none : (r : Reading) (o : Option Reading) → o ≡ Some r → o ≡ None → ⊥
some_not_none r o p q = let never = sym p ∙ q in absurd (cc never)

first_bad : (bytes : List ℕ) (n : ℕ) → Ran 0 Nothing (whole_lines bytes) (rest_of bytes) (bad n) ⊎ Stopped 0 Nothing (whole_lines bytes) (bad n) → IsFirstBadLine BeginsScript bytes n
first_bad bytes n (inl ran) =
    let texts = whole_lines bytes in
    let all = ap (texts_run Nothing) (take-length texts) ∙ ran.runs in
    let n-is : n ≡ length texts + 1 = elim (end_cases (0 + length texts) ran.now (rest_of bytes)) [
      | inl whole ↦
          let never = ran.gives ∙ ap (λ (r : Reading). ended_with (0 + length texts) r (rest_of bytes)) whole.2
          ∙ ap (λ (rest : List ℕ). ended_with (0 + length texts) (Whole whole.0 whole.1) rest) whole.3 in absurd (cc never)
      | inr wrong ↦ bad_is n (0 + length texts + 1) (ran.gives ∙ wrong) ∙ omega arith
    ] in
    record {
      before = λ k low. (omega arith, fronts texts (length texts) ran.now all k (omega arith));
      here = λ b. absurd (omega (arith, b.0));
    }
first_bad bytes n (inr stopped) =
    let texts = whole_lines bytes in
    let n-is : n ≡ suc stopped.k = bad_is n (0 + stopped.k + 1) stopped.gives ∙ omega arith in
    record {
      before = λ k low. (omega (arith, stopped.within), fronts texts stopped.k stopped.now stopped.before k (omega arith));
      here = λ b.
          let r = run_from_begins (take (suc stopped.k) texts) (subst (λ (m : ℕ). BeginsScript (take m texts)) n-is b.1) in
          some_not_none r.0 (texts_run Nothing (take (suc stopped.k) texts)) r.1 stopped.fails;
    }

not_bad : (bytes : List ℕ) (n : ℕ) (script : Script) → Parts bytes script → Ran 0 Nothing (whole_lines bytes) (rest_of bytes) (bad n) ⊎ Stopped 0 Nothing (whole_lines bytes) (bad n) → ⊥
not_bad bytes n script p (inl ran) =
    let m = 0 + length (whole_lines bytes) in
    let now : ran.now ≡ Whole script.service script.programs = some_is ran.now (Whole script.service script.programs) (sym ran.runs ∙ p.runs) in
    let never = ran.gives ∙ ap (λ (r : Reading). ended_with m r (rest_of bytes)) now ∙ ap (λ (rest : List ℕ). ended_with m (Whole script.service script.programs) rest) p.rest in
    absurd (cc never)
not_bad bytes n script p (inr stopped) =
    let texts = whole_lines bytes in
    let k = suc stopped.k in
    let front = texts_front Nothing (Whole script.service script.programs) (take k texts) (drop k texts) (ap (texts_run Nothing) (take-append-drop k texts) ∙ p.runs) in
    some_not_none front.0 (texts_run Nothing (take k texts)) front.1 stopped.fails

pub parsed_bad : (bytes : List ℕ) (n : ℕ) → parse_of bytes ≡ Err n → IsBadLine bytes n
parsed_bad bytes n e =
    let found = elim (scanned 0 Nothing (whole_lines bytes) (rest_of bytes)) as (λ _. Ran 0 Nothing (whole_lines bytes) (rest_of bytes) (bad n) ⊎ Stopped 0 Nothing (whole_lines bytes) (bad n)) [
      | inl ran ↦ inl (subst (Ran 0 Nothing (whole_lines bytes) (rest_of bytes)) e ran)
      | inr stopped ↦ inr (subst (Stopped 0 Nothing (whole_lines bytes)) e stopped)
    ] in
    record {
      no_script = λ script is. not_bad bytes n script (parts bytes script is) found;
      first = first_bad bytes n found;
    }
