-- Reading bytes line by line gives the report, or the bad line.
use Rattle.std.proofs.Common.{◌≡◌, ◌⊎◌, inl, inr, ℕ, suc, ◌+◌, ◌<◌, ◌≤◌, Bool, true, false, List, [], ◌∷◌, ◌++◌, length, take, drop, Option, Some, None, Result, Ok, Err, refl, sym, ap, subst, ◌∙◌, arith}
use Rattle.std.specs.Prelude.{nat_lt}
use Rattle.std.proofs.lemmas.Bool.{ltb-true, ltb-false}
use Rattle.std.proofs.lemmas.List.{append-nil, take-append-drop, take-take}
use Rattle.std.proofs.Math.Seq.{take-length}
use Rattle.fam_model.specs.declared.report.Report.{Report}
use Rattle.fam_model.specs.Lists.{◌>>=◌}
use Rattle.fam_model.specs.ReportText.{report_lines}
use Rattle.fam_model.specs.Words.{text_of}
use Rattle.fam_script.specs.BadLine.{whole_lines, IsFirstBadLine}
use Rattle.fam_script.specs.Parsing.{rest_of}
use Rattle.fam_script.proofs.Splits.{whole_lines_back, rest_back, bytes_are}
use Rattle.fam_script.proofs.Tests.{bind_some, some_is}
use Rattle.report_reader.specs.declared.stage.Stage.{Stage}
use Rattle.report_reader.specs.declared.stage.Stage.TheVariants as stage
use Rattle.report_reader.specs.Machine.{step, run, ended_with, and_then, scan, read_of}
use Rattle.report_reader.specs.Report.{IsReport, BeginsReport, IsBadReportLine}
use Rattle.report_reader.specs.Laws.{SomeReport, SomeBadLine, BytesAreOneReport}
use Rattle.report_reader.proofs.Runs.{report_runs, report_lacks}
use Rattle.report_reader.proofs.Steps.{Texts, run_goes, begins_from_run}

abbrev good : Report → Result Report ℕ
good report = Ok report

abbrev bad : ℕ → Result Report ℕ
bad n = Err n

good_is : (a b : Report) → good a ≡ good b → a ≡ b
good_is a b e = cc

bad_is : (m n : ℕ) → bad m ≡ bad n → m ≡ n
bad_is m n e = cc

-- a front of lines that are read is read
run_front : (s now : Stage) (xs ys : Texts) → run s (xs ++ ys) ≡ Some now → (m : Stage) × (run s xs ≡ Some m)
run_front s now [] ys e = (s, refl)
run_front s now (x ∷ xs) ys e =
    let b = bind_some (step s x) (λ next. run next (xs ++ ys)) now e in
    let rest = run_front b.0 now xs ys b.2 in
    (rest.0, ap (λ (o : Option Stage). o >>= λ next. run next xs) b.1 ∙ rest.1)

-- lines with which a report begins are read
run_from_begins : (texts : Texts) → BeginsReport texts → (now : Stage) × (run stage.Nothing texts ≡ Some now)
run_from_begins texts b = run_front stage.Nothing (stage.Whole b.report) texts b.rest (ap (run stage.Nothing) (sym b.begins) ∙ report_runs b.report b.lawful)

-- a scan that came to the end of the lines
record Ran (n : ℕ) (s : Stage) (texts : Texts) (rest : List ℕ) (result : Result Report ℕ) : Type 0 where
  now : Stage
  runs : run s texts ≡ Some now
  gives : result ≡ ended_with (n + length texts) now rest

-- a scan that stopped at the first line that cannot stand
record Stopped (n : ℕ) (s : Stage) (texts : Texts) (result : Result Report ℕ) : Type 0 where
  k : ℕ
  now : Stage
  within : k < length texts
  before : run s (take k texts) ≡ Some now
  fails : run s (take (suc k) texts) ≡ None
  gives : result ≡ Err (n + k + 1)

scanned_step : (n : ℕ) (s : Stage) (t : List ℕ) (texts : Texts) (rest : List ℕ) (o : Option Stage) → step s t ≡ o →
    ((next : Stage) → Ran (n + 1) next texts rest (scan (n + 1) next texts rest) ⊎ Stopped (n + 1) next texts (scan (n + 1) next texts rest)) →
    Ran n s (t ∷ texts) rest (scan n s (t ∷ texts) rest) ⊎ Stopped n s (t ∷ texts) (scan n s (t ∷ texts) rest)
scanned_step n s t texts rest None e others = inr (record {
  k = 0;
  now = s;
  within = omega arith;
  before = refl;
  fails = ap (λ (o : Option Stage). o >>= λ next. run next []) e;
  gives = ap (λ (o : Option Stage). and_then n o (λ next. scan (n + 1) next texts rest)) e ∙ ap (λ (m : ℕ). bad m) (omega arith);
})
scanned_step n s t texts rest (Some next) e others =
    let first = ap (λ (o : Option Stage). and_then n o (λ next. scan (n + 1) next texts rest)) e in
    elim (others next) [
      | inl ran ↦ inl (record {
        now = ran.now;
        runs = ap (λ (o : Option Stage). o >>= λ next. run next texts) e ∙ ran.runs;
        gives = first ∙ ran.gives ∙ ap (λ (m : ℕ). ended_with m ran.now rest) (omega arith);
      })
      | inr stopped ↦ inr (record {
        k = suc stopped.k;
        now = stopped.now;
        within = omega (arith, stopped.within);
        before = ap (λ (o : Option Stage). o >>= λ next. run next (take stopped.k texts)) e ∙ stopped.before;
        fails = ap (λ (o : Option Stage). o >>= λ next. run next (take (suc stopped.k) texts)) e ∙ stopped.fails;
        gives = first ∙ stopped.gives ∙ ap (λ (m : ℕ). bad m) (omega arith);
      })
    ]

scanned : (n : ℕ) (s : Stage) (texts : Texts) (rest : List ℕ) → Ran n s texts rest (scan n s texts rest) ⊎ Stopped n s texts (scan n s texts rest)
scanned n s [] rest = inl (record { now = s; runs = refl; gives = ap (λ (m : ℕ). ended_with m s rest) (omega arith) })
scanned n s (t ∷ texts) rest = scanned_step n s t texts rest (step s t) refl (λ next. scanned (n + 1) next texts rest)

-- the end of a scan

abbrev IsEnd : Stage → List ℕ → Type 0
IsEnd now rest = (report : Report) × (now ≡ stage.Whole report) × (rest ≡ [])

end_cases : (m : ℕ) (now : Stage) (rest : List ℕ) → IsEnd now rest ⊎ (ended_with m now rest ≡ Err (m + 1))
end_cases m stage.Nothing rest = inr refl
end_cases m (stage.Replies replies) rest = inr refl
end_cases m (stage.Regions o) rest = inr refl
end_cases m (stage.Items o) rest = inr refl
end_cases m (stage.Events report left) rest = inr refl
end_cases m (stage.Whole report) [] = inl (report, refl, refl)
end_cases m (stage.Whole report) (b ∷ rest) = inr refl

-- what a report says of its bytes
record Parts (bytes : List ℕ) (report : Report) : Type 0 where
  rest : rest_of bytes ≡ []
  runs : run stage.Nothing (whole_lines bytes) ≡ Some (stage.Whole report)

parts : (bytes : List ℕ) (report : Report) → IsReport bytes report → Parts bytes report
parts bytes report is =
    let none = report_lacks report is.lawful in
    let lines : whole_lines bytes ≡ report_lines report = ap whole_lines is.text ∙ whole_lines_back (report_lines report) none in
    record {
      rest = ap rest_of is.text ∙ rest_back (report_lines report) none;
      runs = ap (run stage.Nothing) lines ∙ report_runs report is.lawful;
    }

-- lines that are read to the end are a report's
whole_report : (bytes : List ℕ) (report : Report) → run stage.Nothing (whole_lines bytes) ≡ Some (stage.Whole report) → rest_of bytes ≡ [] → IsReport bytes report
whole_report bytes report runs rest =
    let ran = run_goes stage.Nothing (stage.Whole report) (whole_lines bytes) runs tt in
    record {
      lawful = ran.good;
      text = bytes_are bytes ∙ ap (λ (r : List ℕ). text_of (whole_lines bytes) ++ r) rest ∙ append-nil (text_of (whole_lines bytes)) ∙ ap text_of (sym ran.lines);
    }

ran_report : (bytes : List ℕ) (report : Report) → Ran 0 stage.Nothing (whole_lines bytes) (rest_of bytes) (good report) → IsReport bytes report
ran_report bytes report ran =
    let m = 0 + length (whole_lines bytes) in
    elim (end_cases m ran.now (rest_of bytes)) [
      | inl whole ↦
          let same : report ≡ whole.0 =
          good_is report whole.0 (ran.gives ∙ ap (λ (s : Stage). ended_with m s (rest_of bytes)) whole.1 ∙ ap (λ (rest : List ℕ). ended_with m (stage.Whole whole.0) rest) whole.2) in
          subst (IsReport bytes) (sym same) (whole_report bytes whole.0 (ran.runs ∙ ap (λ (s : Stage). Some s) whole.1) whole.2)
      | inr wrong ↦ let never = ran.gives ∙ wrong in absurd (cc never)
    ]

pub read_report : (bytes : List ℕ) (report : Report) → read_of bytes ≡ Ok report → IsReport bytes report
read_report bytes report e =
    elim (scanned 0 stage.Nothing (whole_lines bytes) (rest_of bytes)) [
      | inl ran ↦ ran_report bytes report (subst (Ran 0 stage.Nothing (whole_lines bytes) (rest_of bytes)) e ran)
      | inr stopped ↦ let never = sym e ∙ stopped.gives in absurd (cc never)
    ]

-- where some lines are read, each front of them begins a report
fronts : (texts : Texts) (k : ℕ) (now : Stage) → run stage.Nothing (take k texts) ≡ Some now → (j : ℕ) → j ≤ k → BeginsReport (take j texts)
fronts texts k now e j low =
    let front = run_front stage.Nothing now (take j (take k texts)) (drop j (take k texts)) (ap (run stage.Nothing) (take-append-drop j (take k texts)) ∙ e) in
    begins_from_run front.0 (take j texts) (ap (run stage.Nothing) (sym (take-take j k texts low)) ∙ front.1)

some_not_none : (s : Stage) (o : Option Stage) → o ≡ Some s → o ≡ None → ⊥
some_not_none s o p q = let never = sym p ∙ q in absurd (cc never)

first_bad : (bytes : List ℕ) (n : ℕ) → Ran 0 stage.Nothing (whole_lines bytes) (rest_of bytes) (bad n) ⊎ Stopped 0 stage.Nothing (whole_lines bytes) (bad n) → IsFirstBadLine BeginsReport bytes n
first_bad bytes n (inl ran) =
    let texts = whole_lines bytes in
    let all = ap (run stage.Nothing) (take-length texts) ∙ ran.runs in
    let n-is : n ≡ length texts + 1 = elim (end_cases (0 + length texts) ran.now (rest_of bytes)) [
      | inl whole ↦
          let never = ran.gives ∙ ap (λ (s : Stage). ended_with (0 + length texts) s (rest_of bytes)) whole.1
          ∙ ap (λ (rest : List ℕ). ended_with (0 + length texts) (stage.Whole whole.0) rest) whole.2 in absurd (cc never)
      | inr wrong ↦ bad_is n (0 + length texts + 1) (ran.gives ∙ wrong) ∙ omega arith
    ] in
    record {
      before = λ k low. (omega arith, fronts texts (length texts) ran.now all k (omega arith));
      here = λ b. absurd (omega (arith, b.0));
    }
first_bad bytes n (inr stopped) =
    let texts = whole_lines bytes in
    let n-is : n ≡ suc stopped.k = bad_is n (0 + stopped.k + 1) stopped.gives ∙ omega arith in
    record {
      before = λ k low. (omega (arith, stopped.within), fronts texts stopped.k stopped.now stopped.before k (omega arith));
      here = λ b.
          let r = run_from_begins (take (suc stopped.k) texts) (subst (λ (m : ℕ). BeginsReport (take m texts)) n-is b.1) in
          some_not_none r.0 (run stage.Nothing (take (suc stopped.k) texts)) r.1 stopped.fails;
    }

not_bad : (bytes : List ℕ) (n : ℕ) (report : Report) → Parts bytes report → Ran 0 stage.Nothing (whole_lines bytes) (rest_of bytes) (bad n) ⊎ Stopped 0 stage.Nothing (whole_lines bytes) (bad n) → ⊥
not_bad bytes n report p (inl ran) =
    let m = 0 + length (whole_lines bytes) in
    let now : ran.now ≡ stage.Whole report = some_is ran.now (stage.Whole report) (sym ran.runs ∙ p.runs) in
    let never = ran.gives ∙ ap (λ (s : Stage). ended_with m s (rest_of bytes)) now ∙ ap (λ (rest : List ℕ). ended_with m (stage.Whole report) rest) p.rest in
    absurd (cc never)
not_bad bytes n report p (inr stopped) =
    let texts = whole_lines bytes in
    let k = suc stopped.k in
    let front = run_front stage.Nothing (stage.Whole report) (take k texts) (drop k texts) (ap (run stage.Nothing) (take-append-drop k texts) ∙ p.runs) in
    some_not_none front.0 (run stage.Nothing (take k texts)) front.1 stopped.fails

pub read_bad : (bytes : List ℕ) (n : ℕ) → read_of bytes ≡ Err n → IsBadReportLine bytes n
read_bad bytes n e =
    let found = elim (scanned 0 stage.Nothing (whole_lines bytes) (rest_of bytes)) as (λ _. Ran 0 stage.Nothing (whole_lines bytes) (rest_of bytes) (bad n) ⊎ Stopped 0 stage.Nothing (whole_lines bytes) (bad n)) [
      | inl ran ↦ inl (subst (Ran 0 stage.Nothing (whole_lines bytes) (rest_of bytes)) e ran)
      | inr stopped ↦ inr (subst (Stopped 0 stage.Nothing (whole_lines bytes)) e stopped)
    ] in
    record {
      no_report = λ report is. not_bad bytes n report (parts bytes report is) found;
      first = first_bad bytes n found;
    }

-- laws

one_or_bad : (bytes : List ℕ) (r : Result Report ℕ) → read_of bytes ≡ r → SomeReport bytes ⊎ SomeBadLine bytes
one_or_bad bytes (Ok report) e = inl (report, read_report bytes report e)
one_or_bad bytes (Err n) e = inr (n, read_bad bytes n e)

abbrev report_of : Option Stage → Report → Report
report_of (Some (stage.Whole report)) other = report
report_of _ other = other

one_report : (bytes : List ℕ) (a b : Report) → IsReport bytes a → IsReport bytes b → a ≡ b
one_report bytes a b p q = ap (λ (o : Option Stage). report_of o a) (sym (parts bytes a p).runs ∙ (parts bytes b q).runs)

-- two least numbers are one
one_least : (Begins : Texts → Type 0) (bytes : List ℕ) (m n : ℕ) → IsFirstBadLine Begins bytes m → IsFirstBadLine Begins bytes n → m ≡ n
one_least Begins bytes m n p q = by_order (nat_lt m n) refl (nat_lt n m) refl
  where
    by_order : (b : Bool) → nat_lt m n ≡ b → (c : Bool) → nat_lt n m ≡ c → m ≡ n
    by_order true e c f = absurd (p.here (q.before m (ltb-true m n e)))
    by_order false e true f = absurd (q.here (p.before n (ltb-true n m f)))
    by_order false e false f = omega (arith, ltb-false m n e, ltb-false n m f)

pub one_each : BytesAreOneReport
one_each = record {
  some = λ bytes. one_or_bad bytes (read_of bytes) refl;
  one_report = one_report;
  one_bad_line = λ bytes m n p q. one_least BeginsReport bytes m n p.first q.first;
}
