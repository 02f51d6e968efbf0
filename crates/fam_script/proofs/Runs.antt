-- The machine reads each beginning of a script.
use Rattle.std.proofs.Common.{◌≡◌, ℕ, ◌+◌, ◌<◌, ◌≤◌, true, List, [], ◌∷◌, ◌++◌, length, take, Option, Some, refl, sym, ap, subst, ◌∙◌, append_assoc, arith, length-append}
use Rattle.std.specs.Prelude.{filter, sum_by, nat_le, nat_lt}
use Rattle.std.specs.List.{flat_map, list_all}
use Rattle.std.proofs.lemmas.Bool.{leb-true, le-leb, lt-ltb}
use Rattle.std.proofs.lemmas.List.{append-nil, take_at}
use Rattle.std.proofs.lemmas.List.Sums.{sum_by-cons}
use Rattle.fam_base.specs.declared.naming.Who.{Who}
use Rattle.fam_model.specs.declared.service.Service.{Service}
use Rattle.fam_model.specs.declared.script.Statement.{Statement, One, Repeat', Spin, Row_of-Statement, end_of-Statement, more_of-Statement}
use Rattle.fam_model.specs.declared.script.Statement.TheVariants as statement
use Rattle.fam_model.specs.declared.script.Program.{Program}
use Rattle.fam_model.specs.declared.script.Script.{Script}
use Rattle.fam_model.specs.Lists.{◌>>=◌, when}
use Rattle.fam_model.specs.declared.line.Line.{Line}
use Rattle.fam_model.specs.declared.line.Line.TheVariants as line
use Rattle.fam_model.specs.ScriptText.{statement_lines, block_lines, program_lines, script_lines, nesting, block_nesting}
use Rattle.fam_model.specs.Grammar.{is_line, is_shallow, is_within, program_count, max_count, max_nesting, max_programs, IsLawfulButCount, IsLawfulScript}
use Rattle.fam_script.specs.BadLine.{is_end, ended}
use Rattle.fam_script.specs.Machine.{Open, Unfinished, Reading, Nothing, Between, Inside, Whole, inside_step, finished, grammar_step, step, run, read}
use Rattle.fam_script.proofs.Blocks.{items, Repeat_items}
use Rattle.fam_script.proofs.Tests.{and_left, and_right, and_both, all_left, all_right, all_same, bind_some, some_is, when_some, when_true}
use Rattle.fam_script.proofs.Spelled.{all_lines}
use Rattle.fam_script.proofs.Fits.{fits_under, fits_block}
use Rattle.fam_script.proofs.Completed.{IsBeginning, programs_of, ends_of_reading, run_reads}

-- runs in parts

pub step_lawful : (limit : ℕ) (r : Reading) (l : Line) → is_line l ≡ true → step limit r l ≡ grammar_step limit r l
step_lawful limit r l good = ap (λ (o : Option Line). o >>= grammar_step limit r) (when_true (is_line l) l good)

pub run_cons : (limit : ℕ) (r n : Reading) (l : Line) (ls : List Line) → is_line l ≡ true → grammar_step limit r l ≡ Some n → run limit r (l ∷ ls) ≡ run limit n ls
run_cons limit r n l ls good e = ap (λ (o : Option Reading). o >>= λ next. run limit next ls) (step_lawful limit r l good ∙ e)

pub run_then : (limit : ℕ) (r n : Reading) (xs ys : List Line) → run limit r xs ≡ Some n → run limit r (xs ++ ys) ≡ run limit n ys
run_then limit r n [] ys e = ap (λ (q : Reading). run limit q ys) (some_is r n e)
run_then limit r n (x ∷ xs) ys e =
    let b = bind_some (step limit r x) (λ next. run limit next xs) n e in
    ap (λ (o : Option Reading). o >>= λ next. run limit next (xs ++ ys)) b.1 ∙ run_then limit b.0 n xs ys b.2

pub run_front : (limit : ℕ) (r n : Reading) (xs ys : List Line) → run limit r (xs ++ ys) ≡ Some n → (m : Reading) × (run limit r xs ≡ Some m) × (run limit m ys ≡ Some n)
run_front limit r n [] ys e = (r, refl, e)
run_front limit r n (x ∷ xs) ys e =
    let b = bind_some (step limit r x) (λ next. run limit next (xs ++ ys)) n e in
    let rest = run_front limit b.0 n xs ys b.2 in
    (rest.0, ap (λ (o : Option Reading). o >>= λ next. run limit next xs) b.1 ∙ rest.1, rest.2)

-- statements, programs and scripts are read whole

fits_row : (d : ℕ) (n : _) (row : Row_of-Statement n) → block_nesting row + d ≤ max_nesting → fits_block d (items row) ≡ true
fits_row d n end_of-Statement low = refl
fits_row d n (more_of-Statement s rest) low =
    and_both (fits_under d s) (fits_block d (items rest)) (le-leb _ _ (omega arith)) (fits_row d _ rest (omega arith))

abbrev at : Service → List Program → Who → List Open → List Statement → Reading
at s ps who opens block = Inside s ps (record { who = who; open_repeats = opens; block = block })

module _ (limit : ℕ) (s : Service) (ps : List Program) (who : Who) where
  mutual
    pub statement_runs : (x : Statement) (opens : List Open) (block : List Statement) → list_all is_line (statement_lines x) ≡ true → fits_under (length opens) x ≡ true →
        run limit (at s ps who opens block) (statement_lines x) ≡ Some (at s ps who opens (block ++ x ∷ []))
    statement_runs (One asked) opens block lawful fits =
        run_cons limit (at s ps who opens block) (at s ps who opens (block ++ One asked ∷ [])) (line.One asked) [] (and_left (is_line (line.One asked)) true lawful) refl
    statement_runs (Spin context item offset width value tries) opens block lawful fits =
        let l = line.Spin context item offset width value tries in
        run_cons limit (at s ps who opens block) (at s ps who opens (block ++ Spin context item offset width value tries ∷ [])) l [] (and_left (is_line l) true lawful) refl
    statement_runs (Repeat' times shape body) opens block lawful fits =
        let low = leb-true _ _ fits in
        let inner = block_lines body ++ line.Done ∷ [] in
        let o : Open = record { before = block; times = times } in
        let behind = and_right (is_line (line.Repeat times)) (list_all is_line inner) lawful in
        let room : nat_lt (length opens) max_nesting ≡ true = lt-ltb _ _ (omega arith) in
        let first = run_cons limit (at s ps who opens block) (at s ps who (o ∷ opens) []) (line.Repeat times) inner
        (and_left (is_line (line.Repeat times)) (list_all is_line inner) lawful)
        (ap (λ (u : Option Unfinished). u >>= λ next. Some (Inside s ps next)) (when_true _ _ room)) in
        let body_runs = row_runs _ body (o ∷ opens) [] (all_left is_line (block_lines body) (line.Done ∷ []) behind)
        (fits_row (length (o ∷ opens)) _ body (omega arith)) in
        let last = run_cons limit (at s ps who (o ∷ opens) (items body)) (at s ps who opens (block ++ statement.Repeat times (items body) ∷ [])) line.Done [] refl refl in
        first ∙ run_then limit (at s ps who (o ∷ opens) []) (at s ps who (o ∷ opens) (items body)) (block_lines body) (line.Done ∷ []) body_runs ∙ last
        ∙ ap (λ (x : Statement). Some (at s ps who opens (block ++ x ∷ []))) (Repeat_items times shape body)

    row_runs : (n : _) (row : Row_of-Statement n) (opens : List Open) (block : List Statement) → list_all is_line (block_lines row) ≡ true → fits_block (length opens) (items row) ≡ true →
        run limit (at s ps who opens block) (block_lines row) ≡ Some (at s ps who opens (block ++ items row))
    row_runs n end_of-Statement opens block lawful fits = ap (λ (b : List Statement). Some (at s ps who opens b)) (sym (append-nil block))
    row_runs n (more_of-Statement x rest) opens block lawful fits =
        let first = statement_runs x opens block (all_left is_line (statement_lines x) (block_lines rest) lawful)
        (and_left (fits_under (length opens) x) (fits_block (length opens) (items rest)) fits) in
        run_then limit (at s ps who opens block) (at s ps who opens (block ++ x ∷ [])) (statement_lines x) (block_lines rest) first
        ∙ row_runs _ rest opens (block ++ x ∷ []) (all_right is_line (statement_lines x) (block_lines rest) lawful)
        (and_right (fits_under (length opens) x) (fits_block (length opens) (items rest)) fits)
        ∙ ap (λ (b : List Statement). Some (at s ps who opens b)) (append_assoc block (x ∷ []) (items rest))

  block_runs : (xs block : List Statement) → list_all is_line (all_lines xs) ≡ true → fits_block 0 xs ≡ true → run limit (at s ps who [] block) (all_lines xs) ≡ Some (at s ps who [] (block ++ xs))
  block_runs [] block lawful fits = ap (λ (b : List Statement). Some (at s ps who [] b)) (sym (append-nil block))
  block_runs (x ∷ xs) block lawful fits =
      let first = statement_runs x [] block (all_left is_line (statement_lines x) (all_lines xs) lawful) (and_left (fits_under 0 x) (fits_block 0 xs) fits) in
      run_then limit (at s ps who [] block) (at s ps who [] (block ++ x ∷ [])) (statement_lines x) (all_lines xs) first
      ∙ block_runs xs (block ++ x ∷ []) (all_right is_line (statement_lines x) (all_lines xs) lawful) (and_right (fits_under 0 x) (fits_block 0 xs) fits)
      ∙ ap (λ (b : List Statement). Some (at s ps who [] b)) (append_assoc block (x ∷ []) xs)

module _ (limit : ℕ) (s : Service) where
  program_runs : (ps : List Program) (p : Program) → length ps < max_programs → list_all is_line (program_lines p) ≡ true → is_shallow p ≡ true → is_within limit p ≡ true →
      run limit (Between s ps) (program_lines p) ≡ Some (Between s (ps ++ p ∷ []))
  program_runs ps p room lawful shallow within =
      let inner = all_lines p.statements ++ line.End ∷ [] in
      let behind = and_right (is_line (line.Pe p.who)) (list_all is_line inner) lawful in
      let first = run_cons limit (Between s ps) (at s ps p.who [] []) (line.Pe p.who) inner (and_left (is_line (line.Pe p.who)) (list_all is_line inner) lawful)
      (when_true _ _ (lt-ltb _ _ room)) in
      let fits = all_same (λ x. nat_le (nesting x) max_nesting) (fits_under 0) (λ x h. le-leb _ _ (omega (arith, leb-true _ _ h))) p.statements shallow in
      let body = block_runs limit s ps p.who p.statements [] (all_left is_line (all_lines p.statements) (line.End ∷ []) behind) fits in
      let last = run_cons limit (at s ps p.who [] p.statements) (Between s (ps ++ p ∷ [])) line.End [] refl
      (ap (λ (o : Option Program). o >>= λ program. Some (Between s (ps ++ program ∷ []))) (when_true (is_within limit p) p within)) in
      first ∙ run_then limit (at s ps p.who [] []) (at s ps p.who [] p.statements) (all_lines p.statements) (line.End ∷ []) body ∙ last

  programs_run : (ps more : List Program) → length ps + length more ≤ max_programs → list_all is_line (flat_map program_lines more) ≡ true →
      list_all is_shallow more ≡ true → list_all (is_within limit) more ≡ true → run limit (Between s ps) (flat_map program_lines more) ≡ Some (Between s (ps ++ more))
  programs_run ps [] room lawful shallow within = ap (λ (l : List Program). Some (Between s l)) (sym (append-nil ps))
  programs_run ps (p ∷ more) room lawful shallow within =
      let first = program_runs ps p (omega arith) (all_left is_line (program_lines p) (flat_map program_lines more) lawful)
      (and_left (is_shallow p) (list_all is_shallow more) shallow) (and_left (is_within limit p) (list_all (is_within limit) more) within) in
      run_then limit (Between s ps) (Between s (ps ++ p ∷ [])) (program_lines p) (flat_map program_lines more) first
      ∙ programs_run (ps ++ p ∷ []) more (omega (arith, length-append ps (p ∷ []))) (all_right is_line (program_lines p) (flat_map program_lines more) lawful)
      (and_right (is_shallow p) (list_all is_shallow more) shallow) (and_right (is_within limit p) (list_all (is_within limit) more) within)
      ∙ ap (λ (l : List Program). Some (Between s l)) (append_assoc ps (p ∷ []) more)

pub script_runs : (limit : ℕ) (script : Script) → IsLawfulButCount script → list_all (is_within limit) script.programs ≡ true →
    run limit Nothing (script_lines script) ≡ Some (Whole script.service script.programs)
script_runs limit script lawful within =
    let s = script.service in
    let inner = flat_map program_lines script.programs ++ line.Stop ∷ [] in
    let behind = and_right (is_line (line.Service s)) (list_all is_line inner) lawful.lines in
    let first = run_cons limit Nothing (Between s []) (line.Service s) inner (and_left (is_line (line.Service s)) (list_all is_line inner) lawful.lines) refl in
    let body = programs_run limit s [] script.programs (omega (arith, lawful.programs)) (all_left is_line (flat_map program_lines script.programs) (line.Stop ∷ []) behind)
    lawful.nesting within in
    first ∙ run_then limit (Between s []) (Between s script.programs) (flat_map program_lines script.programs) (line.Stop ∷ []) body
    ∙ run_cons limit (Between s script.programs) (Whole s script.programs) line.Stop [] refl refl

pub lawful_is_read : (script : Script) → IsLawfulScript script → read (script_lines script) ≡ Some (Whole script.service script.programs)
lawful_is_read script lawful = script_runs max_count script lawful.but_count lawful.count

-- the limit matters only where a program ends

abbrev Grows : Reading → Reading → Type 0
Grows before now = (more : List Program) × (programs_of now ≡ programs_of before ++ more)

stays : (before now : Reading) → programs_of now ≡ programs_of before → Grows before now
stays before now e = ([], e ∙ sym (append-nil (programs_of before)))

inside_grows : (s : Service) (ps : List Program) (u : Unfinished) (l : Line) (r : Reading) → (inside_step u l >>= λ next. Some (Inside s ps next)) ≡ Some r → Grows (Inside s ps u) r
inside_grows s ps u l r e =
    let b = bind_some (inside_step u l) (λ next. Some (Inside s ps next)) r e in
    subst (Grows (Inside s ps u)) (some_is (Inside s ps b.0) r b.2) (stays (Inside s ps u) (Inside s ps b.0) refl)

end_grows : (limit : ℕ) (s : Service) (ps : List Program) (u : Unfinished) (r : Reading) →
    (finished limit u.who u.open_repeats u.block >>= λ program. Some (Between s (ps ++ program ∷ []))) ≡ Some r → Grows (Inside s ps u) r
end_grows limit s ps u r e =
    let b = bind_some (finished limit u.who u.open_repeats u.block) (λ program. Some (Between s (ps ++ program ∷ []))) r e in
    subst (Grows (Inside s ps u)) (some_is (Between s (ps ++ b.0 ∷ [])) r b.2) (b.0 ∷ [], refl)

grammar_grows : (limit : ℕ) (before now : Reading) (l : Line) → grammar_step limit before l ≡ Some now → Grows before now
grammar_grows limit Nothing now (line.Service s) e = subst (Grows Nothing) (some_is _ now e) (stays Nothing (Between s []) refl)
grammar_grows limit Nothing now (line.Pe who) e = absurd cc
grammar_grows limit Nothing now (line.One asked) e = absurd cc
grammar_grows limit Nothing now (line.Spin context item offset width value tries) e = absurd cc
grammar_grows limit Nothing now (line.Repeat times) e = absurd cc
grammar_grows limit Nothing now line.Done e = absurd cc
grammar_grows limit Nothing now line.End e = absurd cc
grammar_grows limit Nothing now line.Stop e = absurd cc
grammar_grows limit (Between s ps) now (line.Service s') e = absurd cc
grammar_grows limit (Between s ps) now (line.Pe who) e =
    subst (Grows (Between s ps)) (when_some _ _ now e).1 (stays (Between s ps) (at s ps who [] []) refl)
grammar_grows limit (Between s ps) now (line.One asked) e = absurd cc
grammar_grows limit (Between s ps) now (line.Spin context item offset width value tries) e = absurd cc
grammar_grows limit (Between s ps) now (line.Repeat times) e = absurd cc
grammar_grows limit (Between s ps) now line.Done e = absurd cc
grammar_grows limit (Between s ps) now line.End e = absurd cc
grammar_grows limit (Between s ps) now line.Stop e = subst (Grows (Between s ps)) (some_is _ now e) (stays (Between s ps) (Whole s ps) refl)
grammar_grows limit (Inside s ps u) now (line.Service s') e = inside_grows s ps u (line.Service s') now e
grammar_grows limit (Inside s ps u) now (line.Pe who) e = inside_grows s ps u (line.Pe who) now e
grammar_grows limit (Inside s ps u) now (line.One asked) e = inside_grows s ps u (line.One asked) now e
grammar_grows limit (Inside s ps u) now (line.Spin context item offset width value tries) e =
    inside_grows s ps u (line.Spin context item offset width value tries) now e
grammar_grows limit (Inside s ps u) now (line.Repeat times) e = inside_grows s ps u (line.Repeat times) now e
grammar_grows limit (Inside s ps u) now line.Done e = inside_grows s ps u line.Done now e
grammar_grows limit (Inside s ps u) now line.End e = end_grows limit s ps u now e
grammar_grows limit (Inside s ps u) now line.Stop e = inside_grows s ps u line.Stop now e
grammar_grows limit (Whole s ps) now l e = absurd cc

step_grows : (limit : ℕ) (before now : Reading) (l : Line) → step limit before l ≡ Some now → Grows before now
step_grows limit before now l e =
    let b = bind_some (when (is_line l) l) (grammar_step limit before) now e in grammar_grows limit before now b.0 b.2

run_grows : (limit : ℕ) (before now : Reading) (lines : List Line) → run limit before lines ≡ Some now → Grows before now
run_grows limit before now [] e = subst (Grows before) (some_is before now e) (stays before before refl)
run_grows limit before now (l ∷ lines) e =
    let b = bind_some (step limit before l) (λ next. run limit next lines) now e in
    let one = step_grows limit before b.0 l b.1 in
    let more = run_grows limit b.0 now lines b.2 in
    (one.0 ++ more.0, more.1 ∙ ap (λ (ps : List Program). ps ++ more.0) one.1 ∙ append_assoc (programs_of before) one.0 more.0)

module _ (wide limit : ℕ) where
  abbrev Within : Reading → Type 0
  Within r = list_all (is_within limit) (programs_of r) ≡ true

  finished_same : (who : Who) (opens : List Open) (block : List Statement) (p : Program) → finished wide who opens block ≡ Some p → is_within limit p ≡ true → finished limit who opens block ≡ Some p
  finished_same who [] block p e within =
      let w = when_some _ _ p e in
      when_true _ _ (subst (λ (q : Program). is_within limit q ≡ true) (sym w.1) within) ∙ ap (λ (q : Program). Some q) w.1
  finished_same who (o ∷ outer) block p e within = absurd cc

  end_same : (s : Service) (ps : List Program) (u : Unfinished) (r : Reading) →
      (finished wide u.who u.open_repeats u.block >>= λ program. Some (Between s (ps ++ program ∷ []))) ≡ Some r → Within r →
      (finished limit u.who u.open_repeats u.block >>= λ program. Some (Between s (ps ++ program ∷ []))) ≡ Some r
  end_same s ps u r e within =
      let b = bind_some (finished wide u.who u.open_repeats u.block) (λ program. Some (Between s (ps ++ program ∷ []))) r e in
      let all = subst Within (sym (some_is (Between s (ps ++ b.0 ∷ [])) r b.2)) within in
      let last = and_left (is_within limit b.0) true (all_right (is_within limit) ps (b.0 ∷ []) all) in
      ap (λ (o : Option Program). o >>= λ program. Some (Between s (ps ++ program ∷ []))) (finished_same u.who u.open_repeats u.block b.0 b.1 last) ∙ b.2

  grammar_same : (before now : Reading) (l : Line) → grammar_step wide before l ≡ Some now → Within now → grammar_step limit before l ≡ Some now
  grammar_same Nothing now (line.Service s) e w = e
  grammar_same Nothing now (line.Pe who) e w = e
  grammar_same Nothing now (line.One asked) e w = e
  grammar_same Nothing now (line.Spin context item offset width value tries) e w = e
  grammar_same Nothing now (line.Repeat times) e w = e
  grammar_same Nothing now line.Done e w = e
  grammar_same Nothing now line.End e w = e
  grammar_same Nothing now line.Stop e w = e
  grammar_same (Between s ps) now (line.Service s') e w = e
  grammar_same (Between s ps) now (line.Pe who) e w = e
  grammar_same (Between s ps) now (line.One asked) e w = e
  grammar_same (Between s ps) now (line.Spin context item offset width value tries) e w = e
  grammar_same (Between s ps) now (line.Repeat times) e w = e
  grammar_same (Between s ps) now line.Done e w = e
  grammar_same (Between s ps) now line.End e w = e
  grammar_same (Between s ps) now line.Stop e w = e
  grammar_same (Inside s ps u) now (line.Service s') e w = e
  grammar_same (Inside s ps u) now (line.Pe who) e w = e
  grammar_same (Inside s ps u) now (line.One asked) e w = e
  grammar_same (Inside s ps u) now (line.Spin context item offset width value tries) e w = e
  grammar_same (Inside s ps u) now (line.Repeat times) e w = e
  grammar_same (Inside s ps u) now line.Done e w = e
  grammar_same (Inside s ps u) now line.End e w = end_same s ps u now e w
  grammar_same (Inside s ps u) now line.Stop e w = e
  grammar_same (Whole s ps) now l e w = e

  run_same : (before now : Reading) (lines : List Line) → run wide before lines ≡ Some now → Within now → run limit before lines ≡ Some now
  run_same before now [] e within = e
  run_same before now (l ∷ lines) e within =
      let b = bind_some (step wide before l) (λ next. run wide next lines) now e in
      let more = run_grows wide b.0 now lines b.2 in
      let next_within = all_left (is_within limit) (programs_of b.0) more.0 (subst (λ (ps : List Program). list_all (is_within limit) ps ≡ true) more.1 within) in
      let g = bind_some (when (is_line l) l) (grammar_step wide before) b.0 b.1 in
      let good = when_some (is_line l) l g.0 g.1 in
      let taken = subst (λ (x : Line). grammar_step wide before x ≡ Some b.0) (sym good.1) g.2 in
      run_cons limit before b.0 l lines good.0 (grammar_same before b.0 l taken next_within) ∙ run_same b.0 now lines b.2 within

-- a limit that no program of the list exceeds
within_sum : (limit : ℕ) (ps : List Program) → sum_by program_count ps ≤ limit → list_all (is_within limit) ps ≡ true
within_sum limit [] low = refl
within_sum limit (p ∷ ps) low =
    and_both (is_within limit p) (list_all (is_within limit) ps) (le-leb _ _ (omega (arith, sum_by-cons program_count p ps)))
    (within_sum limit ps (omega (arith, sum_by-cons program_count p ps)))

-- each beginning of a script is read
pub beginning_is_read : (lines : List Line) → IsBeginning lines → (r : Reading) × (run max_count Nothing lines ≡ Some r)
beginning_is_read lines (script, b) =
    let wide = sum_by program_count script.programs in
    let whole = script_runs wide script b.lawful (within_sum wide script.programs (omega arith)) in
    let front = run_front wide Nothing (Whole script.service script.programs) lines b.rest (subst (λ (ls : List Line). run wide Nothing ls ≡ Some (Whole script.service script.programs)) b.begins whole) in
    let reads = run_reads wide Nothing front.0 lines front.1 tt in
    let grown = run_grows wide front.0 (Whole script.service script.programs) b.rest front.2 in
    let ends : length (filter is_end lines) ≡ length (programs_of front.0) = ap (λ (ls : List Line). length (filter is_end ls)) (sym reads.spelled) ∙ ends_of_reading front.0 in
    let same : ended lines script ≡ programs_of front.0 =
    ap (λ (n : ℕ). take n script.programs) ends ∙ ap (λ (ps : List Program). take (length (programs_of front.0)) ps) grown.1
    ∙ take_at (programs_of front.0) grown.0 (length (programs_of front.0)) refl in
    (front.0, run_same wide max_count Nothing front.0 lines front.1 (subst (λ (ps : List Program). list_all (is_within max_count) ps ≡ true) same b.count))
