-- What was read can be completed: close the open repeats, end the program, and stop.
use Rattle.std.proofs.Common.{◌≡◌, ℕ, suc, ◌≤◌, true, List, [], ◌∷◌, ◌++◌, length, take, Some, refl, sym, ap, subst, ◌∙◌, append_assoc, arith, length-append}
use Rattle.std.specs.Prelude.{filter}
use Rattle.std.specs.List.{flat_map, list_all}
use Rattle.std.proofs.lemmas.List.{append-nil, take_at}
use Rattle.std.proofs.lemmas.List.Elements.{filter-append}
use Rattle.std.proofs.Math.Seq.{take-length}
use Rattle.fam_base.specs.declared.naming.Who.{Who}
use Rattle.fam_model.specs.declared.service.Service.{Service}
use Rattle.fam_model.specs.declared.script.Statement.{Statement, One, Repeat', Spin, Row_of-Statement, end_of-Statement, more_of-Statement}
use Rattle.fam_model.specs.declared.script.Statement.TheVariants as statement
use Rattle.fam_model.specs.declared.script.Program.{Program}
use Rattle.fam_model.specs.declared.script.Script.{Script}
use Rattle.fam_model.specs.declared.line.Line.{Line}
use Rattle.fam_model.specs.declared.line.Line.TheVariants as line
use Rattle.fam_model.specs.ScriptText.{statement_lines, block_lines, program_lines, script_lines, nesting}
use Rattle.fam_model.specs.Grammar.{is_line, is_shallow, is_within, max_count, max_nesting, max_programs}
use Rattle.fam_script.specs.BadLine.{is_end, BeginsWith}
use Rattle.fam_script.specs.Machine.{Open, Unfinished, Reading, Nothing, Between, Inside, Whole, step, run}
use Rattle.fam_script.proofs.Blocks.{statement_lines-Repeat}
use Rattle.fam_script.proofs.Tests.{and_both, all_both, all_one, all_same, bind_some, some_is}
use Rattle.fam_script.proofs.Spelled.{all_lines, outer_lines, program_so_far, unfinished_lines, lines_of, flat_map_push, step_spelled}
use Rattle.fam_script.proofs.Fits.{fits_under, fits_block, FitsInside, Fits, close_fits, step_fits}
use Rattle.std.specs.Prelude.{nat_le}
use Rattle.std.proofs.lemmas.Bool.{leb-true, le-leb}

-- the open repeats closed, out to the program's own statements
abbrev pub all_closed : List Open → List Statement → List Statement
all_closed [] block = block
all_closed (o ∷ outer) block = all_closed outer (o.before ++ statement.Repeat o.times block ∷ [])

abbrev pub dones : List Open → List Line
dones [] = []
dones (o ∷ outer) = line.Done ∷ dones outer

all_closed_lines : (opens : List Open) (block : List Statement) → all_lines (all_closed opens block) ≡ (outer_lines opens ++ all_lines block) ++ dones opens
all_closed_lines [] block = sym (append-nil (all_lines block))
all_closed_lines (o ∷ outer) block =
    all_closed_lines outer (o.before ++ statement.Repeat o.times block ∷ [])
    ∙ ap (λ (l : List Line). (outer_lines outer ++ l) ++ dones outer)
    (flat_map_push statement_lines o.before (statement.Repeat o.times block) ∙ ap (λ (l : List Line). all_lines o.before ++ l) (statement_lines-Repeat o.times block))
    ∙ simp append_assoc

all_closed_fits : (opens : List Open) (block : List Statement) → FitsInside opens block → fits_block 0 (all_closed opens block) ≡ true
all_closed_fits [] block fits = fits.inner
all_closed_fits (o ∷ outer) block fits =
    all_closed_fits outer (o.before ++ statement.Repeat o.times block ∷ []) (close_fits o.before o.times outer block fits)

all_dones : (opens : List Open) → list_all is_line (dones opens) ≡ true
all_dones [] = refl
all_dones (o ∷ outer) = and_both (is_line line.Done) (list_all is_line (dones outer)) refl (all_dones outer)

-- the `end` lines

mutual
  pub no_end_in_statement : (s : Statement) → filter is_end (statement_lines s) ≡ []
  no_end_in_statement (One asked) = refl
  no_end_in_statement (Repeat' times shape body) =
      filter-append is_end (block_lines body) (line.Done ∷ []) ∙ ap (λ (l : List Line). l ++ []) (no_end_in_row _ body)
  no_end_in_statement (Spin context item offset width value tries) = refl

  no_end_in_row : (n : _) (row : Row_of-Statement n) → filter is_end (block_lines row) ≡ []
  no_end_in_row n end_of-Statement = refl
  no_end_in_row n (more_of-Statement s rest) =
      filter-append is_end (statement_lines s) (block_lines rest)
      ∙ ap (λ (l : List Line). l ++ filter is_end (block_lines rest)) (no_end_in_statement s) ∙ no_end_in_row _ rest

no_end_in_block : (block : List Statement) → filter is_end (all_lines block) ≡ []
no_end_in_block [] = refl
no_end_in_block (s ∷ block) =
    filter-append is_end (statement_lines s) (all_lines block)
    ∙ ap (λ (l : List Line). l ++ filter is_end (all_lines block)) (no_end_in_statement s) ∙ no_end_in_block block

no_end_before : (opens : List Open) → filter is_end (outer_lines opens) ≡ []
no_end_before [] = refl
no_end_before (o ∷ outer) =
    filter-append is_end (outer_lines outer) (all_lines o.before ++ line.Repeat o.times ∷ [])
    ∙ ap (λ (l : List Line). l ++ filter is_end (all_lines o.before ++ line.Repeat o.times ∷ [])) (no_end_before outer)
    ∙ filter-append is_end (all_lines o.before) (line.Repeat o.times ∷ []) ∙ ap (λ (l : List Line). l ++ []) (no_end_in_block o.before)

no_end_so_far : (who : Who) (opens : List Open) (block : List Statement) → filter is_end (program_so_far who opens block) ≡ []
no_end_so_far who opens block =
    filter-append is_end (outer_lines opens) (all_lines block)
    ∙ ap (λ (l : List Line). l ++ filter is_end (all_lines block)) (no_end_before opens) ∙ no_end_in_block block

one_end : (p : Program) → filter is_end (program_lines p) ≡ line.End ∷ []
one_end p = filter-append is_end (all_lines p.statements) (line.End ∷ []) ∙ ap (λ (l : List Line). l ++ line.End ∷ []) (no_end_in_block p.statements)

pub ends_of_programs : (ps : List Program) → length (filter is_end (flat_map program_lines ps)) ≡ length ps
ends_of_programs [] = refl
ends_of_programs (p ∷ ps) =
    ap (λ (l : List Line). length l) (filter-append is_end (program_lines p) (flat_map program_lines ps) ∙ ap (λ (l : List Line). l ++ filter is_end (flat_map program_lines ps)) (one_end p))
    ∙ ap (λ (n : ℕ). suc n) (ends_of_programs ps)

-- the programs whose `end` was read
abbrev pub programs_of : Reading → List Program
programs_of Nothing = []
programs_of (Between s ps) = ps
programs_of (Inside s ps u) = ps
programs_of (Whole s ps) = ps

ends_then : (ps : List Program) (more : List Line) → filter is_end more ≡ [] → length (filter is_end (flat_map program_lines ps ++ more)) ≡ length ps
ends_then ps more none =
    ap (λ (l : List Line). length l)
    (filter-append is_end (flat_map program_lines ps) more ∙ ap (λ (l : List Line). filter is_end (flat_map program_lines ps) ++ l) none
    ∙ append-nil (filter is_end (flat_map program_lines ps)))
    ∙ ends_of_programs ps

pub ends_of_reading : (r : Reading) → length (filter is_end (lines_of r)) ≡ length (programs_of r)
ends_of_reading Nothing = refl
ends_of_reading (Between s ps) = ends_of_programs ps
ends_of_reading (Inside s ps u) = ends_then ps (unfinished_lines u) (no_end_so_far u.who u.open_repeats u.block)
ends_of_reading (Whole s ps) = ends_then ps (line.Stop ∷ []) refl

-- the script that completes what was read

abbrev pub first_service : Service
first_service = record { servers = 1; stripes = 1; unit = 64 }

abbrev pub script_with : Service → List Program → Script
script_with s ps = record { service = s; programs = ps; lines = length (line.Service s ∷ (flat_map program_lines ps ++ line.Stop ∷ [])) }

abbrev pub closed_program : Unfinished → Program
closed_program u = record { who = u.who; statements = all_closed u.open_repeats u.block }

abbrev pub completed : Reading → Script
completed Nothing = script_with first_service []
completed (Between s ps) = script_with s ps
completed (Inside s ps u) = script_with s (ps ++ closed_program u ∷ [])
completed (Whole s ps) = script_with s ps

abbrev pub rest_of : Reading → List Line
rest_of Nothing = script_lines (completed Nothing)
rest_of (Between s ps) = line.Stop ∷ []
rest_of (Inside s ps u) = dones u.open_repeats ++ (line.End ∷ line.Stop ∷ [])
rest_of (Whole s ps) = []

closed_program_lines : (u : Unfinished) → program_lines (closed_program u) ≡ unfinished_lines u ++ (dones u.open_repeats ++ line.End ∷ [])
closed_program_lines u =
    ap (λ (l : List Line). line.Pe u.who ∷ (l ++ line.End ∷ [])) (all_closed_lines u.open_repeats u.block)
    ∙ ap (λ (l : List Line). line.Pe u.who ∷ l) (append_assoc (outer_lines u.open_repeats ++ all_lines u.block) (dones u.open_repeats) (line.End ∷ []))

completed_lines : (r : Reading) → script_lines (completed r) ≡ lines_of r ++ rest_of r
completed_lines Nothing = refl
completed_lines (Between s ps) = refl
completed_lines (Inside s ps u) =
    ap (λ (l : List Line). line.Service s ∷ (l ++ line.Stop ∷ []))
    (flat_map_push program_lines ps (closed_program u) ∙ ap (λ (l : List Line). flat_map program_lines ps ++ l) (closed_program_lines u))
    ∙ ap (λ (l : List Line). line.Service s ∷ l) (simp append_assoc)
completed_lines (Whole s ps) = sym (append-nil (lines_of (Whole s ps)))

rest_is_lawful : (r : Reading) → list_all is_line (rest_of r) ≡ true
rest_is_lawful Nothing = and_both (is_line (line.Service first_service)) (list_all is_line (line.Stop ∷ [])) refl (all_one is_line line.Stop refl)
rest_is_lawful (Between s ps) = all_one is_line line.Stop refl
rest_is_lawful (Inside s ps u) = all_both is_line (dones u.open_repeats) (line.End ∷ line.Stop ∷ []) (all_dones u.open_repeats)
    (and_both (is_line line.End) (list_all is_line (line.Stop ∷ [])) refl (all_one is_line line.Stop refl))
rest_is_lawful (Whole s ps) = refl

few_programs : (r : Reading) → Fits max_count r → length (completed r).programs ≤ max_programs
few_programs Nothing fits = omega arith
few_programs (Between s ps) fits = fits.0
few_programs (Inside s ps u) fits = omega (arith, fits.0, length-append ps (closed_program u ∷ []))
few_programs (Whole s ps) fits = fits.0

shallow_programs : (r : Reading) → Fits max_count r → list_all is_shallow (completed r).programs ≡ true
shallow_programs Nothing fits = refl
shallow_programs (Between s ps) fits = fits.1.shallow
shallow_programs (Inside s ps u) fits =
    all_both is_shallow ps (closed_program u ∷ []) fits.1.shallow (all_one is_shallow (closed_program u)
    (all_same (fits_under 0) (λ s'. nat_le (nesting s') max_nesting) (λ s' h. le-leb _ _ (omega (arith, leb-true _ _ h)))
    (all_closed u.open_repeats u.block) (all_closed_fits u.open_repeats u.block fits.2)))
shallow_programs (Whole s ps) fits = fits.1.shallow

pub programs_within : (r : Reading) → Fits max_count r → list_all (is_within max_count) (programs_of r) ≡ true
programs_within Nothing fits = refl
programs_within (Between s ps) fits = fits.1.within
programs_within (Inside s ps u) fits = fits.1.within
programs_within (Whole s ps) fits = fits.1.within

ended_is : (r : Reading) → take (length (programs_of r)) (completed r).programs ≡ programs_of r
ended_is Nothing = refl
ended_is (Between s ps) = take-length ps
ended_is (Inside s ps u) = take_at ps (closed_program u ∷ []) (length ps) refl
ended_is (Whole s ps) = take-length ps

line_count_is : (r : Reading) → (completed r).lines ≡ length (script_lines (completed r))
line_count_is Nothing = refl
line_count_is (Between s ps) = refl
line_count_is (Inside s ps u) = refl
line_count_is (Whole s ps) = refl

-- a script begins with what was read
pub begins : (r : Reading) → Fits max_count r → list_all is_line (lines_of r) ≡ true → BeginsWith (completed r) (lines_of r)
begins r fits lawful = record {
  lawful = record {
    lines = subst (λ (l : List Line). list_all is_line l ≡ true) (sym (completed_lines r))
        (all_both is_line (lines_of r) (rest_of r) lawful (rest_is_lawful r));
    programs = few_programs r fits;
    nesting = shallow_programs r fits;
    line_count = line_count_is r;
  };
  rest = rest_of r;
  begins = completed_lines r;
  count = subst (λ (l : List Program). list_all (is_within max_count) l ≡ true)
      (sym (ap (λ (n : ℕ). take n (completed r).programs) (ends_of_reading r) ∙ ended_is r)) (programs_within r fits);
}

-- a run adds its lines

pub record Reads (limit : ℕ) (before : Reading) (lines : List Line) (now : Reading) : Type 0 where
  pub spelled : lines_of now ≡ lines_of before ++ lines
  pub lawful : list_all is_line lines ≡ true
  pub fits : Fits limit now

pub run_reads : (limit : ℕ) (before now : Reading) (lines : List Line) → run limit before lines ≡ Some now → Fits limit before → Reads limit before lines now
run_reads limit before now [] e fits =
    let same : before ≡ now = some_is before now e in
    record { spelled = ap lines_of (sym same) ∙ sym (append-nil (lines_of before)); lawful = refl; fits = subst (Fits limit) same fits }
run_reads limit before now (l ∷ lines) e fits =
    let b = bind_some (step limit before l) (λ next. run limit next lines) now e in
    let one = step_spelled limit before b.0 l b.1 in
    let more = run_reads limit b.0 now lines b.2 (step_fits limit before b.0 l b.1 fits) in
    record {
      spelled = more.spelled ∙ ap (λ (ls : List Line). ls ++ lines) one.1 ∙ append_assoc (lines_of before) (l ∷ []) lines;
      lawful = and_both (is_line l) (list_all is_line lines) one.0 more.lawful;
      fits = more.fits;
    }

-- what is read from the beginning is the beginning of a script

abbrev pub IsBeginning : List Line → Type 0
IsBeginning lines = (script : Script) × BeginsWith script lines

pub read_begins : (r : Reading) (lines : List Line) → run max_count Nothing lines ≡ Some r → IsBeginning lines
read_begins r lines e =
    let all = run_reads max_count Nothing r lines e tt in (
      completed r,
      subst (λ (ls : List Line). BeginsWith (completed r) ls) all.spelled
          (begins r all.fits (subst (λ (ls : List Line). list_all is_line ls ≡ true) (sym all.spelled) all.lawful)),
    )
