-- What holds of a reading at each moment: counts and depths stay within their limits.
use Rattle.std.proofs.Common.{◌≡◌, ℕ, ◌+◌, ◌<◌, ◌≤◌, Bool, true, List, [], ◌∷◌, ◌++◌, length, Some, refl, sym, subst, arith, length-append}
use Rattle.std.specs.Prelude.{nat_le}
use Rattle.std.specs.List.{list_all}
use Rattle.std.proofs.lemmas.Bool.{leb-true, le-leb, ltb-true}
use Rattle.fam_base.specs.declared.naming.Who.{Who}
use Rattle.fam_model.specs.declared.service.Service.{Service}
use Rattle.fam_model.specs.declared.script.Statement.{Statement, Row_of-Statement, end_of-Statement, more_of-Statement, items_hidden-the_row-Statement-0}
use Rattle.fam_model.specs.declared.script.Statement.TheVariants as statement
use Rattle.fam_model.specs.declared.script.Program.{Program}
use Rattle.fam_model.specs.Lists.{◌>>=◌, when}
use Rattle.fam_model.specs.declared.line.Line.{Line}
use Rattle.fam_model.specs.declared.line.Line.TheVariants as line
use Rattle.fam_model.specs.ScriptText.{nesting, block_nesting}
use Rattle.fam_model.specs.Grammar.{is_line, is_within, is_shallow, max_nesting, max_programs}
use Rattle.fam_script.specs.Machine.{Open, Unfinished, Reading, Nothing, Between, Inside, Whole, closed, inside_step, finished, grammar_step, step}
use Rattle.fam_script.proofs.Blocks.{items, row_of}
use Rattle.fam_script.proofs.Tests.{and_left, and_right, all_both, all_one, all_same, some_is, bind_some, when_some}

-- so many repeats may lie around each statement
abbrev pub fits_under : ℕ → Statement → Bool
fits_under depth s = nat_le (nesting s + depth) max_nesting

abbrev pub fits_block : ℕ → List Statement → Bool
fits_block depth block = list_all (fits_under depth) block

row_nesting : (d : ℕ) (n : _) (row : Row_of-Statement n) → d ≤ max_nesting → fits_block d (items row) ≡ true → block_nesting row + d ≤ max_nesting
row_nesting d n end_of-Statement low fits = omega arith
row_nesting d n (more_of-Statement s rest) low fits =
    let first = leb-true (nesting s + d) max_nesting (and_left (fits_under d s) (fits_block d (items rest)) fits) in
    let others = row_nesting d _ rest low (and_right (fits_under d s) (fits_block d (items rest)) fits) in
    omega (arith, first, others)

-- a repeat of statements that lie one deeper
pub repeat_fits : (d times : ℕ) (block : List Statement) → d < max_nesting → fits_block (d + 1) block ≡ true → fits_under d (statement.Repeat times block) ≡ true
repeat_fits d times block low fits =
    let row = row_of (statement.Repeat times block) in
    let same = items_hidden-the_row-Statement-0 block in
    let inner = row_nesting (d + 1) row.0 row.1 (omega arith) (subst (λ (xs : List Statement). fits_block (d + 1) xs ≡ true) (sym same) fits) in
    le-leb _ _ (omega (arith, inner))

abbrev pub FitsOuter : List Open → Type 0
FitsOuter [] = Unit {0}
FitsOuter (o ∷ outer) = (length outer < max_nesting) × (fits_block (length outer) o.before ≡ true) × FitsOuter outer

-- open repeats and the innermost block
pub record FitsInside (opens : List Open) (block : List Statement) : Type 0 where
  pub outer : FitsOuter opens
  pub inner : fits_block (length opens) block ≡ true

pub record FitsPrograms (limit : ℕ) (ps : List Program) : Type 0 where
  pub shallow : list_all is_shallow ps ≡ true
  pub within : list_all (is_within limit) ps ≡ true

abbrev pub Fits : ℕ → Reading → Type 0
Fits limit Nothing = Unit {0}
Fits limit (Between s ps) = (length ps ≤ max_programs) × FitsPrograms limit ps
Fits limit (Inside s ps u) = (length ps < max_programs) × FitsPrograms limit ps × FitsInside u.open_repeats u.block
Fits limit (Whole s ps) = (length ps ≤ max_programs) × FitsPrograms limit ps

outer_length : (opens : List Open) → FitsOuter opens → length opens ≤ max_nesting
outer_length [] fits = omega arith
outer_length (o ∷ outer) fits = omega (arith, fits.0)

-- a statement without repeats fits wherever one may stand
flat_fits : (opens : List Open) (block : List Statement) (s : Statement) → nesting s ≡ 0 → FitsInside opens block → FitsInside opens (block ++ s ∷ [])
flat_fits opens block s flat fits = record {
  outer = fits.outer;
  inner = all_both (fits_under (length opens)) block (s ∷ []) fits.inner
      (all_one (fits_under (length opens)) s (le-leb _ _ (omega (arith, flat, outer_length opens fits.outer))));
}

pub close_fits : (before : List Statement) (times : ℕ) (outer : List Open) (block : List Statement) → FitsInside (record { before = before; times = times } ∷ outer) block →
    FitsInside outer (before ++ statement.Repeat times block ∷ [])
close_fits before times outer block fits = record {
  outer = fits.outer.2;
  inner = all_both (fits_under (length outer)) before (statement.Repeat times block ∷ []) fits.outer.1
      (all_one (fits_under (length outer)) (statement.Repeat times block) (repeat_fits (length outer) times block fits.outer.0
      (subst (λ (d : ℕ). fits_block d block ≡ true) (omega arith) fits.inner)));
}

closed_fits : (u v : Unfinished) (opens : List Open) → u.open_repeats ≡ opens → closed u opens ≡ Some v → FitsInside u.open_repeats u.block → FitsInside v.open_repeats v.block
closed_fits u v [] is e fits = absurd cc
closed_fits u v (o ∷ outer) is e fits =
    subst (λ (w : Unfinished). FitsInside w.open_repeats w.block) (some_is _ v e)
    (close_fits o.before o.times outer u.block (subst (λ (l : List Open). FitsInside l u.block) is fits))

abbrev FitsUnfinished : Unfinished → Type 0
FitsUnfinished u = FitsInside u.open_repeats u.block

pub inside_fits : (u v : Unfinished) (l : Line) → inside_step u l ≡ Some v → FitsUnfinished u → FitsUnfinished v
inside_fits u v (line.Service s) e fits = absurd cc
inside_fits u v (line.Pe who) e fits = absurd cc
inside_fits u v (line.One asked) e fits =
    subst FitsUnfinished (some_is _ v e) (flat_fits u.open_repeats u.block (statement.One asked) refl fits)
inside_fits u v (line.Spin context item offset width value tries) e fits =
    subst FitsUnfinished (some_is _ v e) (flat_fits u.open_repeats u.block (statement.Spin context item offset width value tries) refl fits)
inside_fits u v (line.Repeat times) e fits =
    let w = when_some _ _ v e in
    subst FitsUnfinished w.1 (record { outer = (ltb-true _ _ w.0, fits.inner, fits.outer); inner = refl })
inside_fits u v line.Done e fits = closed_fits u v u.open_repeats refl e fits
inside_fits u v line.End e fits = absurd cc
inside_fits u v line.Stop e fits = absurd cc

finished_fits : (limit : ℕ) (who : Who) (opens : List Open) (block : List Statement) (program : Program) → finished limit who opens block ≡ Some program →
    FitsInside opens block → (is_shallow program ≡ true) × (is_within limit program ≡ true)
finished_fits limit who [] block program e fits =
    let w = when_some _ _ program e in
    subst (λ (p : Program). (is_shallow p ≡ true) × (is_within limit p ≡ true)) w.1
    (all_same (fits_under 0) (λ s. nat_le (nesting s) max_nesting) (λ s h. le-leb _ _ (omega (arith, leb-true _ _ h))) block fits.inner, w.0)
finished_fits limit who (o ∷ outer) block program e fits = absurd cc

pub FitsPrograms-push : (limit : ℕ) (ps : List Program) (p : Program) → FitsPrograms limit ps → is_shallow p ≡ true → is_within limit p ≡ true → FitsPrograms limit (ps ++ p ∷ [])
FitsPrograms-push limit ps p fits shallow within = record {
  shallow = all_both is_shallow ps (p ∷ []) fits.shallow (all_one is_shallow p shallow);
  within = all_both (is_within limit) ps (p ∷ []) fits.within (all_one (is_within limit) p within);
}

after_inside : (limit : ℕ) (s : Service) (ps : List Program) (u : Unfinished) (l : Line) (r : Reading) → (inside_step u l >>= λ next. Some (Inside s ps next)) ≡ Some r →
    Fits limit (Inside s ps u) → Fits limit r
after_inside limit s ps u l r e fits =
    let b = bind_some (inside_step u l) (λ next. Some (Inside s ps next)) r e in
    subst (Fits limit) (some_is (Inside s ps b.0) r b.2) (fits.0, fits.1, inside_fits u b.0 l b.1 fits.2)

after_end : (limit : ℕ) (s : Service) (ps : List Program) (u : Unfinished) (r : Reading) →
    (finished limit u.who u.open_repeats u.block >>= λ program. Some (Between s (ps ++ program ∷ []))) ≡ Some r → Fits limit (Inside s ps u) → Fits limit r
after_end limit s ps u r e fits =
    let b = bind_some (finished limit u.who u.open_repeats u.block) (λ program. Some (Between s (ps ++ program ∷ []))) r e in
    let p = finished_fits limit u.who u.open_repeats u.block b.0 b.1 fits.2 in
    subst (Fits limit) (some_is (Between s (ps ++ b.0 ∷ [])) r b.2)
    (omega (arith, fits.0, length-append ps (b.0 ∷ [])), FitsPrograms-push limit ps b.0 fits.1 p.0 p.1)

pub grammar_fits : (limit : ℕ) (before now : Reading) (l : Line) → grammar_step limit before l ≡ Some now → Fits limit before → Fits limit now
grammar_fits limit Nothing now (line.Service s) e fits =
    subst (Fits limit) (some_is _ now e) (omega arith, record { shallow = refl; within = refl })
grammar_fits limit Nothing now (line.Pe who) e fits = absurd cc
grammar_fits limit Nothing now (line.One asked) e fits = absurd cc
grammar_fits limit Nothing now (line.Spin context item offset width value tries) e fits = absurd cc
grammar_fits limit Nothing now (line.Repeat times) e fits = absurd cc
grammar_fits limit Nothing now line.Done e fits = absurd cc
grammar_fits limit Nothing now line.End e fits = absurd cc
grammar_fits limit Nothing now line.Stop e fits = absurd cc
grammar_fits limit (Between s ps) now (line.Service s') e fits = absurd cc
grammar_fits limit (Between s ps) now (line.Pe who) e fits =
    let w = when_some _ _ now e in
    subst (Fits limit) w.1 (ltb-true _ _ w.0, fits.1, record { outer = tt; inner = refl })
grammar_fits limit (Between s ps) now (line.One asked) e fits = absurd cc
grammar_fits limit (Between s ps) now (line.Spin context item offset width value tries) e fits = absurd cc
grammar_fits limit (Between s ps) now (line.Repeat times) e fits = absurd cc
grammar_fits limit (Between s ps) now line.Done e fits = absurd cc
grammar_fits limit (Between s ps) now line.End e fits = absurd cc
grammar_fits limit (Between s ps) now line.Stop e fits = subst (Fits limit) (some_is _ now e) fits
grammar_fits limit (Inside s ps u) now (line.Service s') e fits = after_inside limit s ps u (line.Service s') now e fits
grammar_fits limit (Inside s ps u) now (line.Pe who) e fits = after_inside limit s ps u (line.Pe who) now e fits
grammar_fits limit (Inside s ps u) now (line.One asked) e fits = after_inside limit s ps u (line.One asked) now e fits
grammar_fits limit (Inside s ps u) now (line.Spin context item offset width value tries) e fits =
    after_inside limit s ps u (line.Spin context item offset width value tries) now e fits
grammar_fits limit (Inside s ps u) now (line.Repeat times) e fits = after_inside limit s ps u (line.Repeat times) now e fits
grammar_fits limit (Inside s ps u) now line.Done e fits = after_inside limit s ps u line.Done now e fits
grammar_fits limit (Inside s ps u) now line.End e fits = after_end limit s ps u now e fits
grammar_fits limit (Inside s ps u) now line.Stop e fits = after_inside limit s ps u line.Stop now e fits
grammar_fits limit (Whole s ps) now l e fits = absurd cc

pub step_fits : (limit : ℕ) (before now : Reading) (l : Line) → step limit before l ≡ Some now → Fits limit before → Fits limit now
step_fits limit before now l e fits =
    let b = bind_some (when (is_line l) l) (grammar_step limit before) now e in
    grammar_fits limit before now b.0 b.2 fits
