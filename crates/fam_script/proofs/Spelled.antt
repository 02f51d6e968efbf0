-- The lines that a reading stands for: each step adds its line.
use Rattle.std.proofs.Common.{◌≡◌, ℕ, true, List, [], ◌∷◌, ◌++◌, Some, refl, sym, ap, subst, ◌∙◌, append_assoc}
use Rattle.std.specs.List.{flat_map}
use Rattle.std.proofs.lemmas.List.{append-nil}
use Rattle.std.proofs.lemmas.Grind.{flat_map-append}
use Rattle.fam_base.specs.declared.naming.Who.{Who}
use Rattle.fam_model.specs.declared.service.Service.{Service}
use Rattle.fam_model.specs.declared.script.Statement.{Statement}
use Rattle.fam_model.specs.declared.script.Statement.TheVariants as statement
use Rattle.fam_model.specs.declared.script.Program.{Program}
use Rattle.fam_model.specs.Lists.{◌>>=◌, when}
use Rattle.fam_model.specs.declared.line.Line.{Line}
use Rattle.fam_model.specs.declared.line.Line.TheVariants as line
use Rattle.fam_model.specs.Grammar.{is_line}
use Rattle.fam_model.specs.ScriptText.{statement_lines, program_lines}
use Rattle.fam_script.specs.Machine.{Open, Unfinished, Reading, Nothing, Between, Inside, Whole, closed, inside_step, finished, grammar_step, step}
use Rattle.fam_script.proofs.Blocks.{statement_lines-Repeat}
use Rattle.fam_script.proofs.Tests.{some_is, bind_some, when_some}

abbrev pub all_lines : List Statement → List Line
all_lines block = flat_map statement_lines block

abbrev pub outer_lines : List Open → List Line
outer_lines [] = []
outer_lines (o ∷ outer) = outer_lines outer ++ (all_lines o.before ++ line.Repeat o.times ∷ [])

abbrev pub program_so_far : Who → List Open → List Statement → List Line
program_so_far who opens block = line.Pe who ∷ (outer_lines opens ++ all_lines block)

abbrev pub unfinished_lines : Unfinished → List Line
unfinished_lines u = program_so_far u.who u.open_repeats u.block

abbrev pub lines_of : Reading → List Line
lines_of Nothing = []
lines_of (Between s ps) = line.Service s ∷ flat_map program_lines ps
lines_of (Inside s ps u) = line.Service s ∷ (flat_map program_lines ps ++ unfinished_lines u)
lines_of (Whole s ps) = line.Service s ∷ (flat_map program_lines ps ++ line.Stop ∷ [])

pub flat_map_push : {X A : Type 0} (f : X → List A) (xs : List X) (x : X) → flat_map f (xs ++ x ∷ []) ≡ flat_map f xs ++ f x
flat_map_push {X} {A} f xs x = flat_map-append f xs (x ∷ []) ∙ ap (λ (l : List A). flat_map f xs ++ l) (append-nil (f x))

-- a statement more
pub statement_spelled : (who : Who) (opens : List Open) (block : List Statement) (s : Statement) → program_so_far who opens (block ++ s ∷ []) ≡ program_so_far who opens block ++ statement_lines s
statement_spelled who opens block s =
    ap (λ (l : List Line). line.Pe who ∷ (outer_lines opens ++ l)) (flat_map_push statement_lines block s)
    ∙ ap (λ (l : List Line). line.Pe who ∷ l) (sym (append_assoc (outer_lines opens) (all_lines block) (statement_lines s)))

-- a repeat more
opened_spelled : (who : Who) (opens : List Open) (block : List Statement) (times : ℕ) → program_so_far who (record { before = block; times = times } ∷ opens) [] ≡ program_so_far who opens block ++ line.Repeat times ∷ []
opened_spelled who opens block times = ap (λ (l : List Line). line.Pe who ∷ l) (simp (append_assoc, append-nil))

-- a repeat closed
closed_spelled : (who : Who) (before : List Statement) (times : ℕ) (outer : List Open) (block : List Statement) →
    program_so_far who outer (before ++ statement.Repeat times block ∷ []) ≡ program_so_far who (record { before = before; times = times } ∷ outer) block ++ line.Done ∷ []
closed_spelled who before times outer block =
    statement_spelled who outer before (statement.Repeat times block)
    ∙ ap (λ (l : List Line). program_so_far who outer before ++ l) (statement_lines-Repeat times block)
    ∙ ap (λ (l : List Line). line.Pe who ∷ l) (simp append_assoc)

close_spelled : (u v : Unfinished) (opens : List Open) → u.open_repeats ≡ opens → closed u opens ≡ Some v → unfinished_lines v ≡ unfinished_lines u ++ line.Done ∷ []
close_spelled u v [] is e = absurd cc
close_spelled u v (o ∷ outer) is e =
    subst (λ (w : Unfinished). unfinished_lines w ≡ unfinished_lines u ++ line.Done ∷ []) (some_is _ v e)
    (rw is (closed_spelled u.who o.before o.times outer u.block))

pub inside_spelled : (u v : Unfinished) (l : Line) → inside_step u l ≡ Some v → unfinished_lines v ≡ unfinished_lines u ++ l ∷ []
inside_spelled u v (line.Service s) e = absurd cc
inside_spelled u v (line.Pe who) e = absurd cc
inside_spelled u v (line.One asked) e =
    subst (λ (w : Unfinished). unfinished_lines w ≡ unfinished_lines u ++ line.One asked ∷ []) (some_is _ v e)
    (statement_spelled u.who u.open_repeats u.block (statement.One asked))
inside_spelled u v (line.Spin context item offset width value tries) e =
    subst (λ (w : Unfinished). unfinished_lines w ≡ unfinished_lines u ++ line.Spin context item offset width value tries ∷ []) (some_is _ v e)
    (statement_spelled u.who u.open_repeats u.block (statement.Spin context item offset width value tries))
inside_spelled u v (line.Repeat times) e =
    subst (λ (w : Unfinished). unfinished_lines w ≡ unfinished_lines u ++ line.Repeat times ∷ []) (when_some _ _ v e).1
    (opened_spelled u.who u.open_repeats u.block times)
inside_spelled u v line.Done e = close_spelled u v u.open_repeats refl e
inside_spelled u v line.End e = absurd cc
inside_spelled u v line.Stop e = absurd cc

-- a program finished
finished_spelled : (limit : ℕ) (who : Who) (opens : List Open) (block : List Statement) (program : Program) → finished limit who opens block ≡ Some program →
    program_lines program ≡ program_so_far who opens block ++ line.End ∷ []
finished_spelled limit who [] block program e =
    subst (λ (p : Program). program_lines p ≡ program_so_far who [] block ++ line.End ∷ []) (when_some _ _ program e).1 refl
finished_spelled limit who (o ∷ outer) block program e = absurd cc

abbrev Spells : Reading → Reading → Line → Type 0
Spells before now l = lines_of now ≡ lines_of before ++ l ∷ []

after_inside : (s : Service) (ps : List Program) (u : Unfinished) (l : Line) (r : Reading) → (inside_step u l >>= λ next. Some (Inside s ps next)) ≡ Some r → Spells (Inside s ps u) r l
after_inside s ps u l r e =
    let b = bind_some (inside_step u l) (λ next. Some (Inside s ps next)) r e in
    subst (λ (now : Reading). Spells (Inside s ps u) now l) (some_is (Inside s ps b.0) r b.2)
    (ap (λ (ls : List Line). line.Service s ∷ (flat_map program_lines ps ++ ls)) (inside_spelled u b.0 l b.1)
    ∙ ap (λ (ls : List Line). line.Service s ∷ ls) (sym (append_assoc (flat_map program_lines ps) (unfinished_lines u) (l ∷ []))))

after_end : (limit : ℕ) (s : Service) (ps : List Program) (u : Unfinished) (r : Reading) →
    (finished limit u.who u.open_repeats u.block >>= λ program. Some (Between s (ps ++ program ∷ []))) ≡ Some r → Spells (Inside s ps u) r line.End
after_end limit s ps u r e =
    let b = bind_some (finished limit u.who u.open_repeats u.block) (λ program. Some (Between s (ps ++ program ∷ []))) r e in
    subst (λ (now : Reading). Spells (Inside s ps u) now line.End) (some_is (Between s (ps ++ b.0 ∷ [])) r b.2)
    (ap (λ (ls : List Line). line.Service s ∷ ls)
    (flat_map_push program_lines ps b.0
    ∙ ap (λ (ls : List Line). flat_map program_lines ps ++ ls) (finished_spelled limit u.who u.open_repeats u.block b.0 b.1)
    ∙ sym (append_assoc (flat_map program_lines ps) (unfinished_lines u) (line.End ∷ []))))

pub grammar_spelled : (limit : ℕ) (before now : Reading) (l : Line) → grammar_step limit before l ≡ Some now → Spells before now l
grammar_spelled limit Nothing now (line.Service s) e = subst (λ (r : Reading). Spells Nothing r (line.Service s)) (some_is _ now e) refl
grammar_spelled limit Nothing now (line.Pe who) e = absurd cc
grammar_spelled limit Nothing now (line.One asked) e = absurd cc
grammar_spelled limit Nothing now (line.Spin context item offset width value tries) e = absurd cc
grammar_spelled limit Nothing now (line.Repeat times) e = absurd cc
grammar_spelled limit Nothing now line.Done e = absurd cc
grammar_spelled limit Nothing now line.End e = absurd cc
grammar_spelled limit Nothing now line.Stop e = absurd cc
grammar_spelled limit (Between s ps) now (line.Service s') e = absurd cc
grammar_spelled limit (Between s ps) now (line.Pe who) e =
    subst (λ (r : Reading). Spells (Between s ps) r (line.Pe who)) (when_some _ _ now e).1 refl
grammar_spelled limit (Between s ps) now (line.One asked) e = absurd cc
grammar_spelled limit (Between s ps) now (line.Spin context item offset width value tries) e = absurd cc
grammar_spelled limit (Between s ps) now (line.Repeat times) e = absurd cc
grammar_spelled limit (Between s ps) now line.Done e = absurd cc
grammar_spelled limit (Between s ps) now line.End e = absurd cc
grammar_spelled limit (Between s ps) now line.Stop e = subst (λ (r : Reading). Spells (Between s ps) r line.Stop) (some_is _ now e) refl
grammar_spelled limit (Inside s ps u) now (line.Service s') e = after_inside s ps u (line.Service s') now e
grammar_spelled limit (Inside s ps u) now (line.Pe who) e = after_inside s ps u (line.Pe who) now e
grammar_spelled limit (Inside s ps u) now (line.One asked) e = after_inside s ps u (line.One asked) now e
grammar_spelled limit (Inside s ps u) now (line.Spin context item offset width value tries) e =
    after_inside s ps u (line.Spin context item offset width value tries) now e
grammar_spelled limit (Inside s ps u) now (line.Repeat times) e = after_inside s ps u (line.Repeat times) now e
grammar_spelled limit (Inside s ps u) now line.Done e = after_inside s ps u line.Done now e
grammar_spelled limit (Inside s ps u) now line.End e = after_end limit s ps u now e
grammar_spelled limit (Inside s ps u) now line.Stop e = after_inside s ps u line.Stop now e
grammar_spelled limit (Whole s ps) now l e = absurd cc

-- a step took a lawful line, and its reading stands for one line more
pub step_spelled : (limit : ℕ) (before now : Reading) (l : Line) → step limit before l ≡ Some now → (is_line l ≡ true) × Spells before now l
step_spelled limit before now l e =
    let b = bind_some (when (is_line l) l) (grammar_step limit before) now e in
    let good = when_some (is_line l) l b.0 b.1 in
    (good.0, grammar_spelled limit before now l (subst (λ (x : Line). grammar_step limit before x ≡ Some now) (sym good.1) b.2))
