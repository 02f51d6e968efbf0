-- How lines are read in turn. A reader need not believe any of this: it is proved that scripts, and no other bytes, are read so.
use Rattle.std.specs.Prelude.{ℕ, nat_le, nat_lt, List, [], ◌∷◌, ◌++◌, length, Option, Some, None}
use Rattle.fam_base.specs.declared.naming.Who.{Who}
use Rattle.fam_model.specs.declared.line.Line.{Line}
use Rattle.fam_model.specs.declared.line.Line.TheVariants as line
use Rattle.fam_model.specs.declared.service.Service.{Service}
use Rattle.fam_model.specs.declared.script.Statement.{Statement}
use Rattle.fam_model.specs.declared.script.Statement.TheVariants as statement
use Rattle.fam_model.specs.declared.script.Program.{Program}
use Rattle.fam_model.specs.Grammar.{is_line, max_count, max_nesting, max_programs, program_count}
use Rattle.fam_model.specs.Lists.{◌>>=◌, when}

-- an open repeat: the statements before it in its block, and its count
pub record Open : Type 0 where
  pub before : List Statement
  pub times : ℕ

-- a program whose `end` has not come: its open repeats, the innermost first, and the statements of the innermost block
pub record Unfinished : Type 0 where
  pub who : Who
  pub open_repeats : List Open
  pub block : List Statement

-- what the lines so far are
pub data Reading : Type 0 where
  Nothing : Reading
  Between : Service → List Program → Reading
  Inside : Service → List Program → Unfinished → Reading
  Whole : Service → List Program → Reading

-- a program that begins
abbrev pub begun : Who → Unfinished
begun who = record { who = who; open_repeats = []; block = [] }

-- the program with one statement more
abbrev pub with_statement : Unfinished → Statement → Unfinished
with_statement u s = record u { block = u.block ++ s ∷ [] }

-- a program's state after a line inside it
abbrev pub opened : Unfinished → ℕ → Option Unfinished
opened u times =
    when (nat_lt (length u.open_repeats) max_nesting)
    (record u { open_repeats = record { before = u.block; times = times } ∷ u.open_repeats; block = [] })

-- the innermost repeat closed: it is a statement of the block around it
abbrev pub closed : Unfinished → List Open → Option Unfinished
closed u [] = None
closed u (o ∷ outer) =
    Some (record u { open_repeats = outer; block = o.before ++ statement.Repeat o.times u.block ∷ [] })

-- the program after a line inside it
abbrev pub inside_step : Unfinished → Line → Option Unfinished
inside_step u (line.One asked) = Some (with_statement u (statement.One asked))
inside_step u (line.Spin context item offset width value tries) =
    Some (with_statement u (statement.Spin context item offset width value tries))
inside_step u (line.Repeat times) = opened u times
inside_step u line.Done = closed u u.open_repeats
inside_step u _ = None

-- the program that ends here; a repeat that is open and too many statements are found now
abbrev pub finished : ℕ → Who → List Open → List Statement → Option Program
finished limit who [] block =
    let program : Program = record { who = who; statements = block } in when (nat_le (program_count program) limit) program
finished limit who (o ∷ outer) block = None

-- what a lawful line makes of a reading, where so many statements are a program's at most
abbrev pub grammar_step : ℕ → Reading → Line → Option Reading
grammar_step limit Nothing (line.Service service) = Some (Between service [])
grammar_step limit (Between service programs) (line.Pe who) =
    when (nat_lt (length programs) max_programs) (Inside service programs (begun who))
grammar_step limit (Between service programs) line.Stop = Some (Whole service programs)
grammar_step limit (Inside service programs u) line.End = do
  program ← finished limit u.who u.open_repeats u.block
  Some (Between service (programs ++ program ∷ []))
grammar_step limit (Inside service programs u) l = do
  next ← inside_step u l
  Some (Inside service programs next)
grammar_step limit _ _ = None

-- what the lines are with one more; none where no script goes on so
abbrev pub step : ℕ → Reading → Line → Option Reading
step limit reading l = do
  good ← when (is_line l) l
  grammar_step limit reading good

-- lines taken in turn
abbrev pub run : ℕ → Reading → List Line → Option Reading
run limit reading [] = Some reading
run limit reading (l ∷ lines) = do
  next ← step limit reading l
  run limit next lines

-- what these lines are, from the beginning
abbrev pub read : List Line → Option Reading
read lines = run max_count Nothing lines
