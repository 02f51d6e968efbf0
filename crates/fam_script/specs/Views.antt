-- What a contract sees of a program whose end has not come, and of the lines so far.
use Rattle.std.specs.Prelude.{◌≡◌, ℕ, ◌+◌, List, map, reverse, Option, Some, None, Ok, Err, MatchOption}
use Rattle.fam_model.specs.declared.line.Line.{Line}
use Rattle.fam_model.specs.declared.line.Line.TheVariants as line
use Rattle.fam_model.specs.declared.service.Service.{Service}
use Rattle.fam_model.specs.declared.script.Program.{Program}
use Rattle.fam_model.specs.declared.script.Script.{Script}
use Rattle.fam_model.specs.Grammar.{max_count}
use Rattle.fam_script.specs.declared.script.unfinished.Open.{Open as OpenRepeat}
use Rattle.fam_script.specs.declared.script.unfinished.Unfinished.{Unfinished as UnfinishedProgram}
use Rattle.fam_script.specs.declared.script.reading.Reading.{Reading as LinesSoFar}
use Rattle.fam_script.specs.declared.script.reading.Reading.TheVariants as so_far
use Rattle.fam_script.specs.Machine.{Open, Unfinished, Reading, Nothing, Between, Inside, Whole, grammar_step}
use Rattle.fam_script.specs.Parsing.{step_line, ended_with}

-- an open repeat
abbrev pub view_open : OpenRepeat → Open
view_open o = record { before = o.before; times = o.times }

-- the innermost repeat comes last in the code, and first in the definitions
abbrev pub view : UnfinishedProgram → Unfinished
view u = record { who = u.who; open_repeats = reverse (map view_open u.open_repeats.items); block = u.block }

-- the lines so far
abbrev pub view_reading : LinesSoFar → Reading
view_reading so_far.Nothing = Nothing
view_reading (so_far.Between service programs) = Between service programs
view_reading (so_far.Inside service programs u) = Inside service programs (view u)
view_reading (so_far.Whole service programs) = Whole service programs

-- one more line makes this of the lines so far
abbrev pub Steps : LinesSoFar → Line → Option LinesSoFar → Type 0
Steps before l next =
    MatchOption next (step_line (view_reading before) l ≡ None)
    (λ now. step_line (view_reading before) l ≡ Some (view_reading now))

-- a lawful line makes this of a reading
abbrev pub Moves : Reading → Line → Option LinesSoFar → Type 0
Moves before l next =
    MatchOption next (grammar_step max_count before l ≡ None)
    (λ now. grammar_step max_count before l ≡ Some (view_reading now))

-- the end of a program makes this of the lines so far
abbrev pub Ends : Service → List Program → Unfinished → Option LinesSoFar → Type 0
Ends service programs u next = Moves (Inside service programs u) line.End next

-- the script of so many lines, or none
abbrev pub GivesScript : ℕ → LinesSoFar → List ℕ → Option Script → Type 0
GivesScript lines reading rest result =
    MatchOption result (ended_with lines (view_reading reading) rest ≡ Err (lines + 1))
    (λ script. ended_with lines (view_reading reading) rest ≡ Ok script)
