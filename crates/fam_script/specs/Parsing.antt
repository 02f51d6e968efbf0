-- What is read of bytes. A reader need not believe any of this: it is proved that it is the script or the bad line.
use Rattle.std.specs.Prelude.{ℕ, ◌+◌, ◌-◌, List, [], ◌∷◌, length, drop, ◌==◌, Option, Some, None, Result, Ok, Err}
use Rattle.std.specs.List.{flat_map, slice_split}
use Rattle.fam_model.specs.declared.line.Line.{Line}
use Rattle.fam_model.specs.declared.service.Service.{Service}
use Rattle.fam_model.specs.declared.script.Program.{Program}
use Rattle.fam_model.specs.declared.script.Script.{Script}
use Rattle.fam_model.specs.Grammar.{max_count}
use Rattle.fam_model.specs.Lists.{◌>>=◌}
use Rattle.fam_script.specs.BadLine.{whole_lines}
use Rattle.fam_script.specs.Machine.{Reading, Nothing, Whole, step}
use Rattle.fam_script.specs.Reading.{line_of}

-- the bytes behind the last line feed
abbrev pub rest_of : List ℕ → List ℕ
rest_of bytes = let parts = slice_split (λ b. b == 10) bytes in flat_map (λ part. part) (drop (length parts - 1) parts)

-- a script of so many lines
abbrev pub script_of : ℕ → Service → List Program → Script
script_of lines service programs = record { service = service; programs = programs; lines = lines }

-- after all whole lines: the script, or the number of the line that is missing or cut
abbrev pub ended_with : ℕ → Reading → List ℕ → Result Script ℕ
ended_with n (Whole service programs) [] = Ok (script_of n service programs)
ended_with n reading rest = Err (n + 1)

-- what comes of a step, whose line is bad where it cannot be made
abbrev pub and_then : ℕ → Option Reading → (Reading → Result Script ℕ) → Result Script ℕ
and_then n None others = Err (n + 1)
and_then n (Some next) others = others next

-- what a reading is after one more line
abbrev pub step_line : Reading → Line → Option Reading
step_line reading l = step max_count reading l

-- what a reading is after the text of one more line
abbrev pub step_text : Reading → List ℕ → Option Reading
step_text reading text = do
  l ← line_of text
  step_line reading l

-- the script that the lines from here on complete, where n lines came before, or its bad line
abbrev pub scan : ℕ → Reading → List (List ℕ) → List ℕ → Result Script ℕ
scan n reading [] rest = ended_with n reading rest
scan n reading (text ∷ texts) rest =
    and_then n (step_text reading text) (λ next. scan (n + 1) next texts rest)

-- the script that the bytes are, or their bad line
abbrev pub parse_of : List ℕ → Result Script ℕ
parse_of bytes = scan 0 Nothing (whole_lines bytes) (rest_of bytes)
