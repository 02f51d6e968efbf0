-- The line at which bytes stop being the beginning of a script.
use Rattle.std.specs.Prelude.{◌≡◌, ℕ, ◌-◌, ◌<◌, ◌≤◌, ◌==◌, Bool, true, false, List, ◌++◌, filter, length, map, take, IsTrue}
use Rattle.std.specs.List.{list_all, slice_split}
use Rattle.fam_model.specs.declared.line.Line.{Line}
use Rattle.fam_model.specs.declared.line.Line.TheVariants as line
use Rattle.fam_model.specs.declared.script.Program.{Program}
use Rattle.fam_model.specs.declared.script.Script.{Script}
use Rattle.fam_model.specs.Grammar.{max_count, is_within, IsLawfulButCount, IsScript}
use Rattle.fam_model.specs.ScriptText.{line_text, script_lines}

-- the lines that have their line feed
abbrev pub whole_lines : List ℕ → List (List ℕ)
whole_lines bytes = let parts = slice_split (λ b. b == 10) bytes in take (length parts - 1) parts

-- there are so many whole lines, and some text begins with them
abbrev pub BeginsAt : (List (List ℕ) → Type 0) → List ℕ → ℕ → Type 0
BeginsAt Begins bytes n = (n ≤ length (whole_lines bytes)) × Begins (take n (whole_lines bytes))

-- n is the least number of lines with which no text begins
pub record IsFirstBadLine (Begins : List (List ℕ) → Type 0) (bytes : List ℕ) (n : ℕ) : Type 0 where
  pub before : (k : ℕ) → k < n → BeginsAt Begins bytes k
  pub here : ¬ BeginsAt Begins bytes n

-- the line that ends a program
abbrev pub is_end : Line → Bool
is_end line.End = true
is_end _ = false

-- the programs whose `end` is among these lines, the first ones of the script
abbrev pub ended : List Line → Script → List Program
ended lines script = take (length (filter is_end lines)) script.programs

-- A script begins with these lines. How many statements a program has matters only where its `end` is among them.
pub record BeginsWith (script : Script) (lines : List Line) : Type 0 where
  pub lawful : IsLawfulButCount script
  pub rest : List Line
  pub begins : script_lines script ≡ lines ++ rest
  pub count : IsTrue (list_all (is_within max_count) (ended lines script))

-- these texts are lines with which a script begins
pub record BeginsScript (texts : List (List ℕ)) : Type 0 where
  pub lines : List Line
  pub script : Script
  pub beginning : BeginsWith script lines
  pub text : texts ≡ map line_text lines

-- the bytes are no script, and this is the least number of lines with which none begins
pub record IsBadLine (bytes : List ℕ) (n : ℕ) : Type 0 where
  pub no_script : (script : Script) → ¬ IsScript bytes script
  pub first : IsFirstBadLine BeginsScript bytes n
