-- Which bytes are a script.
use Rattle.std.specs.Prelude.{◌≡◌, ℕ, ◌≤◌, Bool, true, ◌&&◌, nat_le, nat_lt, List, length, sum_by, IsTrue}
use Rattle.std.specs.List.{list_all}
use Rattle.fam_base.specs.Name.{is_between}
use Rattle.fam_model.specs.declared.script.Program.{Program}
use Rattle.fam_model.specs.declared.script.Script.{Script}
use Rattle.fam_model.specs.Atomic.{is_in_range}
use Rattle.fam_model.specs.Limits.{nobody}
use Rattle.fam_model.specs.Services.{is_service}
use Rattle.fam_model.specs.Shape.{is_context, is_slot, is_shaped}
use Rattle.fam_model.specs.Values.{is_u64, call_fits}
use Rattle.fam_model.specs.declared.line.Line.{Line}
use Rattle.fam_model.specs.declared.line.Line.TheVariants as line
use Rattle.fam_model.specs.CallText.{has_text}
use Rattle.fam_model.specs.ScriptText.{script_lines, script_text, call_count, nesting}

-- programs of a script
abbrev pub max_programs : ℕ
max_programs = 64

-- repeats inside one another
abbrev pub max_nesting : ℕ
max_nesting = 4

-- times of a repeat, tries of a spin, and statements of a program
abbrev pub max_count : ℕ
max_count = 65_536

-- lawful lines and scripts

-- a line whose numbers are in range and whose call is well-formed
abbrev pub is_line : Line → Bool
is_line (line.Service service) = is_service service.servers service.stripes service.unit
is_line (line.Pe who) = nat_lt who.uid nobody && nat_lt who.gid nobody
is_line (line.One asked) = has_text asked && is_shaped asked && call_fits asked
is_line (line.Spin context item offset width value tries) =
    is_context context && is_slot item && is_u64 offset && is_in_range width value && is_between 1 max_count tries
is_line (line.Repeat times) = is_between 1 max_count times
is_line _ = true

-- a program's statements, with repeats multiplied and spins counted by their tries
abbrev pub program_count : Program → ℕ
program_count program = sum_by call_count program.statements

-- no more statements than a limit
abbrev pub is_within : ℕ → Program → Bool
is_within limit program = nat_le (program_count program) limit

-- no repeat lies in too many others
abbrev pub is_shallow : Program → Bool
is_shallow program = list_all (λ statement. nat_le (nesting statement) max_nesting) program.statements

-- a lawful script, but for the number of statements of its programs
pub record IsLawfulButCount (script : Script) : Type 0 where
  pub lines : IsTrue (list_all is_line (script_lines script))
  pub programs : length script.programs ≤ max_programs
  pub nesting : IsTrue (list_all is_shallow script.programs)
  pub line_count : script.lines ≡ length (script_lines script)

-- a lawful script
pub record IsLawfulScript (script : Script) : Type 0 where
  pub but_count : IsLawfulButCount script
  pub count : IsTrue (list_all (is_within max_count) script.programs)

-- the bytes are the text of that script
pub record IsScript (bytes : List ℕ) (script : Script) : Type 0 where
  pub lawful : IsLawfulScript script
  pub text : bytes ≡ script_text script
