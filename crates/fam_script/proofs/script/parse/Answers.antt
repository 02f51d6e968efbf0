use Rattle.std.proofs.Common.{ℕ, List, ◌≡◌, Ok, Err, Result}
use Rattle.std.specs.Prelude.{IfOk}
use Rattle.fam_model.specs.Grammar.{IsScript}
use Rattle.fam_model.specs.declared.script.Script.{Script}
use Rattle.fam_script.specs.declared.script.ScriptFault.{ScriptFault}
use Rattle.fam_script.specs.Parsing.{parse_of}
use Rattle.fam_script.proofs.Parsed.{parsed_script, parsed_bad}
use Rattle.fam_script.proofs.script.parse.Goals as goal

-- what is read is a script
read_script : (bytes : List ℕ) (result : Result Script ScriptFault) → IfOk result (λ s. parse_of bytes ≡ Ok s) → IfOk result (λ s. IsScript bytes s)
read_script bytes (Ok script) e = parsed_script bytes script e
read_script bytes (Err fault) e = e

pub returns-clause-script : goal.returns-clause-script
returns-clause-script c = read_script c.args.bytes.now c.read.result c.read.ensures.script

pub returns-clause-bad_line : goal.returns-clause-bad_line
returns-clause-bad_line c = λ n e. parsed_bad c.args.bytes.now n (c.read.ensures.bad_line n e)
