-- The lines of a script, and its text.
use Rattle.std.specs.Prelude.{ℕ, ◌+◌, ◌*◌, max, List, [], ◌∷◌, ◌++◌, map, codes}
use Rattle.std.specs.List.{flat_map}
use Rattle.std.specs.Fmt.{decimal, signed_decimal}
use Rattle.fam_model.specs.declared.script.Statement.{Statement, One, Repeat', Spin, Row_of-Statement, end_of-Statement, more_of-Statement}
use Rattle.fam_model.specs.declared.script.Program.{Program}
use Rattle.fam_model.specs.declared.script.Script.{Script}
use Rattle.fam_model.specs.declared.line.Line.{Line}
use Rattle.fam_model.specs.declared.line.Line.TheVariants as line
use Rattle.fam_model.specs.Words.{item_slot_text, context_text, words_text, text_of}
use Rattle.fam_model.specs.CallText.{width_word, call_words}

-- the text of one line

-- the words of a line
abbrev pub line_words : Line → List (List ℕ)
line_words (line.Service service) =
    codes "service" ∷ decimal service.servers ∷ decimal service.stripes ∷ decimal service.unit ∷ []
line_words (line.Pe who) = codes "pe" ∷ decimal who.uid ∷ decimal who.gid ∷ []
line_words (line.One asked) = call_words asked
line_words (line.Spin context item offset width value tries) =
    codes "spin" ∷ context_text context ∷ item_slot_text item ∷ decimal offset
    ∷ width_word width ∷ signed_decimal value ∷ decimal tries ∷ []
line_words (line.Repeat times) = codes "repeat" ∷ decimal times ∷ []
line_words line.Done = codes "done" ∷ []
line_words line.End = codes "end" ∷ []
line_words line.Stop = codes "stop" ∷ []

-- the text of a line, without its line feed
abbrev pub line_text : Line → List ℕ
line_text l = words_text (line_words l)

-- the lines of a script

-- a statement, and the statements of a repeat
abbrev mutual
  pub statement_lines : Statement → List Line
  statement_lines (One asked) = line.One asked ∷ []
  statement_lines (Repeat' times shape body) = line.Repeat times ∷ (block_lines body ++ line.Done ∷ [])
  statement_lines (Spin context item offset width value tries) =
      line.Spin context item offset width value tries ∷ []

  pub block_lines : {n : _} → Row_of-Statement n → List Line
  block_lines end_of-Statement = []
  block_lines (more_of-Statement statement rest) = statement_lines statement ++ block_lines rest

-- a program from `pe` to `end`
abbrev pub program_lines : Program → List Line
program_lines program = line.Pe program.who ∷ (flat_map statement_lines program.statements ++ line.End ∷ [])

-- a script from `service` to `stop`
abbrev pub script_lines : Script → List Line
script_lines script = line.Service script.service ∷ (flat_map program_lines script.programs ++ line.Stop ∷ [])

-- the text of a script
abbrev pub script_text : Script → List ℕ
script_text script = text_of (map line_text (script_lines script))

-- how large statements are

-- how many calls a statement may make, with repeats multiplied and spins counted by their tries
abbrev mutual
  pub call_count : Statement → ℕ
  call_count (One asked) = 1
  call_count (Repeat' times shape body) = times * block_count body
  call_count (Spin context item offset width value tries) = tries

  pub block_count : {n : _} → Row_of-Statement n → ℕ
  block_count end_of-Statement = 0
  block_count (more_of-Statement statement rest) = call_count statement + block_count rest

-- how deep the repeats of a statement lie in one another
abbrev mutual
  pub nesting : Statement → ℕ
  nesting (One asked) = 0
  nesting (Repeat' times shape body) = block_nesting body + 1
  nesting (Spin context item offset width value tries) = 0

  pub block_nesting : {n : _} → Row_of-Statement n → ℕ
  block_nesting end_of-Statement = 0
  block_nesting (more_of-Statement statement rest) = max (nesting statement) (block_nesting rest)
