-- What a program has still to do.
use Rattle.std.specs.Prelude.{◌≡◌, ◌-◌, Bool, true, not, ◌==◌, nat_le, List, [], ◌∷◌, ◌++◌, filter, Option, Some, None, if◌then◌else◌}
use Rattle.std.specs.List.{flat_map}
use Rattle.fam_model.specs.declared.call.Call.{Call}
use Rattle.fam_model.specs.declared.reply.Reply.{Reply}
use Rattle.fam_model.specs.declared.script.Program.{Program}
use Rattle.fam_model.specs.declared.script.Statement.{Statement}
use Rattle.fam_model.specs.Text.{Turn, Once, Until, written_out, ends_spin, is_crash, next_of, next_call}

-- turns that are left, or none once the program has crashed or left
abbrev pub Left : Type 0
Left = Option (List Turn)

-- a turn that makes a call; a spin of no tries makes none
abbrev pub makes_calls : Turn → Bool
makes_calls (Once asked) = true
makes_calls (Until asked value tries) = not (tries == 0)

-- the turns of statements, repeats written out
abbrev pub turns_of : List Statement → List Turn
turns_of statements = filter makes_calls (flat_map written_out statements)

-- the next call after these replies
abbrev pub next_after : Left → List Reply → Option Call
next_after None replies = None
next_after (Some turns) replies = next_of turns replies

-- a spin that goes on
abbrev pub tried : Turn → List Turn → List Turn
tried (Once asked) turns = turns
tried (Until asked value tries) turns = if nat_le tries 1 then turns else Until asked value (tries - 1) ∷ turns

-- the turns behind one that got this reply
abbrev pub behind : Turn → List Turn → Reply → Left
behind (Once asked) turns given = if is_crash asked then None else Some turns
behind (Until asked value tries) turns given =
    if ends_spin value given then Some turns else Some (tried (Until asked value tries) turns)

-- what is left after one more reply
abbrev pub after_reply : Left → Reply → Left
after_reply None given = None
after_reply (Some []) given = None
after_reply (Some (turn ∷ turns)) given = behind turn turns given

-- With this left, the program has got these replies: whatever replies come, its next call is the one that is due.
pub record StandsFor (program : Program) (replies : List Reply) (left : Left) : Type 0 where
  pub goes_on : (more : List Reply) → next_call program (replies ++ more) ≡ next_after left more
