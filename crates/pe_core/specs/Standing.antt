-- How a place in a program stands for replies.
use Rattle.std.specs.Prelude.{◌≡◌, ℕ, List, [], ◌∷◌, ◌++◌, slice_get, Some}
use Rattle.fam_model.specs.declared.call.Call.{Call}
use Rattle.fam_model.specs.declared.reply.Reply.{Reply}
use Rattle.fam_model.specs.declared.script.Program.{Program}
use Rattle.fam_model.specs.Text.{next_call}
use Rattle.pe_core.specs.declared.pe.Pe.{Pe}
use Rattle.pe_core.specs.Actions.{left_at}
use Rattle.pe_core.specs.Left.{Left, StandsFor}

-- what a program has still to do
abbrev pub left : Pe → Left
left pe = left_at pe.actions pe.order pe.place

-- for each list of replies that it stood for, it stands for that list with one more
abbrev pub StandsForMore : Left → Reply → Left → Type 0
StandsForMore before given now =
    (program : Program) (replies : List Reply) → StandsFor program replies before → StandsFor program (replies ++ given ∷ []) now

-- the call is the next one after each list of replies that it stands for
abbrev pub IsNext : Left → Call → Type 0
IsNext before asked =
    (program : Program) (replies : List Reply) → StandsFor program replies before → next_call program replies ≡ Some asked

-- it stands for no replies of the program of this number
abbrev pub StandsAtStart : List Program → ℕ → Left → Type 0
StandsAtStart programs pe now = (program : Program) → slice_get programs pe ≡ Some program → StandsFor program [] now
