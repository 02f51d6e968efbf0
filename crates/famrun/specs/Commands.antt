-- The commands by their words.
use Rattle.std.specs.Prelude.{◌≡◌, ℕ, List, [], ◌∷◌}
use Rattle.fam_io.specs.State.{SourceState, SinkState}
use Rattle.fam_model.specs.declared.event.Event.{Event}
use Rattle.famrun.specs.declared.ending.Ending.{Ending}
use Rattle.famrun.specs.declared.wanted.Wanted.{Wanted}
use Rattle.famrun.specs.Auditing.{AuditOutcome}
use Rattle.famrun.specs.Making.{MadeOutcome}

-- this is the first of the words
abbrev pub BeginsWith : List ℕ → List (List ℕ) → Type 0
BeginsWith word words = (rest : List (List ℕ)) × (words ≡ word ∷ rest)

-- A command that makes a script: nothing is read, and there is no history.
pub record MakesScript (name : List ℕ) (Ends : Wanted → SinkState → SinkState → Ending → Type 0) (words : List (List ℕ)) (from to : SourceState) (before after : SinkState) (status : ℕ) (history : List Event) : Type 0 where
  pub unread : to ≡ from
  pub nothing : history ≡ []
  pub made : MadeOutcome name Ends words before after status

-- The command `audit`: there is no history.
pub record Audits (words : List (List ℕ)) (from to : SourceState) (before after : SinkState) (status : ℕ) (history : List Event) : Type 0 where
  pub nothing : history ≡ []
  pub audit : AuditOutcome words from to before after status
