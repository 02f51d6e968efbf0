-- Laws of the definitions.
use Rattle.std.specs.Prelude.{◌≡◌, ◌↔◌, ℕ, ◌+◌, ◌<◌, Bool, ◌==◌, List, [], ◌∷◌, ◌++◌, All, Option, Some, IsTrue, is_none, is_some}
use Rattle.std.specs.List.{list_any, flat_map}
use Rattle.fam_model.specs.declared.call.Call.{Call}
use Rattle.fam_model.specs.declared.event.Event.{Event}
use Rattle.fam_model.specs.declared.piece.Part.{Part}
use Rattle.fam_model.specs.declared.reply.PieceAnswer.{PieceAnswer}
use Rattle.fam_model.specs.declared.reply.Reply.{Reply}
use Rattle.fam_model.specs.declared.state.State.{State}
use Rattle.fam_model.specs.Earned.{parts, are_earned}
use Rattle.fam_model.specs.History.{state_after, is_legal}
use Rattle.fam_model.specs.Limits.{Limits}
use Rattle.fam_model.specs.Lists.{◌>>=◌}
use Rattle.fam_model.specs.Pieces.{cut_where, cuts, is_border}
use Rattle.fam_model.specs.Rules.{broken_rule, first_broken}
use Rattle.fam_model.specs.Same.{same_call, same_reply, same_answer}
use Rattle.fam_model.specs.Step.{step}
use Rattle.fam_model.specs.Text.{is_call}

-- an event breaks a rule exactly where it has no next state, and some event of a history exactly where it is illegal
pub record RulesAreSteps : Type 0 where
  pub event : (limits : Limits) (state : State) (event : Event) →
      is_none (broken_rule limits state event) ≡ is_some (step limits state event)
  pub history : (limits : Limits) (state : State) (place : ℕ) (history : List Event) →
      is_none (first_broken limits state place history) ≡ is_legal limits state history

-- a history in two parts goes on from where the first one leads, and each front of a legal history is legal
pub record HistoriesGoOn : Type 0 where
  pub goes_on : (limits : Limits) (state : State) (first second : List Event) →
      state_after limits state (first ++ second) ≡ (state_after limits state first >>= λ next. state_after limits next second)
  pub front : (limits : Limits) (state : State) (first second : List Event) →
      IsTrue (is_legal limits state (first ++ second)) → IsTrue (is_legal limits state first)

-- the tests of equality hold of a value and itself, and of no two others
pub record TestsAreEquality : Type 0 where
  pub calls : (a b : Call) → IsTrue (same_call a b) ↔ (a ≡ b)
  pub replies : (a b : Reply) → IsTrue (same_reply a b) ↔ (a ≡ b)
  pub answers : (a b : PieceAnswer) → IsTrue (same_answer a b) ↔ (a ≡ b)
  pub due : (due : Option Call) (asked : Call) → IsTrue (is_call due asked) ↔ (due ≡ Some asked)

-- the parts of a history are all of it, and where all its refusals are earned it is legal
pub record PartsAreWhole : Type 0 where
  pub joined : (limits : Limits) (state : State) (history : List Event) →
      flat_map (λ part. part) (parts limits state history) ≡ history
  pub legal : (limits : Limits) (state : State) (history : List (List Event)) →
      IsTrue (are_earned limits state history) → IsTrue (is_legal limits state (flat_map (λ part. part) history))

-- each part begins where the one before it ends, the first at start, and the last ends at end
abbrev pub AreInRow : ℕ → List Part → ℕ → Type 0
AreInRow start [] end = start ≡ end
AreInRow start (part ∷ parts) end = (part.offset ≡ start) × AreInRow (start + part.n) parts end

-- some part begins at this place
abbrev pub begins_at : ℕ → List Part → Bool
begins_at place parts = list_any (λ part. part.offset == place) parts

-- parts that are not empty, cover n bytes from offset on once and in order, and meet exactly where the test holds
pub record IsCutWhere (is_cut : ℕ → Bool) (offset n : ℕ) (parts : List Part) : Type 0 where
  pub in_row : AreInRow offset parts (offset + n)
  pub not_empty : All (λ part. 0 < part.n) parts
  pub meet : (place : ℕ) → offset < place → place < offset + n → begins_at place parts ≡ is_cut place

-- a range of an item is cut where units begin, and that of a copy where the units of either side begin
pub record CutsAreExact : Type 0 where
  pub units : (base offset n unit : ℕ) → IsCutWhere (is_border unit base) offset n (cuts base offset n unit)
  pub tests : (is_cut : ℕ → Bool) (offset n : ℕ) → IsCutWhere is_cut offset n (cut_where is_cut offset n)
