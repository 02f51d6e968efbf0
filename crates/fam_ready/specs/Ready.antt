-- The lists of the pieces that may come, and what holds of every state that a run leads to.
use Rattle.std.specs.Prelude.{◌≡◌, ℕ, ◌<◌, ◌≤◌, false, List, map, slice_get, Some}
use Rattle.fam_model.specs.declared.event.Event.{Event}
use Rattle.fam_model.specs.declared.piece.Operation.{Operation}
use Rattle.fam_model.specs.declared.state.Context.{Context}
use Rattle.fam_model.specs.declared.state.ProgramState.{ProgramState}
use Rattle.fam_model.specs.declared.state.State.{State}
use Rattle.fam_model.specs.Limits.{service_limits}
use Rattle.fam_model.specs.Lists.{numbers_below}
use Rattle.fam_model.specs.Operations.{has_left}
use Rattle.fam_model.specs.Pieces.{stripe_count}
use Rattle.fam_model.specs.Programs.{program_of}
use Rattle.fam_model.specs.Step.{step}
use Rattle.fam_schedule.specs.Made.{StandsAt}
use Rattle.fam_schedule.specs.Schedule.{PieceName, ready_on}

-- the lists are those of the pieces that may come, one for each stripe
abbrev pub AreReady : State → List (List PieceName) → Type 0
AreReady state lists = lists ≡ map (ready_on state) (numbers_below (stripe_count state.service))

-- Each operation of a context is of a call below n and of no later epoch than the context's. In a context that is not
-- open no piece is left.
pub record IsTidyContext (n : ℕ) (context : Context) : Type 0 where
  pub below : (k : ℕ) (operation : Operation) → slice_get context.operations k ≡ Some operation → operation.call < n
  pub latest : (k : ℕ) (operation : Operation) → slice_get context.operations k ≡ Some operation → operation.epoch ≤ context.epoch
  pub closed : context.is_open ≡ false → (k : ℕ) (operation : Operation) → slice_get context.operations k ≡ Some operation →
      has_left operation ≡ false

-- the contexts of a program are tidy, and each call has one operation at most
pub record IsTidyProgram (p : ProgramState) : Type 0 where
  pub each : (c : ℕ) (context : Context) → slice_get p.contexts c ≡ Some context → IsTidyContext p.next_call context
  pub apart : (c k d j : ℕ) (one other : Operation) → StandsAt p c k one → StandsAt p d j other → one.call ≡ other.call →
      (c ≡ d) × (k ≡ j)

-- all programs are tidy
pub record IsTidy (state : State) : Type 0 where
  pub each : (pe : ℕ) (p : ProgramState) → program_of state pe ≡ Some p → IsTidyProgram p

-- where the lists were those of a tidy state, and the event leads to a state with this program, they are those of that
-- state
abbrev pub KeepsReady : Event → ProgramState → List (List PieceName) → List (List PieceName) → Type 0
KeepsReady event p old_lists new_lists =
    (old new : State) → AreReady old old_lists → IsTidy old → step service_limits old event ≡ Some new →
    program_of new event.pe.0 ≡ Some p → AreReady new new_lists
