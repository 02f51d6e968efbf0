-- What a program has, and what holds of it always.
use Rattle.std.specs.Prelude.{◌≡◌, ℕ, ◌<◌, ◌≤◌, Bool, true, false, not, ◌&&◌, List, [], map, length, replicate, All}
use Rattle.fam_context.specs.declared.tracked.Tracked.{Tracked}
use Rattle.fam_model.specs.declared.piece.Operation.{Operation}
use Rattle.fam_model.specs.declared.state.Context.{Context}
use Rattle.fam_model.specs.declared.state.Started.{Started}
use Rattle.fam_model.specs.declared.state.Started.TheVariants as started
use Rattle.fam_model.specs.declared.state.ProgramState.{ProgramState}
use Rattle.fam_model.specs.Limits.{max_data_calls, max_moved, max_pieces, number_end}
use Rattle.fam_model.specs.Operations.{is_copy}
use Rattle.fam_model.specs.Shape.{slot_count, context_count}

-- contexts

-- the contexts of the definitions
abbrev pub contexts_of : List Tracked → List Context
contexts_of tracked = map (λ t. t.context) tracked

-- what is out in each context
abbrev pub outs_of : List Tracked → List (List (List Bool))
outs_of tracked = map (λ t. t.out) tracked

-- what holds always

-- an operation was issued by a call of the program; no copy blocks; the started one blocks and was not told
pub record IsIssued (next : ℕ) (begun : Started) (operation : Operation) : Type 0 where
  pub below : operation.call < next
  pub copies : is_copy operation.kind && operation.blocking ≡ false
  pub begins : begun ≡ started.Operation operation.call → operation.blocking && not operation.reported ≡ true

-- each fence was a call of the program, and so was the issue of each operation
pub record IsWithin (next : ℕ) (begun : Started) (context : Context) : Type 0 where
  pub epoch : context.epoch ≤ next
  pub operations : All (IsIssued next begun) context.operations

-- There are as many slots and contexts as a program has. Counts are within their limits, and contexts have operations
-- of this program alone.
pub record IsProgram (p : ProgramState) : Type 0 where
  pub regions : length p.region_slots ≡ slot_count
  pub items : length p.item_slots ≡ slot_count
  pub places : length p.contexts ≡ context_count
  pub calls : p.data_calls ≤ max_data_calls
  pub bytes : p.moved ≤ max_moved
  pub parts : p.pieces ≤ max_pieces
  pub numbers : p.next_call ≤ number_end
  pub within : All (IsWithin p.next_call p.started) p.contexts

-- no piece is out in any context
abbrev pub nothing_out : List (List (List Bool))
nothing_out = replicate context_count []
