-- What becomes of a data call.
use Rattle.std.specs.Prelude.{◌≡◌, ℕ, ◌+◌, ◌≤◌, Bool, true, false, length, Some, None}
use Rattle.fam_base.specs.declared.error.FamError.{FamError}
use Rattle.fam_base.specs.declared.error.FamError.TheVariants as error
use Rattle.fam_base.specs.declared.naming.Descriptor.{Descriptor}
use Rattle.fam_model.specs.declared.call.DataOp.{DataOp}
use Rattle.fam_model.specs.declared.service.Service.{Service}
use Rattle.fam_model.specs.declared.state.ProgramState.{ProgramState}
use Rattle.fam_layout.specs.declared.plan.Plan.{Plan}
use Rattle.fam_layout.specs.Plans.{planned}
use Rattle.fam_model.specs.Directory.{first_case}
use Rattle.fam_model.specs.Issue.{data_refusals, targets}
use Rattle.fam_model.specs.Programs.{is_open}
use Rattle.fam_program.specs.Budget.{exceeds_budget}
use Rattle.fam_machine.specs.declared.issue.Decision.{Decision}
use Rattle.fam_machine.specs.declared.issue.Decision.TheVariants as decision

-- the items of an operation lie where items may lie
abbrev pub Knows : ProgramState → DataOp → Type 0
Knows p op =
    (items : Descriptor × Descriptor) → targets p op ≡ Some items →
    (items.0.base + items.0.size ≤ 67_108_864) × (items.1.base + items.1.size ≤ 67_108_864)

-- a data call that is not refused, and its plan
pub record IsAccepted (service : Service) (p : ProgramState) (context : ℕ) (op : DataOp) (plan : Plan) : Type 0 where
  pub none : first_case (data_refusals service p context op) ≡ None
  pub opened : is_open p context ≡ true
  pub items : Descriptor × Descriptor
  pub there : targets p op ≡ Some items
  pub planned_so : plan ≡ planned service op items.0 items.1
  pub budget : exceeds_budget p op (length plan.pieces) ≡ false

-- a data call is refused, or it has this plan
abbrev pub Decides : Service → ProgramState → ℕ → DataOp → Decision → Type 0
Decides service p context op (decision.Refused error) = first_case (data_refusals service p context op) ≡ Some error
Decides service p context op (decision.Accepted plan) = IsAccepted service p context op plan

-- the error tells want of memory
abbrev pub is_memory : FamError → Bool
is_memory error.Memory = true
is_memory _ = false
