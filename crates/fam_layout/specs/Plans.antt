-- The plan of an operation.
use Rattle.std.specs.Prelude.{◌≡◌, ◌⊎◌, Option, Some, None, Result, Ok, Err}
use Rattle.fam_base.specs.declared.naming.Descriptor.{Descriptor}
use Rattle.fam_base.specs.declared.error.FamError.{FamError}
use Rattle.fam_base.specs.declared.error.FamError.TheVariants.{Memory}
use Rattle.fam_model.specs.declared.call.DataOp.{DataOp}
use Rattle.fam_model.specs.declared.service.Service.{Service}
use Rattle.fam_model.specs.Directory.{first_case}
use Rattle.fam_model.specs.Issue.{plan_refusals}
use Rattle.fam_model.specs.Pieces.{pieces, plan_kind}
use Rattle.fam_layout.specs.declared.plan.Plan.{Plan}

-- the plan of an operation on the item of a descriptor; a copy goes from this item to the second one
abbrev pub planned : Service → DataOp → Descriptor → Descriptor → Plan
planned service op from to = record { kind = plan_kind op; pieces = pieces service op from to }

-- why an operation is refused, if it is
abbrev pub plan_refusal : DataOp → Descriptor → Descriptor → Option FamError
plan_refusal op from to = first_case (plan_refusals op from to)

-- the plan, where nothing refuses the operation; else the first refusal, or want of memory
abbrev pub IsPlanned : Service → DataOp → Descriptor → Descriptor → Result Plan FamError → Type 0
IsPlanned service op from to (Ok plan) = (plan ≡ planned service op from to) × (plan_refusal op from to ≡ None)
IsPlanned service op from to (Err error) = (error ≡ Memory) ⊎ (plan_refusal op from to ≡ Some error)
