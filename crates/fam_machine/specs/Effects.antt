-- How a step is told from what breaks a rule.
use Rattle.std.specs.Prelude.{◌≡◌, ℕ, Bool, true, false, Option, Some, None, Result, Ok, Err, IsTrue}
use Rattle.fam_base.specs.declared.naming.Who.{Who}
use Rattle.fam_model.specs.declared.change.Change.{Change}
use Rattle.fam_model.specs.declared.reply.Reply.{Reply}
use Rattle.fam_model.specs.declared.request.Request.{Request}
use Rattle.fam_model.specs.declared.rows.Rows.{Rows}
use Rattle.fam_model.specs.declared.state.ProgramState.{ProgramState}
use Rattle.fam_model.specs.declared.state.State.{State}
use Rattle.fam_model.specs.Lawful.{is_lawful_change}
use Rattle.fam_model.specs.MetaStep.{may_reply, told_change}
use Rattle.fam_program.specs.declared.tracked.TrackedProgram.{TrackedProgram}
use Rattle.fam_model.specs.Directory.{Memory}
use Rattle.fam_machine.specs.Views.{state_of, rows_with, memory_with}
use Rattle.fam_machine.specs.declared.parts.Parts.{Parts}
use Rattle.fam_machine.specs.declared.error.StepError.{StepError}
use Rattle.fam_machine.specs.declared.error.StepError.TheVariants as error
use Rattle.fam_machine.specs.declared.meta.Told.{Told}
use Rattle.fam_machine.specs.declared.meta.Told.TheVariants as told

-- A program took this step; or there is none, and the rule of such events is told; or memory was wanting. In the last
-- two cases it is as it was.
abbrev pub Steps : Option ProgramState → ℕ → TrackedProgram → TrackedProgram → Result Unit StepError → Type 0
Steps step rule old new (Ok _) = step ≡ Some new.state
Steps step rule old new (Err (error.Illegal broken)) = (step ≡ None) × (broken ≡ rule) × (new ≡ old)
Steps step rule old new (Err error.Memory) = new ≡ old

-- The same of the machine, at an event of program pe.
abbrev pub Takes : Option State → ℕ → Parts → Parts → Result Unit StepError → Type 0
Takes step rule old new (Ok _) = step ≡ Some (state_of new)
Takes step rule old new (Err (error.Illegal broken)) = (step ≡ None) × (broken ≡ rule) × (new ≡ old)
Takes step rule old new (Err error.Memory) = new ≡ old

-- what a reply tells of a request
abbrev pub Tells : Rows → Who → Request → Reply → Told → Type 0
Tells rows who request given told.Wrong = may_reply rows who request given ≡ false
Tells rows who request given told.Right = (may_reply rows who request given ≡ true) × (told_change rows who request given ≡ None)
Tells rows who request given (told.Serves chosen) =
    (may_reply rows who request given ≡ true) × (told_change rows who request given ≡ Some chosen)

-- a change, if there is one, is lawful on these rows
abbrev pub IsLawfulHere : Rows → Option Change → Type 0
IsLawfulHere rows None = Unit {0}
IsLawfulHere rows (Some chosen) = IsTrue (is_lawful_change rows chosen)

-- right or wrong, where nothing changes
abbrev pub told_if : Bool → Told
told_if true = told.Right
told_if false = told.Wrong

-- what the answer of the directory to a request makes of rows and memory; where it is wrong, rule 2 is broken
abbrev pub Answers : Rows → Memory → Who → Request → Reply → Rows → Memory → Result Unit StepError → Type 0
Answers rows memory who request given rows_now memory_now (Ok _) =
    (may_reply rows who request given ≡ true)
    × (rows_now ≡ rows_with rows (told_change rows who request given))
    × (memory_now ≡ memory_with rows (told_change rows who request given) memory)
Answers rows memory who request given rows_now memory_now (Err (error.Illegal broken)) =
    (may_reply rows who request given ≡ false) × (broken ≡ 2) × (rows_now ≡ rows) × (memory_now ≡ memory)
Answers rows memory who request given rows_now memory_now (Err error.Memory) = (rows_now ≡ rows) × (memory_now ≡ memory)
