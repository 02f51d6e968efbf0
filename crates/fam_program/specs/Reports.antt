-- Reports of contexts.
use Rattle.std.specs.Prelude.{ℕ, Bool, true, not, ◌==◌, ◌&&◌, List, Option, is_some}
use Rattle.std.specs.Option.{option_map_or}
use Rattle.fam_context.specs.declared.tracked.Tracked.{Tracked}
use Rattle.fam_context.specs.Effects as effects
use Rattle.fam_model.specs.declared.reply.Reply.{Reply}
use Rattle.fam_model.specs.declared.state.Context.{Context}
use Rattle.fam_model.specs.declared.state.ProgramState.{ProgramState}
use Rattle.fam_model.specs.declared.state.Started.{Started}
use Rattle.fam_model.specs.declared.state.Started.TheVariants as started
use Rattle.fam_model.specs.Lists.{is_some_and, change_place}
use Rattle.fam_model.specs.Operations.{is_pending, report}
use Rattle.fam_model.specs.Programs.{placed}
use Rattle.fam_model.specs.Same.{same_reply}
use Rattle.fam_program.specs.Parts.{place_in}

-- the context is open, nothing of it is left, and this is its report
abbrev pub may_report : Context → Reply → Bool
may_report context given = context.is_open && (not (is_pending context) && same_reply given (report context))

-- the context once all results were told and it is closed
abbrev pub closed : Tracked → Tracked
closed t = effects.closed (effects.reported t)

-- a count that is there and 0
abbrev pub no_left : Option ℕ → Bool
no_left count = is_some_and count (λ n. n == 0)

-- the operation of a call was not told, has no piece left, and has this result
abbrev pub may_answer : Context → ℕ → Reply → Bool
may_answer context call given = no_left (effects.left_of context call) && effects.is_result_of context call given

-- the same of a copy
abbrev pub may_wait : Context → ℕ → Reply → Bool
may_wait context call given = effects.is_copy_of context call && may_answer context call given

-- the contexts once the result of a call was told
abbrev pub told_in : List Tracked → ℕ → List Tracked
told_in contexts call =
    option_map_or (λ c. change_place c (λ t. effects.told t call) contexts) (place_in contexts call) contexts

-- the contexts once the result of what was started is told
abbrev pub told_by : Started → List Tracked → List Tracked
told_by (started.Operation call) contexts = told_in contexts call
told_by _ contexts = contexts

-- the started operation is there, if one is started
abbrev pub is_held : Started → List Tracked → Bool
is_held (started.Operation call) contexts = is_some (place_in contexts call)
is_held _ contexts = true

-- the same of a program
abbrev pub has_started : Started → ProgramState → Bool
has_started (started.Operation call) p = is_some (placed p call)
has_started _ p = true
