use Rattle.std.proofs.Common.{rules, ◌≡◌, Some}
use Rattle.std.specs.Prelude.{option_map, slice_get, is_some, true}
use Rattle.fam_model.specs.Operations.{result}
use Rattle.fam_model.specs.Programs.{operation_of, unreported_copy}
use Rattle.fam_turns.proofs.Contexts.{copy_result}
use Rattle.fam_turns.proofs.telling.copy_result.Goals as goal

pub returns-in_ok-result_of-in-Some : goal.returns-in_ok-result_of-in-Some
returns-in_ok-result_of-in-Some c =
    let context = c.in-Some.there.now.context in
    let some : is_some (unreported_copy c.args.program.now.state c.args.context c.args.named) ≡ true = search rules in
    let there : slice_get c.args.program.now.state.contexts c.args.context ≡ Some context = search rules in
    let told : option_map result (operation_of context c.args.named) ≡ Some c.in_ok-result_of-in-Some.field-0 = search rules in
    copy_result c.args.program.now.state c.args.context c.args.named context c.in_ok-result_of-in-Some.field-0 some there told
