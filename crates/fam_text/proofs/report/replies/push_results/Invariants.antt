use Rattle.std.proofs.Common.{◌≡◌, ◌∷◌, ◌++◌, take}
use Rattle.std.specs.List.{flat_map}
use Rattle.fam_model.specs.ReplyText.{result_word}
use Rattle.fam_text.proofs.report.replies.push_results.Given as goal

abbrev pub invariant-loop-told : goal.invariant-loop-told
invariant-loop-told l =
    l.text.items ≡ l.initial.text.items ++ flat_map (λ told. 32 ∷ result_word told) (take l.told-index l.results)
