use Rattle.std.proofs.Common.{◌≡◌, ◌++◌, map}
use Rattle.fam_trial.specs.Generator.{after_words, made_call, statements_of, words_from}
use Rattle.fam_trial.proofs.making.push_calls.Given as goal

abbrev pub invariant-loop : goal.invariant-loop
invariant-loop l =
    (l.statements ≡ l.initial.statements ++ statements_of (map made_call (words_from l.counter l.initial.words)))
    × (l.words ≡ after_words l.counter l.initial.words)
