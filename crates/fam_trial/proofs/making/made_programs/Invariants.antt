use Rattle.std.proofs.Common.{◌≡◌, ◌*◌}
use Rattle.fam_schedule.specs.Schedule.{words_of}
use Rattle.fam_trial.specs.Generator.{after_words, made_programs}
use Rattle.fam_trial.proofs.making.made_programs.Given as goal

abbrev pub invariant-loop-pe : goal.invariant-loop-pe
invariant-loop-pe l = (l.made ≡ made_programs l.seed l.pe l.calls) × (l.words ≡ after_words (l.pe * l.calls) (words_of l.seed))
