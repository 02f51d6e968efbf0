use Rattle.std.proofs.Common.{sym, ap, refl, ◌∙◌}
use Rattle.fam_schedule.specs.Schedule.{piece_event, with_words}
use Rattle.ready_lists.specs.Views.{name_of}
use Rattle.fam_core.proofs.Choosing.{taken_whole, taken_lost, taken_kept, is_odd, is_even}
use Rattle.fam_core.proofs.chosen.take.Goals as goal
use Rattle.fam_core.proofs.chosen.take.Goals.{else-orphan-via-then-orphan+else-next_word-eq1, else-orphan-via-else-orphan}

pub returns-then-next_word-eq1 : goal.returns-then-next_word-eq1
returns-then-next_word-eq1 c =
    taken_lost c.args.machine.now (name_of c.args.at) c.args.words.now c.next_word.new.self c.next_word.result
    (sym (c.has_crashed-orphan.ensures (name_of c.args.at) refl) ∙ c.if-orphan.true) (sym c.next_word.ensures) (is_odd c.next_word.result c.if-next_word-eq1.true)

pub returns-else-orphan : goal.returns-else-orphan
returns-else-orphan c = elim c.else-orphan.branch [
  | else-orphan-via-then-orphan+else-next_word-eq1 w ↦
      taken_kept c.args.machine.now (name_of c.args.at) c.args.words.now w.next_word.new.self w.next_word.result
      (sym (c.has_crashed-orphan.ensures (name_of c.args.at) refl) ∙ w.if-orphan.true) (sym w.next_word.ensures) (is_even w.next_word.result w.if-next_word-eq1.false)
      ∙ ap (λ words. with_words words (piece_event c.args.machine.now (name_of c.args.at))) (sym w.words-is)
  | else-orphan-via-else-orphan w ↦
      taken_whole c.args.machine.now (name_of c.args.at) c.args.words.now (sym (c.has_crashed-orphan.ensures (name_of c.args.at) refl) ∙ w.if-orphan.false)
      ∙ ap (λ words. with_words words (piece_event c.args.machine.now (name_of c.args.at))) (sym w.words-is)
]
