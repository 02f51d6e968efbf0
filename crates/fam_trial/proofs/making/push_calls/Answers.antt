use Rattle.fam_trial.proofs.Words.{calls_more, word_more}
use Rattle.fam_trial.proofs.making.push_calls.Goals as goal

pub loop-preserved : goal.loop-preserved
loop-preserved c = (
  calls_more c.args.statements.now c.loop.statements c.push.new.self c.loop.counter c.args.words.now c.loop.words c.next_word.new.self c.next_word.result c.in_ok-call.call
      c.loop.invariant.1 c.loop.invariant.0 c.next_word.ensures c.in_ok-call.ensures c.in_ok-push.ensures.ok,
  word_more c.loop.counter c.args.words.now c.loop.words c.next_word.new.self c.next_word.result c.loop.invariant.1 c.next_word.ensures,
)
