use Rattle.word_ops.proofs.Ranges.{or_is}
use Rattle.word_ops.proofs.atomic.bits_of_any.Goals as goal

pub returns-clause-value : goal.returns-clause-value
returns-clause-value c = (or_is _ _ _ c.requires.supported c.requires.x_in_range c.requires.y_in_range).value

pub returns-clause-in_range : goal.returns-clause-in_range
returns-clause-in_range c = (or_is _ _ _ c.requires.supported c.requires.x_in_range c.requires.y_in_range).in_range
