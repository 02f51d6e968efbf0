use Rattle.meta_codec.proofs.OneSpelling.{decoded-body, length-body}
use Rattle.meta_codec.proofs.laws.one_spelling.Goals as goal

pub returns-clause-read : goal.returns-clause-read
returns-clause-read c = decoded-body

pub returns-clause-long : goal.returns-clause-long
returns-clause-long c = length-body
