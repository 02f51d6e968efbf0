use Rattle.std.proofs.Common.{ap, ◌∙◌}
use Rattle.fam_script.specs.Reading.{one_of}
use Rattle.report_reader.proofs.Numbers.{not_one}
use Rattle.report_reader.proofs.cut.one_word.Goals as goal

pub returns-in-Some : goal.returns-in-Some
returns-in-Some c = ap one_of c.in-Some.ensures.parts ∙ not_one c.args.separator c.in-Some.field-0.0.now c.in-Some.field-0.1.now
