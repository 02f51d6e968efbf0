use Rattle.std.proofs.Common.{ap, ◌∙◌}
use Rattle.std.proofs.lemmas.List.{take_rest}
use Rattle.fam_context.specs.Results.{results_of}
use Rattle.fam_context.proofs.Told.{results_from}
use Rattle.fam_context.proofs.results.untold.Goals as goal

pub returns : goal.returns
returns c = ap results_of (take_rest c.args.all.now c.args.told) ∙ results_from c.args.told c.args.all.now c.requires.before
