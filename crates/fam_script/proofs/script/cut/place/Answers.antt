use Rattle.std.specs.Prelude.{◌==◌}
use Rattle.fam_script.proofs.Cuts.{first_place}
use Rattle.fam_script.proofs.script.cut.place.Goals as goal

pub returns : goal.returns
returns c = first_place (λ b. b == c.args.separator) c.args.bytes.now c.memchr.result c.memchr.ensures
