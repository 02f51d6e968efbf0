use Rattle.std.proofs.Common.{map, string_bytes}
use Rattle.std.specs.Prelude.{codes}
use Rattle.famrun.specs.Making.{MakeEnds}
use Rattle.famrun.proofs.Made.{made_out, make_one}
use Rattle.famrun.proofs.make.make_main.Goals as goal

pub returns : goal.returns
returns g c =
    made_out (codes "make") MakeEnds (map string_bytes c.args.words.now) c.in-Some.wanted (g.K.Sink.sink c.args.output.now) (g.K.Sink.sink c.make.new.output) c.status-2.result
    c.make.result c.in-Some.ensures c.status-2.ensures c.make.ensures
    (make_one c.in-Some.wanted (g.K.Sink.sink c.args.output.now) (g.K.Sink.sink c.make.new.output) c.make.result c.make.ensures)
