use Rattle.std.proofs.Common.{map, string_bytes}
use Rattle.famrun.proofs.Outcomes.{refused, played_out}
use Rattle.famrun.proofs.sim.sim_main.Goals as goal

pub returns-in_default : goal.returns-in_default
returns-in_default g c =
    refused g.D.Disk.state (map string_bytes c.args.words.now) (g.S.Source.source c.args.input.now) (g.K.Sink.sink c.args.output.now)
    (g.K.Sink.sink c.tell.new.output) c.args.disk c.status.result c.new.result.items c.in_default.ensures
    c.status.ensures c.new.ensures.items c.tell.ensures

pub returns : goal.returns
returns g c =
    played_out g.D.Disk.state (map string_bytes c.args.words.now) c.in-Some.seed (g.S.Source.source c.args.input.now) (g.S.Source.source c.simulate_source-ending.new.input)
    (g.K.Sink.sink c.args.output.now) (g.K.Sink.sink c.simulate_source-ending.new.output) c.args.disk c.simulate_source-ending.result.disk c.status-2.result c.simulate_source-ending.result.history.items
    c.simulate_source-ending.result.ending c.in-Some.ensures c.status-2.ensures c.simulate_source-ending.ensures.ends
    c.simulate_source-ending.ensures.most
