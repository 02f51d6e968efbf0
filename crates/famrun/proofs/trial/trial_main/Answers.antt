use Rattle.std.proofs.Common.{map, string_bytes}
use Rattle.std.specs.Prelude.{codes}
use Rattle.famrun.specs.Making.{TrialEnds}
use Rattle.famrun.proofs.Made.{made_out, trial_one}
use Rattle.famrun.proofs.trial.trial_main.Goals as goal

pub try_out-requires : goal.try_out-requires
try_out-requires g c = (c.in-Some.ensures.programs, c.in-Some.ensures.calls)

pub returns : goal.returns
returns g c =
    made_out (codes "trial") TrialEnds (map string_bytes c.args.words.now) c.in-Some.wanted (g.K.Sink.sink c.args.output.now) (g.K.Sink.sink c.try_out.new.output) c.status-2.result
    c.try_out.result c.in-Some.ensures c.status-2.ensures c.try_out.ensures
    (trial_one c.in-Some.wanted (g.K.Sink.sink c.args.output.now) (g.K.Sink.sink c.try_out.new.output) c.try_out.result c.try_out.ensures)
