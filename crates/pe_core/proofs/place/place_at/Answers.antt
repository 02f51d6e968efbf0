use Rattle.std.specs.Prelude.{false}
use Rattle.pe_core.specs.declared.place.Place.{Place}
use Rattle.pe_core.proofs.Places.{ready_there}
use Rattle.pe_core.proofs.place.place_at.Goals as goal

pub returns-clause-ready : goal.returns-clause-ready
returns-clause-ready c =
    let place : Place = record { at = c.args.at; tries = c.tries_at.result; over = false } in
    ready_there c.args.actions.now c.args.order.now place c.requires.there c.requires.calls c.tries_at.ensures
