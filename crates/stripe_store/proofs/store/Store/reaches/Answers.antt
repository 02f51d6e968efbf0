use Rattle.std.proofs.Common.{subst, sym, ◌↔◌, arith}
use Rattle.std.specs.Prelude.{IsTrue}
use Rattle.stripe_store.specs.Rows.{Reaches}
use Rattle.stripe_store.proofs.Entries.{rows_found, rows_not_found}
use Rattle.stripe_store.proofs.store.Store.reaches.Goals as goal

pub returns-in-Some : goal.returns-in-Some
returns-in-Some c =
    subst (λ rows. IsTrue c.reaches.result ↔ Reaches rows c.args.row c.args.at c.args.n) (sym (rows_found c.args.self.now c.self.inside.regions c.args.region c.in-Some.there.now c.self.view_is c.in-Some.ensures.value)) c.reaches.ensures

pub returns-in-None : goal.returns-in-None
returns-in-None c =
    let none = rows_not_found c.args.self.now c.self.inside.regions c.args.region c.self.view_is c.in-None.ensures.value in
    (λ yes. cc, λ reached. let inside = subst (λ rows. Reaches rows c.args.row c.args.at c.args.n) none reached in absurd (omega (arith, inside.0)))
