use Rattle.std.proofs.Common.{◌+◌, ◌<◌, ap, subst, sym, ◌∙◌, length, slice_range, arith}
use Rattle.stripe_store.specs.Rows.{bytes_of, Reaches}
use Rattle.stripe_store.proofs.Entries.{rows_found, rows_not_found}
use Rattle.stripe_store.proofs.store.Store.read.Goals as goal

pub read-requires : goal.read-requires
read-requires c =
    subst (λ rows. Reaches rows c.args.row c.args.at (length c.args.into.now)) (rows_found c.args.self.now c.self.inside.regions c.args.region c.in-Some.there.now c.self.view_is c.in-Some.ensures.value) c.requires

pub returns-in-Some : goal.returns-in-Some
returns-in-Some c =
    c.read.ensures
    ∙ ap (λ rows. slice_range (bytes_of rows c.args.row) c.args.at (c.args.at + length c.args.into.now)) (sym (rows_found c.args.self.now c.self.inside.regions c.args.region c.in-Some.there.now c.self.view_is c.in-Some.ensures.value))

pub returns-in_default : goal.returns-in_default
returns-in_default c =
    let none = subst (λ rows. c.args.row < length rows) (rows_not_found c.args.self.now c.self.inside.regions c.args.region c.self.view_is c.in_default.ensures.value) c.requires.0 in
    absurd (omega (arith, none))
