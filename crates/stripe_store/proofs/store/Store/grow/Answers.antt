use Rattle.std.proofs.Common.{◌≡◌, ◌≢◌, ◌≤◌, ◌-◌, ℕ, length, subst, arith, ◌∙◌, ap, sym, replicate}
use Rattle.std.proofs.Math.Nat.{sub-zero}
use Rattle.std.proofs.lemmas.Result.{on_ok_weaker, on_err_weaker}
use Rattle.std.specs.Prelude.{None}
use Rattle.fam_base.specs.declared.naming.RegionId.{RegionId}
use Rattle.stripe_store.specs.Rows.{grown, zeros}
use Rattle.stripe_store.specs.Kept.{Kept, kept_of, rows_of}
use Rattle.stripe_store.proofs.Entries.{Regions, found, rows_found, rows_not_found, nothing_written, rows_written, rows_kept, rows_inserted}
use Rattle.stripe_store.proofs.store.Store.grow.Goals as goal

pub returns-in-Some-clause-ok : goal.returns-in-Some-clause-ok
returns-in-Some-clause-ok c =
    let rows = c.grow.new.self in
    on_ok_weaker c.grow.result (rows_written c.args.self.now c.self.inside.regions (c.get_mut.follows.lender rows) c.args.region c.in-Some.there.now rows (λ rows. grown rows c.args.rows c.args.unit) c.self.view_is c.in-Some.ensures.value (c.get_mut.follows.holds rows)) c.grow.ensures.ok

pub returns-in-Some-clause-err : goal.returns-in-Some-clause-err
returns-in-Some-clause-err c =
    let rows = c.grow.new.self in
    on_err_weaker c.grow.result (rows_kept c.args.self.now c.self.inside.regions (c.get_mut.follows.lender rows) c.args.region c.in-Some.there.now rows c.self.view_is c.in-Some.ensures.value (c.get_mut.follows.holds rows)) c.grow.ensures.err

pub returns-in-Ok-clause-ok : goal.returns-in-Ok-clause-ok
returns-in-Ok-clause-ok c =
    rows_inserted c.args.self.now c.self.inside.regions c.get_mut.follows.lender-at-none c.insert.new.self c.args.region c.in_ok-fresh.fresh (λ rows. grown rows c.args.rows c.args.unit) c.self.view_is c.in_default.ensures.value c.get_mut.follows.holds-at-none c.in-Ok.ensures.updates.0 (c.in_ok-fresh.ensures ∙ ap (λ n. replicate n (zeros c.args.unit)) (sym (sub-zero c.args.rows)))

pub returns-in-Some-clause-enough : goal.returns-in-Some-clause-enough
returns-in-Some-clause-enough c enough =
    c.grow.ensures.enough (subst (λ rows. c.args.rows ≤ length rows) (rows_found c.args.self.now c.self.inside.regions c.args.region c.in-Some.there.now c.self.view_is c.in-Some.ensures.value) enough)

pub returns-then-rows-eq0-clause-ok : goal.returns-then-rows-eq0-clause-ok
returns-then-rows-eq0-clause-ok c =
    nothing_written c.args.self.now c.self.inside.regions c.get_mut.follows.lender-at-none c.args.region (λ rows. grown rows c.args.rows c.args.unit) c.self.view_is c.in_default.ensures.value c.get_mut.follows.holds-at-none (ap (λ n. replicate (n - 0) (zeros c.args.unit)) c.if-rows-eq0.true)

-- where the map finds no rows there are too few of them
too_few : (kept : Kept) (regions : Regions) (region : RegionId) (n : ℕ) → kept_of regions.entries ≡ kept → None ≡ found regions.entries region → n ≢ 0 → n ≤ length (rows_of kept region.0) → ⊥
too_few kept regions region n seen is some enough =
    let none = subst (λ rows. n ≤ length rows) (rows_not_found kept regions region seen is) enough in
    omega (arith, none)

pub returns-in_err-fresh-clause-enough : goal.returns-in_err-fresh-clause-enough
returns-in_err-fresh-clause-enough c enough =
    absurd (too_few c.args.self.now c.self.inside.regions c.args.region c.args.rows c.self.view_is c.in_default.ensures.value c.if-rows-eq0.false enough)

pub returns-clause-enough : goal.returns-clause-enough
returns-clause-enough c enough =
    absurd (too_few c.args.self.now c.self.inside.regions c.args.region c.args.rows c.self.view_is c.in_default.ensures.value c.if-rows-eq0.false enough)
