use Rattle.std.proofs.Common.{◌+◌, sym, ◌∙◌, inl, inr, arith}
use Rattle.std.proofs.lemmas.Bool.{cases_lt, leb-true}
use Rattle.fam_model.specs.Rows.{room, items_in}
use Rattle.fam_rows.proofs.Searches.{aligned_items}
use Rattle.fam_rows.proofs.Gaps.{past_above, past_aligned, passed_over, stops_at, stops_nowhere}
use Rattle.fam_rows.proofs.room.least_base.Goals as goal

-- the base did not move, so that it meets no item
pub returns-then-next-base : goal.returns-then-next-base
returns-then-next-base c =
    stops_at c.args.rows.now c.args.row.now c.args.n c.loop-next.base c.loop-next.invariant.aligned c.loop-next.invariant.none_below
    (sym c.ends_by.ensures ∙ c.loop-next-test.true) (sym c.past_items-next.ensures ∙ c.if-next-base.true)

-- the base moves up, and was inside the region
pub loop-next-smaller : goal.loop-next-smaller
loop-next-smaller c =
    let within = leb-true (c.loop-next.base + room c.args.n) c.args.row.now.size (sym c.ends_by.ensures ∙ c.loop-next-test.true) in
    let above = past_above c.args.n c.loop-next.base (items_in c.args.rows.now c.args.row.now.number.0) in
    omega (arith, within, above, c.past_items-next.ensures, c.if-next-base.false)

-- what was passed over does not fit
pub loop-next-preserved : goal.loop-next-preserved
loop-next-preserved c = record {
  aligned = rw c.past_items-next.ensures (past_aligned c.args.n c.loop-next.base (items_in c.args.rows.now c.args.row.now.number.0) (aligned_items c.args.rows.now c.requires.lawful c.args.row.now.number.0) c.loop-next.invariant.aligned);
  none_below = λ b below. elim (cases_lt b c.loop-next.base) [
    | inl low ↦ c.loop-next.invariant.none_below b low
    | inr high ↦ passed_over c.args.rows.now c.args.row.now c.args.n c.loop-next.base b high (rw c.past_items-next.ensures at below)
  ];
}

-- from here on, nothing fits
pub returns : goal.returns
returns c = stops_nowhere c.args.rows.now c.args.row.now c.args.n c.loop-next.base c.loop-next.invariant.none_below (sym c.ends_by.ensures ∙ c.loop-next-test.false)
