use Rattle.std.proofs.Common.{◌≡◌, ◌+◌, ◌-◌, length, ◌≤◌, take, drop, get_or, rules, arith, sym, ap, ◌∙◌}
use Rattle.std.proofs.lemmas.Bool.Decides.{nat_tests}
use Rattle.fam_model.specs.declared.rows.Rows.{Rows}
use Rattle.meta_journal.specs.Opening.{read_from}
use Rattle.meta_journal.specs.Reading.{change_at}
use Rattle.meta_journal.proofs.ReadBack.{taken_at, found}
use Rattle.meta_journal.proofs.reading.read_one.Goals as goal

pub apply-requires : goal.apply-requires
apply-requires c =
    let old = c.args.records.now in
    let is : change_at c.args.is_first old.rows (take (length c.args.bytes.now - 1) (drop 1 c.args.bytes.now)) ≡ found c.in-Some.change c.in-Some.after.now = search rules in
    let some : 1 ≤ length c.args.bytes.now = grind (arith, nat_tests) in
    let one : get_or c.args.bytes.now 0 0 ≡ 1 = search rules in
    (taken_at c.args.is_first old.rows old.place c.args.bytes.now c.in-Some.change c.in-Some.after.now (λ i. omega (arith, c.type_inv.bytes i)) some one is).lawful

pub overflow_sub-records : goal.overflow_sub-records
overflow_sub-records c =
    let old = c.args.records.now in
    let is : change_at c.args.is_first old.rows (take (length c.args.bytes.now - 1) (drop 1 c.args.bytes.now)) ≡ found c.in-Some.change c.in-Some.after.now = search rules in
    let some : 1 ≤ length c.args.bytes.now = grind (arith, nat_tests) in
    let one : get_or c.args.bytes.now 0 0 ≡ 1 = search rules in
    let t = taken_at c.args.is_first old.rows old.place c.args.bytes.now c.in-Some.change c.in-Some.after.now (λ i. omega (arith, c.type_inv.bytes i)) some one is in
    omega (arith, t.shorter)

pub returns-in_ok-apply-in-Some-clause-more : goal.returns-in_ok-apply-in-Some-clause-more
returns-in_ok-apply-in-Some-clause-more c =
    let old = c.args.records.now in
    let is : change_at c.args.is_first old.rows (take (length c.args.bytes.now - 1) (drop 1 c.args.bytes.now)) ≡ found c.in-Some.change c.in-Some.after.now = search rules in
    let some : 1 ≤ length c.args.bytes.now = grind (arith, nat_tests) in
    let one : get_or c.args.bytes.now 0 0 ≡ 1 = search rules in
    let t = taken_at c.args.is_first old.rows old.place c.args.bytes.now c.in-Some.change c.in-Some.after.now (λ i. omega (arith, c.type_inv.bytes i)) some one is in
    t.reads
    ∙ ap (λ (rows : Rows). read_from c.args.is_first rows (old.place + (length c.args.bytes.now - length c.in-Some.after.now)) c.in-Some.after.now) (sym c.in_ok-apply-in-Some.ensures.ok)

pub returns-in_ok-apply-in-Some-clause-shorter : goal.returns-in_ok-apply-in-Some-clause-shorter
returns-in_ok-apply-in-Some-clause-shorter c =
    let old = c.args.records.now in
    let is : change_at c.args.is_first old.rows (take (length c.args.bytes.now - 1) (drop 1 c.args.bytes.now)) ≡ found c.in-Some.change c.in-Some.after.now = search rules in
    let some : 1 ≤ length c.args.bytes.now = grind (arith, nat_tests) in
    let one : get_or c.args.bytes.now 0 0 ≡ 1 = search rules in
    (taken_at c.args.is_first old.rows old.place c.args.bytes.now c.in-Some.change c.in-Some.after.now (λ i. omega (arith, c.type_inv.bytes i)) some one is).shorter

pub returns-in_ok-apply-in-Some-clause-room : goal.returns-in_ok-apply-in-Some-clause-room
returns-in_ok-apply-in-Some-clause-room c =
    let old = c.args.records.now in
    let is : change_at c.args.is_first old.rows (take (length c.args.bytes.now - 1) (drop 1 c.args.bytes.now)) ≡ found c.in-Some.change c.in-Some.after.now = search rules in
    let some : 1 ≤ length c.args.bytes.now = grind (arith, nat_tests) in
    let one : get_or c.args.bytes.now 0 0 ≡ 1 = search rules in
    let t = taken_at c.args.is_first old.rows old.place c.args.bytes.now c.in-Some.change c.in-Some.after.now (λ i. omega (arith, c.type_inv.bytes i)) some one is in
    omega (arith, t.shorter)
