use Rattle.std.proofs.Common.{◌+◌, List, ℕ, drop, map, refl, sym, ap, ◌∙◌, arith}
use Rattle.std.proofs.lemmas.List.{drop_all, length-map}
use Rattle.fam_directory.specs.Names.{NameEntry}
use Rattle.fam_directory.specs.Slots.{without_numbers}
use Rattle.fam_directory.proofs.Slotted.{drop_read}
use Rattle.fam_directory.proofs.items.Items.remove_named.Goals as goal

pub loop-at-init : goal.loop-at-init
loop-at-init c = record { left = refl; same = refl }

pub loop-at-preserved : goal.loop-at-preserved
loop-at-preserved c =
    let numbers : List ℕ = map (λ (e : NameEntry). e.number) c.args.names.now.entries in
    record {
      left =
          ap (without_numbers c.args.region.0 (drop (c.loop-at.at + 1) numbers)) c.remove_from.ensures.rows
          ∙ sym (ap (λ l. without_numbers c.args.region.0 l c.loop-at.self.rows) (drop_read numbers c.loop-at.at c.number_at-number.result c.number_at-number.ensures))
          ∙ c.loop-at.invariant.left;
      same = c.remove_from.ensures.next ∙ c.loop-at.invariant.same;
    }

pub returns-clause-rows : goal.returns-clause-rows
returns-clause-rows c =
    let numbers : List ℕ = map (λ (e : NameEntry). e.number) c.args.names.now.entries in
    let count = length-map c.args.names.now.entries (λ (e : NameEntry). e.number) in
    sym (ap (λ l. without_numbers c.args.region.0 l c.loop-at.self.rows) (drop_all c.loop-at.at numbers (omega (arith, count, c.len-at-end.ensures, c.loop-at-test.false))))
    ∙ c.loop-at.invariant.left

pub returns-clause-next : goal.returns-clause-next
returns-clause-next c = c.loop-at.invariant.same
