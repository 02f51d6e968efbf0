use Rattle.std.proofs.Common.{rules, refl, sym, ap, subst}
use Rattle.turn_cell.specs.Turn.{KnowsOwn}
use Rattle.turn_cell.proofs.Parts.{parts, own_part, pass_left}
use Rattle.turn_cell.proofs.cell.Cell.part_as.Goals as goal

pub split_seat-seat-requires : goal.split_seat-seat-requires
split_seat-seat-requires g c = let p = c.requires.from in let n = c.requires.number in let k = c.requires.picked in (
  p.of.table,
  search rules,
  parts _ _ _ _ _ _ _ _ _ _ p.of.live p.of.numbered p.free (rw (sym n) c.requires.part) (rw (sym k) c.requires.owner) (rw (sym n, sym k) c.requires.apart) p.of.numbers,
)

pub returns-clause-from : goal.returns-clause-from
returns-clause-from g c = let e = c.split_seat-seat.ensures in let t = pass_left _ _ _ _ c.requires.from (rw (sym c.requires.number) c.requires.part) _ e.0 e.2 in (t.0, refl, t.1)

pub returns-clause-own : goal.returns-clause-own
returns-clause-own g c = let e = c.split_seat-seat.ensures in let n = c.requires.number in let k = c.requires.picked in λ own.
    subst (KnowsOwn g.O.Object.owner) (sym (ap (λ z. z.0) e.4)) (own_part _ _ _ _ own (rw (sym n) c.requires.part) (rw (sym n, sym k) c.requires.apart))
