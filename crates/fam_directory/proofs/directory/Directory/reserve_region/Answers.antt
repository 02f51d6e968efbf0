use Rattle.std.proofs.Common.{Some, sym, ap, subst, ◌∙◌, arith}
use Rattle.std.specs.Option.{option_map}
use Rattle.fam_base.specs.declared.naming.RegionId.{RegionId}
use Rattle.fam_directory.specs.Index.{IsIndexed, NewName, rows_of}
use Rattle.fam_directory.proofs.Adding.{holds_region, renamed_index}
use Rattle.fam_directory.proofs.directory.Directory.reserve_region.Goals as goal

pub invariant_of-self : goal.invariant_of-self
invariant_of-self c = record { indexed = (subst (λ l. IsIndexed (rows_of l c.self.inside.items.rows c.self.inside.next_region c.self.inside.items.next) l c.self.inside.names c.self.inside.total) (sym c.reserve.ensures.items) c.self.invariant.indexed); awaited = tt }

pub returns-in_err-reserve-clause-rows : goal.returns-in_err-reserve-clause-rows
returns-in_err-reserve-clause-rows c = ap (λ l. rows_of l c.self.inside.items.rows c.self.inside.next_region c.self.inside.items.next) c.reserve.ensures.items ∙ ap (λ l. l.rows) c.self.view_is

pub invariant_of-self-in_err-reserve-2 : goal.invariant_of-self-in_err-reserve-2
invariant_of-self-in_err-reserve-2 c = record { indexed = (renamed_index _ _ c.self.inside.names c.reserve-2.new.self c.self.inside.total c.reserve-2.ensures.names (subst (λ l. IsIndexed (rows_of l c.self.inside.items.rows c.self.inside.next_region c.self.inside.items.next) l c.self.inside.names c.self.inside.total) (sym c.reserve.ensures.items) c.self.invariant.indexed)); awaited = tt }

pub returns-in_err-reserve-2-clause-rows : goal.returns-in_err-reserve-2-clause-rows
returns-in_err-reserve-2-clause-rows c = ap (λ l. rows_of l c.self.inside.items.rows c.self.inside.next_region c.self.inside.items.next) c.reserve.ensures.items ∙ ap (λ l. l.rows) c.self.view_is

pub invariant_of-self-2 : goal.invariant_of-self-2
invariant_of-self-2 c = record {
  indexed = (renamed_index _ _ c.self.inside.names c.reserve-2.new.self c.self.inside.total c.reserve-2.ensures.names (subst (λ l. IsIndexed (rows_of l c.self.inside.items.rows c.self.inside.next_region c.self.inside.items.next) l c.self.inside.names c.self.inside.total) (sym c.reserve.ensures.items) c.self.invariant.indexed));
  awaited = (c.in_ok-coming.ensures.key ∙ sym c.in_ok-coming.ensures.name, holds_region c.reserve.new.self c.self.inside.items c.reserve-2.new.self c.in_ok-coming.coming.region c.in_ok-coming.ensures.region (let room = c.in_ok-reserve.ensures.ok in omega (arith, room)) c.in_ok-reserve-2.ensures.ready);
}

pub returns-clause-rows : goal.returns-clause-rows
returns-clause-rows c = ap (λ l. rows_of l c.self.inside.items.rows c.self.inside.next_region c.self.inside.items.next) c.reserve.ensures.items ∙ ap (λ l. l.rows) c.self.view_is

pub returns-clause-ready : goal.returns-clause-ready
returns-clause-ready c = ap Some (λ i. let w : NewName = record { region = option_map (λ (r : RegionId). r.0) (c.in_ok-coming.ensures.region i); name = c.in_ok-coming.ensures.name i } in w)
