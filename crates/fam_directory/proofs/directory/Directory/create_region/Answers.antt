use Rattle.std.proofs.Common.{◌≡◌, true, None, sym, ap, subst, ◌∙◌, arith}
use Rattle.std.specs.Option.{option_map}
use Rattle.fam_model.specs.declared.change.Change.TheVariants as change
use Rattle.fam_model.specs.Directory.{after}
use Rattle.fam_model.specs.Lawful.{is_lawful_change}
use Rattle.fam_model.specs.Rows.{region_number}
use Rattle.fam_directory.specs.Index.{IsReserved, rows_of, waits_for}
use Rattle.fam_directory.specs.Names.{named}
use Rattle.fam_model.specs.declared.rows.RegionRow.{RegionRow}
use Rattle.fam_directory.proofs.Adding.{create_step, edited, is_held, new_region, not_region, room_for_region}
use Rattle.fam_directory.proofs.directory.Directory.create_region.Goals as goal

pub returns-in_default : goal.returns-in_default
returns-in_default c = absurd (not_region c.args.change.now (λ n uid gid mode size name. c.in_default.not-CreateRegion n uid gid mode size name) c.requires.adds)

pub take_coming-coming-requires : goal.take_coming-coming-requires
take_coming-coming-requires c = is_held c.self.inside.coming (waits_for None c.in-CreateRegion.name) (ap (λ l. l.coming) c.self.view_is ∙ subst (IsReserved c.args.self.now) c.in-CreateRegion.is c.requires.reserved)

pub add-requires-clause-ready : goal.add-requires-clause-ready
add-requires-clause-ready c = (room_for_region c.self.inside.regions c.self.inside.items c.self.inside.names c.self.inside.coming c.take_coming-coming.result c.in-CreateRegion.name c.self.invariant.awaited c.take_coming-coming.ensures (ap (λ l. l.coming) c.self.view_is ∙ subst (IsReserved c.args.self.now) c.in-CreateRegion.is c.requires.reserved)).3

pub add-requires-clause-absent : goal.add-requires-clause-absent
add-requires-clause-absent c = ap (λ name. named name c.self.inside.names) (room_for_region c.self.inside.regions c.self.inside.items c.self.inside.names c.self.inside.coming c.take_coming-coming.result c.in-CreateRegion.name c.self.invariant.awaited c.take_coming-coming.ensures (ap (λ l. l.coming) c.self.view_is ∙ subst (IsReserved c.args.self.now) c.in-CreateRegion.is c.requires.reserved)).0 ∙ c.self.invariant.indexed.by_name c.in-CreateRegion.name ∙ ap (option_map region_number) (new_region (rows_of c.self.inside.regions.items c.self.inside.items.rows c.self.inside.next_region c.self.inside.items.next) c.in-CreateRegion.region c.in-CreateRegion.uid c.in-CreateRegion.gid c.in-CreateRegion.mode c.in-CreateRegion.size c.in-CreateRegion.name (subst (λ l. is_lawful_change l.rows (change.CreateRegion c.in-CreateRegion.region c.in-CreateRegion.uid c.in-CreateRegion.gid c.in-CreateRegion.mode c.in-CreateRegion.size c.in-CreateRegion.name) ≡ true) (sym c.self.view_is) (subst (λ x. is_lawful_change c.args.self.now.rows x ≡ true) c.in-CreateRegion.is c.requires.lawful))).3

pub new-requires : goal.new-requires
new-requires c = (new_region (rows_of c.self.inside.regions.items c.self.inside.items.rows c.self.inside.next_region c.self.inside.items.next) c.in-CreateRegion.region c.in-CreateRegion.uid c.in-CreateRegion.gid c.in-CreateRegion.mode c.in-CreateRegion.size c.in-CreateRegion.name (subst (λ l. is_lawful_change l.rows (change.CreateRegion c.in-CreateRegion.region c.in-CreateRegion.uid c.in-CreateRegion.gid c.in-CreateRegion.mode c.in-CreateRegion.size c.in-CreateRegion.name) ≡ true) (sym c.self.view_is) (subst (λ x. is_lawful_change c.args.self.now.rows x ≡ true) c.in-CreateRegion.is c.requires.lawful))).0

pub overflow_add-self : goal.overflow_add-self
overflow_add-self c = let below = (new_region (rows_of c.self.inside.regions.items c.self.inside.items.rows c.self.inside.next_region c.self.inside.items.next) c.in-CreateRegion.region c.in-CreateRegion.uid c.in-CreateRegion.gid c.in-CreateRegion.mode c.in-CreateRegion.size c.in-CreateRegion.name (subst (λ l. is_lawful_change l.rows (change.CreateRegion c.in-CreateRegion.region c.in-CreateRegion.uid c.in-CreateRegion.gid c.in-CreateRegion.mode c.in-CreateRegion.size c.in-CreateRegion.name) ≡ true) (sym c.self.view_is) (subst (λ x. is_lawful_change c.args.self.now.rows x ≡ true) c.in-CreateRegion.is c.requires.lawful))).1 in omega (arith, below)

pub overflow_add-self-2 : goal.overflow_add-self-2
overflow_add-self-2 c = let below = (new_region (rows_of c.self.inside.regions.items c.self.inside.items.rows c.self.inside.next_region c.self.inside.items.next) c.in-CreateRegion.region c.in-CreateRegion.uid c.in-CreateRegion.gid c.in-CreateRegion.mode c.in-CreateRegion.size c.in-CreateRegion.name (subst (λ l. is_lawful_change l.rows (change.CreateRegion c.in-CreateRegion.region c.in-CreateRegion.uid c.in-CreateRegion.gid c.in-CreateRegion.mode c.in-CreateRegion.size c.in-CreateRegion.name) ≡ true) (sym c.self.view_is) (subst (λ x. is_lawful_change c.args.self.now.rows x ≡ true) c.in-CreateRegion.is c.requires.lawful))).2 in omega (arith, below, c.self.invariant.indexed.sum)

pub invariant_of-self : goal.invariant_of-self
invariant_of-self c = record { indexed = (create_step c.self.inside.regions.items c.push.new.self.items c.self.inside.items.rows c.self.inside.next_region c.self.inside.items.next c.self.inside.total c.self.inside.names c.add.new.self c.in-CreateRegion.region c.in-CreateRegion.uid c.in-CreateRegion.gid c.in-CreateRegion.mode c.in-CreateRegion.size c.in-CreateRegion.name c.take_coming-coming.result.key c.new.result c.self.invariant.indexed (subst (λ l. is_lawful_change l.rows (change.CreateRegion c.in-CreateRegion.region c.in-CreateRegion.uid c.in-CreateRegion.gid c.in-CreateRegion.mode c.in-CreateRegion.size c.in-CreateRegion.name) ≡ true) (sym c.self.view_is) (subst (λ x. is_lawful_change c.args.self.now.rows x ≡ true) c.in-CreateRegion.is c.requires.lawful)) (c.new.ensures.row ∙ ap (λ name. let r : RegionRow = record { number = c.in-CreateRegion.region; uid = c.in-CreateRegion.uid; gid = c.in-CreateRegion.gid; mode = c.in-CreateRegion.mode; size = c.in-CreateRegion.size; name = name } in r) (room_for_region c.self.inside.regions c.self.inside.items c.self.inside.names c.self.inside.coming c.take_coming-coming.result c.in-CreateRegion.name c.self.invariant.awaited c.take_coming-coming.ensures (ap (λ l. l.coming) c.self.view_is ∙ subst (IsReserved c.args.self.now) c.in-CreateRegion.is c.requires.reserved)).1) c.new.ensures.names (c.new.ensures.size ∙ sym (ap (λ (r : RegionRow). r.size) c.new.ensures.row)) c.new.ensures.rooms (room_for_region c.self.inside.regions c.self.inside.items c.self.inside.names c.self.inside.coming c.take_coming-coming.result c.in-CreateRegion.name c.self.invariant.awaited c.take_coming-coming.ensures (ap (λ l. l.coming) c.self.view_is ∙ subst (IsReserved c.args.self.now) c.in-CreateRegion.is c.requires.reserved)).0 c.add.ensures (edited _ c.push.new.self.items _ _ c.push.ensures.items (c.push.ensures.succeeds (room_for_region c.self.inside.regions c.self.inside.items c.self.inside.names c.self.inside.coming c.take_coming-coming.result c.in-CreateRegion.name c.self.invariant.awaited c.take_coming-coming.ensures (ap (λ l. l.coming) c.self.view_is ∙ subst (IsReserved c.args.self.now) c.in-CreateRegion.is c.requires.reserved)).2))).0; awaited = tt }

pub returns : goal.returns
returns c = record { rows = (create_step c.self.inside.regions.items c.push.new.self.items c.self.inside.items.rows c.self.inside.next_region c.self.inside.items.next c.self.inside.total c.self.inside.names c.add.new.self c.in-CreateRegion.region c.in-CreateRegion.uid c.in-CreateRegion.gid c.in-CreateRegion.mode c.in-CreateRegion.size c.in-CreateRegion.name c.take_coming-coming.result.key c.new.result c.self.invariant.indexed (subst (λ l. is_lawful_change l.rows (change.CreateRegion c.in-CreateRegion.region c.in-CreateRegion.uid c.in-CreateRegion.gid c.in-CreateRegion.mode c.in-CreateRegion.size c.in-CreateRegion.name) ≡ true) (sym c.self.view_is) (subst (λ x. is_lawful_change c.args.self.now.rows x ≡ true) c.in-CreateRegion.is c.requires.lawful)) (c.new.ensures.row ∙ ap (λ name. let r : RegionRow = record { number = c.in-CreateRegion.region; uid = c.in-CreateRegion.uid; gid = c.in-CreateRegion.gid; mode = c.in-CreateRegion.mode; size = c.in-CreateRegion.size; name = name } in r) (room_for_region c.self.inside.regions c.self.inside.items c.self.inside.names c.self.inside.coming c.take_coming-coming.result c.in-CreateRegion.name c.self.invariant.awaited c.take_coming-coming.ensures (ap (λ l. l.coming) c.self.view_is ∙ subst (IsReserved c.args.self.now) c.in-CreateRegion.is c.requires.reserved)).1) c.new.ensures.names (c.new.ensures.size ∙ sym (ap (λ (r : RegionRow). r.size) c.new.ensures.row)) c.new.ensures.rooms (room_for_region c.self.inside.regions c.self.inside.items c.self.inside.names c.self.inside.coming c.take_coming-coming.result c.in-CreateRegion.name c.self.invariant.awaited c.take_coming-coming.ensures (ap (λ l. l.coming) c.self.view_is ∙ subst (IsReserved c.args.self.now) c.in-CreateRegion.is c.requires.reserved)).0 c.add.ensures (edited _ c.push.new.self.items _ _ c.push.ensures.items (c.push.ensures.succeeds (room_for_region c.self.inside.regions c.self.inside.items c.self.inside.names c.self.inside.coming c.take_coming-coming.result c.in-CreateRegion.name c.self.invariant.awaited c.take_coming-coming.ensures (ap (λ l. l.coming) c.self.view_is ∙ subst (IsReserved c.args.self.now) c.in-CreateRegion.is c.requires.reserved)).2))).1 ∙ (λ i. after (c.self.view_is i).rows (sym c.in-CreateRegion.is i)) }
