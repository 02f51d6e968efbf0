use Rattle.std.proofs.Common.{ap, ◌∙◌, sym, ◌++◌}
use Rattle.meta_codec.specs.Body.{body, u16, u32, u64, name_bytes}
use Rattle.fam_model.specs.declared.change.Change.{Change}
use Rattle.meta_codec.proofs.Regrouped.{region_is, item_is}
use Rattle.meta_codec.proofs.encoding.put.Goals as goal

pub returns-in_ok-put_region-in-CreateRegion : goal.returns-in_ok-put_region-in-CreateRegion
returns-in_ok-put_region-in-CreateRegion c =
    let made = c.in-CreateRegion in
    region_is c.args.out.now.items _ _ 1 (u64 made.region.0) (u32 made.uid) (u32 made.gid) (u16 made.mode) (u64 made.size) (name_bytes c.as_slice.result.now) (name_bytes made.name)
    c.in_ok-put_number-in-CreateRegion.ensures c.in_ok-put_region-in-CreateRegion.ensures (ap name_bytes c.as_slice.ensures)
    ∙ ap (λ (change : Change). c.args.out.now.items ++ body change) (sym made.is)

pub returns-in_ok-put_owner-in-Allocate : goal.returns-in_ok-put_owner-in-Allocate
returns-in_ok-put_owner-in-Allocate c =
    let made = c.in-Allocate in
    item_is c.args.out.now.items _ _ _ 4 (u64 made.item.0) (u64 made.region.0) (u64 made.base) (u64 made.size) (u32 made.uid) (u32 made.gid) (u16 made.mode)
    (name_bytes c.as_slice-in-Allocate.result.now) (name_bytes made.name)
    c.in_ok-put_number-in-Allocate.ensures c.in_ok-put_room-in-Allocate.ensures c.in_ok-put_owner-in-Allocate.ensures (ap name_bytes c.as_slice-in-Allocate.ensures)
    ∙ ap (λ (change : Change). c.args.out.now.items ++ body change) (sym made.is)
