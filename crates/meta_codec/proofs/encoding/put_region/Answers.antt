use Rattle.meta_codec.specs.Body.{u16, u32, u64, name_bytes}
use Rattle.meta_codec.proofs.Regrouped.{five_is}
use Rattle.meta_codec.proofs.encoding.put_region.Goals as goal

pub returns : goal.returns
returns c =
    five_is c.args.out.now.items _ _ _ _ _ (u32 c.args.uid) (u32 c.args.gid) (u16 c.args.mode) (u64 c.args.size) (name_bytes c.args.name.now)
    c.in_ok-put_u32.ensures c.in_ok-put_u32-2.ensures c.in_ok-put_bits.ensures c.in_ok-put_u64.ensures c.in_ok-put_name.ensures
