use Rattle.meta_codec.specs.Body.{u16, u32, name_bytes}
use Rattle.meta_codec.proofs.Regrouped.{four_is}
use Rattle.meta_codec.proofs.encoding.put_owner.Goals as goal

pub returns : goal.returns
returns c =
    four_is c.args.out.now.items _ _ _ _ (u32 c.args.uid) (u32 c.args.gid) (u16 c.args.mode) (name_bytes c.args.name.now)
    c.in_ok-put_u32.ensures c.in_ok-put_u32-2.ensures c.in_ok-put_bits.ensures c.in_ok-put_name.ensures
