use Rattle.std.proofs.Common.{◌≡◌, ℕ, ◌+◌, ◌-◌, ◌*◌, ◌/◌, ◌%◌, refl}
use Rattle.std.specs.Int.{div_ceil}
use Rattle.fam_model.specs.declared.service.Service.{Service}
use Rattle.striped_memory.specs.Striped.{first_unit}
use Rattle.striped_memory.specs.Stripes.{row_count}
use Rattle.striped_memory.proofs.rows.row_count.Goals as goal

counted : (layout service : Service) (region size stripe x y u d : ℕ) → service ≡ layout → x ≡ service.servers → y ≡ service.stripes →
    u ≡ service.unit → d ≡ div_ceil size u →
    (d + (x * y - 1 - (stripe + (x * y - region % (x * y))) % (x * y))) / (x * y) ≡ row_count layout region size stripe
unfolding row_count first_unit
counted layout service region size stripe x y u d is servers stripes unit units = rw (units, unit, servers, stripes, is) refl

pub returns : goal.returns
returns c =
    counted c.args.layout.now c.service-service.result c.args.region.0 c.args.size c.args.stripe c.from.result c.from-2.result c.from-3.result c.div_ceil.result
    c.service-service.ensures.is c.from.ensures c.from-2.ensures c.from-3.ensures c.div_ceil.ensures
