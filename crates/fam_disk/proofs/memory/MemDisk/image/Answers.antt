use Rattle.std.proofs.Common.{◌≡◌, take, rules}
use Rattle.fam_disk.specs.Known.{filled}
use Rattle.fam_disk.specs.Memory.{known_at}
use Rattle.fam_disk.proofs.Filled.{image_left}
use Rattle.fam_disk.proofs.memory.MemDisk.image.Goals as goal

pub returns-clause-left : goal.returns-clause-left
returns-clause-left c =
    let disk = c.args.self.now in
    let is : c.in_ok-filled.field-0 ≡ filled (known_at disk c.args.moment) c.args.fill.now = search rules in
    image_left (take c.args.moment disk.calls) disk.first c.args.fill.now c.in_ok-filled.field-0 is
