use Rattle.std.proofs.Common.{◌≡◌, ◌<◌, ◌+◌, ◌-◌, ◌%◌, subst, ℕ}
use Rattle.fam_layout.proofs.Borders.{inside}
use Rattle.fam_layout.proofs.border.next_border.Goals as goal

pub returns-clause-least : goal.returns-clause-least
returns-clause-least c k past before =
    let same : c.from-unit.result ≡ c.args.unit = c.from-unit.ensures in
    inside c.args.unit c.args.base c.args.place k c.requires.some past
    (subst (λ (unit : ℕ). k < c.args.place + (unit - (c.args.base + c.args.place) % unit)) same before)
