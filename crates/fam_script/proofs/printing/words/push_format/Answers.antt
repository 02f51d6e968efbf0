use Rattle.std.proofs.Common.{rules, Some}
use Rattle.std.proofs.KnownBytes.{Appends-of_writes}
use Rattle.fam_script.proofs.Joined.{if_some}
use Rattle.fam_script.proofs.printing.words.push_format.Goals as goal

pub returns-in-Ok : goal.returns-in-Ok
returns-in-Ok g c =
    if_some (g.D.Display.output c.args.words) _ _
    (λ bytes writes.
    let (same, appended) = Appends-of_writes (λ s. s.text.ghost_name) (λ s. Some s.text.now.items) _ bytes _ writes in
    search rules)
    c.in-Ok.ensures.writes
