use Rattle.std.proofs.Common.{sym, ap, ◌∙◌}
use Rattle.std.specs.Option.{option_map, option_copied}
use Rattle.fam_core.proofs.Following.{no_program}
use Rattle.fam_core.proofs.playing.keep_ready.Goals as goal

pub returns-in-None : goal.returns-in-None
returns-in-None c = no_program c.args.ready.now c.args.event.now c.args.machine.now (sym c.program.ensures ∙ ap (λ o. option_map (λ p. p.state) (option_copied o)) c.in-None.is)
