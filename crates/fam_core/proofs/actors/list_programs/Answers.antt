use Rattle.std.proofs.Common.{map, ap, refl, ◌∙◌}
use Rattle.fam_schedule.specs.Schedule as schedule
use Rattle.fam_core.specs.declared.actors.Actor.TheVariants as listed
use Rattle.fam_core.specs.Playing.{actor_of, may_go}
use Rattle.fam_core.proofs.Listing.{listed_more, listed_same}
use Rattle.fam_core.proofs.Renewing.{may_go_is}
use Rattle.fam_core.proofs.actors.list_programs.Goals as goal
use Rattle.fam_core.proofs.actors.list_programs.Goals.{then-at+in_ok-push, else-at}

pub loop-pe-preserved : goal.loop-pe-preserved
loop-pe-preserved c = elim c.if-at.branch [
  | then-at+in_ok-push w ↦
      ap (λ v. map actor_of v.items) w.actors-is
      ∙ ap (map actor_of) w.in_ok-push.ensures.items
      ∙ listed_more schedule.Program (may_go c.args.player.now) c.loop-pe.pe (map actor_of c.args.actors.now.items) c.loop-pe.actors.items (listed.Program c.loop-pe.pe) refl
      (may_go_is c.args.player.now c.loop-pe.pe c.at.result.now c.requires.flags c.at.ensures ∙ w.if-at.true) c.loop-pe.invariant
  | else-at w ↦
      ap (λ v. map actor_of v.items) w.actors-is
      ∙ listed_same schedule.Program (may_go c.args.player.now) c.loop-pe.pe (map actor_of c.args.actors.now.items) c.loop-pe.actors.items
      (may_go_is c.args.player.now c.loop-pe.pe c.at.result.now c.requires.flags c.at.ensures ∙ w.if-at.false) c.loop-pe.invariant
]
