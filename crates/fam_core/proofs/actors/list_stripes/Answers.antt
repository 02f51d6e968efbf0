use Rattle.std.proofs.Common.{map, ap, refl, ◌∙◌}
use Rattle.fam_schedule.specs.Schedule as schedule
use Rattle.ready_lists.specs.Lists.{names_at}
use Rattle.fam_core.specs.declared.actors.Actor.TheVariants as listed
use Rattle.fam_core.specs.Playing.{actor_of}
use Rattle.fam_core.proofs.Listing.{listed_more, listed_same, some_there, none_there}
use Rattle.fam_core.proofs.actors.list_stripes.Goals as goal
use Rattle.fam_core.proofs.actors.list_stripes.Goals.{then-count-gt0+in_ok-push, else-count-gt0}

pub loop-stripe-preserved : goal.loop-stripe-preserved
loop-stripe-preserved c = elim c.if-count-gt0.branch [
  | then-count-gt0+in_ok-push w ↦
      ap (λ v. map actor_of v.items) w.actors-is
      ∙ ap (map actor_of) w.in_ok-push.ensures.items
      ∙ listed_more schedule.Stripe (λ stripe. schedule.is_some_of (names_at c.args.ready.now stripe)) c.loop-stripe.stripe (map actor_of c.args.actors.now.items) c.loop-stripe.actors.items (listed.Stripe c.loop-stripe.stripe) refl
      (some_there (names_at c.args.ready.now c.loop-stripe.stripe) c.count.result c.count.ensures w.if-count-gt0.true) c.loop-stripe.invariant
  | else-count-gt0 w ↦
      ap (λ v. map actor_of v.items) w.actors-is
      ∙ listed_same schedule.Stripe (λ stripe. schedule.is_some_of (names_at c.args.ready.now stripe)) c.loop-stripe.stripe (map actor_of c.args.actors.now.items) c.loop-stripe.actors.items
      (none_there (names_at c.args.ready.now c.loop-stripe.stripe) c.count.result c.count.ensures w.if-count-gt0.false) c.loop-stripe.invariant
]
