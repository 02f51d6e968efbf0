use Rattle.std.proofs.Common.{sym, ap, ◌∙◌, Some}
use Rattle.std.specs.Prelude.{None}
use Rattle.fam_core.specs.declared.actors.Actor.TheVariants as listed
use Rattle.fam_core.proofs.Choosing.{is_listed, chosen_program, chosen_stripe, chosen_none}
use Rattle.fam_core.proofs.chosen.choose.Goals as goal

pub stripe_step-requires : goal.stripe_step-requires
stripe_step-requires c =
    is_listed c.args.player.now c.args.actors.now c.draw-choice.result (listed.Stripe c.in-Some-Stripe.stripe) c.requires
    (sym c.actor_at.ensures ∙ c.in-Some-Stripe.is ∙ ap Some c.in-Some-Stripe.field-0-is)

pub returns-in-Some-Program : goal.returns-in-Some-Program
returns-in-Some-Program c =
    chosen_program c.args.player.now c.args.words.now c.draw-choice.new.words c.args.actors.now c.draw-choice.result c.in-Some-Program.pe c.requires
    (sym c.draw-choice.ensures) (sym c.actor_at.ensures ∙ c.in-Some-Program.is ∙ ap Some c.in-Some-Program.field-0-is)

pub returns-in-Some : goal.returns-in-Some
returns-in-Some c =
    chosen_stripe c.args.player.now c.args.words.now c.draw-choice.new.words c.stripe_step.new.words c.args.actors.now c.draw-choice.result c.in-Some-Stripe.stripe
    (Some c.in-Some.step) c.requires (sym c.draw-choice.ensures) (sym c.actor_at.ensures ∙ c.in-Some-Stripe.is ∙ ap Some c.in-Some-Stripe.field-0-is) c.in-Some.ensures

pub returns-in-None-stripe_step : goal.returns-in-None-stripe_step
returns-in-None-stripe_step c =
    chosen_stripe c.args.player.now c.args.words.now c.draw-choice.new.words c.stripe_step.new.words c.args.actors.now c.draw-choice.result c.in-Some-Stripe.stripe
    None c.requires (sym c.draw-choice.ensures) (sym c.actor_at.ensures ∙ c.in-Some-Stripe.is ∙ ap Some c.in-Some-Stripe.field-0-is) c.in-None-stripe_step.ensures

pub returns-in-None : goal.returns-in-None
returns-in-None c =
    chosen_none c.args.player.now c.args.words.now c.draw-choice.new.words c.args.actors.now c.draw-choice.result c.requires (sym c.draw-choice.ensures)
    (sym c.actor_at.ensures ∙ c.in-None.is)
