use Rattle.std.proofs.Common.{sym, ap, ◌∙◌}
use Rattle.std.specs.Option.{option_map, option_copied}
use Rattle.fam_turns.specs.Turns.{next_of}
use Rattle.fam_turns.proofs.Coming.{event_is}
use Rattle.fam_steps.proofs.due.next_event.Goals as goal

pub returns-in-Some-2 : goal.returns-in-Some-2
returns-in-Some-2 c =
    let there = sym c.program.ensures ∙ ap (λ o. option_map (λ p. p.state) (option_copied o)) c.in-Some.is in
    let p = c.in-Some.program.now.state in
    sym (event_is c.args.machine.now c.args.pe.0 p c.args.wanted.now c.in-Some-2.next there
    (ap (λ s. next_of s c.args.machine.now.rows p c.args.wanted.now) (sym c.layout-layout.ensures.value)
    ∙ ap (λ r. next_of c.layout-layout.result.now r p c.args.wanted.now) (sym c.rows.ensures)
    ∙ sym c.in_ok-next.ensures ∙ c.in-Some-2.is)
    (sym (c.may_act.ensures.event c.args.machine.now c.args.pe.0 there (sym c.round.ensures)) ∙ c.if-not-may_act.false))
