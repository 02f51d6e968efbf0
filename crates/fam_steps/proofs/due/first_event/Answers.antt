use Rattle.std.proofs.Common.{sym, ap, ◌∙◌, Some}
use Rattle.fam_turns.specs.Turns.{event_with}
use Rattle.fam_steps.proofs.Enabled.{found_call, if_ok, started_call}
use Rattle.fam_steps.proofs.due.first_event.Goals as goal

pub returns-then-has_started : goal.returns-then-has_started
returns-then-has_started c = started_call c.args.machine.now c.args.pe c.args.call.now (sym c.has_started.ensures ∙ c.if-has_started.true) c.requires

pub returns : goal.returns
returns c =
    if_ok c.next_event.result
    (λ event e. found_call c.args.machine.now c.args.pe c.args.call.now event (sym c.has_started.ensures ∙ c.if-has_started.false)
    (e ∙ ap (λ a. event_with c.args.machine.now c.args.pe.0 (Some a)) c.in_ok-copy_of.ensures))
    c.next_event.ensures
