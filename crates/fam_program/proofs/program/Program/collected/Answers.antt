use Rattle.std.proofs.Common.{◌≡◌, ◌≤◌, true, false, sym, ◌∙◌, ap, refl, arith}
use Rattle.fam_context.specs.declared.tracked.Tracked.{Tracked}
use Rattle.fam_context.specs.Effects as effects
use Rattle.fam_program.specs.declared.tracked.TrackedProgram.{TrackedProgram}
use Rattle.fam_program.specs.Parts.{may_collect}
use Rattle.fam_program.specs.View.{tracked_program}
use Rattle.fam_program.proofs.Parts.{collect_there, place_there, asked_of, collected_is, collected_within, flags_are}
use Rattle.fam_program.proofs.Within.{program_set, context_within}
use Rattle.fam_program.proofs.program.Program.collected.Goals as goal

pub place_of-at-requires : goal.place_of-at-requires
place_of-at-requires c =
    let p = (tracked_program c.self.inside).state in
    let may : may_collect p c.args.call c.args.piece c.args.answer ≡ true = rw (← c.self.view_is) at c.requires in
    place_there c.self.inside.contexts c.args.call (λ t. effects.may_collect t.context c.args.call c.args.piece c.args.answer)
    (sym (collect_there p c.self.inside.contexts c.args.call c.args.piece c.args.answer refl) ∙ may)

pub collected-requires : goal.collected-requires
collected-requires c =
    let p = (tracked_program c.self.inside).state in
    let may : may_collect p c.args.call c.args.piece c.args.answer ≡ true = rw (← c.self.view_is) at c.requires in
    asked_of c.self.inside.contexts c.args.call c.place_of-at.result c.at_mut-there.result.now (λ t. effects.may_collect t.context c.args.call c.args.piece c.args.answer)
    (sym (collect_there p c.self.inside.contexts c.args.call c.args.piece c.args.answer refl) ∙ may) c.place_of-at.ensures.value c.at_mut-there.ensures.value

pub invariant_of-self : goal.invariant_of-self
invariant_of-self c =
    let p = (tracked_program c.self.inside).state in
    let ts = c.self.inside.contexts in
    let there = context_within p ts c.place_of-at.result c.at_mut-there.result.now c.self.invariant refl c.at_mut-there.ensures.value in
    let same_call : p.next_call ≤ p.next_call = omega arith in
    program_set p p.next_call p.started ts c.place_of-at.result c.collected.new.self c.self.invariant refl same_call c.self.invariant.numbers (λ call below same. same)
    (collected_within p.next_call p.started c.at_mut-there.result.now c.collected.new.self c.args.call c.args.piece c.args.answer there c.collected.ensures)

pub returns-clause-state : goal.returns-clause-state
returns-clause-state c =
    collected_is c.args.self.now.state (tracked_program c.self.inside).state c.self.inside.contexts c.args.call c.args.piece c.place_of-at.result
    c.at_mut-there.result.now c.collected.new.self c.args.answer (ap (λ (h : TrackedProgram). h.state) c.self.view_is) refl
    c.place_of-at.ensures.value c.at_mut-there.ensures.value c.requires c.collected.ensures

pub returns-clause-out : goal.returns-clause-out
returns-clause-out c =
    rw (← c.self.view_is) (flags_are (tracked_program c.self.inside) c.self.inside.contexts c.args.call c.args.piece c.place_of-at.result
    c.at_mut-there.result.now c.collected.new.self false refl refl c.place_of-at.ensures.value c.at_mut-there.ensures.value
    (ap (λ (t : Tracked). t.out) c.collected.ensures))
