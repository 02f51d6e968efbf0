use Rattle.std.proofs.Common.{rules, ◌≡◌, Some, true, sym, ap, subst, ◌∙◌}
use Rattle.std.specs.Prelude.{slice_get}
use Rattle.std.proofs.lemmas.Option.{same_Some}
use Rattle.fam_base.specs.declared.naming.Who.{Who}
use Rattle.fam_model.specs.MetaStep.{may_reply, told_change}
use Rattle.fam_model.specs.Programs.{request_of, filled, counted}
use Rattle.fam_program.specs.declared.tracked.TrackedProgram.{TrackedProgram}
use Rattle.fam_machine.specs.Views.{rows_with, memory_with}
use Rattle.fam_machine.proofs.Taking.{meta_taken, number_here}
use Rattle.fam_machine.proofs.meta.meta.Goals as goal

pub fill-requires : goal.fill-requires
fill-requires c =
    number_here c.args.parts.now c.args.pe c.args.call c.args.asked.now c.args.given.now c.at_mut.result.now c.at_mut.ensures.value c.requires.turn

pub returns : goal.returns
returns c =
    let p = c.at-program.result.now in
    let rows = c.args.parts.now.rows in
    let asked = c.in-Some.request in
    let given = c.args.given.now in
    let there : slice_get c.args.parts.now.programs c.args.pe ≡ Some p = search rules in
    let same : c.at_mut.result.now ≡ p = same_Some c.at_mut.result.now p (sym c.at_mut.ensures.value ∙ there) in
    let request : request_of p.state c.args.asked.now ≡ Some asked = search rules in
    let who = c.who-who.ensures.value in
    let answers = c.in_ok-answer.ensures in
    let program : c.fill.new.self.state ≡ filled (counted p.state) c.args.asked.now given =
    c.fill.ensures.state ∙ ap (λ (q : TrackedProgram). filled (counted q.state) c.args.asked.now given) same
    in
    meta_taken c.args.parts.now c.args.pe c.args.call c.args.asked.now given p c.fill.new.self asked c.answer.new.rows c.answer.new.memory there request
    (subst (λ (w : Who). may_reply rows w asked given ≡ true) who answers.0)
    (subst (λ (w : Who). c.answer.new.rows ≡ rows_with rows (told_change rows w asked given)) who answers.1)
    (subst (λ (w : Who). c.answer.new.memory ≡ memory_with rows (told_change rows w asked given) c.args.parts.now.memory) who answers.2)
    program
