use Rattle.std.proofs.Common.{rules, ◌≡◌, Some, None, sym, ap, subst, ◌∙◌, inl, inr}
use Rattle.std.specs.Prelude.{◌⊎◌, slice_get}
use Rattle.fam_base.specs.declared.naming.Who.{Who}
use Rattle.fam_model.specs.MetaStep.{told_change}
use Rattle.fam_model.specs.Programs.{request_of}
use Rattle.fam_machine.specs.Effects.{Tells}
use Rattle.fam_machine.proofs.Replies.{right_or_wrong}
use Rattle.fam_machine.proofs.Taking.{change_here, change_is_lawful}
use Rattle.fam_machine.proofs.meta.change_of.Goals as goal

pub returns-in-Serves-clause-lawful : goal.returns-in-Serves-clause-lawful
returns-in-Serves-clause-lawful c =
    let p = c.in-Some.program.now in
    let made = c.in-Some-2.request in
    let there : slice_get c.args.parts.now.programs c.args.pe ≡ Some p = search rules in
    let request : request_of p.state c.args.asked.now ≡ Some made = search rules in
    let served : told_change c.args.parts.now.rows c.who.result made c.args.given.now ≡ Some c.in-Serves.chosen = search rules in
    change_is_lawful c.args.parts.now c.args.pe c.args.asked.now c.args.given.now p made c.in-Serves.chosen c.requires.sound c.requires.mode there request
    (subst (λ (w : Who). told_change c.args.parts.now.rows w made c.args.given.now ≡ Some c.in-Serves.chosen) c.who.ensures.value served)

pub returns : goal.returns
returns c =
    let p = c.in-Some.program.now in
    let made = c.in-Some-2.request in
    let there : slice_get c.args.parts.now.programs c.args.pe ≡ Some p = search rules in
    let request : request_of p.state c.args.asked.now ≡ Some made = search rules in
    let nothing : told_change c.args.parts.now.rows c.who.result made c.args.given.now ≡ None =
    right_or_wrong c.args.parts.now.rows c.who.result made c.args.given.now c.in_ok-chosen.field-0 c.in_ok-chosen.ensures c.in-Right.is in
    record {
      change = sym (change_here c.args.parts.now c.args.pe c.args.asked.now c.args.given.now p made there request
          ∙ subst (λ (w : Who). told_change c.args.parts.now.rows w made c.args.given.now ≡ None) c.who.ensures.value nothing);
      lawful = tt;
    }
