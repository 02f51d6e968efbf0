use Rattle.std.proofs.Common.{rules, ◌≡◌, None, Some}
use Rattle.fam_model.specs.Directory.{refusal, found}
use Rattle.fam_machine.proofs.Replies.{refused_tells, found_tells}
use Rattle.fam_machine.proofs.meta.tell.Goals as goal

pub returns-in-Some : goal.returns-in-Some
returns-in-Some c =
    let refused : refusal c.args.rows.now c.args.who c.args.request.now ≡ Some c.in-Some.error = search rules in
    let tells = refused_tells c.args.rows.now c.args.who c.args.request.now c.args.given.now c.in-Some.error refused in
    rw (c.unchanged.ensures, c.eq.ensures) tells

pub returns-in-Some-2 : goal.returns-in-Some-2
returns-in-Some-2 c =
    let none : refusal c.args.rows.now c.args.who c.args.request.now ≡ None = search rules in
    let there : found c.args.rows.now c.args.request.now ≡ Some c.in-Some-2.reply = search rules in
    let tells = found_tells c.args.rows.now c.args.who c.args.request.now c.args.given.now c.in-Some-2.reply none there in
    rw (c.unchanged-in-Some-2.ensures, c.eq-in-Some-2.ensures) tells
