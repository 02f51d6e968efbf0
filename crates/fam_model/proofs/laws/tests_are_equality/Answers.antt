use Rattle.std.proofs.Common.{◌≡◌, ◌↔◌, sym, ap, ◌∙◌}
use Rattle.std.specs.Prelude.{Option, Some, None, IsTrue}
use Rattle.fam_model.specs.declared.call.Call.{Call}
use Rattle.fam_model.specs.declared.reply.PieceAnswer.{PieceAnswer}
use Rattle.fam_model.specs.declared.reply.Reply.{Reply}
use Rattle.fam_model.specs.Same.{same_call, same_reply, same_answer}
use Rattle.fam_model.specs.Text.{is_call}
use Rattle.fam_model.specs.contracts.call.CallEq.TheImpl.Laws as call_laws
use Rattle.fam_model.specs.contracts.reply.ReplyEq.TheImpl.Laws as reply_laws
use Rattle.fam_model.specs.contracts.reply.PieceAnswerEq.TheImpl.Laws as answer_laws
use Rattle.fam_model.specs.contracts.plain.CallExact.TheImpl.Laws as exact_calls
use Rattle.fam_model.specs.contracts.plain.ReplyExact.TheImpl.Laws as exact_replies
use Rattle.fam_model.specs.contracts.plain.PieceAnswerExact.TheImpl.Laws as exact_answers
use Rattle.fam_model.proofs.laws.tests_are_equality.Goals as goal

calls : (a b : Call) → IsTrue (same_call a b) ↔ (a ≡ b)
calls a b = (exact_calls.equal_is_same-law a b, λ e. ap (same_call a) (sym e) ∙ call_laws.laws-law.refl a)

replies : (a b : Reply) → IsTrue (same_reply a b) ↔ (a ≡ b)
replies a b = (exact_replies.equal_is_same-law a b, λ e. ap (same_reply a) (sym e) ∙ reply_laws.laws-law.refl a)

answers : (a b : PieceAnswer) → IsTrue (same_answer a b) ↔ (a ≡ b)
answers a b = (exact_answers.equal_is_same-law a b, λ e. ap (same_answer a) (sym e) ∙ answer_laws.laws-law.refl a)

due : (o : Option Call) (asked : Call) → IsTrue (is_call o asked) ↔ (o ≡ Some asked)
due None asked = (λ e. cc, λ e. cc)
due (Some next) asked = (λ e. ap Some ((calls next asked).0 e), λ (e : Some next ≡ Some asked). (calls next asked).1 cc)

pub returns : goal.returns
returns c = record { calls = calls; replies = replies; answers = answers; due = due }
