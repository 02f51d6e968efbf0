use Rattle.std.proofs.Common.{append_assoc, refl, to_z-of_z}
use Rattle.fam_model.specs.CallText.{op_word, argument_words}
use Rattle.fam_script.proofs.Joined.{words_text-cons}
use Rattle.fam_script.proofs.printing.data_calls.push_atomic.Goals as goal

pub returns : goal.returns
returns c =
    rw (c.in_ok-push_arguments.ensures, c.in_ok-push_format.ensures, c.word_of_op-verb.ensures, c.word_of_width-bits.ensures) (simp append_assoc (rw (words_text-cons (op_word c.args.op) (argument_words c.args.op c.args.a c.args.b)) (rw (to_z-of_z c.ranges.a, to_z-of_z c.ranges.b) refl)))
