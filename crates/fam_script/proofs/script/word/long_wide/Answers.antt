use Rattle.std.proofs.Common.{ℕ, List, sym, ap, ◌∙◌, arith}
use Rattle.std.specs.Str.{bytes_eq}
use Rattle.fam_script.proofs.Tests.{same_bytes}
use Rattle.fam_script.proofs.Numbers.{few_128, read_some, no_text, not_parsed, not_printed}
use Rattle.fam_script.proofs.script.word.long_wide.Goals as goal

pub returns-in_default : goal.returns-in_default
returns-in_default c = no_text 128 few_128 c.args.word.now c.in_default.ensures.cases.0

pub returns-in_default-parse : goal.returns-in_default-parse
returns-in_default-parse c =
    not_parsed 128 few_128 c.args.word.now c.in-Ok.text.now c.parse.result c.in-Ok.ensures.cases.0 c.parse.ensures.value.0 c.in_default-parse.not-Ok

pub returns-then-eq : goal.returns-then-eq
returns-then-eq c =
    read_some 128 few_128 c.args.word.now c.in-Ok-parse.value (omega (arith, c.in-Ok-parse.ensures.value.0))
    (sym c.format.ensures.text ∙ sym c.as_bytes.ensures.value ∙ same_bytes c.as_bytes.result.now c.args.word.now (sym c.if-eq.ensures))

pub returns-else-eq : goal.returns-else-eq
returns-else-eq c =
    not_printed 128 few_128 c.args.word.now c.in-Ok.text.now c.in-Ok-parse.value c.parse.result c.in-Ok.ensures.cases.0 c.in-Ok-parse.is c.parse.ensures.value.0
    (ap (λ (text : List ℕ). bytes_eq text c.args.word.now) (sym c.format.ensures.text ∙ sym c.as_bytes.ensures.value) ∙ sym c.if-eq.ensures)
