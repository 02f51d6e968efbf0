use Rattle.std.proofs.Common.{◌≡◌, ◌∙◌, rules, nat_lt, length}
use Rattle.fam_context.proofs.Reached.{pending_first}
use Rattle.fam_context.proofs.words.is_pending.Goals as goal

pub returns : goal.returns
returns c =
    let len : c.len.result ≡ length c.args.context.now.operations = search rules in
    (λ i. nat_lt (c.requires i) (len i)) ∙ pending_first c.args.context.now.operations
