use Rattle.std.proofs.Common.{ap, map, string_bytes}
use Rattle.std.specs.Prelude.{codes}
use Rattle.famrun.proofs.Patterns.{one_item, told_alone}
use Rattle.famrun.proofs.audit.is_audit.Goals as goal

pub returns-in-len1 : goal.returns-in-len1
returns-in-len1 c =
    let alone = one_item c.args.words.now c.only-item.result c.in-len1.len_at_least c.in-len1.len_below c.only-item.is in
    told_alone (map string_bytes c.args.words.now) (string_bytes c.only-item.result) (codes "audit") c.as_str.result.now c.eq.result
    (ap (map string_bytes) alone) c.as_str.ensures.value c.eq.ensures
