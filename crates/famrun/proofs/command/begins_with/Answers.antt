use Rattle.std.proofs.Common.{ap, ◌∙◌, map, string_bytes}
use Rattle.famrun.proofs.Patterns.{first_item, told_first}
use Rattle.famrun.proofs.command.begins_with.Goals as goal

pub returns-in-len1-up : goal.returns-in-len1-up
returns-in-len1-up c =
    let found = first_item c.args.words.now c.first-item.result c.in-len1-up.len_at_least c.first-item.is in
    told_first (map string_bytes c.args.words.now) (string_bytes c.first-item.result) c.args.word.now c.as_str.result.now (map string_bytes found.0) c.eq.result
    (ap (map string_bytes) found.1) c.as_str.ensures.value c.eq.ensures
