use Rattle.std.proofs.Common.{ap, map, string_bytes}
use Rattle.famrun.proofs.Patterns.{two_items, seed_told}
use Rattle.famrun.proofs.sim.seed_of.Goals as goal

pub returns-in-len2 : goal.returns-in-len2
returns-in-len2 c =
    let both = two_items c.args.words.now c.name-item.result c.seed-item.result c.in-len2.len_at_least c.in-len2.len_below c.name-item.is c.seed-item.is in
    seed_told (map string_bytes c.args.words.now) (string_bytes c.name-item.result) (string_bytes c.seed-item.result) c.as_str.result.now
    c.as_bytes.result.now c.number_in.result (ap (map string_bytes) both) c.as_str.ensures.value c.if-eq.ensures
    c.as_bytes.ensures.value c.number_in.ensures.some c.number_in.ensures.none
