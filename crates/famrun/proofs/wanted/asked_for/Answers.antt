use Rattle.std.proofs.Common.{ap, map, string_bytes, sym, subst, ◌∙◌, ◌∷◌, []}
use Rattle.std.specs.Cmp.Lexicographic.{same_text}
use Rattle.famrun.proofs.Made.{IsRead, four_items, made_told, not_named}
use Rattle.famrun.proofs.wanted.asked_for.Goals as goal

pub returns-in-len4 : goal.returns-in-len4
returns-in-len4 c =
    let four = four_items c.args.words.now c.first-item.result c.seed-item.result c.programs-item.result c.calls-item.result c.in-len4.len_at_least c.in-len4.len_below
    c.first-item.is c.seed-item.is c.programs-item.is c.calls-item.is in
    made_told c.args.name.now (map string_bytes c.args.words.now) (string_bytes c.seed-item.result) (string_bytes c.programs-item.result) (string_bytes c.calls-item.result)
    c.number_in.result c.number_in-in-len4.result c.number_in-in-len4-2.result c.in_range.result
    (ap (map string_bytes) four
    ∙ ap (λ w. w ∷ string_bytes c.seed-item.result ∷ string_bytes c.programs-item.result ∷ string_bytes c.calls-item.result ∷ [])
    (sym c.as_str.ensures.value ∙ same_text c.as_str.result.now c.args.name.now c.if-eq.ensures))
    (subst (λ w. IsRead w c.number_in.result) c.as_bytes.ensures.value (c.number_in.ensures.some, c.number_in.ensures.none))
    (subst (λ w. IsRead w c.number_in-in-len4.result) c.as_bytes-in-len4.ensures.value (c.number_in-in-len4.ensures.some, c.number_in-in-len4.ensures.none))
    (subst (λ w. IsRead w c.number_in-in-len4-2.result) c.as_bytes-in-len4-2.ensures.value (c.number_in-in-len4-2.ensures.some, c.number_in-in-len4-2.ensures.none))
    c.in_range.ensures

pub returns-in_default-2 : goal.returns-in_default-2
returns-in_default-2 c =
    let four = four_items c.args.words.now c.first-item.result c.seed-item.result c.programs-item.result c.calls-item.result c.in-len4.len_at_least c.in-len4.len_below
    c.first-item.is c.seed-item.is c.programs-item.is c.calls-item.is in
    not_named c.args.name.now (map string_bytes c.args.words.now) (string_bytes c.first-item.result) c.as_str.result.now (string_bytes c.seed-item.result)
    (string_bytes c.programs-item.result) (string_bytes c.calls-item.result) (ap (map string_bytes) four) c.as_str.ensures.value c.if-eq.ensures
