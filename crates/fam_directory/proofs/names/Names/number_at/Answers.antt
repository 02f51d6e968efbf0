use Rattle.std.proofs.Common.{◌≡◌, Some, ℕ, map, sym, ap, subst, ◌∙◌}
use Rattle.std.specs.List.{slice_get}
use Rattle.std.specs.Option.{option_map}
use Rattle.std.proofs.lemmas.Option.{slice_get-map}
use Rattle.fam_directory.specs.Names.{NameEntry, entries_of}
use Rattle.fam_directory.proofs.names.Names.number_at.Goals as goal

pub returns-in-Some : goal.returns-in-Some
returns-in-Some c =
    let number : NameEntry → ℕ = λ e. e.number in
    subst (λ l. slice_get (map number l.entries) c.args.at ≡ Some c.in-Some.number.now) c.self.view_is (
    slice_get-map number (entries_of c.self.inside.map.entries) c.args.at
    ∙ ap (option_map number) (slice_get-map _ c.self.inside.map.entries c.args.at ∙ ap (option_map _) (sym c.in-Some.ensures.entry))
    )
