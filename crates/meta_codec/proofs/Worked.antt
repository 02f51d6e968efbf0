-- A worked body, computed.
use Rattle.std.proofs.Common.{◌≡◌, [], ◌∷◌, refl}
use Rattle.std.specs.Prelude.{Some, None}
use Rattle.fam_model.specs.declared.change.Change.{Change}
use Rattle.fam_model.specs.declared.change.Change.TheVariants as change
use Rattle.meta_codec.specs.Body.{body}
use Rattle.meta_codec.specs.Reading.{decoded, number_at, passing, bytes_at, whole, create_region_at}

abbrev region_a : Change
region_a = change.CreateRegion (record { 0 = 1 }) 5 5 448 4096 (97 ∷ [])

region_a-body : body region_a ≡ 1 ∷ 1 ∷ 0 ∷ 0 ∷ 0 ∷ 0 ∷ 0 ∷ 0 ∷ 0 ∷ 5 ∷ 0 ∷ 0 ∷ 0 ∷ 5 ∷ 0 ∷ 0 ∷ 0 ∷ 0xc0 ∷ 1 ∷ 0 ∷ 0x10 ∷ 0 ∷ 0 ∷ 0 ∷ 0 ∷ 0 ∷ 0 ∷ 1 ∷ 97 ∷ []
region_a-body = refl

region_a-read : decoded (body region_a) ≡ Some region_a
unfolding number_at passing bytes_at whole create_region_at
region_a-read = refl

-- a kind that there is not
other_kind : decoded (9 ∷ []) ≡ None
other_kind = refl
