-- A list in which one element was changed.
use Rattle.std.proofs.Common.{◌≡◌, ℕ, ◌<◌, List, ap, ◌∙◌, length, arith}
use Rattle.std.specs.Prelude.{Some, slice_get, slice_set, ◌≢◌}
use Rattle.std.proofs.lemmas.List.{length-set, get_or-set_same, get_or-set_other}
use Rattle.std.proofs.lemmas.Option.{slice_get_within, slice_get-get_or, get_or_from_slice_get}

pub get_set_same : {A : Type 0} (xs : List A) (k : ℕ) (x y : A) → slice_get xs k ≡ Some x → slice_get (slice_set xs k y) k ≡ Some y
get_set_same xs k x y there =
    let low : k < length xs = slice_get_within xs k x there in
    let longer : length (slice_set xs k y) ≡ length xs = length-set xs k y in
    slice_get-get_or (slice_set xs k y) k y (omega arith) ∙ ap Some (get_or-set_same xs k y y low)

pub get_set_other : {A : Type 0} (xs : List A) (k j : ℕ) (x y : A) → slice_get xs j ≡ Some x → j ≢ k → slice_get (slice_set xs k y) j ≡ Some x
get_set_other xs k j x y there apart =
    let low : j < length xs = slice_get_within xs j x there in
    let longer : length (slice_set xs k y) ≡ length xs = length-set xs k y in
    slice_get-get_or (slice_set xs k y) j x (omega arith)
    ∙ ap Some (get_or-set_other xs k j y x apart ∙ get_or_from_slice_get xs j x x there)
