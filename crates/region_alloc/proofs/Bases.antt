-- Places in the space of a region are bases in the region.
use Rattle.std.proofs.Common.{◌≡◌, ℕ, ◌+◌, ◌%◌, Bool, leb, ltb, eqb, List, [], ◌∷◌, inl, inr, refl, sym, ap, ◌∙◌}
use mathlib.Core.Bool.{not, ◌&&◌}
use Rattle.std.specs.List.{find, list_all, list_any}
use Rattle.std.proofs.lemmas.Bool.{cases_Bool}
use Rattle.fam_model.specs.declared.rows.RegionRow.{RegionRow}
use Rattle.fam_model.specs.declared.rows.Rows.{Rows}
use Rattle.fam_model.specs.Directory.{cuts_item}
use Rattle.fam_model.specs.Rows.{room, region_number, items_in, fits, least_base, no_gap, bases_up_to, room_end}
use Rattle.region_alloc.specs.Items.{IsSpaceOf}
use Rattle.region_alloc.specs.Space.{Space, end_of, is_clear, has_place, least_place, has_no_place, is_cut_at}

-- some pass where not all fail
some_passes : {X : Type 0} (p : X → Bool) (xs : List X) → list_any p xs ≡ not (list_all (λ x. not (p x)) xs)
some_passes p [] = refl
some_passes p (x ∷ xs) = elim (cases_Bool (p x)) [
  | inl holds ↦ rw holds refl
  | inr fails ↦ rw fails (some_passes p xs)
]

pub place_is_base : (rows : Rows) (row : RegionRow) (space : Space) (n base : ℕ) → IsSpaceOf rows row space → has_place space n base ≡ fits rows row n base
place_is_base rows row space n base h = λ i. eqb (base % 64) 0 && leb (base + room n) (h.same_size i) && h.same_rooms (is_clear n base) i

pub least_is_least : (rows : Rows) (row : RegionRow) (space : Space) (n : ℕ) → IsSpaceOf rows row space → least_place space n ≡ least_base rows row n
least_is_least rows row space n h = λ i. find (λ base. place_is_base rows row space n base h i) (bases_up_to (h.same_size i))

pub nowhere_is_no_gap : (rows : Rows) (row : RegionRow) (space : Space) (n : ℕ) → IsSpaceOf rows row space → has_no_place space n ≡ no_gap rows row n
nowhere_is_no_gap rows row space n h = λ i. not (list_any (λ base. place_is_base rows row space n base h i) (bases_up_to (h.same_size i)))

pub cut_is_cut : (rows : Rows) (row : RegionRow) (space : Space) (size : ℕ) → IsSpaceOf rows row space → is_cut_at size space.rooms ≡ cuts_item rows row size
cut_is_cut rows row space size h =
    some_passes (λ taken. ltb size (end_of taken)) space.rooms
    ∙ ap not (h.same_rooms (λ taken. not (ltb size (end_of taken))))
    ∙ sym (some_passes (λ item. ltb size (room_end item)) (items_in rows (region_number row)))
