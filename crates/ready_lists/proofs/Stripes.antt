-- One list of many.
use Rattle.std.proofs.Common.{◌≡◌, ℕ, ◌<◌, List, length, get_or, set, Some, Result, Ok, Err, refl, sym, ap, subst, ◌∙◌}
use Rattle.std.specs.Prelude.{slice_get, slice_set, OnOk, OnErr}
use Rattle.std.specs.Option.{option_map_or}
use Rattle.std.proofs.lemmas.List.Elements.{All-set}
use Rattle.std.proofs.lemmas.Option.{slice_get_read}
use Rattle.fam_model.specs.Lists.{change_place}
use Rattle.fam_schedule.specs.Schedule.{PieceName}
use Rattle.ready_lists.specs.Lists.{IsSorted, AreSorted, with_name, without_name}
use Rattle.ready_lists.proofs.Sorted.{IsSorted-with_name, IsSorted-without_name}

-- a list that is set to what a change makes of it
pub set_is_change : {A : Type 0} (f : A → A) (xs : List A) (k : ℕ) (old new : A) → k < length xs → old ≡ get_or xs k old → new ≡ f old → set xs k new ≡ change_place k f xs
set_is_change f xs k old new within e g =
    let there : slice_get xs k ≡ Some old = slice_get_read xs (length xs) k old refl within e in
    sym (ap (λ o. option_map_or (λ x. slice_set xs k (f x)) o xs) there ∙ ap (slice_set xs k) (sym g))

pub sorted_set : (lists : List (List PieceName)) (k : ℕ) (new : List PieceName) → AreSorted lists → IsSorted new → AreSorted (set lists k new)
sorted_set lists k new all sorted = All-set IsSorted lists k new sorted all

sorted_old : (lists : List (List PieceName)) (k : ℕ) (old : List PieceName) → AreSorted lists → k < length lists → old ≡ get_or lists k old → IsSorted old
sorted_old lists k old all within e = subst IsSorted (sym e) (all k old within)

pub sorted_inserted : {E : Type 0} (r : Result (Unit {0}) E) (name : PieceName) (lists : List (List PieceName)) (k : ℕ) (old new : List PieceName) → AreSorted lists → k < length lists → old ≡ get_or lists k old → OnOk r (new ≡ with_name name old) → OnErr r (new ≡ old) → AreSorted (set lists k new)
sorted_inserted (Ok x) name lists k old new all within e ok err =
    sorted_set lists k new all (subst IsSorted (sym ok) (IsSorted-with_name name old (sorted_old lists k old all within e)))
sorted_inserted (Err x) name lists k old new all within e ok err =
    sorted_set lists k new all (subst IsSorted (sym err) (sorted_old lists k old all within e))

pub list_inserted : {E : Type 0} (r : Result (Unit {0}) E) (name : PieceName) (lists view : List (List PieceName)) (k : ℕ) (old new : List PieceName) → lists ≡ view → k < length lists → old ≡ get_or lists k old → OnOk r (new ≡ with_name name old) → OnOk r (set lists k new ≡ change_place k (with_name name) view)
list_inserted (Ok x) name lists view k old new same within e ok =
    set_is_change (with_name name) lists k old new within e ok ∙ ap (change_place k (with_name name)) same
list_inserted (Err x) name lists view k old new same within e ok = ok

pub sorted_removed : (name : PieceName) (lists : List (List PieceName)) (k : ℕ) (old new : List PieceName) → AreSorted lists → k < length lists → old ≡ get_or lists k old → new ≡ without_name name old → AreSorted (set lists k new)
sorted_removed name lists k old new all within e is =
    sorted_set lists k new all (subst IsSorted (sym is) (IsSorted-without_name name old (sorted_old lists k old all within e)))
