-- What a look-up in the items says of their names, and what an edit makes of them.
use Rattle.std.proofs.Common.{◌≡◌, ℕ, Bool, true, false, List, map, sym, ap, subst, ◌∙◌}
use Rattle.std.specs.List.{insert, remove}
use Rattle.ready_lists.specs.declared.piece.PieceAt.{PieceAt}
use Rattle.ready_lists.specs.Lists.{has_name, IsSorted, with_name, without_name}
use Rattle.ready_lists.specs.Places.{place_of_name, stands_at}
use Rattle.ready_lists.specs.Views.{name_of}
use Rattle.ready_lists.proofs.Places.{stands_where, insert_where, remove_where}
use Rattle.ready_lists.proofs.Points.{map-insert, map-remove}
use Rattle.ready_lists.proofs.Sorted.{IsSorted-with_name, IsSorted-without_name}

-- what the code looked up in the items
pub record IsFound (piece : PieceAt) (items : List PieceAt) (place : ℕ) (answer : Bool) : Type 0 where
  pub sorted : IsSorted (map name_of items)
  pub place_is : place ≡ place_of_name (name_of piece) (map name_of items)
  pub has : has_name (name_of piece) (map name_of items) ≡ answer

pub found : (piece : PieceAt) (items xs ys : List PieceAt) (place : ℕ) (answer : Bool) → IsSorted (map name_of items) → xs ≡ items → ys ≡ items → place ≡ place_of_name (name_of piece) (map name_of xs) → answer ≡ stands_at (name_of piece) (map name_of ys) place → IsFound piece items place answer
found piece items xs ys place answer sorted e f at is =
    let name = name_of piece in
    let here : place ≡ place_of_name name (map name_of items) = at ∙ ap (λ l. place_of_name name (map name_of l)) e in
    let there : answer ≡ stands_at name (map name_of items) place = is ∙ ap (λ l. stands_at name (map name_of l) place) f in
    record {
      sorted = sorted;
      place_is = here;
      has = sym (there ∙ ap (stands_at name (map name_of items)) here ∙ stands_where name (map name_of items) sorted);
    }

pub inserted : (piece : PieceAt) (items : List PieceAt) (place : ℕ) → IsFound piece items place false → map name_of (insert items place piece) ≡ with_name (name_of piece) (map name_of items)
inserted piece items place h =
    map-insert name_of items place piece
    ∙ ap (λ k. insert (map name_of items) k (name_of piece)) h.place_is
    ∙ insert_where (name_of piece) (map name_of items) h.sorted h.has

pub inserted_sorted : (piece : PieceAt) (items : List PieceAt) (place : ℕ) → IsFound piece items place false → IsSorted (map name_of (insert items place piece))
inserted_sorted piece items place h =
    subst IsSorted (sym (inserted piece items place h)) (IsSorted-with_name (name_of piece) (map name_of items) h.sorted)

pub removed : (piece : PieceAt) (items : List PieceAt) (place : ℕ) → IsFound piece items place true → map name_of (remove items place) ≡ without_name (name_of piece) (map name_of items)
removed piece items place h =
    map-remove name_of items place
    ∙ ap (λ k. remove (map name_of items) k) h.place_is
    ∙ remove_where (name_of piece) (map name_of items) h.sorted h.has

pub removed_sorted : (piece : PieceAt) (items : List PieceAt) (place : ℕ) → IsFound piece items place true → IsSorted (map name_of (remove items place))
removed_sorted piece items place h =
    subst IsSorted (sym (removed piece items place h)) (IsSorted-without_name (name_of piece) (map name_of items) h.sorted)
