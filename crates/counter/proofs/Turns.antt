-- Lists of turns and of passes.
use Rattle.std.proofs.Common.{◌≡◌, ℕ, List, [], ◌∷◌, ◌++◌, Option}
use Rattle.turn_cell.specs.Words.{Held, IsHeld, AllHeld}

module _ {O C R M : Type 0} (meaning : O → M) (gives : M → C → R → M → Type 0) (held_back : M → ℕ) (owner : C → Option ℕ) where
  pub held_more : (hs : List (Held O C R)) (h : Held O C R) → AllHeld meaning gives held_back owner hs → IsHeld meaning gives held_back owner h → AllHeld meaning gives held_back owner (hs ++ h ∷ [])
  held_more [] h a b = (b, tt)
  held_more (x ∷ xs) h a b = (a.0, held_more xs h a.1 b)

  pub held_front : (hs : List (Held O C R)) (h : Held O C R) → AllHeld meaning gives held_back owner (hs ++ h ∷ []) → AllHeld meaning gives held_back owner hs × IsHeld meaning gives held_back owner h
  held_front [] h a = (tt, a.0)
  held_front (x ∷ xs) h a = let t = held_front xs h a.1 in ((a.0, t.0), t.1)
