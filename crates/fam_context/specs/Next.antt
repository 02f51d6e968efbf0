-- The first piece that may be posted to a stripe.
use Rattle.std.specs.Prelude.{◌≡◌, ℕ, ◌<◌, ◌≤◌, Bool, true, false, not, ◌==◌, ◌&&◌, ◌⊎◌, List, slice_get}
use Rattle.fam_model.specs.declared.piece.Operation.{Operation}
use Rattle.fam_model.specs.declared.state.Context.{Context}
use Rattle.fam_model.specs.Lists.{is_some_and}
use Rattle.fam_model.specs.Operations.{may_come}
use Rattle.fam_model.specs.Programs.{operation_of}
use Rattle.fam_context.specs.Effects.{may_post}
use Rattle.fam_context.specs.declared.tracked.Tracked.{Tracked}

-- piece j begins on the stripe
abbrev pub lies_at : Operation → ℕ → ℕ → Bool
lies_at operation stripe j = is_some_and (slice_get operation.pieces j) (λ p. p.piece.place.stripe == stripe)

-- the piece is there and begins on the stripe
abbrev pub lies_on : Context → ℕ → ℕ → ℕ → Bool
lies_on context stripe call j = is_some_and (operation_of context call) (λ operation. lies_at operation stripe j)

-- the flag of a piece; false where there is none
abbrev pub flag_in : List Bool → ℕ → Bool
flag_in flags j = is_some_and (slice_get flags j) (λ flag. flag)

-- piece j may be posted to the stripe
abbrev pub posts_on : Context → Operation → List Bool → ℕ → ℕ → Bool
posts_on context operation flags stripe j =
    lies_at operation stripe j && (not (flag_in flags j) && may_come context operation j)

-- no piece may be posted to the stripe
abbrev pub NoneOn : Tracked → ℕ → Type 0
NoneOn t stripe = (call j : ℕ) → may_post t call j ≡ true → lies_on t.context stripe call j ≡ false

-- the first piece, by call and number, that may be posted to the stripe
pub record IsNextOn (t : Tracked) (stripe : ℕ) (at : ℕ × ℕ) : Type 0 where
  pub may : may_post t at.0 at.1 ≡ true
  pub lies : lies_on t.context stripe at.0 at.1 ≡ true
  pub first : (call j : ℕ) → may_post t call j ≡ true → lies_on t.context stripe call j ≡ true →
      (at.0 < call) ⊎ ((at.0 ≡ call) × (at.1 ≤ j))
