-- Tests of all programs.
use Rattle.std.proofs.Common.{◌≡◌, ℕ, List, [], ◌∷◌, ap, refl}
use Rattle.std.specs.Prelude.{◌&&◌, ◌||◌, not}
use Rattle.std.specs.List.{list_all, list_any}
use Rattle.fam_model.specs.Programs.{is_member, has_arrived, is_complete}
use Rattle.fam_program.specs.declared.tracked.TrackedProgram.{TrackedProgram}
use Rattle.fam_machine.specs.Views.{states_of}

-- a member has arrived
pub some_arrived : (round : ℕ) (programs : List TrackedProgram) → list_any (λ p. is_member p && has_arrived round p) (states_of programs) ≡ list_any (λ h. is_member h.state && has_arrived round h.state) programs
some_arrived round [] = refl
some_arrived round (p ∷ programs) = ap (λ b. (is_member p.state && has_arrived round p.state) || b) (some_arrived round programs)

-- all members have arrived
pub all_arrived : (round : ℕ) (programs : List TrackedProgram) → list_all (λ p. not (is_member p) || has_arrived round p) (states_of programs) ≡ list_all (λ h. not (is_member h.state) || has_arrived round h.state) programs
all_arrived round [] = refl
all_arrived round (p ∷ programs) = ap (λ b. (not (is_member p.state) || has_arrived round p.state) && b) (all_arrived round programs)

-- both tests, by the programs as they are kept
pub complete : (round : ℕ) (programs : List TrackedProgram) → is_complete round (states_of programs) ≡ (list_any (λ h. is_member h.state && has_arrived round h.state) programs && list_all (λ h. not (is_member h.state) || has_arrived round h.state) programs)
complete round programs = λ i. some_arrived round programs i && all_arrived round programs i
