-- A call again, after calls that changed nothing.
use Rattle.std.proofs.Common.{ℕ, List, ◌++◌, take, refl, sym, ap, ◌∙◌}
use Rattle.std.specs.Prelude.{Option, None, Some}
use Rattle.std.proofs.lemmas.List.{append-nil}
use Rattle.std.specs.Io.KnownBytes.{Appends, Consumes, Keeps}

pub keeps_itself : (a : Option (List ℕ)) → Keeps a a
keeps_itself None = tt
keeps_itself (Some x) = refl

pub keeps_on : (a b c : Option (List ℕ)) → Keeps a b → Keeps b c → Keeps a c
keeps_on None b c p q = tt
keeps_on (Some x) None c p q = absurd p
keeps_on (Some x) (Some y) None p q = absurd q
keeps_on (Some x) (Some y) (Some z) p q = q ∙ p

pub keeps_consumes : (a b c : Option (List ℕ)) (bytes : List ℕ) → Keeps a b → Consumes b c bytes → Consumes a c bytes
keeps_consumes None b c bytes p q = tt
keeps_consumes (Some x) None c bytes p q = absurd p
keeps_consumes (Some x) (Some y) None bytes p q = absurd q
keeps_consumes (Some x) (Some y) (Some z) bytes p q = sym p ∙ q

pub keeps_appends : (a b c : Option (List ℕ)) (bytes : List ℕ) → Keeps a b → Appends b c bytes → Appends a c bytes
keeps_appends None b c bytes p q = tt
keeps_appends (Some x) None c bytes p q = absurd p
keeps_appends (Some x) (Some y) None bytes p q = absurd q
keeps_appends (Some x) (Some y) (Some z) bytes p q = q ∙ ap (λ (l : List ℕ). l ++ bytes) p

pub keeps_at_none : (a b : Option (List ℕ)) (piece : List ℕ) → Appends a b (take 0 piece) → Keeps a b
keeps_at_none None b piece p = tt
keeps_at_none (Some x) None piece p = absurd p
keeps_at_none (Some x) (Some y) piece p = p ∙ append-nil x

-- a call again, for the tactics
pub ruleset again = (keeps_itself, keeps_on, keeps_consumes, keeps_appends, keeps_at_none)
