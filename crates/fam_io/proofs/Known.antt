-- One read or write after another.
use Rattle.std.proofs.Common.{ℕ, ◌+◌, List, ◌++◌, take, drop, sym, ap, ◌∙◌, subst, append_assoc}
use Rattle.std.specs.Prelude.{Option, None, Some}
use Rattle.std.proofs.Math.Seq.{take-add}
use Rattle.std.specs.Io.KnownBytes.{Appends, Consumes}
use Rattle.fam_io.specs.State.{SourceState, Moves}

pub Appends-trans : (a b c : Option (List ℕ)) (bs cs : List ℕ) → Appends a b bs → Appends b c cs → Appends a c (bs ++ cs)
Appends-trans None b c bs cs p q = tt
Appends-trans (Some x) None c bs cs p q = absurd p
Appends-trans (Some x) (Some y) None bs cs p q = absurd q
Appends-trans (Some x) (Some y) (Some z) bs cs p q = q ∙ ap (λ (l : List ℕ). l ++ cs) p ∙ append_assoc x bs cs

pub Consumes-trans : (a b c : Option (List ℕ)) (bs cs : List ℕ) → Consumes a b bs → Consumes b c cs → Consumes a c (bs ++ cs)
Consumes-trans None b c bs cs p q = tt
Consumes-trans (Some x) None c bs cs p q = absurd p
Consumes-trans (Some x) (Some y) None bs cs p q = absurd q
Consumes-trans (Some x) (Some y) (Some z) bs cs p q = p ∙ ap (λ (l : List ℕ). bs ++ l) q ∙ sym (append_assoc bs cs z)

pub Moves-trans : (a b c : SourceState) (bs cs : List ℕ) → Moves a b bs → Moves b c cs → Moves a c (bs ++ cs)
Moves-trans a b c bs cs p q =
    record {
      given = Consumes-trans a.left b.left c.left bs cs p.given q.given;
      kept = Appends-trans a.taken b.taken c.taken bs cs p.kept q.kept;
    }

-- what was written first, and then a prefix of the rest
pub Appends-rest : (a b c : Option (List ℕ)) (at n : ℕ) (bytes : List ℕ) → Appends a b (take at bytes) → Appends b c (take n (drop at bytes)) → Appends a c (take (at + n) bytes)
Appends-rest a b c at n bytes p q =
    subst (Appends a c) (sym (take-add at n bytes)) (Appends-trans a b c (take at bytes) (take n (drop at bytes)) p q)
