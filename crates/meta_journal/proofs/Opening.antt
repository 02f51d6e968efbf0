-- How the steps of an opening follow one another.
use Rattle.std.proofs.Common.{◌≡◌, ℕ, List, [], ◌∷◌, ◌++◌, length, get_or, refl, sym, ◌∙◌, ap, subst, arith, append_assoc, length-append}
use Rattle.std.specs.Prelude.{Option, Some, None, IfSome}
use Rattle.std.proofs.lemmas.List.{get_or_at}
use Rattle.fam_disk.specs.Crash.{DiskState, IsKept, IsSynced, Leaves, LeavesOnly}
use Rattle.fam_disk.proofs.Moments.{now_after, started, goes_on, run_on}
use Rattle.meta_journal.specs.Opened.{Looks, Opens}

abbrev pub Anything : List ℕ → Type 0
Anything image = Unit {0}

pub if_told : (content : Option (List ℕ)) (P : List ℕ → Type 0) → ((bytes : List ℕ) → content ≡ Some bytes → P bytes) → IfSome content P
if_told None P leads = tt
if_told (Some bytes) P leads = leads bytes refl

pub same_kept : (P : List ℕ → Type 0) (d c : List ℕ) → P d → IsKept d c → P c
same_kept P d c before kept = subst P (sym kept) before

-- a look leaves the images
pub looks_only : (P : List ℕ → Type 0) (old new : DiskState) → Looks old new → Leaves old old.moment P → LeavesOnly P old new
looks_only P old new looks here = goes_on IsKept P P old old new (started P old here) looks.crash here (same_kept P)

pub looks_run : (old new : DiskState) → Looks old new → LeavesOnly Anything old new
looks_run old new looks = looks_only Anything old new looks (λ image left. tt)

pub looks_synced : (old new : DiskState) → Looks old new → IsSynced old → IsSynced new
looks_synced old new looks synced image left =
    looks.content ∙ now_after IsKept old new (λ c. old.content ≡ Some c) (λ c. old.content ≡ Some c) looks.crash (λ d. refl) synced
    (same_kept (λ c. old.content ≡ Some c)) image left

-- what a disk reads that leaves nothing else
pub synced_has : (P : List ℕ → Type 0) (disk : DiskState) (bytes : List ℕ) → disk.content ≡ Some bytes → IsSynced disk → P bytes → Leaves disk disk.moment P
synced_has P disk bytes reads synced has image left =
    let same : Some bytes ≡ Some image = sym reads ∙ synced image left in
    let is : bytes ≡ image = cc in
    subst P is has

nothing_added : (xs ys : List ℕ) (t : ℕ) → xs ≡ xs ++ t ∷ ys → ⊥
nothing_added xs ys t same = omega (arith, ap length same, length-append xs (t ∷ ys))

first_added : (xs more ys : List ℕ) (a t : ℕ) → (xs ++ a ∷ []) ++ more ≡ xs ++ t ∷ ys → a ≡ t
first_added xs more ys a t same =
    sym (get_or_at xs a more 0 (length xs) refl)
    ∙ ap (λ (l : List ℕ). get_or l (length xs) 0) (sym (append_assoc xs (a ∷ []) more) ∙ same)
    ∙ get_or_at xs t ys 0 (length xs) refl

-- before the first sync is served
pub before_sync : (P : List ℕ → Type 0) (old new : DiskState) → LeavesOnly Anything old new → new.syncs ≡ old.syncs → (IsSynced old → LeavesOnly P old new) → Opens P old new
before_sync P old new run same only =
    record { run = run; from_start = only; from_sync = λ t later added. absurd (nothing_added old.syncs later t (sym same ∙ added)) }

-- and from it on
pub after_sync : (P : List ℕ → Type 0) (old mid new : DiskState) (later : List ℕ) → LeavesOnly Anything old mid → mid.syncs ≡ old.syncs ++ mid.moment ∷ []
    → new.syncs ≡ mid.syncs ++ later → LeavesOnly P mid new → (IsSynced old → LeavesOnly P old mid) → Opens P old new
after_sync P old mid new later run first others since only =
    let all : new.syncs ≡ (old.syncs ++ mid.moment ∷ []) ++ later = others ∙ ap (λ (l : List ℕ). l ++ later) first in
    record {
      run = run_on Anything old mid new run (anything P mid new since);
      from_start = λ synced. run_on P old mid new (only synced) since;
      from_sync = λ t more added m le ge.
          let is : mid.moment ≡ t = first_added old.syncs later more mid.moment t (sym all ∙ added) in
          since.since m (omega arith) ge;
    }
  where
    anything : (P : List ℕ → Type 0) (mid new : DiskState) → LeavesOnly P mid new → LeavesOnly Anything mid new
    anything P mid new since = record { later = since.later; earlier = since.earlier; since = λ t le ge image left. tt; tells = since.tells }

-- a look first
pub behind_look : (P : List ℕ → Type 0) (old mid new : DiskState) → Looks old mid → Opens P mid new → (IsSynced old → Leaves old old.moment P) → Opens P old new
behind_look P old mid new looks opens here =
    record {
      run = run_on Anything old mid new (looks_run old mid looks) opens.run;
      from_start = λ synced. run_on P old mid new (looks_only P old mid looks (here synced)) (opens.from_start (looks_synced old mid looks synced));
      from_sync = λ t later added. opens.from_sync t later (added ∙ ap (λ (l : List ℕ). l ++ t ∷ later) (sym looks.syncs));
    }
