-- What a crash leaves at each moment while a fresh disk is made a journal.
use Rattle.std.proofs.Common.{◌≡◌, ℕ, ◌≤◌, List, [], ◌∷◌, ◌++◌, length, sym, ◌∙◌, ap, subst, append_assoc}
use Rattle.std.specs.Prelude.{Some, Result, Ok, Err, option_map}
use Rattle.std.proofs.lemmas.List.{append-nil}
use Rattle.fam_disk.specs.Crash.{DiskState, IsSynced, IsTorn, Leaves, LeavesOnly, Passes, written}
use Rattle.fam_disk.proofs.Moments.{started, goes_on, written_from}
use Rattle.fam_model.specs.Rows.{common_rows}
use Rattle.meta_journal.specs.Found.{IsBlank}
use Rattle.meta_journal.specs.Opened.{empty_behind, Makes, Opens}
use Rattle.meta_journal.specs.Reading.{HasRows}
use Rattle.meta_journal.proofs.Fresh.{blank_fresh, clearing, filled, filled_rows, filling, finished, finishing, fresh_rows, short_fresh, IsFilled}
use Rattle.meta_journal.proofs.Opening.{after_sync, Anything, before_sync, synced_has}

-- a step of which nothing is told
pub one_step : (step : List ℕ → List ℕ → Type 0) (old new : DiskState) → Passes step old new → LeavesOnly Anything old new
one_step step old new passes =
    goes_on step Anything Anything old old new (started Anything old (λ image left. tt)) passes (λ image left. tt) (λ d c before torn. tt)

-- an only step from known bytes
only_step : (step : List ℕ → List ℕ → Type 0) (P Q : List ℕ → Type 0) (old new : DiskState) → Passes step old new → Leaves old old.moment Q → ((c : List ℕ) → Q c → P c)
    → ((d c : List ℕ) → Q d → step d c → P c) → LeavesOnly P old new
only_step step P Q old new passes here so leads =
    goes_on step P Q old old new (started P old (λ image left. so image (here image left))) passes here leads

-- Behind the first byte

module _ (c : List ℕ) (blank : IsBlank c) (old mid : DiskState) (reads : old.content ≡ Some c) (crash : Passes (IsTorn 1 16) old mid) where
  fill_only : (limit : ℕ) → IsSynced old → LeavesOnly (HasRows limit common_rows) old mid
  fill_only limit synced =
      only_step (IsTorn 1 16) (HasRows limit common_rows) IsBlank old mid crash (synced_has IsBlank old c reads synced blank)
      (λ d is. fresh_rows limit d (blank_fresh d is)) (λ d e is torn. fresh_rows limit e (blank_fresh e (filling d e is torn)))

  pub fill_failed : {T E : Type 0} (e : E) → mid.syncs ≡ old.syncs → Makes {T = T} old mid (Err e)
  fill_failed e same =
      record {
        opens = λ limit low. before_sync (HasRows limit common_rows) old mid (one_step (IsTorn 1 16) old mid crash) same (fill_only limit);
        later = [];
        syncs = same ∙ sym (append-nil old.syncs);
        content = tt;
        synced = tt;
      }

  module _ (synced : IsSynced mid) (is : mid.content ≡ option_map (written 1 empty_behind) old.content) (first : mid.syncs ≡ old.syncs ++ mid.moment ∷ [])
      (new : DiskState) (crash' : Passes (IsTorn 0 1) mid new) where
    filled_now : Leaves mid mid.moment IsFilled
    filled_now = written_from 1 empty_behind old mid IsFilled synced is (λ d told. filled d (subst IsBlank (same d told) blank))
      where
        same : (d : List ℕ) → old.content ≡ Some d → c ≡ d
        same d told = let both : Some c ≡ Some d = sym reads ∙ told in cc

    fill_since : (limit : ℕ) → 17 ≤ limit → LeavesOnly (HasRows limit common_rows) mid new
    fill_since limit low =
        only_step (IsTorn 0 1) (HasRows limit common_rows) IsFilled mid new crash' filled_now
        (λ d f. filled_rows limit d low f) (λ d e f torn. filled_rows limit e low (finishing d e f torn))

    fill_opens : (later : List ℕ) → new.syncs ≡ mid.syncs ++ later → (limit : ℕ) → 17 ≤ limit → Opens (HasRows limit common_rows) old new
    fill_opens later more limit low =
        after_sync (HasRows limit common_rows) old mid new later (one_step (IsTorn 1 16) old mid crash) first more (fill_since limit low) (fill_only limit)

    pub finish_failed : {T E : Type 0} (e : E) → new.syncs ≡ mid.syncs → Makes {T = T} old new (Err e)
    finish_failed e same =
        record {
          opens = fill_opens [] (same ∙ sym (append-nil mid.syncs));
          later = mid.moment ∷ [];
          syncs = same ∙ first;
          content = tt;
          synced = tt;
        }

    pub finish_served : {T E : Type 0} (x : T) → new.syncs ≡ mid.syncs ++ new.moment ∷ [] → IsSynced new
        → new.content ≡ option_map (written 0 (70 ∷ [])) mid.content → Makes {E = E} old new (Ok x)
    finish_served x more now last =
        record {
          opens = fill_opens (new.moment ∷ []) more;
          later = mid.moment ∷ new.moment ∷ [];
          syncs = more ∙ ap (λ (l : List ℕ). l ++ new.moment ∷ []) first ∙ append_assoc old.syncs (mid.moment ∷ []) (new.moment ∷ []);
          content =
              last
              ∙ ap (option_map (written 0 (70 ∷ []))) (is ∙ ap (option_map (written 1 empty_behind)) reads)
              ∙ ap (λ (l : List ℕ). Some l) (finished (written 1 empty_behind c) (filled c blank));
          synced = now;
        }

-- The first byte cleared before

module _ (c : List ℕ) (few : length c ≤ 16) (old mid : DiskState) (reads : old.content ≡ Some c) (crash : Passes (IsTorn 0 1) old mid) where
  abbrev Short : List ℕ → Type 0
  Short d = length d ≤ 16

  clear_only : (limit : ℕ) → IsSynced old → LeavesOnly (HasRows limit common_rows) old mid
  clear_only limit synced =
      only_step (IsTorn 0 1) (HasRows limit common_rows) Short old mid crash (synced_has Short old c reads synced few)
      (λ d is. fresh_rows limit d (short_fresh d is)) (λ d e is torn. fresh_rows limit e (short_fresh e (clearing d e is torn)))

  pub clear_failed : {T E : Type 0} (e : E) → mid.syncs ≡ old.syncs → Makes {T = T} old mid (Err e)
  clear_failed e same =
      record {
        opens = λ limit low. before_sync (HasRows limit common_rows) old mid (one_step (IsTorn 0 1) old mid crash) same (clear_only limit);
        later = [];
        syncs = same ∙ sym (append-nil old.syncs);
        content = tt;
        synced = tt;
      }

  pub clear_content : mid.content ≡ option_map (written 0 (0 ∷ [])) old.content → mid.content ≡ Some (written 0 (0 ∷ []) c)
  clear_content is = is ∙ ap (option_map (written 0 (0 ∷ []))) reads

  pub then_made : {T E : Type 0} (result : Result T E) (new : DiskState) → IsSynced mid → mid.syncs ≡ old.syncs ++ mid.moment ∷ [] → Makes mid new result → Makes old new result
  then_made result new synced first makes =
      record {
        opens = λ limit low.
            after_sync (HasRows limit common_rows) old mid new makes.later (one_step (IsTorn 0 1) old mid crash) first makes.syncs
            ((makes.opens limit low).from_start synced) (clear_only limit);
        later = mid.moment ∷ makes.later;
        syncs = makes.syncs ∙ ap (λ (l : List ℕ). l ++ makes.later) first ∙ append_assoc old.syncs (mid.moment ∷ []) makes.later;
        content = makes.content;
        synced = makes.synced;
      }
