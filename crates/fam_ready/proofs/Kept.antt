-- Which pieces of a context may come as before.
use Rattle.std.proofs.Common.{◌≡◌, ℕ, zero, suc, ◌+◌, ◌-◌, ◌<◌, ◌≤◌, Bool, true, false, List, [], ◌∷◌, ◌++◌, refl, sym, ap, ◌∙◌, arith, subst, inl, inr, length}
use Rattle.std.specs.Prelude.{◌==◌, ◌%◌, ◌&&◌, ◌||◌, ◌≢◌, ◌⊎◌, not, nat_le, Option, Some, None, slice_get, slice_set}
use Rattle.std.proofs.lemmas.Bool.Decides.{nat_tests}
use Rattle.std.proofs.lemmas.Option.{slice_get_within}
use Rattle.fam_model.specs.declared.piece.MarkedPiece.{MarkedPiece}
use Rattle.fam_model.specs.declared.piece.Operation.{Operation}
use Rattle.fam_model.specs.declared.state.Context.{Context}
use Rattle.fam_model.specs.Lists.{is_some_and}
use Rattle.fam_model.specs.Operations.{is_left, has_left}
use Rattle.fam_schedule.proofs.Finding.{get_zero, get_next, get_behind}
use Rattle.fam_ready.specs.Ready.{IsTidyContext}
use Rattle.fam_ready.specs.Telling.{comes_after, lies_on}
use Rattle.fam_ready.proofs.Coming.{same_some, MayCome, ComesIn, some_left}
use Rattle.fam_ready.proofs.Same.{AreAlike, alike_comes}
use Rattle.fam_ready.proofs.Tidy.{last_at}
use Rattle.fam_ready.proofs.Turns.{IsTold, IsOpened, IsIssued}

-- piece i of the call u may come in one just where it may in the other
pub record SameIn (x y : Context) (stripe u i : ℕ) : Type 0 where
  pub to : ComesIn x stripe u i → ComesIn y stripe u i
  pub from : ComesIn y stripe u i → ComesIn x stripe u i

pub told_same : (x y : Context) (stripe u i : ℕ) → IsTold x y → SameIn x y stripe u i
told_same x y stripe u i told =
    record { to = alike_comes x y stripe u i told.operations; from = alike_comes y x stripe u i (sym told.operations) }

-- in a context that is not open nothing may come
none_comes : (n stripe u i : ℕ) (x : Context) → IsTidyContext n x → x.is_open ≡ false → ComesIn x stripe u i → ⊥
none_comes n stripe u i x tidy shut c =
    let left : has_left c.operation ≡ true = some_left c.operation i c.comes.left in
    let none : has_left c.operation ≡ false = tidy.closed shut c.place c.operation c.there in
    let no : true ≡ false = sym left ∙ none in cc

nothing_comes : (stripe u i : ℕ) (y : Context) → y.operations ≡ [] → ComesIn y stripe u i → ⊥
nothing_comes stripe u i y none c =
    let low : c.place < 0 = slice_get_within [] c.place c.operation (ap (λ os. slice_get os c.place) (sym none) ∙ c.there) in omega arith

pub opened_same : (n : ℕ) (x y : Context) (stripe u i : ℕ) → IsTidyContext n x → IsOpened x y → SameIn x y stripe u i
opened_same n x y stripe u i tidy opens =
    record {
      to = λ c. absurd (none_comes n stripe u i x tidy opens.was c);
      from = λ c. absurd (nothing_comes stripe u i y opens.operations c);
    }

-- issue

pub get_front : {A : Type 0} (xs ys : List A) (k : ℕ) (x : A) → slice_get xs k ≡ Some x → slice_get (xs ++ ys) k ≡ Some x
get_front [] ys k x there = let low : k < 0 = slice_get_within [] k x there in let no : ⊥ = omega arith in absurd no
get_front (z ∷ xs) ys zero x there = get_zero z (xs ++ ys) ∙ sym (get_zero z xs) ∙ there
get_front (z ∷ xs) ys (suc k) x there = get_next z (xs ++ ys) k x (get_front xs ys k x (get_behind z xs k x there))

pub not_later : (epoch : ℕ) (o : Operation) → epoch ≤ o.epoch → comes_after epoch o ≡ true
not_later epoch o h = or_left (nat_le epoch o.epoch) (not (has_left o)) (is_le epoch o.epoch h)
  where
    or_left : (a b : Bool) → a ≡ true → (a || b) ≡ true
    or_left a b e = rw e refl

    is_le : (n m : ℕ) → n ≤ m → nat_le n m ≡ true
    is_le n m e = grind (arith, nat_tests)

-- pieces of other calls are as before
pub issued_same : (n m : ℕ) (x y : Context) (stripe u i : ℕ) → IsTidyContext n x → IsIssued n m x y → u ≢ n → SameIn x y stripe u i
issued_same n m x y stripe u i tidy new other =
    record {
      to = λ c.
          record {
            place = c.place;
            operation = c.operation;
            there = old_at c.place c.operation c.there;
            call = c.call;
            comes = record {
              left = c.comes.left;
              past = λ k earlier there. past_by c k earlier (last_at n m x y new k earlier there);
              bytes = c.comes.bytes;
            };
            lies = c.lies;
          };
      from = λ c. from_by c (last_at n m x y new c.place c.operation c.there);
    }
  where
    old_at : (k : ℕ) (o : Operation) → slice_get x.operations k ≡ Some o → slice_get y.operations k ≡ Some o
    old_at k o there = ap (λ os. slice_get os k) new.operations ∙ get_front x.operations (new.new ∷ []) k o there

    past_by : (c : ComesIn x stripe u i) (k : ℕ) (earlier : Operation) → (slice_get x.operations k ≡ Some earlier) ⊎ ((k ≡ length x.operations) × (earlier ≡ new.new)) →
        comes_after c.operation.epoch earlier ≡ true
    past_by c k earlier (inl old) = c.comes.past k earlier old
    past_by c k earlier (inr (last, same)) =
        let low : c.operation.epoch ≤ x.epoch = tidy.latest c.place c.operation c.there in
        let epoch : earlier.epoch ≡ x.epoch = ap (λ (q : Operation). q.epoch) same ∙ new.epoch in
        not_later c.operation.epoch earlier (omega arith)

    from_by : (c : ComesIn y stripe u i) → (slice_get x.operations c.place ≡ Some c.operation) ⊎ ((c.place ≡ length x.operations) × (c.operation ≡ new.new)) → ComesIn x stripe u i
    from_by c (inl old) =
        record {
          place = c.place;
          operation = c.operation;
          there = old;
          call = c.call;
          comes = record { left = c.comes.left; past = λ k earlier there. c.comes.past k earlier (old_at k earlier there); bytes = c.comes.bytes };
          lies = c.lies;
        }
    from_by c (inr (last, same)) = absurd (other (sym c.call ∙ ap (λ (q : Operation). q.call) same ∙ new.call))
