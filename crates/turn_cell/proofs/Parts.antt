-- A part that is taken out again keeps the rule.
use Rattle.std.proofs.Common.{length-set, eq-eqb, ne_eqb, ◌≡◌, ℕ, ◌+◌, ◌-◌, ◌<◌, ◌≢◌, eqb, Bool, true, false, List, [], ◌∷◌, ◌++◌, length, get_or, set, refl, sym, ap, ◌∙◌, subst, inl, inr, ◌⊎◌, ⊎_elim, arith, Option, Some, None}
use mathlib.Core.Logic.{dite}
use mathlib.Core.Option.{some, some-injective}
use native.Mathlib.Decide.{ℕ_discrete}
use lib.ListN.{get_elem?}
use Rattle.atomic_table.proofs.Lists.{at_set, set_here, set_else, at_longer, at_last}
use Rattle.atomic_table.specs.Table.{Splits}
use Rattle.turn_cell.specs.declared.view.Entry.{Entry}
use Rattle.turn_cell.specs.declared.view.Part.{Part}
use Rattle.turn_cell.specs.declared.view.Store.{Store}
use Rattle.turn_cell.specs.declared.view.View.{View}
use Rattle.turn_cell.specs.Turn.{Hand, has, without, pick, one_if, by, IsBy, IsApart, IsOnce, AllBy, AllApart, AllOthers, AllParts, AllGiven, numbers_of, but, part_of, remaining, parted, KnowsOwn, Knows, Ranks, IsHome, IsOut, Turned}
use Rattle.atomic_table.specs.declared.shared.Seat.{Seat}
use Rattle.turn_cell.specs.declared.cell.Cell.{Cell}
use Rattle.turn_cell.specs.declared.cell.Pass.{Pass}
use Rattle.turn_cell.specs.Words.{IsPassOf}
use Rattle.turn_cell.proofs.Lists.{not_both, false_if, has_one, has_first, has_append, has_right, total_set, total_snoc, at_end, by_append, by_prefix}
use Rattle.turn_cell.proofs.Steps.{length_at}

-- whether k is the first of the list, or further on
has_cases : (k x : ℕ) (xs : List ℕ) → has k (x ∷ xs) ≡ true → (k ≡ x) ⊎ (has k xs ≡ true)
has_cases k x xs h = ⊎_elim (λ (g : has k (x ∷ []) ≡ true). inl (has_one k x g)) inr (has_append k (x ∷ []) xs h)

without_here : (n : ℕ) (xs : List ℕ) → without n (n ∷ xs) ≡ without n xs
without_here n xs = ap (λ (b : Bool). pick b (without n xs) (n ∷ without n xs)) (eq-eqb n n refl)

without_else : (n x : ℕ) (xs : List ℕ) → n ≢ x → without n (x ∷ xs) ≡ x ∷ without n xs
without_else n x xs ne = ap (λ (b : Bool). pick b (without n xs) (x ∷ without n xs)) (ne_eqb n x ne)

pub has_without : (j n : ℕ) (ns : List ℕ) → has j (without n ns) ≡ true → (has j ns ≡ true) × (j ≢ n)
has_without j n [] h = absurd (not_both false refl h)
has_without j n (x ∷ xs) h = dite (ℕ_discrete n x)
    (λ is. let t = has_without j n xs (subst (λ (z : List ℕ). has j z ≡ true) (subst (λ (y : ℕ). without n (y ∷ xs) ≡ without n xs) is (without_here n xs)) h) in (has_right j (x ∷ []) xs t.0, t.1))
    (λ ne. ⊎_elim
    (λ (e : j ≡ x). (subst (λ (y : ℕ). has j (y ∷ xs) ≡ true) e (has_first j xs), λ f. ne (sym f ∙ e)))
    (λ (g : has j (without n xs) ≡ true). let t = has_without j n xs g in (has_right j (x ∷ []) xs t.0, t.1))
    (has_cases j x (without n xs) (subst (λ (z : List ℕ). has j z ≡ true) (without_else n x xs ne) h)))

pub without_has : (j n : ℕ) (ns : List ℕ) → has j ns ≡ true → j ≢ n → has j (without n ns) ≡ true
without_has j n [] h ne = absurd (not_both false refl h)
without_has j n (x ∷ xs) h ne = dite (ℕ_discrete n x)
    (λ is. subst (λ (z : List ℕ). has j z ≡ true) (subst (λ (y : ℕ). without n xs ≡ without n (y ∷ xs)) is (sym (without_here n xs)))
    (without_has j n xs (⊎_elim (λ (e : j ≡ x). absurd (ne (e ∙ sym is))) (λ (g : has j xs ≡ true). g) (has_cases j x xs h)) ne))
    (λ other. subst (λ (z : List ℕ). has j z ≡ true) (sym (without_else n x xs other)) (⊎_elim
    (λ (e : j ≡ x). subst (λ (y : ℕ). has j (y ∷ without n xs) ≡ true) e (has_first j (without n xs)))
    (λ (g : has j xs ≡ true). has_right j (x ∷ []) (without n xs) (without_has j n xs g ne))
    (has_cases j x xs h)))

pub without_none : (n : ℕ) (ns : List ℕ) → has n ns ≡ false → without n ns ≡ ns
without_none n [] h = refl
without_none n (x ∷ xs) h = without_else n x xs (λ e. not_both (has n (x ∷ xs)) h (subst (λ (y : ℕ). has n (y ∷ xs) ≡ true) e (has_first n xs)))
    ∙ ap (λ z. x ∷ z) (without_none n xs (false_if (has n xs) (λ g. not_both (has n (x ∷ xs)) h (has_right n (x ∷ []) xs g))))

pub length_without : (n : ℕ) (ns : List ℕ) → IsOnce ns → has n ns ≡ true → length (without n ns) + 1 ≡ length ns
length_without n [] o h = absurd (not_both false refl h)
length_without n (x ∷ xs) o h = dite (ℕ_discrete n x)
    (λ is. let e : without n (x ∷ xs) ≡ xs = subst (λ (y : ℕ). without n (y ∷ xs) ≡ without n xs) is (without_here n xs) ∙ without_none n xs (subst (λ (y : ℕ). has y xs ≡ false) (sym is) o.0) in let l = ap length e in omega arith)
    (λ ne. let l = ap length (without_else n x xs ne) in let r = length_without n xs o.1 (⊎_elim (λ (e : n ≡ x). absurd (ne e)) (λ (g : has n xs ≡ true). g) (has_cases n x xs h)) in omega arith)

pub once_without : (n : ℕ) (ns : List ℕ) → IsOnce ns → IsOnce (without n ns)
once_without n [] o = tt
once_without n (x ∷ xs) o = dite (ℕ_discrete n x)
    (λ is. subst IsOnce (subst (λ (y : ℕ). without n xs ≡ without n (y ∷ xs)) is (sym (without_here n xs))) (once_without n xs o.1))
    (λ ne. subst IsOnce (sym (without_else n x xs ne)) (false_if (has x (without n xs)) (λ h. not_both (has x xs) o.0 (has_without x n xs h).0), once_without n xs o.1))

apart_one : (k n : ℕ) (o : Option ℕ) (p : ℕ) → IsApart k n o p → IsBy k (n ∷ []) o p
apart_one k n None p a = tt
apart_one k n (Some x) p a = λ e. subst (λ (y : ℕ). has p (y ∷ []) ≡ true) (a.0 e) (has_first p [])

rest_one : (j k n : ℕ) (ns : List ℕ) (o : Option ℕ) (p : ℕ) → j ≢ k → IsApart k n o p → IsBy j ns o p → IsBy j (without n ns) o p
rest_one j k n ns None p ne a b = tt
rest_one j k n ns (Some x) p ne a b = λ e. without_has p n ns (b e) (λ f. ne (e ∙ sym (a.1 f)))

nobody_one : (k : ℕ) (ns ms : List ℕ) (o : Option ℕ) (p : ℕ) → has p ns ≡ false → IsBy k ns o p → IsBy k ms o p
nobody_one k ns ms None p n b = tt
nobody_one k ns ms (Some x) p n b = λ e. absurd (not_both (has p ns) n (b e))

module _ {C R : Type 0} where
  others_fewer : (ns ms : List ℕ) (xs : List (Entry C R)) → ((j : ℕ) → has j ms ≡ true → has j ns ≡ true) → AllOthers ns xs → AllOthers ms xs
  others_fewer ns ms [] f a = tt
  others_fewer ns ms (x ∷ xs) f a = (false_if (has x.pass ms) (λ h. not_both (has x.pass ns) a.0 (f x.pass h)), others_fewer ns ms xs f a.1)

  -- the parts that have not the number n
  abbrev others_of : ℕ → List (Part C R) → List (Part C R)
  others_of n [] = []
  others_of n (p ∷ ps) = pick (eqb n p.number) (others_of n ps) (p ∷ others_of n ps)

  others_all : (n : ℕ) (ps : List (Part C R)) → has n (numbers_of ps) ≡ false → others_of n ps ≡ ps
  others_all n [] h = refl
  others_all n (p ∷ ps) h = let ne : n ≢ p.number = λ e. not_both (has n (p.number ∷ numbers_of ps)) h (subst (λ (y : ℕ). has n (y ∷ numbers_of ps) ≡ true) e (has_first n (numbers_of ps))) in
      ap (λ (b : Bool). pick b (others_of n ps) (p ∷ others_of n ps)) (ne_eqb n p.number ne)
      ∙ ap (λ z. p ∷ z) (others_all n ps (false_if (has n (numbers_of ps)) (λ g. not_both (has n (p.number ∷ numbers_of ps)) h (has_right n (p.number ∷ []) (numbers_of ps) g))))

  but_is : (n : ℕ) (ps : List (Part C R)) → IsOnce (numbers_of ps) → but n ps ≡ others_of n ps
  but_is n [] o = refl
  but_is n (p ∷ ps) o = dite (ℕ_discrete n p.number)
      (λ e. let b = eq-eqb n p.number e in ap (λ (b : Bool). pick b ps (p ∷ but n ps)) b ∙ (sym (others_all n ps (subst (λ (y : ℕ). has y (numbers_of ps) ≡ false) (sym e) o.0)) ∙ ap (λ (b : Bool). pick b (others_of n ps) (p ∷ others_of n ps)) (sym b)))
      (λ e. let b = ne_eqb n p.number e in ap (λ (b : Bool). pick b ps (p ∷ but n ps)) b ∙ (ap (λ z. p ∷ z) (but_is n ps o.1) ∙ ap (λ (b : Bool). pick b (others_of n ps) (p ∷ others_of n ps)) (sym b)))

  pub length_but : (n : ℕ) (ps : List (Part C R)) → has n (numbers_of ps) ≡ true → length (numbers_of (but n ps)) + 1 ≡ length (numbers_of ps)
  length_but n [] h = absurd (not_both false refl h)
  length_but n (p ∷ ps) h = dite (ℕ_discrete n p.number)
      (λ e. let l = ap (λ (b : Bool). length (numbers_of (pick b ps (p ∷ but n ps)))) (eq-eqb n p.number e) in omega arith)
      (λ e. let l = ap (λ (b : Bool). length (numbers_of (pick b ps (p ∷ but n ps)))) (ne_eqb n p.number e) in
      let r = length_but n ps (⊎_elim (λ (g : n ≡ p.number). absurd (e g)) (λ (g : has n (numbers_of ps) ≡ true). g) (has_cases n p.number (numbers_of ps) h)) in omega arith)

  pub numbers_others : (n : ℕ) (ps : List (Part C R)) → numbers_of (others_of n ps) ≡ without n (numbers_of ps)
  numbers_others n [] = refl
  numbers_others n (p ∷ ps) = at (eqb n p.number) ∙ ap (λ z. pick (eqb n p.number) z (p.number ∷ z)) (numbers_others n ps) where
    at : (b : Bool) → numbers_of (pick b (others_of n ps) (p ∷ others_of n ps)) ≡ pick b (numbers_of (others_of n ps)) (p.number ∷ numbers_of (others_of n ps))
    at true = refl
    at false = refl

  parts_others : (log : List (Entry C R)) (ns : List ℕ) (n m : ℕ) (ps : List (Part C R)) → AllParts log ns m ps → AllParts log (without n ns) m (others_of n ps)
  parts_others log ns n m [] a = tt
  parts_others log ns n m (p ∷ ps) a = dite (ℕ_discrete n p.number)
      (λ is. subst (AllParts log (without n ns) m) (sym (ap (λ (b : Bool). pick b (others_of n ps) (p ∷ others_of n ps)) (eq-eqb n p.number is))) (parts_others log ns n m ps a.4))
      (λ ne. subst (AllParts log (without n ns) m) (sym (ap (λ (b : Bool). pick b (others_of n ps) (p ∷ others_of n ps)) (ne_eqb n p.number ne)))
      (a.0, without_has p.number n ns a.1 (λ e. ne (sym e)), a.2, a.3, parts_others log ns n m ps a.4))

  parts_have : (log : List (Entry C R)) (ns : List ℕ) (n m : ℕ) (ps : List (Part C R)) → AllParts log ns m ps → has n (numbers_of ps) ≡ true → has n ns ≡ true
  parts_have log ns n m [] a h = absurd (not_both false refl h)
  parts_have log ns n m (p ∷ ps) a h = ⊎_elim (λ (e : n ≡ p.number). subst (λ (z : ℕ). has z ns ≡ true) (sym e) a.1) (λ (g : has n (numbers_of ps) ≡ true). parts_have log ns n m ps a.4 g) (has_cases n p.number (numbers_of ps) h)

  pub part_entries : (log : List (Entry C R)) (ns : List ℕ) (n m : ℕ) (ps : List (Part C R)) → AllParts log ns m ps → has n (numbers_of ps) ≡ true → by n log ≡ (part_of n ps).entries
  part_entries log ns n m [] a h = absurd (not_both false refl h)
  part_entries log ns n m (p ∷ ps) a h = dite (ℕ_discrete n p.number)
      (λ is. subst (λ (z : Part C R). by n log ≡ z.entries) (sym (ap (λ (b : Bool). pick b p (part_of n ps)) (eq-eqb n p.number is))) (ap (λ (z : ℕ). by z log) is ∙ a.0))
      (λ ne. subst (λ (z : Part C R). by n log ≡ z.entries) (sym (ap (λ (b : Bool). pick b p (part_of n ps)) (ne_eqb n p.number ne)))
      (part_entries log ns n m ps a.4 (⊎_elim (λ (e : n ≡ p.number). absurd (ne e)) (λ (g : has n (numbers_of ps) ≡ true). g) (has_cases n p.number (numbers_of ps) h))))

module _ {C R : Type 0} (owner : C → Option ℕ) where
  pub apart_by : (k n : ℕ) (xs : List (Entry C R)) → AllApart owner k n xs → AllBy owner k (n ∷ []) xs
  apart_by k n [] a = tt
  apart_by k n (x ∷ xs) a = (apart_one k n (owner x.call) x.pass a.0, apart_by k n xs a.1)

  apart_rest : (j k n : ℕ) (ns : List ℕ) (xs : List (Entry C R)) → j ≢ k → AllApart owner k n xs → AllBy owner j ns xs → AllBy owner j (without n ns) xs
  apart_rest j k n ns [] ne a b = tt
  apart_rest j k n ns (x ∷ xs) ne a b = (rest_one j k n ns (owner x.call) x.pass ne a.0 b.0, apart_rest j k n ns xs ne a.1 b.1)

  -- what names none of the numbers is not the owner's
  by_none : (k : ℕ) (ns ms : List ℕ) (xs : List (Entry C R)) → AllOthers ns xs → AllBy owner k ns xs → AllBy owner k ms xs
  by_none k ns ms [] a b = tt
  by_none k ns ms (x ∷ xs) a b = (nobody_one k ns ms (owner x.call) x.pass a.0 b.0, by_none k ns ms xs a.1 b.1)

  by_suffix : (w : ℕ) (ns : List ℕ) (xs ys : List (Entry C R)) → AllBy owner w ns (xs ++ ys) → AllBy owner w ns ys
  by_suffix w ns [] ys a = a
  by_suffix w ns (x ∷ xs) ys a = by_suffix w ns xs ys a.1

  pub own_part : {O : Type 0} (n k : ℕ) (v : View O C R) → KnowsOwn owner v → has n (numbers_of v.past) ≡ true → AllApart owner k n v.seen → KnowsOwn owner (parted n k v)
  own_part n k v o part clear = record {
    mine = part_entries v.seen v.numbers n v.number v.past o.parts part;
    parts = tt;
    owned = λ j h. subst (λ (z : ℕ). AllBy owner z (n ∷ []) v.seen) (sym (has_one j k h)) (apart_by k n v.seen clear);
    named = λ h _. absurd (not_both false refl h);
  }

module _ {O C R M : Type 0} (meaning : O → M) (answers : M → C → R → M → Type 0) (held_back : M → ℕ) (owner : C → Option ℕ) (limit : ℕ) (origin : O) (n k id : ℕ) (v : View O C R)
    (live : v.live ≡ true) (old : v.fresh ≡ false) (free : v.holds ≡ false) (part : has n (numbers_of v.past) ≡ true) (owns : has k v.owners ≡ true) (clear : AllApart owner k n v.seen) where
  abbrev V : Type 0
  V = View O C R

  abbrev p : V
  p = record v { past = others_of n v.past; numbers = without n v.numbers; owners = without k v.owners }

  -- what is left, where each number stands once
  left_is : v.numbers ≡ v.number ∷ numbers_of v.past → IsOnce v.numbers → p ≡ remaining n k v
  left_is numbers once = let o = subst IsOnce numbers once in let b = but_is n v.past o.1 in
      let ne : n ≢ v.number = λ e. not_both (has v.number (numbers_of v.past)) o.0 (subst (λ (z : ℕ). has z (numbers_of v.past) ≡ true) e part) in
      let nums : without n v.numbers ≡ v.number ∷ numbers_of (but n v.past) = ap (without n) numbers ∙ (without_else n v.number (numbers_of v.past) ne ∙ ap (λ z. v.number ∷ z) (sym (numbers_others n v.past) ∙ ap numbers_of (sym b))) in
      λ i. record v { past = sym b i; numbers = nums i; owners = without k v.owners }

  abbrev c : V
  c = parted n k v

  module _ (log : List (Entry C R)) (numbered lead_seat : ℕ) (lead : V) (views : List V) (r : Ranks owner limit origin log numbered lead_seat lead views) (at : get_elem? views id ≡ some v) where
    abbrev views' : List V
    views' = set views id p ++ c ∷ []

    w : Knows owner limit origin log numbered lead_seat lead id v
    w = r.each id v at

    has_n : has n v.numbers ≡ true
    has_n = parts_have log v.numbers n v.number v.past w.parts part

    -- each view is the part, what is left, or as it was
    was : (i : ℕ) (x : V) → get_elem? views' i ≡ some x → ((i ≡ length views) × (x ≡ c)) ⊎ (((i ≡ id) × (x ≡ p)) ⊎ ((i ≢ id) × (get_elem? views i ≡ some x)))
    was i x e = ⊎_elim
        (λ (t : get_elem? (set views id p) i ≡ some x). inr (⊎_elim (λ (u : (i ≡ id) × (p ≡ x)). inl (u.0, sym u.1)) (λ (u : (i ≢ id) × (get_elem? views i ≡ some x)). inr (u.0, u.1)) (at_set views id i p x t)))
        (λ (t : (c ≡ x) × (i ≡ length (set views id p))). inl (t.1 ∙ length-set views id p, sym t.0))
        (at_end (set views id p) c x i e)

    here : get_elem? views' id ≡ some p
    here = at_longer (set views id p) (c ∷ []) id p (set_here views id p (length_at owner limit origin views id v at))

    elsewhere : (i : ℕ) (x : V) → i ≢ id → get_elem? views i ≡ some x → get_elem? views' i ≡ some x
    elsewhere i x ne e = at_longer (set views id p) (c ∷ []) i x (set_else views id i p ne ∙ e)

    last : get_elem? views' (length views) ≡ some c
    last = at_last (set views id p) c (length views) (length-set views id p)

    separated : (f : V → List ℕ) (d : ℕ) → f p ≡ without d (f v) → f c ≡ d ∷ [] → has d (f v) ≡ true
        → ((i j : ℕ) (x y : V) → get_elem? views i ≡ some x → get_elem? views j ≡ some y → (m : ℕ) → has m (f x) ≡ true → has m (f y) ≡ true → i ≡ j)
        → (i j : ℕ) (x y : V) → get_elem? views' i ≡ some x → get_elem? views' j ≡ some y → (m : ℕ) → has m (f x) ≡ true → has m (f y) ≡ true → i ≡ j
    separated f d fp fc own apart i j x y e g m hx hy = ⊎_elim
        (λ (a : (i ≡ length views) × (x ≡ c)). ⊎_elim
        (λ (b : (j ≡ length views) × (y ≡ c)). a.0 ∙ sym b.0)
        (⊎_elim
        (λ (b : (j ≡ id) × (y ≡ p)). absurd ((of_p y b.1 hy).1 (of_c x a.1 hx)))
        (λ (b : (j ≢ id) × (get_elem? views j ≡ some y)). absurd (b.0 (apart j id y v b.1 at m hy (subst (λ (z : ℕ). has z (f v) ≡ true) (sym (of_c x a.1 hx)) own)))))
        (was j y g))
        (⊎_elim
        (λ (a : (i ≡ id) × (x ≡ p)). ⊎_elim
        (λ (b : (j ≡ length views) × (y ≡ c)). absurd ((of_p x a.1 hx).1 (of_c y b.1 hy)))
        (⊎_elim
        (λ (b : (j ≡ id) × (y ≡ p)). a.0 ∙ sym b.0)
        (λ (b : (j ≢ id) × (get_elem? views j ≡ some y)). absurd (b.0 (apart j id y v b.1 at m hy (of_p x a.1 hx).0))))
        (was j y g))
        (λ (a : (i ≢ id) × (get_elem? views i ≡ some x)). ⊎_elim
        (λ (b : (j ≡ length views) × (y ≡ c)). absurd (a.0 (apart i id x v a.1 at m hx (subst (λ (z : ℕ). has z (f v) ≡ true) (sym (of_c y b.1 hy)) own))))
        (⊎_elim
        (λ (b : (j ≡ id) × (y ≡ p)). absurd (a.0 (apart i id x v a.1 at m hx (of_p y b.1 hy).0)))
        (λ (b : (j ≢ id) × (get_elem? views j ≡ some y)). apart i j x y a.1 b.1 m hx hy))
        (was j y g)))
        (was i x e) where
          of_c : (x : V) → x ≡ c → has m (f x) ≡ true → m ≡ d
          of_c x is h = has_one m d (subst (λ (z : List ℕ). has m z ≡ true) (ap f is ∙ fc) h)

          of_p : (x : V) → x ≡ p → has m (f x) ≡ true → (has m (f v) ≡ true) × (m ≢ d)
          of_p x is h = has_without m d (f v) (subst (λ (z : List ℕ). has m z ≡ true) (ap f is ∙ fp) h)

    -- the first view now
    pub record LeadNow (u : V) : Type 0 where
      pub there' : get_elem? views' lead_seat ≡ some u
      pub leads : u.leads ≡ true
      pub made : u.made ≡ lead.made
      pub given : u.given ≡ lead.given
      pub cut : u.cut ≡ lead.cut
      pub base : u.base ≡ lead.base

    pub lead_now : (u : V) × LeadNow u
    lead_now = dite (ℕ_discrete lead_seat id)
        (λ e. let is : v ≡ lead = some-injective v lead (sym at ∙ (ap (get_elem? views) (sym e) ∙ r.there)) in (
          p,
          record {
            there' = ap (get_elem? views') e ∙ here;
            leads = ap (λ (z : V). z.leads) is ∙ r.leads;
            made = ap (λ (z : V). z.made) is;
            given = ap (λ (z : V). z.given) is;
            cut = ap (λ (z : V). z.cut) is;
            base = ap (λ (z : V). z.base) is;
          },
        ))
        (λ ne. (lead, record { there' = elsewhere lead_seat lead ne r.there; leads = r.leads; made = refl; given = refl; cut = refl; base = refl }))

    module _ (u : V) (l : LeadNow u) where
      -- what is behind all that v has seen has no owner of v's
      by_log : (j : ℕ) (ms : List ℕ) → has j v.owners ≡ true → AllBy owner j ms v.seen → AllBy owner j ms log
      by_log j ms own seen = subst (AllBy owner j ms) (sym w.sees.1) (by_append owner j ms v.seen w.sees.0 seen
          (by_none owner j v.numbers ms w.sees.0 w.sees.2 (by_suffix owner j v.numbers v.seen w.sees.0 (subst (AllBy owner j v.numbers) w.sees.1 (w.owned j own)))))

      by_seen : (j : ℕ) → has j v.owners ≡ true → AllBy owner j v.numbers v.seen
      by_seen j own = by_prefix owner j v.numbers v.seen w.sees.0 (subst (AllBy owner j v.numbers) w.sees.1 (w.owned j own))

      knows_left : Knows owner limit origin log numbered lead_seat u id p
      knows_left = record {
        sees = (w.sees.0, w.sees.1, others_fewer v.numbers (without n v.numbers) w.sees.0 (λ j h. (has_without j n v.numbers h).0) w.sees.2);
        below = λ j h. w.below j (has_without j n v.numbers h).0;
        is_given = λ j h. subst (λ (gs : List ℕ). has j gs ≡ true) (sym l.given) (w.is_given j (has_without j k v.owners h).0);
        owned = λ j h. let t = has_without j k v.owners h in by_log j (without n v.numbers) t.0 (apart_rest owner j k n v.numbers v.seen t.1 clear (by_seen j t.0));
        one_leads = w.one_leads;
        unnumbered = λ h. absurd (not_both v.fresh old h);
        mine = λ h. w.mine (has_without v.number n v.numbers h).0;
        parts = parts_others log v.numbers n v.number v.past w.parts;
        no_parts = λ h. absurd (not_both v.fresh old h);
        limit_is = w.limit_is;
        origin_is = w.origin_is;
        once = once_without n v.numbers w.once;
      }

      knows_part : (i : ℕ) → Knows owner limit origin log numbered lead_seat u i c
      knows_part i = record {
        sees = (w.sees.0, w.sees.1, others_fewer v.numbers (n ∷ []) w.sees.0 (λ j h. subst (λ (z : ℕ). has z v.numbers ≡ true) (sym (has_one j n h)) has_n) w.sees.2);
        below = λ j h. subst (λ (z : ℕ). z < numbered) (sym (has_one j n h)) (w.below n has_n);
        is_given = λ j h. subst (λ (gs : List ℕ). has j gs ≡ true) (sym l.given) (w.is_given j (subst (λ (z : ℕ). has z v.owners ≡ true) (sym (has_one j k h)) owns));
        owned = λ j h. subst (λ (z : ℕ). AllBy owner z (n ∷ []) log) (sym (has_one j k h)) (by_log k (n ∷ []) owns (apart_by owner k n v.seen clear));
        one_leads = λ h. absurd (not_both false refl h);
        unnumbered = λ h. absurd (not_both false refl h);
        mine = λ _. part_entries log v.numbers n v.number v.past w.parts part;
        parts = tt;
        no_parts = λ h. absurd (not_both false refl h);
        limit_is = λ _. w.limit_is live;
        origin_is = λ _. w.origin_is live;
        once = (refl, tt);
      }

      pub parts_ranks : Ranks owner limit origin log numbered lead_seat u views'
      parts_ranks = record {
        there = l.there';
        leads = l.leads;
        few = subst (λ (z : ℕ). z < 4294967296) (sym l.made) r.few;
        each = λ i x e. ⊎_elim
            (λ (t : (i ≡ length views) × (x ≡ c)). subst (Knows owner limit origin log numbered lead_seat u i) (sym t.1) (knows_part i))
            (⊎_elim
            (λ (t : (i ≡ id) × (x ≡ p)). subst (λ (z : ℕ × V). Knows owner limit origin log numbered lead_seat u z.0 z.1) (λ j. (sym t.0 j, sym t.1 j)) knows_left)
            (λ (t : (i ≢ id) × (get_elem? views i ≡ some x)). let q = r.each i x t.1 in record {
              sees = q.sees;
              below = q.below;
              is_given = λ j h. subst (λ (gs : List ℕ). has j gs ≡ true) (sym l.given) (q.is_given j h);
              owned = q.owned;
              one_leads = q.one_leads;
              unnumbered = q.unnumbered;
              mine = q.mine;
              parts = q.parts;
              no_parts = q.no_parts;
              limit_is = q.limit_is;
              origin_is = q.origin_is;
              once = q.once;
            }))
            (was i x e);
        apart = separated (λ (z : V). z.numbers) n refl refl has_n r.apart;
        owners_apart = separated (λ (z : V). z.owners) k refl refl owns r.owners_apart;
        covered = λ m h. let q = r.covered m h in dite (ℕ_discrete q.0 id)
            (λ e. let own : has m v.numbers ≡ true = subst (λ (z : V). has m z.numbers ≡ true) (some-injective q.1 v (sym q.2 ∙ (ap (get_elem? views) e ∙ at))) q.3 in dite (ℕ_discrete m n)
            (λ f. (length views, c, last, subst (λ (z : ℕ). has z (n ∷ []) ≡ true) (sym f) (has_first n [])))
            (λ f. (id, p, here, without_has m n v.numbers own f)))
            (λ other. (q.0, q.1, elsewhere q.0 q.1 other q.2, q.3));
        named = r.named;
        owned_given = subst (λ gs. AllGiven owner gs log) (sym l.given) r.owned_given;
        counted = let a = total_snoc (λ (z : V). length z.numbers) (set views id p) c in let b = total_set (λ (z : V). length z.numbers) views id v p at in let d = r.counted in let g = length_without n v.numbers w.once has_n in omega arith;
        waiting = let a = total_snoc (λ (z : V). one_if z.fresh) (set views id p) c in let b = total_set (λ (z : V). one_if z.fresh) views id v p at in let d = r.waiting in let e = l.made in omega arith;
      }

  abbrev S : Type 0
  S = Option (Store O C R)

  splits_off : Splits (Turned meaning answers held_back owner limit origin) id v p c
  splits_off s r at = let numbered : ℕ = get_or s.words 1 0 in let t = lead_now r.log numbered r.lead_seat r.lead s.views r.ranks at in let l = t.1 in record {
    log = r.log;
    lead_seat = r.lead_seat;
    lead = t.0;
    two = r.two;
    one = r.one;
    ranks = parts_ranks r.log numbered r.lead_seat r.lead s.views r.ranks at t.0 l;
    turn = ⊎_elim
        (λ (h : IsHome meaning answers held_back limit origin r.log r.lead (get_or s.words 0 0) s.homes s.views). inl record {
          even = h.even;
          none_holds = λ i x e. ⊎_elim (λ (u : (i ≡ length s.views) × (x ≡ c)). ap (λ (z : V). z.holds) u.1)
              (⊎_elim (λ (u : (i ≡ id) × (x ≡ p)). ap (λ (z : V). z.holds) u.1 ∙ free) (λ (u : (i ≢ id) × (get_elem? s.views i ≡ some x)). h.none_holds i x u.1))
              (was r.log numbered r.lead_seat r.lead s.views r.ranks at i x e);
          value = h.value;
          base = h.base;
          home = h.home;
          stored = h.stored;
          cut_is = h.cut_is ∙ sym l.cut;
          base_is = l.base ∙ h.base_is;
        })
        (λ (h : IsOut r.log r.lead (get_or s.words 0 0) s.views).
        let other : h.holder ≢ id = λ e. not_both v.holds free (ap (λ (z : V). z.holds) (some-injective v h.view (sym at ∙ (ap (get_elem? s.views) (sym e) ∙ h.there))) ∙ h.holds) in inr record {
          odd = h.odd;
          holder = h.holder;
          view = h.view;
          there = elsewhere r.log numbered r.lead_seat r.lead s.views r.ranks at h.holder h.view other h.there;
          holds = h.holds;
          alone = λ i x e held. ⊎_elim (λ (u : (i ≡ length s.views) × (x ≡ c)). absurd (not_both x.holds (ap (λ (z : V). z.holds) u.1) held))
              (⊎_elim (λ (u : (i ≡ id) × (x ≡ p)). absurd (not_both x.holds (ap (λ (z : V). z.holds) u.1 ∙ free) held)) (λ (u : (i ≢ id) × (get_elem? s.views i ≡ some x)). h.alone i x u.1 held))
              (was r.log numbered r.lead_seat r.lead s.views r.ranks at i x e);
          numbered = h.numbered;
          whole = h.whole;
          cut_is = h.cut_is ∙ sym l.cut;
          base_is = h.base_is ∙ sym l.base;
        })
        r.turn;
  }

  pub parts : v.numbers ≡ v.number ∷ numbers_of v.past → Splits (Turned meaning answers held_back owner limit origin) id v (remaining n k v) (parted n k v)
  parts numbers s r at = subst (λ (z : V). Turned meaning answers held_back owner limit origin record { words = s.words; homes = s.homes; views = set s.views id z ++ c ∷ [] }) (left_is numbers (r.ranks.each id v at).once) (splits_off s r at)

module _ {O C R : Type 0} (cell : Cell O C R) (q : Pass O C R) (n k : ℕ) (is : IsPassOf cell q) (part : has n (numbers_of q.seat.me.0.past) ≡ true) where
  pub pass_left : (seat : Seat (Option (Store O C R)) (View O C R)) → seat.table_id ≡ q.seat.table_id → (let m : Hand O C R = (remaining n k q.seat.me.0, q.seat.me.1) in seat.me ≡ m)
      → IsPassOf cell (record { seat = seat; number = q.number; count = q.count - 1; first = q.first; made = q.made }) × (q.count - 1 + 1 ≡ q.count)
  pass_left seat table me = let now : (let m : Hand O C R = (remaining n k q.seat.me.0, q.seat.me.1) in m ≡ seat.me) = sym me in
      let a = is.of.count in let b = ap length is.of.numbers in let l = length_but n q.seat.me.0.past part in let m = ap (λ (z : Hand O C R). length z.0.numbers) me in (
        record {
          of = record {
            table = table ∙ is.of.table;
            live = ap (λ (z : Hand O C R). z.0.live) me ∙ is.of.live;
            numbered = ap (λ (z : Hand O C R). z.0.fresh) me ∙ is.of.numbered;
            first = is.of.first ∙ ap (λ (z : Hand O C R). z.0.leads) now;
            made = is.of.made ∙ ap (λ (z : Hand O C R). z.0.made) now;
            active = is.of.active ∙ ap (λ (z : Hand O C R). z.0.number) now;
            count = omega arith;
            numbers = subst (λ (z : Hand O C R). z.0.numbers ≡ z.0.number ∷ numbers_of z.0.past) now refl;
            limit = ap (λ (z : Hand O C R). z.0.limit) me ∙ is.of.limit;
            origin = ap (λ (z : Hand O C R). z.0.origin) me ∙ is.of.origin;
          };
          empty = ap (λ (z : Hand O C R). z.1) me ∙ is.empty;
          free = ap (λ (z : Hand O C R). z.0.holds) me ∙ is.free;
        },
        omega arith,
      )

  pub pass_parted : (seat : Seat (Option (Store O C R)) (View O C R)) → seat.table_id ≡ q.seat.table_id → (let m : Hand O C R = (parted n k q.seat.me.0, []) in seat.me ≡ m)
      → IsPassOf cell (record { seat = seat; number = n; count = 1; first = false; made = 0 })
  pass_parted seat table me = let now : (let m : Hand O C R = (parted n k q.seat.me.0, []) in m ≡ seat.me) = sym me in record {
    of = record {
      table = table ∙ is.of.table;
      live = ap (λ (z : Hand O C R). z.0.live) me;
      numbered = ap (λ (z : Hand O C R). z.0.fresh) me;
      first = ap (λ (z : Hand O C R). z.0.leads) now;
      made = ap (λ (z : Hand O C R). z.0.made) now;
      active = ap (λ (z : Hand O C R). z.0.number) now;
      count = ap (λ (z : Hand O C R). length z.0.numbers) now;
      numbers = subst (λ (z : Hand O C R). z.0.numbers ≡ z.0.number ∷ numbers_of z.0.past) now refl;
      limit = ap (λ (z : Hand O C R). z.0.limit) me ∙ is.of.limit;
      origin = ap (λ (z : Hand O C R). z.0.origin) me ∙ is.of.origin;
    };
    empty = ap (λ (z : Hand O C R). z.1) me;
    free = ap (λ (z : Hand O C R). z.0.holds) me;
  }
