-- What a pass knows after several steps.
use Rattle.std.proofs.Common.{ne_eqb, add-zero, lit<, length-append, ◌≡◌, ℕ, ◌+◌, ◌*◌, ◌<◌, ◌≤◌, Bool, true, false, ◌||◌, List, [], ◌∷◌, ◌++◌, length, take, drop, refl, sym, ap, ◌∙◌, subst, arith, inl, inr, append_assoc, append-nil, add_assoc, zero, suc, Option, Some, None}
use Rattle.fam_base.specs.declared.naming.Stamp.{Stamp}
use Rattle.turn_cell.specs.declared.view.Entry.{Entry}
use Rattle.turn_cell.specs.declared.view.Part.{Part}
use Rattle.turn_cell.specs.declared.view.Store.{Store}
use Rattle.turn_cell.specs.declared.view.View.{View}
use Rattle.turn_cell.specs.Turn.{Hand, has, AllOthers, moved, turning, Later, KnowsOwn, Looks, IsStored, Takes, freed, released, Turned, IsOwn, Rises, Leads, Knows, starting, joined, last_part, numbers_of, pick}
use mathlib.Core.Logic.{dite}
use native.Mathlib.Decide.{ℕ_discrete}
use lib.ListN.{get_elem?}
use mathlib.Core.Option.{none, some, some-injective, some-ne-none}
use Rattle.atomic_table.specs.Table.{rest, step, opening, Allows}
use Rattle.atomic_table.specs.declared.shared.Seat.{Seat}
use Rattle.turn_cell.specs.declared.cell.Cell.{Cell}
use Rattle.turn_cell.specs.declared.cell.Pass.{Pass}
use Rattle.turn_cell.specs.Words.{HasTaken, IsOf, IsPassOf, CanGive, Held, IsHeld, IsReserved, IsMade, IsNew, IsCut, CutsView, entry, with_entry, let_go}
use Rattle.turn_cell.proofs.Lists.{drop_before, empty_if, take_all, has_one, has_first, not_both, others_append, take_before, rises_length, rises_snoc, leads_snoc, by_snoc, by_append, named_append, parts_still}
use Rattle.turn_cell.proofs.Steps.{SameRank, adds_one, releases, same_base}

module _ {O C R : Type 0} where
  pub later_one : (owner : C → Option ℕ) (v w : View O C R) (r missed : ℕ) → Looks owner v r missed w → Later v 1 missed w
  later_one owner v w r missed l = (l.0, l.1, l.2)

  pub later_again : (u v w : View O C R) (a b c d : ℕ) → Later u a b v → Later v c d w → Later u (a + c) (b + d) w
  later_again u v w a b c d p q = (
    p.0 ++ q.0,
    q.1 ∙ (ap (λ (z : View O C R). moved z q.0 c d) p.1 ∙ λ i. record u { seen = append_assoc u.seen p.0 q.0 i; looks = add_assoc u.looks a c i; missed = add_assoc u.missed b d i }),
    others_append u.numbers p.0 q.0 p.2 (subst (λ (z : View O C R). AllOthers z.numbers q.0) p.1 q.2),
  )

  same_moved : (v w : View O C R) (a b : ℕ) → Later v a b w → SameRank v w
  same_moved v w a b l = subst (SameRank v) (sym l.1) record { numbers = refl; owners = refl; fresh = refl; leads = refl; made = refl; given = refl; limit = refl; live = refl; number = refl; past = refl; origin = refl }

  same_turning : (v w : View O C R) (more : List (Entry C R)) (a b cut : ℕ) (base : O) → w ≡ turning v more a b cut base → SameRank v w
  same_turning v w more a b cut base e = subst (SameRank v) (sym e) record { numbers = refl; owners = refl; fresh = refl; leads = refl; made = refl; given = refl; limit = refl; live = refl; number = refl; past = refl; origin = refl }

  same_freed : (v w : View O C R) (x : Store O C R) → w ≡ freed v x → SameRank v w
  same_freed v w x e = subst (SameRank v) (sym e) record { numbers = refl; owners = refl; fresh = refl; leads = refl; made = refl; given = refl; limit = refl; live = refl; number = refl; past = refl; origin = refl }

  of_same : (cell : Cell O C R) (p : Pass O C R) (seat : Seat (Option (Store O C R)) (View O C R)) → IsOf cell p → seat.table_id ≡ p.seat.table_id → SameRank p.seat.me.0 seat.me.0
      → IsOf cell (record { seat = seat; number = p.number; count = p.count; first = p.first; made = p.made })
  of_same cell p seat is table s = record {
    table = table ∙ is.table;
    live = s.live ∙ is.live;
    numbered = s.fresh ∙ is.numbered;
    first = is.first ∙ sym s.leads;
    made = is.made ∙ sym s.made;
    active = is.active ∙ sym s.number;
    count = is.count ∙ ap length (sym s.numbers);
    numbers = s.numbers ∙ (is.numbers ∙ λ i. sym s.number i ∷ numbers_of (sym s.past i));
    limit = s.limit ∙ is.limit;
    origin = s.origin ∙ is.origin;
  }

  pub of_later : (cell : Cell O C R) (p : Pass O C R) (seat : Seat (Option (Store O C R)) (View O C R)) (a b : ℕ) → IsPassOf cell p → seat.table_id ≡ p.seat.table_id → seat.me.1 ≡ [] → Later p.seat.me.0 a b seat.me.0
      → IsPassOf cell (record { seat = seat; number = p.number; count = p.count; first = p.first; made = p.made })
  of_later cell p seat a b is table empty l = record {
    of = of_same cell p seat is.of table (same_moved p.seat.me.0 seat.me.0 a b l);
    empty = empty;
    free = ap (λ (z : View O C R). z.holds) l.1 ∙ is.free;
  }

  -- its number is one of its numbers
  pub has_number : (cell : Cell O C R) (p : Pass O C R) → IsOf cell p → has p.seat.me.0.number p.seat.me.0.numbers ≡ true
  has_number cell p is = ap (has p.seat.me.0.number) is.numbers ∙ has_first p.seat.me.0.number (numbers_of p.seat.me.0.past)

module _ {O C R M : Type 0} (meaning : O → M) (gives : M → C → R → M → Type 0) (held_back : M → ℕ) (owner : C → Option ℕ) where
  pub takes_later : (u v w : View O C R) (before after : List (ℕ × Option (Store O C R))) (a b : ℕ) → Later u a b v → before ≡ [] → (t : Takes meaning gives held_back owner v w before after)
      → HasTaken meaning gives held_back owner u (w, (0, None) ∷ []) (a + 1) (b + 0) t.0
  takes_later u v w before after a b p nil t = (
    p.0 ++ t.1,
    t.2,
    t.3 ∙ (ap (λ (z : View O C R). turning z t.1 1 0 t.0.cut t.2) p.1 ∙ λ i. record u { seen = append_assoc u.seen p.0 t.1 i; looks = add_assoc u.looks a 1 i; missed = add_assoc u.missed b 0 i; holds = true; cut = t.0.cut; base = Some t.2 }),
    others_append u.numbers p.0 t.1 p.2 (subst (λ (z : View O C R). AllOthers z.numbers t.1) p.1 t.4),
    refl,
    subst (λ (z : ℕ × Option O × List (Entry C R)). IsStored meaning gives held_back z.0 z.1 z.2 t.2 t.0) (λ i. (ap (λ (z : View O C R). z.limit) p.1 i, ap (λ (z : View O C R). z.origin) p.1 i, e i)) t.6,
    (let n = ap length e in let small = t.7 in omega arith),
    t.8,
  ) where
    e : v.seen ++ t.1 ≡ u.seen ++ (p.0 ++ t.1)
    e = ap (λ (z : View O C R). z.seen ++ t.1) p.1 ∙ append_assoc u.seen p.0 t.1

  abbrev in_hand : Option (Store O C R) → List (ℕ × Option (Store O C R)) → Option (Store O C R)
  in_hand d [] = d
  in_hand d (x ∷ xs) = x.1

  abbrev some_or : Store O C R → Option (Store O C R) → Store O C R
  some_or d None = d
  some_or d (Some x) = x

  pub store_taken : (u v : View O C R) (before : List (ℕ × Option (Store O C R))) (m n : Hand O C R) (a b : ℕ) → Later u a b v → before ≡ [] → (t : Takes meaning gives held_back owner v m.0 before m.1)
      → (r : Option (Store O C R)) → m.1 ≡ (0, r) ∷ rest m.1 → n ≡ (m.0, (0, None) ∷ rest m.1) → (x : Store O C R) → r ≡ Some x → HasTaken meaning gives held_back owner u n (a + 1) (b + 0) x
  store_taken u v before m n a b p nil t r out now x is =
      let same : t.0 ≡ x = ap (some_or x) (ap (in_hand r) (sym t.5 ∙ out) ∙ is) in
      let left : rest m.1 ≡ [] = ap rest t.5 ∙ nil in
      let now' : (let y : Hand O C R = (m.0, (0, None) ∷ []) in n ≡ y) = now ∙ ap (λ (l : List (ℕ × Option (Store O C R))). (m.0, (0, None) ∷ l)) left in
      subst (λ (z : Store O C R × Hand O C R). HasTaken meaning gives held_back owner u z.1 (a + 1) (b + 0) z.0) (λ i. (same i, sym now' i)) (takes_later u v m.0 before m.1 a b p nil t)

  pub of_taken : (cell : Cell O C R) (p : Pass O C R) (seat : Seat (Option (Store O C R)) (View O C R)) (a b : ℕ) (x : Store O C R) → IsPassOf cell p → seat.table_id ≡ p.seat.table_id → HasTaken meaning gives held_back owner p.seat.me.0 seat.me a b x
      → IsOf cell (record { seat = seat; number = p.number; count = p.count; first = p.first; made = p.made })
  of_taken cell p seat a b x is table t = of_same cell p seat is.of table (same_turning p.seat.me.0 seat.me.0 t.0 a b x.cut t.1 t.2)

pub first_carried : {A : Type 0} (l before : List (ℕ × A)) (x : ℕ × A) → l ≡ x ∷ before → l ≡ x ∷ rest l
first_carried l before x e = e ∙ ap (λ z. x ∷ z) (sym (ap rest e))

module _ {O C R M : Type 0} (meaning : O → M) (gives : M → C → R → M → Type 0) (held_back : M → ℕ) where
  pub length_stored : (limit : ℕ) (origin : Option O) (log : List (Entry C R)) (base : O) (x : Store O C R) → IsStored meaning gives held_back limit origin log base x → x.cut + length x.entries.items ≡ length log
  length_stored limit origin log base x s = let a = ap length s.whole in let b = s.cut_is in omega (arith, length-append s.before x.entries.items)

module _ {O C R : Type 0} (owner : C → Option ℕ) where
  pub own_with : (v : View O C R) (e : Entry C R) (any : O) → KnowsOwn owner v → has e.pass v.numbers ≡ true → e.pass ≡ v.number → IsOwn v.owners (owner e.call) → KnowsOwn owner (with_entry v e)
  own_with v e any o own named mine = let m = adds_one owner 0 any (e.pass + 1) v e own named mine (omega arith) in record {
    mine = by_snoc v.number v.seen (e ∷ []) ∙ (λ i. o.mine i ++ m.own i);
    parts = parts_still v.seen (e ∷ []) v.numbers v.number v.past (λ k _ ne. m.apart k ne) o.parts;
    owned = λ k h. by_append owner k v.numbers v.seen (e ∷ []) (o.owned k h) (m.by k v.numbers (λ _. refl));
    named = λ h all. named_append v.numbers v.seen (e ∷ []) (o.named h all) (own, tt);
  }

  pub own_cut : (v : View O C R) (cut : ℕ) (base : O) → KnowsOwn owner v → KnowsOwn owner (record v { holds = false; cut = cut; base = Some base })
  own_cut v cut base o = record { mine = o.mine; parts = o.parts; owned = o.owned; named = o.named }

  pub own_free : (v : View O C R) → KnowsOwn owner v → KnowsOwn owner (let_go v)
  own_free v o = record { mine = o.mine; parts = o.parts; owned = o.owned; named = o.named }

module _ {O C R M : Type 0} (meaning : O → M) (gives : M → C → R → M → Type 0) (held_back : M → ℕ) (owner : C → Option ℕ) where
  pub gives_now : (limit : ℕ) (origin : O) (slots id : ℕ) (cell : Cell O C R) (p : Pass O C R) (x : Store O C R) → (q : CanGive meaning gives held_back owner cell p x) → (m : Hand O C R) → m ≡ (p.seat.me.0, (0, Some x) ∷ rest p.seat.me.1)
      → (word : ℕ) → word ≡ 2 * (x.cut + length x.entries.items) → Allows (Turned meaning gives held_back owner limit origin) slots id m 0 (λ _. word) (released (step slots 0 word 0 none) m)
  gives_now limit origin slots id cell p x q m is word twice =
      let same : (let y : Hand O C R = (p.seat.me.0, (0, Some x) ∷ []) in m ≡ y) = is ∙ ap (λ (l : List (ℕ × Option (Store O C R))). (p.seat.me.0, (0, Some x) ∷ l)) (ap rest q.carries) in
      let A : Hand O C R → Type 0 = λ m. Allows (Turned meaning gives held_back owner limit origin) slots id m 0 (λ _. word) (released (step slots 0 word 0 none) m) in
      let stored = subst (λ (z : ℕ × Option O). IsStored meaning gives held_back z.0 z.1 (freed p.seat.me.0 x).seen q.base x) (λ i. (sym q.of.limit i, sym q.of.origin i)) q.stored in
      let long = length_stored meaning gives held_back p.seat.me.0.limit p.seat.me.0.origin (freed p.seat.me.0 x).seen q.base x stored in
      subst A (sym same) (releases meaning gives held_back owner limit origin slots id (p.seat.me.0, (0, Some x) ∷ []) x q.base q.new word refl q.holds q.of.live q.seen q.adds q.base_is stored q.kept (twice ∙ ap (λ (k : ℕ). 2 * k) long))

  pub given_back : (cell : Cell O C R) (p : Pass O C R) (x : Store O C R) → (q : CanGive meaning gives held_back owner cell p x) → (m : Hand O C R) → m ≡ (p.seat.me.0, (0, Some x) ∷ rest p.seat.me.1) → (n : Hand O C R)
      → ((y : Store O C R) → m.1 ≡ (0, Some y) ∷ [] → (n.0 ≡ freed m.0 y) × (n.1 ≡ [])) → (n.0 ≡ freed p.seat.me.0 x) × (n.1 ≡ [])
  given_back cell p x q m is n f = let t = f x (ap (λ (z : Hand O C R). z.1) is ∙ ap (λ (l : List (ℕ × Option (Store O C R))). (0, Some x) ∷ l) (ap rest q.carries)) in
      (t.0 ∙ ap (λ (z : Hand O C R). freed z.0 x) is, t.1)

  pub pass_given : (cell : Cell O C R) (p : Pass O C R) (x : Store O C R) (seat : Seat (Option (Store O C R)) (View O C R)) → CanGive meaning gives held_back owner cell p x → seat.table_id ≡ p.seat.table_id → seat.me.1 ≡ [] → seat.me.0 ≡ freed p.seat.me.0 x
      → IsPassOf cell (record { seat = seat; number = p.number; count = p.count; first = p.first; made = p.made })
  pass_given cell p x seat is table empty l = record {
    of = of_same cell p seat is.of table (same_freed p.seat.me.0 seat.me.0 x l);
    empty = empty;
    free = ap (λ (z : View O C R). z.holds) l;
  }

  -- what the view becomes where the cut stays
  freed_seen : (limit : ℕ) (origin : Option O) (v : View O C R) (base : O) (x y : Store O C R) (s : IsStored meaning gives held_back limit origin v.seen base x) → y.cut ≡ x.cut → (freed v y).seen ≡ s.before ++ y.entries.items
  freed_seen limit origin v base x y s same = ap (λ z. z ++ y.entries.items) (ap (take y.cut) s.whole ∙ take_before s.before x.entries.items y.cut (s.cut_is ∙ sym same))

  mine_after : (v : View O C R) (y : Store O C R) (new : List (Entry C R)) → (freed v y).seen ≡ v.seen ++ new → (freed v y).mine ≡ v.mine ++ new
  mine_after v y new e = ap (λ z. v.mine ++ z) (ap (drop (length v.seen)) e ∙ drop_before v.seen new)

  mine_still : (v : View O C R) (y : Store O C R) → (freed v y).seen ≡ v.seen → (freed v y).mine ≡ v.mine
  mine_still v y e = mine_after v y [] (e ∙ sym (append-nil v.seen)) ∙ append-nil v.mine

  pub held_gives : (h : Held O C R) → IsHeld meaning gives held_back owner h → (y : Store O C R) → y ≡ h.kept.store → CanGive meaning gives held_back owner h.cell.now h.pass.now y
  held_gives h is y same = let s = is.stored in let v = h.pass.now.seat.me.0 in let x = h.kept.store in let seen = freed_seen h.cell.now.limit (Some h.cell.now.table.shared.key.origin.value) v is.base x x s refl ∙ sym s.whole in
      subst (CanGive meaning gives held_back owner h.cell.now h.pass.now) (sym same) record {
        of = is.of;
        carries = is.carries;
        holds = is.holds;
        base = is.base;
        base_is = same_base meaning gives held_back owner 0 is.base v x is.cut_is ∙ is.base_is;
        new = [];
        seen = seen ∙ sym (append-nil v.seen);
        adds = inl refl;
        stored = subst (λ z. IsStored meaning gives held_back h.cell.now.limit (Some h.cell.now.table.shared.key.origin.value) z is.base x) (sym seen) s;
        kept = inl is.cut_is;
        small = (let n = ap length seen in let m = is.small in omega arith);
      }

  -- where nothing was added, the view is as it was
  pub held_freed : (h : Held O C R) → IsHeld meaning gives held_back owner h → (y : Store O C R) → y ≡ h.kept.store → freed h.pass.now.seat.me.0 y ≡ record h.pass.now.seat.me.0 { holds = false }
  held_freed h is y same = let s = is.stored in let v = h.pass.now.seat.me.0 in let x = h.kept.store in let seen = freed_seen h.cell.now.limit (Some h.cell.now.table.shared.key.origin.value) v is.base x x s refl ∙ sym s.whole in
      ap (freed v) same ∙ λ i. record v { seen = seen i; mine = mine_still v x seen i; holds = false; cut = is.cut_is i; base = same_base meaning gives held_back owner 0 is.base v x is.cut_is i }

  module _ (h : Held O C R) (is : IsHeld meaning gives held_back owner h) (y : Store O C R) (q : IsCut meaning held_back h.kept.store y) where
    cut_seen : (freed h.pass.now.seat.me.0 y).seen ≡ h.pass.now.seat.me.0.seen
    cut_seen = let v = h.pass.now.seat.me.0 in let long = length_stored meaning gives held_back h.cell.now.limit (Some h.cell.now.table.shared.key.origin.value) v.seen is.base h.kept.store is.stored in
        ap (λ (z : List (Entry C R)). take y.cut v.seen ++ z) q.entries ∙ (append-nil (take y.cut v.seen) ∙ (ap (λ (z : ℕ). take z v.seen) (q.cut ∙ long) ∙ take_all v.seen))

    -- what the object was at this cut, or at one with the same meaning
    cut_base : (b : O) × ((freed h.pass.now.seat.me.0 y).base ≡ Some b) × (meaning b ≡ meaning h.kept.store.object)
    cut_base = let v = h.pass.now.seat.me.0 in let x = h.kept.store in let s = is.stored in dite (ℕ_discrete y.cut v.cut)
        (λ e. let c = q.cut in let d = is.cut_is in let none_there : length x.entries.items ≡ 0 = omega arith in
        (is.base, same_base meaning gives held_back owner 0 is.base v y e ∙ is.base_is, subst (λ (z : List (Entry C R)). Leads gives (meaning is.base) z (meaning x.object)) (empty_if x.entries.items none_there) s.leads))
        (λ ne. (y.object, ap (λ b. pick b v.base (Some y.object)) (ne_eqb y.cut v.cut ne), ap meaning q.object))

    pub cut_gives : h.pass.now.seat.me.0.leads ≡ true → CanGive meaning gives held_back owner h.cell.now h.pass.now y
    cut_gives leads = let s = is.stored in let v = h.pass.now.seat.me.0 in let x = h.kept.store in let long = length_stored meaning gives held_back h.cell.now.limit (Some h.cell.now.table.shared.key.origin.value) v.seen is.base x s in record {
      of = is.of;
      carries = is.carries;
      holds = is.holds;
      base = cut_base.0;
      base_is = cut_base.1;
      new = [];
      seen = cut_seen ∙ sym (append-nil v.seen);
      adds = inl refl;
      stored = subst (λ z. IsStored meaning gives held_back h.cell.now.limit (Some h.cell.now.table.shared.key.origin.value) z cut_base.0 y) (sym cut_seen) record {
        run = subst (λ (z : O). Leads gives (meaning h.cell.now.table.shared.key.origin.value) v.seen (meaning z)) (sym q.object) s.run;
        before = v.seen;
        whole = sym (ap (λ (z : List (Entry C R)). v.seen ++ z) q.entries ∙ append-nil v.seen);
        cut_is = sym (q.cut ∙ long);
        leads = subst (λ (z : List (Entry C R)). Leads gives (meaning cut_base.0) z (meaning y.object)) (sym q.entries) (cut_base.2 ∙ ap meaning (sym q.object));
        rises = subst (λ (z : Stamp). Rises 0 v.seen z.0) (sym q.stamp) s.rises;
        room = (let a = q.room in let b = ap length q.entries in let c = ap (λ z. held_back (meaning z)) q.object in omega arith);
        within = (let a = s.within in let b = ap length q.entries in let c = ap (λ z. held_back (meaning z)) q.object in omega arith);
      };
      kept = inr leads;
      small = (let n = ap length cut_seen in let m = is.small in omega arith);
    }

    pub cut_freed : CutsView meaning h.kept.store.object h.pass.now.seat.me.0 (freed h.pass.now.seat.me.0 y)
    cut_freed = let long = length_stored meaning gives held_back h.cell.now.limit (Some h.cell.now.table.shared.key.origin.value) h.pass.now.seat.me.0.seen is.base h.kept.store is.stored in
        (cut_base.0, cut_base.2, λ i. record h.pass.now.seat.me.0 { seen = cut_seen i; mine = mine_still h.pass.now.seat.me.0 y cut_seen i; holds = false; cut = (q.cut ∙ long) i; base = cut_base.1 i })

    pub cut_small : h.kept.store.cut + length h.kept.store.entries.items < 18446744073709551616
    cut_small = let long = length_stored meaning gives held_back h.cell.now.limit (Some h.cell.now.table.shared.key.origin.value) h.pass.now.seat.me.0.seen is.base h.kept.store is.stored in let m = is.small in omega arith

  module _ (needs : M → C → ℕ) (fits : M → C → Type 0) (ready : O → C → R → Type 0) (h : Held O C R) (is : IsHeld meaning gives held_back owner h) (call : C) (copy reply : R) (stamp : Stamp)
      (q : IsReserved meaning held_back needs fits ready h.cell.now.limit h.kept call copy) (own : IsOwn h.pass.now.seat.me.0.owners (owner call)) (above : h.kept.store.stamp.0 < stamp.0) (y : Store O C R)
      (made : IsMade meaning gives held_back needs h.kept.store (entry stamp h.pass.now.number call reply) y) where
    made_seen : (freed h.pass.now.seat.me.0 y).seen ≡ h.pass.now.seat.me.0.seen ++ entry stamp h.pass.now.number call reply ∷ []
    made_seen = let s = is.stored in let e = entry stamp h.pass.now.number call reply in
        freed_seen h.cell.now.limit (Some h.cell.now.table.shared.key.origin.value) h.pass.now.seat.me.0 is.base h.kept.store y s made.cut ∙ (ap (λ z. s.before ++ z) made.entries ∙ (sym (append_assoc s.before h.kept.store.entries.items (e ∷ [])) ∙ ap (λ z. z ++ e ∷ []) (sym s.whole)))

    named : has h.pass.now.number h.pass.now.seat.me.0.numbers ≡ true
    named = subst (λ (k : ℕ). has k h.pass.now.seat.me.0.numbers ≡ true) (sym is.of.active) (has_number h.cell.now h.pass.now is.of)

    pub made_own : KnowsOwn owner (with_entry h.pass.now.seat.me.0 (entry stamp h.pass.now.number call reply))
    made_own = own_with owner h.pass.now.seat.me.0 (entry stamp h.pass.now.number call reply) is.base is.own named is.of.active own

    pub made_gives : CanGive meaning gives held_back owner h.cell.now h.pass.now y
    made_gives = let s = is.stored in let v = h.pass.now.seat.me.0 in let x = h.kept.store in let e = entry stamp h.pass.now.number call reply in
        let long : length v.seen ≤ x.stamp.0 = let r = rises_length 0 x.stamp.0 v.seen s.rises in omega arith in
        let more : length y.entries.items ≡ length x.entries.items + 1 = ap length made.entries ∙ length-append x.entries.items (e ∷ []) in record {
          of = is.of;
          carries = is.carries;
          holds = is.holds;
          base = is.base;
          base_is = same_base meaning gives held_back owner 0 is.base v y (made.cut ∙ is.cut_is) ∙ is.base_is;
          new = e ∷ [];
          seen = made_seen;
          adds = inr (e, refl, named, is.of.active, own);
          stored = record {
            run = subst (λ (z : List (Entry C R)). Leads gives (meaning h.cell.now.table.shared.key.origin.value) z (meaning y.object)) (sym made_seen)
                (leads_snoc gives (meaning h.cell.now.table.shared.key.origin.value) (meaning x.object) (meaning y.object) v.seen e s.run made.answer);
            before = s.before;
            whole = freed_seen h.cell.now.limit (Some h.cell.now.table.shared.key.origin.value) v is.base x y s made.cut;
            cut_is = s.cut_is ∙ sym made.cut;
            leads = subst (λ (z : List (Entry C R)). Leads gives (meaning is.base) z (meaning y.object)) (sym made.entries)
                (leads_snoc gives (meaning is.base) (meaning x.object) (meaning y.object) x.entries.items e s.leads made.answer);
            rises = subst (λ (z : List (Entry C R) × Stamp). Rises 0 z.0 z.1.0) (λ i. (sym made_seen i, sym made.stamp i)) (rises_snoc 0 x.stamp.0 v.seen e s.rises above);
            room = (let a = made.reserved in let b = q.room in let c = made.capacity in omega arith);
            within = (let a = made.reserved in let b = q.within in omega arith);
          };
          kept = inl (made.cut ∙ is.cut_is);
          small = (let a = q.early in let n = ap length made_seen in omega (arith, length-append v.seen (e ∷ [])));
        }

    pub made_freed : freed h.pass.now.seat.me.0 y ≡ with_entry h.pass.now.seat.me.0 (entry stamp h.pass.now.number call reply)
    made_freed = λ i. record h.pass.now.seat.me.0 { seen = made_seen i; mine = mine_after h.pass.now.seat.me.0 y (entry stamp h.pass.now.number call reply ∷ []) made_seen i; holds = false; cut = (made.cut ∙ is.cut_is) i; base = same_base meaning gives held_back owner 0 is.base h.pass.now.seat.me.0 y (made.cut ∙ is.cut_is) i }

  pub opens : (limit : ℕ) (x : O) (y : Store O C R) → IsNew meaning held_back x y → held_back (meaning x) ≤ limit
      → Turned meaning gives held_back owner limit x (opening (0 ∷ 1 ∷ []) (Some y ∷ []) (starting x limit))
  opens limit x y n low = record {
    log = [];
    lead_seat = 0;
    lead = starting x limit;
    two = refl;
    one = refl;
    ranks = record {
      there = refl;
      leads = refl;
      few = lit< tt;
      each = λ i v e. subst (λ (z : ℕ × View O C R). Knows owner limit x [] 1 0 (starting x limit) z.0 z.1) (λ j. (sym (only i v e).0 j, sym (only i v e).1 j)) record {
        sees = ([], refl, tt);
        below = λ k h. let e = has_one k 0 h in omega arith;
        is_given = λ k h. h;
        owned = λ k h. tt;
        one_leads = λ _. refl;
        unnumbered = λ h. absurd (not_both false refl h);
        mine = λ _. refl;
        parts = tt;
        no_parts = λ _. refl;
        limit_is = λ _. refl;
        origin_is = λ _. refl;
        once = (refl, tt);
      };
      apart = λ i j v w e f k _ _. (only i v e).0 ∙ sym (only j w f).0;
      owners_apart = λ i j v w e f k _ _. (only i v e).0 ∙ sym (only j w f).0;
      covered = λ k h. (0, starting x limit, refl, ap (λ (z : ℕ). has z (0 ∷ [])) (let e : k ≡ 0 = omega arith in e));
      named = tt;
      owned_given = tt;
      counted = refl;
      waiting = refl;
    };
    turn = inl record {
      even = refl;
      none_holds = λ i v e. ap (λ (z : View O C R). z.holds) (only i v e).1;
      value = y;
      base = x;
      home = refl;
      stored = record {
        run = ap meaning (sym n.object_is);
        before = [];
        whole = sym n.entries;
        cut_is = sym n.cut;
        leads = subst (λ (z : List (Entry C R)). Leads gives (meaning x) z (meaning y.object)) (sym n.entries) (ap meaning (sym n.object_is));
        rises = omega arith;
        room = (let a = n.room in let b = ap length n.entries in let c = ap (λ z. held_back (meaning z)) n.object_is in omega arith);
        within = (let b = ap length n.entries in let c = ap (λ z. held_back (meaning z)) n.object_is in omega arith);
      };
      cut_is = n.cut;
      base_is = refl;
    };
  } where
    only : (i : ℕ) (v : View O C R) → get_elem? (starting x limit ∷ []) i ≡ some v → (i ≡ 0) × (v ≡ starting x limit)
    only zero v e = (refl, sym (some-injective (starting x limit) v e))
    only (suc i) v e = absurd (some-ne-none v (sym e))

pick_first : {A : Type 0} (b : Bool) (x y : A) → b ≡ true → pick b x y ≡ x
pick_first true x y e = refl
pick_first false x y e = absurd (not_both false refl e)

pick_second : {A : Type 0} (b : Bool) (x y : A) → b ≡ false → pick b x y ≡ y
pick_second true x y e = absurd (not_both true e refl)
pick_second false x y e = refl

or_first : (b c : Bool) → b ≡ true → (b || c) ≡ true
or_first true c e = refl
or_first false c e = absurd (not_both false refl e)

or_second : (b c : Bool) → b ≡ false → (b || c) ≡ c
or_second true c e = absurd (not_both true e refl)
or_second false c e = refl

numbers_append : {C R : Type 0} (ps qs : List (Part C R)) → numbers_of (ps ++ qs) ≡ numbers_of ps ++ numbers_of qs
numbers_append [] qs = refl
numbers_append (p ∷ ps) qs = ap (λ z. p.number ∷ z) (numbers_append ps qs)

module _ {O C R : Type 0} where
  module _ (cell : Cell O C R) (p q : Pass O C R) (seat : Seat (Option (Store O C R)) (View O C R)) (is : IsPassOf cell p) (other : IsPassOf cell q) (table : seat.table_id ≡ p.seat.table_id) (me : let m : Hand O C R = (joined p.seat.me.0 q.seat.me.0, p.seat.me.1) in seat.me ≡ m) where
    joined_numbers : p.seat.me.0.numbers ++ q.seat.me.0.numbers ≡ p.seat.me.0.number ∷ numbers_of (p.seat.me.0.past ++ last_part q.seat.me.0 ∷ q.seat.me.0.past)
    joined_numbers = (λ i. is.of.numbers i ++ other.of.numbers i) ∙ ap (λ z. p.seat.me.0.number ∷ z) (sym (numbers_append p.seat.me.0.past (last_part q.seat.me.0 ∷ q.seat.me.0.past)))

    pass_with : (first : Bool) (made : ℕ) → first ≡ (q.seat.me.0.leads || p.seat.me.0.leads) → made ≡ pick q.seat.me.0.leads q.seat.me.0.made p.seat.me.0.made
        → IsPassOf cell (record { seat = seat; number = p.number; count = p.count + q.count; first = first; made = made })
    pass_with first made e f = let now : (let m : Hand O C R = (joined p.seat.me.0 q.seat.me.0, p.seat.me.1) in m ≡ seat.me) = sym me in record {
      of = record {
        table = table ∙ is.of.table;
        live = ap (λ (z : Hand O C R). z.0.live) me ∙ is.of.live;
        numbered = ap (λ (z : Hand O C R). z.0.fresh) me ∙ is.of.numbered;
        first = e ∙ ap (λ (z : Hand O C R). z.0.leads) now;
        made = f ∙ ap (λ (z : Hand O C R). z.0.made) now;
        active = is.of.active ∙ ap (λ (z : Hand O C R). z.0.number) now;
        count = let a = is.of.count in let b = other.of.count in let m = ap (λ (z : Hand O C R). length z.0.numbers) me in omega (arith, length-append p.seat.me.0.numbers q.seat.me.0.numbers);
        numbers = subst (λ (z : Hand O C R). z.0.numbers ≡ z.0.number ∷ numbers_of z.0.past) now joined_numbers;
        limit = ap (λ (z : Hand O C R). z.0.limit) me ∙ is.of.limit;
        origin = ap (λ (z : Hand O C R). z.0.origin) me ∙ is.of.origin;
      };
      empty = ap (λ (z : Hand O C R). z.1) me ∙ is.empty;
      free = ap (λ (z : Hand O C R). z.0.holds) me ∙ is.free;
    }

    pub joined_first : q.first ≡ true → IsPassOf cell (record { seat = seat; number = p.number; count = p.count + q.count; first = true; made = q.made })
    joined_first e = let leads : q.seat.me.0.leads ≡ true = sym other.of.first ∙ e in pass_with true q.made (sym (or_first q.seat.me.0.leads p.seat.me.0.leads leads)) (other.of.made ∙ sym (pick_first q.seat.me.0.leads q.seat.me.0.made p.seat.me.0.made leads))

    pub joined_second : q.first ≡ false → IsPassOf cell (record { seat = seat; number = p.number; count = p.count + q.count; first = p.first; made = p.made })
    joined_second e = let leads : q.seat.me.0.leads ≡ false = sym other.of.first ∙ e in
        pass_with p.first p.made (is.of.first ∙ sym (or_second q.seat.me.0.leads p.seat.me.0.leads leads)) (is.of.made ∙ sym (pick_second q.seat.me.0.leads q.seat.me.0.made p.seat.me.0.made leads))

module _ {O C R M : Type 0} (meaning : O → M) (gives : M → C → R → M → Type 0) (held_back : M → ℕ) (owner : C → Option ℕ) where
  pub taken_later : (u v : View O C R) (m : Hand O C R) (x : Store O C R) (a b c d : ℕ) → Later u a b v → HasTaken meaning gives held_back owner v m c d x → HasTaken meaning gives held_back owner u m (a + c) (b + d) x
  taken_later u v m x a b c d p t = (
    p.0 ++ t.0,
    t.1,
    t.2 ∙ (ap (λ (z : View O C R). turning z t.0 c d x.cut t.1) p.1 ∙ λ i. record u { seen = append_assoc u.seen p.0 t.0 i; looks = add_assoc u.looks a c i; missed = add_assoc u.missed b d i; holds = true; cut = x.cut; base = Some t.1 }),
    others_append u.numbers p.0 t.0 p.2 (subst (λ (z : View O C R). AllOthers z.numbers t.0) p.1 t.3),
    t.4,
    subst (λ (z : ℕ × Option O × List (Entry C R)). IsStored meaning gives held_back z.0 z.1 z.2 t.1 x) (λ i. (ap (λ (z : View O C R). z.limit) p.1 i, ap (λ (z : View O C R). z.origin) p.1 i, e i)) t.5,
    (let n = ap length e in let small = t.6 in omega arith),
    t.7,
  ) where
    e : v.seen ++ t.0 ≡ u.seen ++ (p.0 ++ t.0)
    e = ap (λ (z : View O C R). z.seen ++ t.0) p.1 ∙ append_assoc u.seen p.0 t.0

module _ {O C R : Type 0} where
  pub later_none : (v : View O C R) → Later v 0 0 v
  later_none v = ([], λ i. record v { seen = sym (append-nil v.seen) i; looks = sym (add-zero v.looks) i; missed = sym (add-zero v.missed) i }, tt)
