-- What the clauses say of cells, of passes and of a pass that has the turn.
use Rattle.std.specs.Prelude.{◌≡◌, ℕ, ◌+◌, ◌*◌, ◌<◌, ◌≤◌, true, false, List, [], ◌∷◌, ◌++◌, length, Option, Some, None, ◌⊎◌, vec_capacity}
use Rattle.std.specs.Prelude.{Vec}
use Rattle.std.specs.Global.{Global}
use Rattle.std.specs.Borrow.{GName}
use Rattle.fam_base.specs.declared.naming.Stamp.{Stamp}
use Rattle.turn_cell.specs.declared.view.Entry.{Entry}
use Rattle.turn_cell.specs.declared.view.Store.{Store}
use Rattle.turn_cell.specs.declared.view.Part.{Part}
use Rattle.turn_cell.specs.declared.view.View.{View}
use Rattle.turn_cell.specs.declared.cell.Cell.{Cell}
use Rattle.turn_cell.specs.declared.cell.Pass.{Pass}
use Rattle.turn_cell.specs.declared.cell.HeldWith.{HeldWith}
use Rattle.turn_cell.specs.declared.cell.Kept.{Kept}
use Rattle.turn_cell.specs.Turn.{has, by, total, one_if, pick, StartsWith, numbers_of, last_part, AllNamed, AllOthers, Rises, Hand, turning, freed, Later, KnowsOwn, Adds, IsStored, Leads, LeadsFrom}

module _ {O C R : Type 0} where
  -- how many entries there may be between two cuts, the reserved ones counted
  abbrev pub limit_of : Cell O C R → ℕ
  limit_of cell = cell.limit

  -- the object that the cell was made with
  abbrev pub origin_of : Cell O C R → O
  origin_of cell = cell.table.shared.key.origin.value

  -- what the pass knows
  abbrev pub view_of : Pass O C R → View O C R
  view_of p = p.seat.me.0

  -- the number that its entries name
  abbrev pub number_of : Pass O C R → ℕ
  number_of p = p.number

  -- how many passes are in it, itself counted
  abbrev pub count_of : Pass O C R → ℕ
  count_of p = p.count

  abbrev pub first_of : Pass O C R → ℕ
  first_of p = one_if p.first

  -- how many passes the first has made, itself counted, and 0 of another
  abbrev pub made_of : Pass O C R → ℕ
  made_of p = pick p.first (p.made + 1) 0

  -- a pass of this cell, whether it has the turn or not
  pub record IsOf (cell : Cell O C R) (pass : Pass O C R) : Type 0 where
    pub table : pass.seat.table_id ≡ cell.table.shared.table_id
    pub live : pass.seat.me.0.live ≡ true
    pub numbered : pass.seat.me.0.fresh ≡ false
    pub first : pass.first ≡ pass.seat.me.0.leads
    pub made : pass.made ≡ pass.seat.me.0.made
    pub active : pass.number ≡ pass.seat.me.0.number
    pub count : pass.count ≡ length pass.seat.me.0.numbers
    pub numbers : pass.seat.me.0.numbers ≡ pass.seat.me.0.number ∷ numbers_of pass.seat.me.0.past
    pub limit : pass.seat.me.0.limit ≡ limit_of cell
    pub origin : pass.seat.me.0.origin ≡ Some (origin_of cell)

  -- a pass of this cell that has not the turn
  pub record IsPassOf (cell : Cell O C R) (pass : Pass O C R) : Type 0 where
    pub of : IsOf cell pass
    pub empty : pass.seat.me.1 ≡ []
    pub free : pass.seat.me.0.holds ≡ false

  -- all but what it has seen
  abbrev pub IsSamePass : Pass O C R → Pass O C R → Type 0
  IsSamePass p q = (q.seat.table_id ≡ p.seat.table_id) × (q.seat.id ≡ p.seat.id) × (q.number ≡ p.number) × (q.count ≡ p.count) × (q.first ≡ p.first) × (q.made ≡ p.made)

module _ {O C R : Type 0} (owner : C → Option ℕ) where
  -- the turn was held or moved
  abbrev pub Missed : View O C R → View O C R → Type 0
  Missed v w = (looks : ℕ) × (looks ≤ 2) × Later v looks 1 w × KnowsOwn owner w

module _ {O C R M : Type 0} (meaning : O → M) (gives : M → C → R → M → Type 0) (held_back : M → ℕ) (owner : C → Option ℕ) where
  -- the view after the turn was taken, where the store is x
  abbrev pub HasTaken : View O C R → Hand O C R → ℕ → ℕ → Store O C R → Type 0
  HasTaken v m looks missed x = (more : List (Entry C R)) × (base : O) × (m.0 ≡ turning v more looks missed x.cut base) × AllOthers v.numbers more
      × (m.1 ≡ (0, None) ∷ []) × IsStored meaning gives held_back v.limit v.origin (v.seen ++ more) base x × (2 * length (v.seen ++ more) + 1 < 18446744073709551616) × KnowsOwn owner m.0

abbrev pub Held : Type 0 → Type 0 → Type 0 → Type 0
Held O C R = HeldWith O (Kept O C R) C R

module _ {O C R : Type 0} where
  -- the pass that has the turn, its cell, and what came out of the slot
  abbrev pub pass_of : Held O C R → Pass O C R
  pass_of h = h.pass.now

  -- which reference to the pass it has
  abbrev pub reference_of : Held O C R → GName
  reference_of h = h.pass.ghost_name

  abbrev pub cell_of : Held O C R → Cell O C R
  cell_of h = h.cell.now

  abbrev pub store_of : Held O C R → Store O C R
  store_of h = h.kept.store

  -- what the pass knows
  abbrev pub view_in : Held O C R → View O C R
  view_in h = h.pass.now.seat.me.0

  -- the view once the turn is given back
  abbrev pub let_go : View O C R → View O C R
  let_go v = record v { holds = false }

module _ {O C R M : Type 0} (meaning : O → M) (gives : M → C → R → M → Type 0) (held_back : M → ℕ) (owner : C → Option ℕ) where
  -- the pass has the turn, and all that it has seen is the history, which leads to the object
  pub record IsHeld (h : Held O C R) : Type 0 where
    pub of : IsOf (cell_of h) (pass_of h)
    pub carries : h.pass.now.seat.me.1 ≡ (0, None) ∷ []
    pub holds : (view_in h).holds ≡ true
    pub base : O
    pub base_is : (view_in h).base ≡ Some base
    pub stored : IsStored meaning gives held_back (limit_of (cell_of h)) (Some (origin_of (cell_of h))) (view_in h).seen base (store_of h)
    pub cut_is : (store_of h).cut ≡ (view_in h).cut
    pub small : 2 * length (view_in h).seen + 1 < 18446744073709551616
    pub own : KnowsOwn owner (view_in h)

  -- the turns of several cells
  abbrev pub AllHeld : List (Held O C R) → Type 0
  AllHeld [] = Unit {0}
  AllHeld (h ∷ hs) = IsHeld h × AllHeld hs

  -- the pass that knew v has taken the turn, by so many looks
  abbrev pub HasTurn : View O C R → ℕ → ℕ → Held O C R → Type 0
  HasTurn v looks missed h = HasTaken meaning gives held_back owner v h.pass.now.seat.me looks missed (store_of h)

  -- the pass may give the turn back, with x in the slot
  pub record CanGive (cell : Cell O C R) (pass : Pass O C R) (x : Store O C R) : Type 0 where
    pub of : IsOf cell pass
    pub carries : pass.seat.me.1 ≡ (0, None) ∷ []
    pub holds : pass.seat.me.0.holds ≡ true
    pub new : List (Entry C R)
    pub seen : (freed pass.seat.me.0 x).seen ≡ pass.seat.me.0.seen ++ new
    pub adds : Adds owner pass.seat.me.0 new
    pub base : O
    pub base_is : (freed pass.seat.me.0 x).base ≡ Some base
    pub stored : IsStored meaning gives held_back (limit_of cell) (Some (origin_of cell)) (freed pass.seat.me.0 x).seen base x
    pub kept : (x.cut ≡ pass.seat.me.0.cut) ⊎ (pass.seat.me.0.leads ≡ true)
    pub small : 2 * length (freed pass.seat.me.0 x).seen < 18446744073709551616

abbrev pub entry : {C R : Type 0} → Stamp → ℕ → C → R → Entry C R
entry stamp number call reply = record { stamp = stamp; pass = number; call = call; reply = reply }

module _ {O C R : Type 0} where
  -- the view after its call was added
  abbrev pub with_entry : View O C R → Entry C R → View O C R
  with_entry v e = record v { seen = v.seen ++ e ∷ []; mine = v.mine ++ e ∷ []; holds = false }

module _ {O C R M : Type 0} (meaning : O → M) where
  -- all but the object's room, the capacity and the reply that is to come
  abbrev pub SameBut : Kept O C R → Kept O C R → Type 0
  SameBut x y = (meaning y.store.object ≡ meaning x.store.object) × (y.store.entries.items ≡ x.store.entries.items) × (y.store.stamp ≡ x.store.stamp) × (y.store.cut ≡ x.store.cut)
      × (vec_capacity x.store.entries ≤ vec_capacity y.store.entries)

  -- the same turn: its pass, its cell, the entries, the stamp and the object's meaning
  abbrev pub IsSameTurn : Held O C R → Held O C R → Type 0
  IsSameTurn h i = (pass_of i ≡ pass_of h) × (cell_of i ≡ cell_of h) × SameBut h.kept i.kept

module _ {O C R M : Type 0} (meaning : O → M) (held_back : M → ℕ) (needs : M → C → ℕ) (fits : M → C → Type 0) (ready : O → C → R → Type 0) where
  -- there is room for the call and for its entry, and `copy` is the reply that is to be filled in
  pub record IsReserved (limit : ℕ) (k : Kept O C R) (call : C) (copy : R) : Type 0 where
    pub out : R
    pub kept : k.out ≡ Some out
    pub ready_out : ready k.store.object call out
    pub ready_copy : ready k.store.object call copy
    pub fitting : fits (meaning k.store.object) call
    pub room : length k.store.entries.items + held_back (meaning k.store.object) + needs (meaning k.store.object) call ≤ vec_capacity k.store.entries
    pub within : length k.store.entries.items + held_back (meaning k.store.object) + needs (meaning k.store.object) call ≤ limit
    pub early : k.store.stamp.0 < 4611686018427387904

  -- the turn has room for this call, to be answered into this reply
  abbrev pub HasRoom : Held O C R → C → R → Type 0
  HasRoom h call copy = IsReserved (limit_of (cell_of h)) h.kept call copy

module _ {O C R M : Type 0} (meaning : O → M) (held_back : M → ℕ) where
  -- how many entries there are since the last cut, the reserved ones counted
  abbrev pub used_of : Held O C R → ℕ
  used_of h = length (store_of h).entries.items + held_back (meaning (store_of h).object)

module _ {O C R M : Type 0} (meaning : O → M) (gives : M → C → R → M → Type 0) (held_back : M → ℕ) (needs : M → C → ℕ) where
  -- y is x after the call of the entry e
  pub record IsMade (x : Store O C R) (e : Entry C R) (y : Store O C R) : Type 0 where
    pub answer : gives (meaning x.object) e.call e.reply (meaning y.object)
    pub entries : y.entries.items ≡ x.entries.items ++ e ∷ []
    pub capacity : vec_capacity y.entries ≡ vec_capacity x.entries
    pub stamp : y.stamp ≡ e.stamp
    pub cut : y.cut ≡ x.cut
    pub reserved : held_back (meaning y.object) + 1 ≤ held_back (meaning x.object) + needs (meaning x.object) e.call

module _ {O C R M : Type 0} (meaning : O → M) (held_back : M → ℕ) where
  -- what is in the slot at the start
  pub record IsNew (object : O) (x : Store O C R) : Type 0 where
    pub object_is : x.object ≡ object
    pub entries : x.entries.items ≡ []
    pub stamp : x.stamp.0 ≡ 0
    pub cut : x.cut ≡ 0
    pub room : held_back (meaning object) ≤ vec_capacity x.entries

  pub record CanCut (k : Kept O C R) : Type 0 where
    pub blank : Vec (Entry C R) Global
    pub kept : k.blank ≡ Some blank
    pub empty : blank.items ≡ []
    pub room : held_back (meaning k.store.object) ≤ vec_capacity blank

  -- the turn has room for a cut
  abbrev pub HasRoomToCut : Held O C R → Type 0
  HasRoomToCut h = CanCut h.kept

  -- y is x with its entries taken out
  pub record IsCut (x y : Store O C R) : Type 0 where
    pub object : y.object ≡ x.object
    pub entries : y.entries.items ≡ []
    pub stamp : y.stamp ≡ x.stamp
    pub cut : y.cut ≡ x.cut + length x.entries.items
    pub room : held_back (meaning x.object) ≤ vec_capacity y.entries

module _ {O C R M : Type 0} (meaning : O → M) where
  -- the view after a cut, at which the object was x
  abbrev pub CutsView : O → View O C R → View O C R → Type 0
  CutsView x v w = (base : O) × (meaning base ≡ meaning x) × (w ≡ record v { holds = false; cut = length v.seen; base = Some base })

module _ {O C R M : Type 0} (meaning : O → M) (gives : M → C → R → M → Type 0) (held_back : M → ℕ) (owner : C → Option ℕ) where
  -- x is the object at the end, all that v has seen is the history, and es are its entries since the last cut
  pub record IsClosed (v : View O C R) (x : O) (es : List (Entry C R)) : Type 0 where
    pub before : List (Entry C R)
    pub base : O
    pub top : ℕ
    pub whole : v.seen ≡ before ++ es
    pub cut_is : length before ≡ v.cut
    pub base_is : v.base ≡ Some base
    pub run : LeadsFrom meaning gives v.origin v.seen (meaning x)
    pub leads : Leads gives (meaning base) es (meaning x)
    pub rises : Rises 0 v.seen top
    pub within : length es + held_back (meaning x) ≤ v.limit
    pub named : AllNamed v.numbers v.seen
    pub own : KnowsOwn owner v

module _ {C R : Type 0} where
  -- q's number and entries stand here, beside no less than q has seen
  abbrev pub IsIn : Part C R → Part C R → Type 0
  IsIn q p = (p.number ≡ q.number) × (p.entries ≡ q.entries) × StartsWith p.seen q.seen

  abbrev pub InParts : Part C R → List (Part C R) → Type 0
  InParts q [] = ⊥
  InParts q (p ∷ ps) = IsIn q p ⊎ InParts q ps

module _ {O C R : Type 0} where
  -- the view knows that these are all entries that name the part's number, and it has seen no less than that part
  abbrev pub Records : View O C R → Part C R → Type 0
  Records v q = IsIn q (last_part v) ⊎ InParts q v.past

  -- what p knows of its own entries, v knows too
  abbrev pub Gathers : View O C R → Pass O C R → Type 0
  Gathers v p = (q : Part C R) → Records (view_of p) q → Records v q

  abbrev pub AllOf : Cell O C R → List (Pass O C R) → Type 0
  AllOf cell [] = Unit {0}
  AllOf cell (p ∷ ps) = IsPassOf cell p × AllOf cell ps

  -- each is a pass of the cell at its place
  abbrev pub AllOfEach : List (Cell O C R) → List (Pass O C R) → Type 0
  AllOfEach cells [] = Unit {0}
  AllOfEach [] (p ∷ ps) = ⊥
  AllOfEach (c ∷ cs) (p ∷ ps) = IsPassOf c p × AllOfEach cs ps

  abbrev pub AllGather : View O C R → List (Pass O C R) → Type 0
  AllGather v [] = Unit {0}
  AllGather v (p ∷ ps) = Gathers v p × AllGather v ps

  -- of each pass and of each that was joined to it, the entries are those that it made, and what it had seen begins the history
  abbrev pub AllMade : List (Entry C R) → List (Pass O C R) → Type 0
  AllMade log [] = Unit {0}
  AllMade log (p ∷ ps) = ((q : Part C R) → Records (view_of p) q → (by q.number log ≡ q.entries) × StartsWith log q.seen) × AllMade log ps

  -- the numbers of all of them
  abbrev pub numbers_in : List (Pass O C R) → List ℕ
  numbers_in [] = []
  numbers_in (p ∷ ps) = (view_of p).numbers ++ numbers_in ps

  -- the first of them knows that the last cut was at this length, and what the object was then
  abbrev pub AllBased : ℕ → O → List (Pass O C R) → Type 0
  AllBased cut base [] = Unit {0}
  AllBased cut base (p ∷ ps) = ((view_of p).leads ≡ true → ((view_of p).cut ≡ cut) × ((view_of p).base ≡ Some base)) × AllBased cut base ps

  abbrev pub AllLedBy : View O C R → List (Pass O C R) → Type 0
  AllLedBy v [] = Unit {0}
  AllLedBy v (p ∷ ps) = ((view_of p).leads ≡ true → (v.leads ≡ true) × ((view_of p).cut ≡ v.cut) × ((view_of p).base ≡ v.base)) × AllLedBy v ps

  -- where some passes are one
  pub record IsJoined (cell : Cell O C R) (passes rest : List (Pass O C R)) (all : Pass O C R) : Type 0 where
    pub each : AllOf cell rest
    pub good : IsPassOf cell all
    pub count : all.count + total count_of rest ≡ total count_of passes
    pub one : first_of all + total first_of rest ≡ total first_of passes
    pub made : made_of all + total made_of rest ≡ total made_of passes
    pub done : List (Pass O C R)
    pub were : passes ≡ rest ++ done
    pub gathers : AllGather all.seat.me.0 done
    pub led : AllLedBy all.seat.me.0 done
    pub numbers : (k : ℕ) → has k all.seat.me.0.numbers ≡ true → has k (numbers_in done) ≡ true

module _ {O C R M : Type 0} (meaning : O → M) (gives : M → C → R → M → Type 0) (held_back : M → ℕ) where
  -- x is the object of the cell at its end, es are the entries since the last cut, and `before` are those before it, where these were its passes.
  -- All of them are a run of the object from the one that the cell was made with
  pub record Closes (cell : Cell O C R) (passes : List (Pass O C R)) (x : O) (es : List (Entry C R)) : Type 0 where
    pub before : List (Entry C R)
    pub run : Leads gives (meaning (origin_of cell)) (before ++ es) (meaning x)
    pub named : AllNamed (numbers_in passes) (before ++ es)
    pub made : AllMade (before ++ es) passes
    pub top : ℕ
    pub rises : Rises 0 (before ++ es) top
    pub within : length es + held_back (meaning x) ≤ limit_of cell
    pub base : O
    pub based : AllBased (length before) base passes
    pub leads : Leads gives (meaning base) es (meaning x)
