-- An operation that is issued is well made.
use Rattle.std.proofs.Common.{◌≡◌, ℕ, ◌+◌, ◌-◌, ◌*◌, ◌<◌, ◌≤◌, Bool, true, false, List, [], ◌∷◌, ◌++◌, refl, sym, ap, ◌∙◌, arith, subst, suc, zero, inl, inr, get_or, length-append}
use Rattle.std.specs.Prelude.{◌%◌, ◌==◌, ◌&&◌, ◌||◌, ◌⊎◌, not, Option, Some, None, All, slice_get, slice_set, map, length, take, drop, if◌then◌else◌}
use Rattle.std.specs.List.{flat_map}
use Rattle.std.specs.Option.{option_map}
use Rattle.std.proofs.lemmas.Bool.{cases_lt}
use Rattle.std.proofs.lemmas.Nat.{mod_below}
use Rattle.std.proofs.lemmas.List.{get_or_append_left}
use Rattle.std.proofs.Math.Nat.{le-mul_of_pos_right}
use Rattle.std.proofs.Math.Seq.{get_or-append_seam}
use Rattle.std.proofs.lemmas.List.Elements.{All-nil, All-cons, All-map}
use Rattle.std.proofs.lemmas.Option.{slice_get_within, slice_get-get_or, get_or_from_slice_get, slice_get-map}
use Rattle.fam_base.specs.Name.{is_between}
use Rattle.fam_base.specs.declared.naming.Descriptor.{Descriptor}
use Rattle.fam_model.specs.declared.call.DataOp.{DataOp}
use Rattle.fam_model.specs.declared.call.DataOp.TheVariants as data_op
use Rattle.fam_model.specs.declared.piece.MarkedPiece.{MarkedPiece}
use Rattle.fam_model.specs.declared.piece.Operation.{Operation}
use Rattle.fam_model.specs.declared.piece.Part.{Part}
use Rattle.fam_model.specs.declared.piece.PieceKind.{PieceKind}
use Rattle.fam_model.specs.declared.piece.PieceKind.TheVariants as kind
use Rattle.fam_model.specs.declared.piece.PlanKind.TheVariants as plan
use Rattle.fam_model.specs.declared.piece.PlanPiece.{PlanPiece}
use Rattle.fam_model.specs.declared.service.Service.{Service}
use Rattle.fam_model.specs.declared.state.Context.{Context}
use Rattle.fam_model.specs.declared.state.ProgramState.{ProgramState}
use Rattle.fam_model.specs.Atomic.{is_fetching, width_bytes}
use Rattle.fam_model.specs.IssueStep.{left_piece, new_operation}
use Rattle.fam_model.specs.Operations.{is_left, is_served, is_copy}
use Rattle.fam_model.specs.Pieces.{pieces, plan_kind, stripe_count, piece_at, read_piece, write_piece, reads, dealt, copies, all_cuts, part, strided, indexed, is_border, cut_where}
use Rattle.fam_model.specs.PieceStep.{is_read}
use Rattle.fam_model.specs.Services.{is_service}
use Rattle.fam_schedule.specs.Made.{IsMade}
use Rattle.fam_schedule.proofs.Acting.{all_flat}
use Rattle.fam_schedule.proofs.Finding.{get_zero, get_behind}
use Rattle.fam_schedule.proofs.Changes.{OldAt, NewAt, Grows, set_at}

-- stripes

-- the service is one that there may be
abbrev pub is_lawful : Service → Bool
is_lawful service = is_service service.servers service.stripes service.unit

first_true : (a b : Bool) → (a && b) ≡ true → a ≡ true
first_true true b e = refl
first_true false b e = cc

second_true : (a b : Bool) → (a && b) ≡ true → b ≡ true
second_true true b e = e
second_true false b e = cc

between_some : (n : ℕ) → is_between 1 8 n ≡ true → 0 < n
between_some n e = grind arith

some_stripes : (service : Service) → is_lawful service ≡ true → 0 < stripe_count service
some_stripes service e =
    let outer = first_true (is_between 1 8 service.servers && is_between 1 8 service.stripes) (is_between 64 65_536 service.unit)
    (first_true (is_between 1 8 service.servers && is_between 1 8 service.stripes && is_between 64 65_536 service.unit) (service.unit % 64 == 0) e) in
    let servers : 0 < service.servers = between_some service.servers (first_true (is_between 1 8 service.servers) (is_between 1 8 service.stripes) outer) in
    let stripes : 0 < service.stripes = between_some service.stripes (second_true (is_between 1 8 service.servers) (is_between 1 8 service.stripes) outer) in
    both_some service.servers service.stripes servers stripes
  where
    both_some : (n m : ℕ) → 0 < n → 0 < m → 0 < n * m
    both_some n m e f = let more : n ≤ n * m = le-mul_of_pos_right n f in omega arith

-- the piece lies on one of so many stripes
abbrev pub IsOn : ℕ → PlanPiece → Type 0
IsOn stripes piece = piece.place.stripe < stripes

on_any : (service : Service) (target : Descriptor) (k : PieceKind) (p : Part) (bytes : List ℕ) → 0 < stripe_count service → IsOn (stripe_count service) (piece_at service target k p bytes)
on_any service target k p bytes some = mod_below _ (stripe_count service) some

reads_on : (service : Service) (target : Descriptor) (parts : List Part) → 0 < stripe_count service → All (IsOn (stripe_count service)) (reads service target parts)
reads_on service target parts some =
    All-map (IsOn (stripe_count service)) (read_piece service target) (all_cuts service.unit target.base parts) (each (all_cuts service.unit target.base parts))
  where
    each : (ps : List Part) → All (λ p. IsOn (stripe_count service) (read_piece service target p)) ps
    each [] = All-nil (λ p. IsOn (stripe_count service) (read_piece service target p))
    each (p ∷ ps) = All-cons (λ q. IsOn (stripe_count service) (read_piece service target q)) p ps (on_any service target kind.Read p [] some) (each ps)

dealt_on : (service : Service) (target : Descriptor) (parts : List Part) (bytes : List ℕ) → 0 < stripe_count service → All (IsOn (stripe_count service)) (dealt service target parts bytes)
dealt_on service target [] bytes some = All-nil (IsOn (stripe_count service))
dealt_on service target (p ∷ parts) bytes some =
    All-cons (IsOn (stripe_count service)) (write_piece service target p (take p.n bytes)) (dealt service target parts (drop p.n bytes))
    (on_any service target kind.Write p (take p.n bytes) some) (dealt_on service target parts (drop p.n bytes) some)

copies_on : (service : Service) (from : Descriptor) (from_offset : ℕ) (to : Descriptor) (to_offset count : ℕ) → 0 < stripe_count service →
    All (IsOn (stripe_count service)) (copies service from from_offset to to_offset count)
copies_on service from from_offset to to_offset count some =
    let pair : Part → List PlanPiece =
    λ p. read_piece service from (part (from_offset + p.offset) p.n) ∷ write_piece service to (part (to_offset + p.offset) p.n) [] ∷ [] in
    all_flat pair (IsOn (stripe_count service))
    (cut_where (λ k. is_border service.unit (from.base + from_offset) k || is_border service.unit (to.base + to_offset) k) 0 count)
    (λ k p there.
    All-cons (IsOn (stripe_count service)) (read_piece service from (part (from_offset + p.offset) p.n)) (write_piece service to (part (to_offset + p.offset) p.n) [] ∷ [])
    (on_any service from kind.Read (part (from_offset + p.offset) p.n) [] some)
    (All-cons (IsOn (stripe_count service)) (write_piece service to (part (to_offset + p.offset) p.n) []) []
    (on_any service to kind.Write (part (to_offset + p.offset) p.n) [] some) (All-nil (IsOn (stripe_count service)))))

pub pieces_on : (service : Service) (op : DataOp) (from to : Descriptor) → 0 < stripe_count service → All (IsOn (stripe_count service)) (pieces service op from to)
pieces_on service (data_op.Get item offset count) from to some = reads_on service from (part offset count ∷ []) some
pieces_on service (data_op.Put item offset bytes) from to some = dealt_on service from (all_cuts service.unit from.base (part offset (length bytes) ∷ [])) bytes some
pieces_on service (data_op.Gather item first stride size count) from to some = reads_on service from (strided first stride size count) some
pieces_on service (data_op.Scatter item first stride size count bytes) from to some = dealt_on service from (all_cuts service.unit from.base (strided first stride size count)) bytes some
pieces_on service (data_op.GatherIndex item size places) from to some = reads_on service from (indexed size places) some
pieces_on service (data_op.ScatterIndex item size places bytes) from to some = dealt_on service from (all_cuts service.unit from.base (indexed size places)) bytes some
pieces_on service (data_op.Copy source from_offset target to_offset count) from to some = copies_on service from from_offset to to_offset count some
pieces_on service (data_op.Atomic item offset width op a b) from to some =
    All-cons (IsOn (stripe_count service)) (piece_at service from (kind.Atomic op width a b) (part offset (width_bytes width)) []) []
    (on_any service from (kind.Atomic op width a b) (part offset (width_bytes width)) [] some) (All-nil (IsOn (stripe_count service)))

-- a copy reads and writes in turn

pub odd_twice : (j : ℕ) → (suc (suc j) % 2 == 1) ≡ (j % 2 == 1)
odd_twice j = let same : suc (suc j) % 2 ≡ j % 2 = omega arith in ap (λ n. n == 1) same

same_some : {A : Type 0} (x y : A) → Some x ≡ Some y → x ≡ y
same_some x y e = cc

pairs_turn : (read write : Part → PlanPiece) (parts : List Part) (j : ℕ) (y : PlanPiece) → ((p : Part) → is_read (read p).kind ≡ true) → ((p : Part) → is_read (write p).kind ≡ false) →
    slice_get (flat_map (λ p. read p ∷ write p ∷ []) parts) j ≡ Some y → is_read y.kind ≡ not (j % 2 == 1)
pairs_turn read write [] j y r w at = let low : j < 0 = slice_get_within [] j y at in let no : ⊥ = omega arith in absurd no
pairs_turn read write (p ∷ parts) zero y r w at =
    let same : read p ≡ y = same_some (read p) y (sym (get_zero (read p) (write p ∷ flat_map (λ q. read q ∷ write q ∷ []) parts)) ∙ at) in
    ap (λ q. is_read q.kind) (sym same) ∙ r p
pairs_turn read write (p ∷ parts) (suc zero) y r w at =
    let rest = flat_map (λ q. read q ∷ write q ∷ []) parts in
    let behind : slice_get (write p ∷ rest) 0 ≡ Some y = get_behind (read p) (write p ∷ rest) 0 y at in
    let same : write p ≡ y = same_some (write p) y (sym (get_zero (write p) rest) ∙ behind) in
    ap (λ q. is_read q.kind) (sym same) ∙ w p
pairs_turn read write (p ∷ parts) (suc (suc j)) y r w at =
    let rest = flat_map (λ q. read q ∷ write q ∷ []) parts in
    let behind : slice_get (write p ∷ rest) (suc j) ≡ Some y = get_behind (read p) (write p ∷ rest) (suc j) y at in
    pairs_turn read write parts j y r w (get_behind (write p) rest j y behind) ∙ ap not (sym (odd_twice j))

fetch_or_put : (b : Bool) → is_copy (if b then plan.Fetch else plan.Put) ≡ false
fetch_or_put true = refl
fetch_or_put false = refl

pub copy_turns : (service : Service) (op : DataOp) (from to : Descriptor) (j : ℕ) (y : PlanPiece) → slice_get (pieces service op from to) j ≡ Some y →
    is_copy (plan_kind op) ≡ true → is_read y.kind ≡ not (j % 2 == 1)
copy_turns service (data_op.Get item offset count) from to j y at copy = cc
copy_turns service (data_op.Put item offset bytes) from to j y at copy = cc
copy_turns service (data_op.Gather item first stride size count) from to j y at copy = cc
copy_turns service (data_op.Scatter item first stride size count bytes) from to j y at copy = cc
copy_turns service (data_op.GatherIndex item size places) from to j y at copy = cc
copy_turns service (data_op.ScatterIndex item size places bytes) from to j y at copy = cc
copy_turns service (data_op.Copy source from_offset target to_offset count) from to j y at copy =
    pairs_turn (λ p. read_piece service from (part (from_offset + p.offset) p.n)) (λ p. write_piece service to (part (to_offset + p.offset) p.n) [])
    (cut_where (λ k. is_border service.unit (from.base + from_offset) k || is_border service.unit (to.base + to_offset) k) 0 count)
    j y (λ p. refl) (λ p. refl) at
copy_turns service (data_op.Atomic item offset width op a b) from to j y at copy = let no : true ≡ false = sym copy ∙ fetch_or_put (is_fetching op) in cc

-- the new operation

mapped : (o : Option PlanPiece) (y : MarkedPiece) → option_map left_piece o ≡ Some y → (x : PlanPiece) × (o ≡ Some x) × (y ≡ left_piece x)
mapped None y h = cc
mapped (Some x) y h = (x, refl, cc)

left_at : (ps : List PlanPiece) (j : ℕ) (y : MarkedPiece) → slice_get (map left_piece ps) j ≡ Some y → (x : PlanPiece) × (slice_get ps j ≡ Some x) × (y ≡ left_piece x)
left_at ps j y at = mapped (slice_get ps j) y (sym (slice_get-map left_piece ps j) ∙ at)

or_left : (a b : Bool) → a ≡ true → (a || b) ≡ true
or_left a b e = rw e refl

pub issued_made : (service : Service) (n call epoch : ℕ) (op : DataOp) (blocking : Bool) (from to : Descriptor) → is_lawful service ≡ true → call < n →
    IsMade (stripe_count service) n (new_operation call epoch op blocking (pieces service op from to))
issued_made service n call epoch op blocking from to lawful low =
    let ps = pieces service op from to in
    record {
      call = low;
      placed = All-map (λ marked. marked.piece.place.stripe < stripe_count service) left_piece ps (pieces_on service op from to (some_stripes service lawful));
      waits = λ j write at left is_write.
          let within : j < length (map left_piece ps) = slice_get_within (map left_piece ps) j write at in
          let before : j - 1 < length (map left_piece ps) = omega arith in
          let read = get_or (map left_piece ps) (j - 1) write in
          let read_at : slice_get (map left_piece ps) (j - 1) ≡ Some read = slice_get-get_or (map left_piece ps) (j - 1) write before in
          let from = left_at ps (j - 1) read read_at in
          let read_left : is_left read ≡ true = ap is_left from.2 in
          (read, read_at, or_left (is_left read) (is_served read.mark) read_left);
      turns = λ j piece at copy.
          let from_plan = left_at ps j piece at in
          ap (λ marked. is_read marked.piece.kind) from_plan.2 ∙ copy_turns service op from to j from_plan.0 from_plan.1 copy;
    }

-- one operation more

pub get_last : {A : Type 0} (xs : List A) (y : A) (k : ℕ) (z : A) → slice_get (xs ++ y ∷ []) k ≡ Some z → (k < length xs) ⊎ (length xs ≤ k) → (slice_get xs k ≡ Some z) ⊎ ((k ≡ length xs) × (z ≡ y))
get_last xs y k z at (inl low) =
    inl (slice_get-get_or xs k z low ∙ ap Some (sym (get_or_append_left xs (y ∷ []) z k low) ∙ get_or_from_slice_get (xs ++ y ∷ []) k z z at))
get_last xs y k z at (inr high) =
    let within : k < length (xs ++ y ∷ []) = slice_get_within (xs ++ y ∷ []) k z at in
    let longer : length (xs ++ y ∷ []) ≡ length xs + length (y ∷ []) = length-append xs (y ∷ []) in
    let one : length (y ∷ []) ≡ 1 = refl in
    let place : k ≡ length xs = omega arith in
    inr (place, sym (get_or_from_slice_get (xs ++ y ∷ []) k z z at) ∙ ap (λ i. get_or (xs ++ y ∷ []) i z) place ∙ get_or-append_seam xs y [] z)

from_issue : (stripes c d k : ℕ) (p next : ProgramState) (x y z : Context) (new o : Operation) → slice_get p.contexts c ≡ Some x → y.operations ≡ x.operations ++ new ∷ [] →
    new.call ≡ p.next_call → IsMade stripes next.next_call new → slice_get z.operations k ≡ Some o → ((d ≡ c) × (z ≡ y)) ⊎ (slice_get p.contexts d ≡ Some z) →
    OldAt stripes p d k o ⊎ NewAt stripes p next c (length x.operations) d k o
from_issue stripes c d k p next x y z new o there grown call made at (inr other) = inl (o, record { context = z; there = other; at = at }, refl, λ n m. m)
from_issue stripes c d k p next x y z new o there grown call made at (inl (place, is)) =
    by_last (get_last x.operations new k o (sym (ap (λ os. slice_get os k) (ap (λ w. w.operations) is ∙ grown)) ∙ at) (cases_lt k (length x.operations)))
  where
    by_last : (slice_get x.operations k ≡ Some o) ⊎ ((k ≡ length x.operations) × (o ≡ new)) → OldAt stripes p d k o ⊎ NewAt stripes p next c (length x.operations) d k o
    by_last (inl old) = inl (o, record { context = x; there = ap (slice_get p.contexts) place ∙ there; at = old }, refl, λ n m. m)
    by_last (inr (last, same)) =
        inr (record { in_context = place; at_place = last; call = ap (λ q. q.call) same ∙ call; made = subst (IsMade stripes next.next_call) (sym same) made })

pub grows_issued : (stripes : ℕ) (p next : ProgramState) (c : ℕ) (x y : Context) (new : Operation) → slice_get p.contexts c ≡ Some x → y.operations ≡ x.operations ++ new ∷ [] →
    new.call ≡ p.next_call → IsMade stripes next.next_call new → next.contexts ≡ slice_set p.contexts c y → p.next_call ≤ next.next_call → Grows stripes p next
grows_issued stripes p next c x y new there grown call made same h =
    record {
      number = h;
      context = c;
      place = length x.operations;
      from = λ d k o at.
          from_issue stripes c d k p next x y at.context new o there grown call made at.at
          (set_at (d == c) p.contexts c d x y at.context refl there (ap (λ cs. slice_get cs d) (sym same) ∙ at.there));
    }
