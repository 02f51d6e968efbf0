-- What the steps of a program keep.
use Rattle.std.proofs.Common.{◌≡◌, ℕ, ◌+◌, ◌≤◌, suc, List, length, map, Some, Bool, true, false, sym, ap, subst, ◌∙◌, arith, refl}
use Rattle.std.specs.Prelude.{not, if◌then◌else◌, All, slice_get, IsTrue}
use Rattle.std.specs.Option.{option_map}
use Rattle.std.proofs.lemmas.List.{length-take}
use Rattle.std.proofs.lemmas.List.Elements.{All-nil, All-map, All-set, All-weaker}
use Rattle.std.proofs.lemmas.Option.{none-some, same_Some, slice_get-map}
use Rattle.fam_model.specs.declared.piece.Mark.{Mark}
use Rattle.fam_model.specs.declared.piece.Mark.TheVariants as mark
use Rattle.fam_model.specs.declared.piece.MarkedPiece.{MarkedPiece}
use Rattle.fam_model.specs.declared.piece.Operation.{Operation}
use Rattle.fam_model.specs.declared.piece.PlanPiece.{PlanPiece}
use Rattle.fam_model.specs.declared.reply.PieceAnswer.{PieceAnswer}
use Rattle.fam_model.specs.declared.reply.Reply.{Reply}
use Rattle.fam_model.specs.declared.rows.Rows.{Rows}
use Rattle.fam_model.specs.declared.state.Context.{Context}
use Rattle.fam_model.specs.declared.state.Started.{Started}
use Rattle.fam_model.specs.declared.state.Started.TheVariants as started
use Rattle.fam_model.specs.declared.state.ProgramState.{ProgramState}
use Rattle.fam_model.specs.ContextStep.{answer_step, answered_step, new_context, open_step, fence_step, quiet_step, close_step, wait_step, with_nothing_started}
use Rattle.fam_model.specs.Directory.{Memory}
use Rattle.fam_model.specs.Limits.{Limits}
use Rattle.fam_model.specs.Lists.{when, change_place}
use Rattle.fam_model.specs.Operations.{is_copy, as_reported, reported}
use Rattle.fam_model.specs.PieceStep.{bytes_found, marked, handed, is_refused, is_read, is_copy_read, with_answer, without_piece, piece_step, lose_step}
use Rattle.fam_model.specs.Programs.{Placed, placed, context_of, operation_of, call_number, open_context, is_open, with_context, with_placed, with_operation, unreported_copy, counted}
use Rattle.fam_machine.specs.Sound.{IsSoundPiece, IsSoundOperation, IsSoundContext, HoldsSound, ArePaired, piece_extent, may_have}
use Rattle.fam_machine.proofs.Lists.{bind_some, when_some, both_true, All-at, All-found, All-change_place, All-change_number, map-change_place}

-- what a step of a program leaves, where its call number rises by n
pub record IsNext (rows : Rows) (n : ℕ) (p q : ProgramState) : Type 0 where
  pub who : q.who ≡ p.who
  pub is_local : q.is_local ≡ p.is_local
  pub standing : q.standing ≡ p.standing
  pub arrived : q.arrived ≡ p.arrived
  pub next : q.next_call ≡ p.next_call + n
  pub holds : HoldsSound rows q

-- operations

-- what was only marked is as sound as before
marked_sound : (rows : Rows) (new : Mark) (m : MarkedPiece) → IsSoundPiece rows m.piece → IsSoundPiece rows (marked new m).piece
marked_sound rows new m sound = sound

handed_extent : (given : PieceAnswer) (bytes : List ℕ) (m : MarkedPiece) (refused : Bool) → piece_extent (if refused then marked mark.Gone m else record m { piece = record m.piece { bytes = bytes } }) ≡ piece_extent m
handed_extent given bytes m true = refl
handed_extent given bytes m false = refl

handed_sound : (rows : Rows) (bytes : List ℕ) (m : MarkedPiece) (refused : Bool) → length bytes ≤ m.piece.n → IsSoundPiece rows m.piece → IsSoundPiece rows (if refused then marked mark.Gone m else record m { piece = record m.piece { bytes = bytes } }).piece
handed_sound rows bytes m true few sound = sound
handed_sound rows bytes m false few sound =
    record { number = sound.number; inside = sound.inside; sound_kind = sound.sound_kind; few = few }

-- the operation with one piece marked
abbrev with_mark : Operation → ℕ → Mark → List MarkedPiece
with_mark operation j new = change_place j (marked new) operation.pieces

with_mark_sound : (rows : Rows) (operation : Operation) (j : ℕ) (new : Mark) → IsSoundOperation rows operation → All (λ m. IsSoundPiece rows m.piece) (with_mark operation j new)
with_mark_sound rows operation j new sound =
    All-change_place (λ m. IsSoundPiece rows m.piece) j (marked new) operation.pieces (λ m e s. s) sound.inside

with_mark_extents : (operation : Operation) (j : ℕ) (new : Mark) → map piece_extent (with_mark operation j new) ≡ map piece_extent operation.pieces
with_mark_extents operation j new = map-change_place piece_extent j (marked new) operation.pieces (λ m. refl)

-- what follows the read of a copy has as many bytes
next_of_read : (rows : Rows) (operation : Operation) (j : ℕ) (new : Mark) (left m : MarkedPiece) → IsSoundOperation rows operation → slice_get operation.pieces j ≡ Some left → is_copy_read operation left.piece ≡ true → slice_get (with_mark operation j new) (j + 1) ≡ Some m → m.piece.n ≡ left.piece.n
next_of_read rows operation j new left m sound e read f =
    let tests = both_true (is_copy operation.kind) (is_read left.piece.kind) read in
    let at_j : slice_get (map piece_extent operation.pieces) j ≡ Some (piece_extent left) = slice_get-map piece_extent operation.pieces j ∙ ap (option_map piece_extent) e in
    let behind : slice_get (map piece_extent operation.pieces) (suc j) ≡ Some (piece_extent m) =
    ap (λ xs. slice_get xs (suc j)) (sym (with_mark_extents operation j new)) ∙ slice_get-map piece_extent (with_mark operation j new) (suc j)
    ∙ ap (option_map piece_extent) (subst (λ k. slice_get (with_mark operation j new) k ≡ Some m) {x = j + 1} {y = suc j} (omega arith) f)
    in
    sound.paired tests.0 j (piece_extent left) (piece_extent m) at_j behind tests.1

answered_pieces : (rows : Rows) (operation : Operation) (j : ℕ) (left : MarkedPiece) (given : PieceAnswer) (bytes : List ℕ) → IsSoundOperation rows operation → slice_get operation.pieces j ≡ Some left → length bytes ≤ left.piece.n → (test : Bool) → is_copy_read operation left.piece ≡ test → All (λ m. IsSoundPiece rows m.piece) (if test then change_place (j + 1) (handed given bytes) (with_mark operation j (mark.Answered given)) else with_mark operation j (mark.Answered given))
answered_pieces rows operation j left given bytes sound e few false t = with_mark_sound rows operation j (mark.Answered given) sound
answered_pieces rows operation j left given bytes sound e few true t =
    All-change_place (λ m. IsSoundPiece rows m.piece) (j + 1) (handed given bytes) (with_mark operation j (mark.Answered given))
    (λ m f s. let same = next_of_read rows operation j (mark.Answered given) left m sound e t f in handed_sound rows bytes m (is_refused given) (omega arith) s)
    (with_mark_sound rows operation j (mark.Answered given) sound)

answered_extents : (operation : Operation) (j : ℕ) (given : PieceAnswer) (bytes : List ℕ) (test : Bool) → map piece_extent (if test then change_place (j + 1) (handed given bytes) (with_mark operation j (mark.Answered given)) else with_mark operation j (mark.Answered given)) ≡ map piece_extent operation.pieces
answered_extents operation j given bytes false = with_mark_extents operation j (mark.Answered given)
answered_extents operation j given bytes true =
    map-change_place piece_extent (j + 1) (handed given bytes) (with_mark operation j (mark.Answered given)) (λ m. handed_extent given bytes m (is_refused given))
    ∙ with_mark_extents operation j (mark.Answered given)

-- an answered piece leaves its operation sound
pub with_answer_sound : (rows : Rows) (operation : Operation) (j : ℕ) (left : MarkedPiece) (given : PieceAnswer) (bytes : List ℕ) → IsSoundOperation rows operation → slice_get operation.pieces j ≡ Some left → length bytes ≤ left.piece.n → IsSoundOperation rows (with_answer operation j left.piece given bytes)
with_answer_sound rows operation j left given bytes sound e few =
    record {
      inside = answered_pieces rows operation j left given bytes sound e few (is_copy_read operation left.piece) refl;
      kinds = subst (All (λ extent. IsTrue (may_have operation.kind extent.0))) (sym (answered_extents operation j given bytes (is_copy_read operation left.piece))) sound.kinds;
      paired = λ copy. subst ArePaired (sym (answered_extents operation j given bytes (is_copy_read operation left.piece))) (sound.paired copy);
    }

lost_pieces : (rows : Rows) (operation : Operation) (j : ℕ) → IsSoundOperation rows operation → (test : Bool) → All (λ m. IsSoundPiece rows m.piece) (if test then change_place (j + 1) (marked mark.Gone) (with_mark operation j mark.Gone) else with_mark operation j mark.Gone)
lost_pieces rows operation j sound false = with_mark_sound rows operation j mark.Gone sound
lost_pieces rows operation j sound true =
    All-change_place (λ m. IsSoundPiece rows m.piece) (j + 1) (marked mark.Gone) (with_mark operation j mark.Gone) (λ m f s. s)
    (with_mark_sound rows operation j mark.Gone sound)

lost_extents : (operation : Operation) (j : ℕ) (test : Bool) → map piece_extent (if test then change_place (j + 1) (marked mark.Gone) (with_mark operation j mark.Gone) else with_mark operation j mark.Gone) ≡ map piece_extent operation.pieces
lost_extents operation j false = with_mark_extents operation j mark.Gone
lost_extents operation j true =
    map-change_place piece_extent (j + 1) (marked mark.Gone) (with_mark operation j mark.Gone) (λ m. refl) ∙ with_mark_extents operation j mark.Gone

-- so does a lost one
pub without_piece_sound : (rows : Rows) (operation : Operation) (j : ℕ) (piece : PlanPiece) → IsSoundOperation rows operation → IsSoundOperation rows (without_piece operation j piece)
without_piece_sound rows operation j piece sound =
    record {
      inside = lost_pieces rows operation j sound (is_copy_read operation piece);
      kinds = subst (All (λ extent. IsTrue (may_have operation.kind extent.0))) (sym (lost_extents operation j (is_copy_read operation piece))) sound.kinds;
      paired = λ copy. subst ArePaired (sym (lost_extents operation j (is_copy_read operation piece))) (sound.paired copy);
    }

-- and so does telling its result
as_reported_sound : (rows : Rows) (operation : Operation) → IsSoundOperation rows operation → IsSoundOperation rows (as_reported operation)
as_reported_sound rows operation sound = record { inside = sound.inside; kinds = sound.kinds; paired = sound.paired }

reported_sound : (rows : Rows) (context : Context) → IsSoundContext rows context → IsSoundContext rows (reported context)
reported_sound rows context sound =
    All-map (IsSoundOperation rows) as_reported context.operations
    (All-weaker (IsSoundOperation rows) (λ o. IsSoundOperation rows (as_reported o)) (as_reported_sound rows) context.operations sound)

-- contexts

open_context_at : (p : ProgramState) (c : ℕ) (context : Context) → open_context p c ≡ Some context → slice_get p.contexts c ≡ Some context
open_context_at p c context e =
    let there = bind_some (slice_get p.contexts c) (λ context. when context.is_open context) context e in
    there.1 ∙ ap (λ x. Some x) (when_some there.0.is_open there.0 context there.2).1

pub open_context_sound : (rows : Rows) (p : ProgramState) (c : ℕ) (context : Context) → HoldsSound rows p → open_context p c ≡ Some context → IsSoundContext rows context
open_context_sound rows p c context holds e = All-at (IsSoundContext rows) p.contexts c context holds.operations (open_context_at p c context e)

-- a program with another context in place of one
with_context_sound : (rows : Rows) (p : ProgramState) (c : ℕ) (context : Context) → HoldsSound rows p → IsSoundContext rows context → HoldsSound rows (with_context p c context)
with_context_sound rows p c context holds sound =
    record { slots = holds.slots; operations = All-set (IsSoundContext rows) p.contexts c context sound holds.operations }

with_operation_sound : (rows : Rows) (context : Context) (operation : Operation) → IsSoundContext rows context → IsSoundOperation rows operation → IsSoundContext rows (with_operation context operation)
with_operation_sound rows context operation all sound =
    All-change_number (IsSoundOperation rows) call_number operation.call (λ x. operation) context.operations (λ x s. sound) all

-- where the operation of a call is
pub record IsPlacedSound (rows : Rows) (p : ProgramState) (at : Placed) : Type 0 where
  pub there : slice_get p.contexts at.number ≡ Some at.context
  pub context : IsSoundContext rows at.context
  pub operation : IsSoundOperation rows at.operation

pub placed_sound : (rows : Rows) (p : ProgramState) (call : ℕ) (at : Placed) → HoldsSound rows p → placed p call ≡ Some at → IsPlacedSound rows p at
placed_sound rows p call at holds e =
    let one = bind_some (context_of p call) _ at e in
    let two = bind_some (slice_get p.contexts one.0) _ at one.2 in
    let three = bind_some (operation_of two.0 call) _ at two.2 in
    let sound = All-at (IsSoundContext rows) p.contexts one.0 two.0 holds.operations two.1 in
    let found = All-found (IsSoundOperation rows) call_number call two.0.operations three.0 sound three.1 in
    subst (IsPlacedSound rows p) (same_Some _ at three.2) (record { there = two.1; context = sound; operation = found })

with_placed_sound : (rows : Rows) (p : ProgramState) (at : Placed) (operation : Operation) → HoldsSound rows p → IsPlacedSound rows p at → IsSoundOperation rows operation → HoldsSound rows (with_placed p at operation)
with_placed_sound rows p at operation holds place sound =
    with_context_sound rows p at.number (with_operation at.context operation) holds (with_operation_sound rows at.context operation place.context sound)

-- steps

-- a program that has made a call, and else is as it was
pub counted_next : (rows : Rows) (p : ProgramState) → HoldsSound rows p → IsNext rows 1 p (counted p)
counted_next rows p holds =
    record { who = refl; is_local = refl; standing = refl; arrived = refl; next = refl; holds = record { slots = holds.slots; operations = holds.operations } }

context_next : (rows : Rows) (p : ProgramState) (c : ℕ) (context : Context) → HoldsSound rows p → IsSoundContext rows context → IsNext rows 1 p (with_context (counted p) c context)
context_next rows p c context holds sound =
    record {
      who = refl;
      is_local = refl;
      standing = refl;
      arrived = refl;
      next = refl;
      holds = with_context_sound rows (counted p) c context (counted_next rows p holds).holds sound;
    }

placed_next : (rows : Rows) (p : ProgramState) (at : Placed) (operation : Operation) → HoldsSound rows p → IsPlacedSound rows p at → IsSoundOperation rows operation → IsNext rows 0 p (with_placed p at operation)
placed_next rows p at operation holds place sound =
    record {
      who = refl;
      is_local = refl;
      standing = refl;
      arrived = refl;
      next = omega arith;
      holds = with_placed_sound rows p at operation holds place sound;
    }

-- where nothing is started any more
idle_next : (rows : Rows) (p q : ProgramState) → IsNext rows 0 p q → IsNext rows 0 p (with_nothing_started q)
idle_next rows p q is_next =
    record {
      who = is_next.who;
      is_local = is_next.is_local;
      standing = is_next.standing;
      arrived = is_next.arrived;
      next = is_next.next;
      holds = record { slots = is_next.holds.slots; operations = is_next.holds.operations };
    }

pub same_next : (rows : Rows) (p : ProgramState) → HoldsSound rows p → IsNext rows 0 p p
same_next rows p holds =
    record { who = refl; is_local = refl; standing = refl; arrived = refl; next = omega arith; holds = holds }

pub open_next : (rows : Rows) (p q : ProgramState) (c : ℕ) → HoldsSound rows p → open_step p c ≡ Some q → IsNext rows 1 p q
open_next rows p q c holds e =
    subst (IsNext rows 1 p) (when_some (not (is_open p c)) _ q e).1
    (context_next rows p c new_context holds (All-nil (IsSoundOperation rows)))

pub fence_next : (rows : Rows) (p q : ProgramState) (c : ℕ) → HoldsSound rows p → fence_step p c ≡ Some q → IsNext rows 1 p q
fence_next rows p q c holds e =
    let there = bind_some (open_context p c) _ q e in
    subst (IsNext rows 1 p) (same_Some _ q there.2)
    (context_next rows p c (record there.0 { epoch = there.0.epoch + 1 }) holds (open_context_sound rows p c there.0 holds there.1))

pub quiet_next : (rows : Rows) (p q : ProgramState) (c : ℕ) (given : Reply) → HoldsSound rows p → quiet_step p c given ≡ Some q → IsNext rows 1 p q
quiet_next rows p q c given holds e =
    let there = bind_some (open_context p c) _ q e in
    subst (IsNext rows 1 p) (when_some _ _ q there.2).1
    (context_next rows p c (reported there.0) holds (reported_sound rows there.0 (open_context_sound rows p c there.0 holds there.1)))

pub close_next : (rows : Rows) (p q : ProgramState) (c : ℕ) (given : Reply) → HoldsSound rows p → close_step p c given ≡ Some q → IsNext rows 1 p q
close_next rows p q c given holds e =
    let there = bind_some (open_context p c) _ q e in
    subst (IsNext rows 1 p) (when_some _ _ q there.2).1
    (context_next rows p c (record (reported there.0) { is_open = false }) holds (reported_sound rows there.0 (open_context_sound rows p c there.0 holds there.1)))

pub wait_next : (rows : Rows) (p q : ProgramState) (c named : ℕ) (given : Reply) → HoldsSound rows p → wait_step p c named given ≡ Some q → IsNext rows 1 p q
wait_next rows p q c named given holds e =
    let one = bind_some (slice_get p.contexts c) _ q e in
    let two = bind_some (unreported_copy p c named) _ q one.2 in
    let again = bind_some (slice_get p.contexts c) _ two.0 two.1 in
    let found = bind_some (operation_of again.0 named) _ two.0 again.2 in
    let same : found.0 ≡ two.0 = (when_some _ _ two.0 found.2).1 in
    let sound = All-at (IsSoundContext rows) p.contexts c one.0 holds.operations one.1 in
    let before = All-at (IsSoundContext rows) p.contexts c again.0 holds.operations again.1 in
    let operation = subst (IsSoundOperation rows) same (All-found (IsSoundOperation rows) call_number named again.0.operations found.0 before found.1) in
    subst (IsNext rows 1 p) (when_some _ _ q two.2).1
    (context_next rows p c (with_operation one.0 (as_reported two.0)) holds
    (with_operation_sound rows one.0 (as_reported two.0) sound (as_reported_sound rows two.0 operation)))

answered_next : (rows : Rows) (p q : ProgramState) (call : ℕ) (given : Reply) → HoldsSound rows p → answered_step p call given ≡ Some q → IsNext rows 0 p q
answered_next rows p q call given holds e =
    let there = bind_some (placed p call) _ q e in
    let place = placed_sound rows p call there.0 holds there.1 in
    subst (IsNext rows 0 p) (when_some _ _ q there.2).1
    (idle_next rows p _ (placed_next rows p there.0 (as_reported there.0.operation) holds place (as_reported_sound rows there.0.operation place.operation)))

pub answer_next : (rows : Rows) (begun : Started) (round : ℕ) (p q : ProgramState) (given : Reply) → HoldsSound rows p → answer_step begun round p given ≡ Some q → IsNext rows 0 p q
answer_next rows started.Nothing round p q given holds e = absurd (none-some q e)
answer_next rows (started.Operation call) round p q given holds e = answered_next rows p q call given holds e
answer_next rows (started.Barrier call) round p q given holds e =
    subst (IsNext rows 0 p) (when_some _ _ q e).1 (idle_next rows p p (same_next rows p holds))

-- the bytes that a piece finds are at most as many as it has
found_few : (memory : Memory) (piece : PlanPiece) → length (bytes_found memory piece) ≤ piece.n
found_few memory piece = omega (arith, length-take {A = ℕ})

pub piece_next : (limits : Limits) (rows : Rows) (memory : Memory) (p q : ProgramState) (call j : ℕ) (given : PieceAnswer) → HoldsSound rows p → piece_step limits rows memory p call j given ≡ Some q → IsNext rows 0 p q
piece_next limits rows memory p q call j given holds e =
    let there = bind_some (placed p call) _ q e in
    let left = bind_some (slice_get there.0.operation.pieces j) _ q there.2 in
    let place = placed_sound rows p call there.0 holds there.1 in
    subst (IsNext rows 0 p) (when_some _ _ q left.2).1
    (placed_next rows p there.0 (with_answer there.0.operation j left.0.piece given (bytes_found memory left.0.piece)) holds place
    (with_answer_sound rows there.0.operation j left.0 given (bytes_found memory left.0.piece) place.operation left.1 (found_few memory left.0.piece)))

pub lose_next : (rows : Rows) (p q : ProgramState) (call j : ℕ) → HoldsSound rows p → lose_step p call j ≡ Some q → IsNext rows 0 p q
lose_next rows p q call j holds e =
    let there = bind_some (placed p call) _ q e in
    let left = bind_some (slice_get there.0.operation.pieces j) _ q there.2 in
    let place = placed_sound rows p call there.0 holds there.1 in
    subst (IsNext rows 0 p) (when_some _ _ q left.2).1
    (placed_next rows p there.0 (without_piece there.0.operation j left.0.piece) holds place
    (without_piece_sound rows there.0.operation j left.0.piece place.operation))
