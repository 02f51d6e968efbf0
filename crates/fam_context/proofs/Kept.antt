-- What is kept beside operations, through changes.
use Rattle.std.proofs.Common.{◌≡◌, ℕ, zero, ◌+◌, ◌*◌, ◌<◌, ◌≤◌, ◌^◌, Bool, true, false, ◌&&◌, ◌||◌, not, List, [], ◌∷◌, ◌++◌, map, length, get_or, suc, refl, ap, sym, subst, ◌∙◌, arith, replicate}
use Rattle.std.specs.Prelude.{slice_get, slice_set, Some, sum_by, All}
use Rattle.std.specs.List.{zip, AllZip}
use Rattle.std.specs.Option.{option_map}
use Rattle.std.proofs.lemmas.Bool.{false≢true}
use Rattle.std.proofs.lemmas.List.{length-set, length-map, length-replicate, map-set, map-append}
use Rattle.std.proofs.lemmas.List.Folds.{sum_by-replicate}
use Rattle.std.proofs.lemmas.List.Sums.{sum_by-cons, sum_by-append}
use Rattle.std.proofs.lemmas.Option.{get_or_from_slice_get, slice_get-map, slice_get_read, slice_get_within}
use Rattle.std.proofs.lemmas.Slice.Zip.{all_zipped_more}
use Rattle.std.proofs.Math.Seq.{map-set_same}
use Rattle.fam_layout.specs.declared.plan.Plan.{Plan}
use Rattle.fam_model.specs.declared.piece.Mark.{Mark}
use Rattle.fam_model.specs.declared.piece.Mark.TheVariants as mark
use Rattle.fam_model.specs.declared.piece.MarkedPiece.{MarkedPiece}
use Rattle.fam_model.specs.declared.piece.PlanPiece.{PlanPiece}
use Rattle.fam_model.specs.declared.piece.Operation.{Operation}
use Rattle.fam_model.specs.declared.state.Context.{Context}
use Rattle.fam_model.specs.IssueStep.{left_piece}
use Rattle.fam_model.specs.Lists.{place_of, change_place}
use Rattle.fam_model.specs.declared.piece.PlanKind.{PlanKind}
use Rattle.fam_model.specs.declared.piece.PlanKind.TheVariants as plan
use Rattle.fam_model.specs.Operations.{as_reported, reported, is_copy}
use Rattle.fam_model.specs.PieceStep.{is_read}
use Rattle.fam_model.specs.Programs.{call_number}
use Rattle.fam_context.specs.declared.tracked.Pending.{Pending}
use Rattle.fam_context.specs.declared.side.Side.{Side}
use Rattle.fam_context.specs.Counting.{total, share_of, recounted, counts_of, stages_of, marks_of, Fits}
use Rattle.fam_context.specs.Effects.{changed, issued, posted, told, reported as told_all, with_flag, planned_operation, with_one_more}
use Rattle.fam_context.specs.Order.{Frame, frame_of, IsOrdered, tracked, is_planned_in_turn}
use Rattle.fam_context.specs.Sides.{IsSideOf, IsFresh, held_only, told_side, need_of, need_by_mark, needed, has_room, is_get, flags_of, IsKept}
use Rattle.fam_context.proofs.Counts.{total_replaced, needed_less, set_itself, count_within, length_stages}
use Rattle.fam_context.proofs.Places.{changed_at, frames_set, frames_reported, ordered_again, ordered_more}

-- one operation

pub sum_none : {A : Type 0} (xs : List A) → sum_by (λ x. 0) xs ≡ 0
sum_none [] = refl
sum_none (x ∷ xs) = sum_by-cons (λ y. 0) x xs ∙ omega (arith, sum_none xs)

no_room : (b : Bool) → (b && false) ≡ false
no_room true = refl
no_room false = refl

-- an operation whose result was told
pub side_tell : (operation : Operation) (side : Side) → IsSideOf operation side → IsSideOf (as_reported operation) (told_side side)
side_tell operation side kept =
    record {
      counted = λ i. record {
        held = (kept.counted i).held;
        out = (kept.counted i).out;
        done = sym (sum_none (stages_of operation side.flags)) i;
      };
      sized = kept.sized;
      few = kept.few;
      room = λ e. absurd (false≢true (sym (no_room (operation.blocking && is_get operation.kind)) ∙ e));
    }

-- a piece with the same mark, of the same length
pub side_same : (operation : Operation) (side : Side) (j : ℕ) (p q : MarkedPiece) → IsSideOf operation side → slice_get operation.pieces j ≡ Some q →
    p.mark ≡ q.mark → p.piece.n ≡ q.piece.n → IsSideOf (record operation { pieces = slice_set operation.pieces j p }) side
side_same operation side j p q kept there mark n =
    let found : get_or operation.pieces j q ≡ q = get_or_from_slice_get operation.pieces j q q there in
    let marks : marks_of (slice_set operation.pieces j p) ≡ marks_of operation.pieces =
    map-set_same (λ r. r.mark) operation.pieces j p q (mark ∙ ap (λ r. r.mark) (sym found))
    in
    let same : need_of p ≡ need_of q = λ i. need_by_mark (n i) (mark i) in
    record {
      counted = kept.counted ∙ ap (λ ms. total (share_of operation.reported) (zip ms side.flags)) (sym marks);
      sized = kept.sized ∙ sym (length-set operation.pieces j p);
      few = let size = length-set operation.pieces j p in omega (arith, size, kept.few);
      room = λ e. needed_less operation.pieces j q p (length side.room.items) there (omega (arith, same)) (kept.room e);
    }

zip_replicate : {A B : Type 0} (n : ℕ) (x : A) (y : B) → zip (replicate n x) (replicate n y) ≡ replicate n (x, y)
zip_replicate zero x y = refl
zip_replicate (suc n) x y = ap (λ zs. (x, y) ∷ zs) (zip_replicate n x y)

-- the counts of a new operation
pub fresh_counts : (operation : Operation) (count : ℕ) → IsFresh operation count → held_only count ≡ counts_of (operation, replicate count false)
fresh_counts operation count fresh =
    let stages : stages_of operation (replicate count false) ≡ replicate count (mark.Left, false) =
    ap (λ ms. zip ms (replicate count false)) fresh.marks ∙ zip_replicate count mark.Left false
    in
    let held : sum_by (λ (e : Mark × Bool). (share_of false e).held) (replicate count (mark.Left, false)) ≡ count * 1 =
    sum_by-replicate (λ (e : Mark × Bool). (share_of false e).held) count (mark.Left, false)
    in
    let out : sum_by (λ (e : Mark × Bool). (share_of false e).out) (replicate count (mark.Left, false)) ≡ count * 0 =
    sum_by-replicate (λ (e : Mark × Bool). (share_of false e).out) count (mark.Left, false)
    in
    let done : sum_by (λ (e : Mark × Bool). (share_of false e).done) (replicate count (mark.Left, false)) ≡ count * 0 =
    sum_by-replicate (λ (e : Mark × Bool). (share_of false e).done) count (mark.Left, false)
    in
    let counts : total (share_of false) (replicate count (mark.Left, false)) ≡ held_only count = λ i. record {
      held = (let h : sum_by (λ (e : Mark × Bool). (share_of false e).held) (replicate count (mark.Left, false)) ≡ count = omega (arith, held) in h) i;
      out = (let h : sum_by (λ (e : Mark × Bool). (share_of false e).out) (replicate count (mark.Left, false)) ≡ 0 = omega (arith, out) in h) i;
      done = (let h : sum_by (λ (e : Mark × Bool). (share_of false e).done) (replicate count (mark.Left, false)) ≡ 0 = omega (arith, done) in h) i;
    } in
    sym counts
    ∙ (ap (total (share_of false)) (sym stages) ∙ ap (λ r. total (share_of r) (stages_of operation (replicate count false))) (sym fresh.reported))

-- what is kept beside a new operation
pub fresh_side : (operation : Operation) (count : ℕ) (side : Side) → IsFresh operation count → count < 2 ^ 32 → side.flags ≡ replicate count false →
    side.counts ≡ held_only count → (has_room operation ≡ true → needed operation.pieces ≤ length side.room.items) → IsSideOf operation side
fresh_side operation count side fresh few flags counts room =
    record {
      counted = counts ∙ (fresh_counts operation count fresh ∙ ap (λ fs. counts_of (operation, fs)) (sym flags));
      sized = ap (length {A = Bool}) flags ∙ (length-replicate count false ∙ sym fresh.pieces);
      few = let same = fresh.pieces in omega (arith, same, few);
      room = room;
    }

-- lists side by side

pub all_zip_at : {A B : Type 0} (R : A → B → Type 0) (xs : List A) (ys : List B) (k : ℕ) (x : A) (y : B) → AllZip R xs ys → slice_get xs k ≡ Some x →
    slice_get ys k ≡ Some y → R x y
all_zip_at R [] ys k x y all e h = absurd (let no : ⊥ = cc in no)
all_zip_at R (a ∷ xs) [] k x y all e h = absurd all
all_zip_at {A} {B} R (a ∷ xs) (b ∷ ys) zero x y all e h =
    let p : a ≡ x = cc in let q : b ≡ y = cc in let P : A → Type 0 = λ z. R z y in subst P p (let Q : B → Type 0 = λ z. R a z in subst Q q all.0)
all_zip_at R (a ∷ xs) (b ∷ ys) (suc k) x y all e h = all_zip_at R xs ys k x y all.1 e h

pub all_zip_set : {A B : Type 0} (R : A → B → Type 0) (xs : List A) (ys : List B) (k : ℕ) (x : A) (y : B) → AllZip R xs ys → R x y →
    AllZip R (slice_set xs k x) (slice_set ys k y)
all_zip_set R [] [] k x y all h = all
all_zip_set R [] (b ∷ ys) k x y all h = absurd all
all_zip_set R (a ∷ xs) [] k x y all h = absurd all
all_zip_set R (a ∷ xs) (b ∷ ys) zero x y all h = (h, all.1)
all_zip_set R (a ∷ xs) (b ∷ ys) (suc k) x y all h = (all.0, all_zip_set R xs ys k x y all.1 h)

pub all_zip_length : {A B : Type 0} (R : A → B → Type 0) (xs : List A) (ys : List B) → AllZip R xs ys → length xs ≡ length ys
all_zip_length R [] [] all = refl
all_zip_length R [] (b ∷ ys) all = absurd all
all_zip_length R (a ∷ xs) [] all = absurd all
all_zip_length R (a ∷ xs) (b ∷ ys) all = ap suc (all_zip_length R xs ys all.1)

pub all_told : (operations : List Operation) (sides : List Side) → AllZip IsSideOf operations sides → AllZip IsSideOf (map as_reported operations) (map told_side sides)
all_told [] [] all = all
all_told [] (s ∷ sides) all = absurd all
all_told (o ∷ operations) [] all = absurd all
all_told (o ∷ operations) (s ∷ sides) all = (side_tell o s all.0, all_told operations sides all.1)

-- totals

abbrev sizes : List Operation → ℕ
sizes operations = sum_by (λ frame. length frame.reads) (map frame_of operations)

-- no count is more than the pieces
pub total_within : (operations : List Operation) (sides : List Side) → AllZip IsSideOf operations sides →
    ((total (λ side. side.counts) sides).held ≤ sizes operations)
    × (((total (λ side. side.counts) sides).out ≤ sizes operations) × ((total (λ side. side.counts) sides).done ≤ sizes operations))
total_within [] [] all = (omega arith, (omega arith, omega arith))
total_within [] (s ∷ sides) all = absurd all
total_within (o ∷ operations) [] all = absurd all
total_within (o ∷ operations) (s ∷ sides) all =
    let others = total_within operations sides all.1 in
    let kept : IsSideOf o s = all.0 in
    let within = count_within o s.flags in
    let most = length_stages o s.flags in
    let reads = length-map o.pieces (λ p. is_read p.piece.kind) in
    let held = sum_by-cons (λ (side : Side). side.counts.held) s sides in
    let out = sum_by-cons (λ (side : Side). side.counts.out) s sides in
    let done = sum_by-cons (λ (side : Side). side.counts.done) s sides in
    let all = sum_by-cons (λ (frame : Frame). length frame.reads) (frame_of o) (map frame_of operations) in
    let h : s.counts.held ≡ (counts_of (o, s.flags)).held = ap (λ p. p.held) kept.counted in
    let u : s.counts.out ≡ (counts_of (o, s.flags)).out = ap (λ p. p.out) kept.counted in
    let d : s.counts.done ≡ (counts_of (o, s.flags)).done = ap (λ p. p.done) kept.counted in (
      omega (arith, others.0, within.0, most, reads, held, all, h),
      (omega (arith, others.1.0, within.1.0, most, reads, out, all, u), omega (arith, others.1.1, within.1.1, most, reads, done, all, d)),
    )

-- totals of what is kept are those of the operations with their flags
pub pending_is : (context : Context) (operations : List Operation) (sides : List Side) → AllZip IsSideOf operations sides →
    total (λ side. side.counts) sides ≡ total counts_of (zip operations (flags_of sides))
pending_is context [] [] all = refl
pending_is context [] (s ∷ sides) all = absurd all
pending_is context (o ∷ operations) [] all = absurd all
pending_is context (o ∷ operations) (s ∷ sides) all =
    let others = pending_is context operations sides all.1 in
    let kept : IsSideOf o s = all.0 in
    let rest : List (Operation × List Bool) = zip operations (flags_of sides) in
    λ i. record {
      held = (sum_by-cons (λ (side : Side). side.counts.held) s sides ∙ ((λ k. (kept.counted k).held + (others k).held)
          ∙ sym (sum_by-cons (λ (e : Operation × List Bool). (counts_of e).held) (o, s.flags) rest))) i;
      out = (sum_by-cons (λ (side : Side). side.counts.out) s sides ∙ ((λ k. (kept.counted k).out + (others k).out)
          ∙ sym (sum_by-cons (λ (e : Operation × List Bool). (counts_of e).out) (o, s.flags) rest))) i;
      done = (sum_by-cons (λ (side : Side). side.counts.done) s sides ∙ ((λ k. (kept.counted k).done + (others k).done)
          ∙ sym (sum_by-cons (λ (e : Operation × List Bool). (counts_of e).done) (o, s.flags) rest))) i;
    }

-- one operation of many is another

same_sizes : (operation next : Operation) → frame_of next ≡ frame_of operation → length next.pieces ≡ length operation.pieces
same_sizes operation next e =
    sym (length-map next.pieces (λ p. is_read p.piece.kind)) ∙ (ap (λ frame. length frame.reads) e ∙ length-map operation.pieces (λ p. is_read p.piece.kind))

pub lengths_set : (sides : List Side) (k : ℕ) (side next : Side) → slice_get sides k ≡ Some side → length next.flags ≡ length side.flags →
    map (length {A = Bool}) (flags_of (slice_set sides k next)) ≡ map (length {A = Bool}) (flags_of sides)
lengths_set sides k side next there e =
    let found : slice_get (flags_of sides) k ≡ Some side.flags = slice_get-map (λ s. s.flags) sides k ∙ ap (option_map (λ s. s.flags)) there in
    ap (map (length {A = Bool})) (map-set (λ s. s.flags) sides k next)
    ∙ map-set_same (length {A = Bool}) (flags_of sides) k next.flags side.flags
    (e ∙ ap (length {A = Bool}) (sym (get_or_from_slice_get (flags_of sides) k side.flags side.flags found)))

-- what is kept once an operation and its side are others
pub kept_set : (context : Context) (sides : List Side) (pending after : Pending) (pieces k : ℕ) (operation next : Operation) (side new : Side) →
    IsKept context sides pending pieces → slice_get context.operations k ≡ Some operation → slice_get sides k ≡ Some side →
    frame_of next ≡ frame_of operation → IsSideOf next new → after ≡ recounted pending side.counts new.counts →
    IsKept (record context { operations = slice_set context.operations k next }) (slice_set sides k new) after pieces
kept_set context sides pending after pieces k operation next side new kept there beside frame keeps counts =
    let was : IsSideOf operation side = all_zip_at IsSideOf context.operations sides k operation side kept.each there beside in
    let frames : map frame_of (slice_set context.operations k next) ≡ map frame_of context.operations =
    frames_set context.operations k operation next there frame
    in
    record {
      ordered = ordered_again context (record context { operations = slice_set context.operations k next }) (flags_of sides)
          (flags_of (slice_set sides k new)) kept.ordered refl frames
          (lengths_set sides k side new beside (keeps.sized ∙ (same_sizes operation next frame ∙ sym was.sized)));
      each = all_zip_set IsSideOf context.operations sides k next new kept.each keeps;
      counted = counts ∙ (ap (λ p. recounted p side.counts new.counts) kept.counted ∙ sym (total_replaced (λ (s : Side). s.counts) sides k side new beside));
      sum = kept.sum ∙ ap (λ frames. sum_by (λ frame. length frame.reads) frames) (sym frames);
    }

-- the counts then have 64 bits
pub fits_set : (context : Context) (sides : List Side) (pending : Pending) (pieces k : ℕ) (operation next : Operation) (side new : Side) →
    IsKept context sides pending pieces → pieces < 2 ^ 64 → slice_get context.operations k ≡ Some operation → slice_get sides k ≡ Some side →
    frame_of next ≡ frame_of operation → IsSideOf next new → Fits (recounted pending side.counts new.counts)
fits_set context sides pending pieces k operation next side new kept small there beside frame keeps =
    let after : IsKept (record context { operations = slice_set context.operations k next }) (slice_set sides k new) (recounted pending side.counts new.counts) pieces =
    kept_set context sides pending (recounted pending side.counts new.counts) pieces k operation next side new kept there beside frame keeps refl
    in
    let within = total_within (slice_set context.operations k next) (slice_set sides k new) after.each in
    let sum = after.sum in
    subst Fits (sym after.counted) (record {
      held = omega (arith, within.0, sum, small);
      out = omega (arith, within.1.0, sum, small);
      done = omega (arith, within.1.1, sum, small);
    })

-- no two of these places
pub place_there : (context : Context) (sides : List Side) (k : ℕ) → AllZip IsSideOf context.operations sides → k < length context.operations → k < length sides
place_there context sides k all h = let same = all_zip_length IsSideOf context.operations sides all in omega (arith, same, h)

-- the side at the place of an operation
pub side_there : (context : Context) (sides : List Side) (k : ℕ) (operation : Operation) (side : Side) → AllZip IsSideOf context.operations sides →
    slice_get context.operations k ≡ Some operation → side ≡ get_or sides k side → slice_get sides k ≡ Some side
side_there context sides k operation side all there e =
    slice_get_read sides (length sides) k side refl (place_there context sides k all (slice_get_within context.operations k operation there)) e

-- what is kept once a side is another
pub kept_side : (context : Context) (sides : List Side) (pending after : Pending) (pieces k : ℕ) (operation : Operation) (side new : Side) →
    IsKept context sides pending pieces → slice_get context.operations k ≡ Some operation → slice_get sides k ≡ Some side →
    IsSideOf operation new → after ≡ recounted pending side.counts new.counts → IsKept context (slice_set sides k new) after pieces
kept_side context sides pending after pieces k operation side new kept there beside keeps counts =
    subst (λ os. IsKept (record context { operations = os }) (slice_set sides k new) after pieces) (set_itself context.operations k operation there)
    (kept_set context sides pending after pieces k operation operation side new kept there beside refl keeps counts)

-- flags once a side is another
pub flags_set : (sides : List Side) (k : ℕ) (side new : Side) (change : List Bool → List Bool) → slice_get sides k ≡ Some side →
    new.flags ≡ change side.flags → flags_of (slice_set sides k new) ≡ change_place k change (flags_of sides)
flags_set sides k side new change there e =
    let found : slice_get (flags_of sides) k ≡ Some side.flags = slice_get-map (λ s. s.flags) sides k ∙ ap (option_map (λ s. s.flags)) there in
    map-set (λ s. s.flags) sides k new ∙ (ap (λ fs. slice_set (flags_of sides) k fs) e ∙ sym (rw found refl))

-- flags that stay
pub flags_same : (sides : List Side) (k : ℕ) (side new : Side) → slice_get sides k ≡ Some side → new.flags ≡ side.flags →
    flags_of (slice_set sides k new) ≡ flags_of sides
flags_same sides k side new there e =
    map-set_same (λ s. s.flags) sides k new side (e ∙ ap (λ s. s.flags) (sym (get_or_from_slice_get sides k side side there)))

-- what a post leaves
pub posted_is : (context : Context) (out flags : List (List Bool)) (call j k : ℕ) → place_of call_number call context.operations ≡ Some k →
    flags ≡ change_place k (change_place j (λ _. true)) out → tracked context flags ≡ posted (tracked context out) call j
posted_is context out flags call j k place e =
    let q : flags ≡ with_flag (tracked context out) call j true = e ∙ sym (rw place refl) in λ i. tracked context (q i)

-- what telling a result leaves
pub told_is : (context : Context) (out flags : List (List Bool)) (call k : ℕ) (operation next : Operation) →
    place_of call_number call context.operations ≡ Some k → slice_get context.operations k ≡ Some operation → next ≡ as_reported operation → flags ≡ out →
    tracked (record context { operations = slice_set context.operations k next }) flags ≡ told (tracked context out) call
told_is context out flags call k operation next place there e h =
    let p : record context { operations = slice_set context.operations k next } ≡ changed context call as_reported =
    ap (λ o. record context { operations = slice_set context.operations k o }) e ∙ sym (changed_at context call k operation as_reported place there refl)
    in
    λ i. tracked (p i) (h i)

-- issue

marks_planned : (pieces : List PlanPiece) → marks_of (map left_piece pieces) ≡ replicate (length pieces) mark.Left
marks_planned [] = refl
marks_planned (p ∷ ps) = ap (λ ms. mark.Left ∷ ms) (marks_planned ps)

pub planned_fresh : (operation : Operation) (call epoch : ℕ) (plan : Plan) (blocking : Bool) → operation ≡ planned_operation call epoch plan blocking →
    IsFresh operation (length plan.pieces)
planned_fresh operation call epoch plan blocking e =
    let fresh : IsFresh (planned_operation call epoch plan blocking) (length plan.pieces) =
    record { pieces = length-map plan.pieces left_piece; marks = marks_planned plan.pieces; reported = refl }
    in
    subst (λ o. IsFresh o (length plan.pieces)) (sym e) fresh

-- what is kept with an operation more
pub kept_more : (context next : Context) (sides later : List Side) (pending : Pending) (pieces all call : ℕ) (plan : Plan) (blocking : Bool) (operation : Operation) (side : Side) →
    IsKept context sides pending pieces → All (λ operation. operation.call < call) context.operations → is_planned_in_turn plan ≡ true → length plan.pieces < 2 ^ 32 →
    operation ≡ planned_operation call context.epoch plan blocking → side.flags ≡ replicate (length plan.pieces) false → IsSideOf operation side →
    side.counts ≡ held_only (length plan.pieces) → next ≡ with_one_more context operation → later ≡ sides ++ side ∷ [] → all ≡ pieces + length plan.pieces →
    IsKept next later (record pending { held = pending.held + length plan.pieces }) all
kept_more context next sides later pending pieces all call plan blocking operation side kept calls turns few e flags keeps counts p q sum =
    let count : ℕ = length plan.pieces in
    let more : List (List Bool) = flags_of sides ++ replicate count false ∷ [] in
    let path : tracked next (flags_of later) ≡ issued (tracked context (flags_of sides)) call plan blocking =
    λ i. tracked ((p ∙ ap (with_one_more context) e) i)
    ((ap flags_of q ∙ (map-append (λ s. s.flags) sides (side ∷ []) ∙ ap (λ fs. flags_of sides ++ fs ∷ []) flags)) i)
    in
    let operations : next.operations ≡ context.operations ++ operation ∷ [] = ap (λ c. c.operations) p in
    let held : sum_by (λ (s : Side). s.counts.held) (side ∷ []) ≡ count = sum_by-cons (λ (s : Side). s.counts.held) side [] ∙ omega (arith, ap (λ c. c.held) counts) in
    let out : sum_by (λ (s : Side). s.counts.out) (side ∷ []) ≡ 0 = sum_by-cons (λ (s : Side). s.counts.out) side [] ∙ omega (arith, ap (λ c. c.out) counts) in
    let done : sum_by (λ (s : Side). s.counts.done) (side ∷ []) ≡ 0 = sum_by-cons (λ (s : Side). s.counts.done) side [] ∙ omega (arith, ap (λ c. c.done) counts) in
    let helds = sum_by-append (λ (s : Side). s.counts.held) sides (side ∷ []) in
    let outs = sum_by-append (λ (s : Side). s.counts.out) sides (side ∷ []) in
    let dones = sum_by-append (λ (s : Side). s.counts.done) sides (side ∷ []) in
    let h : pending.held ≡ sum_by (λ (s : Side). s.counts.held) sides = ap (λ c. c.held) kept.counted in
    let u : pending.out ≡ sum_by (λ (s : Side). s.counts.out) sides = ap (λ c. c.out) kept.counted in
    let d : pending.done ≡ sum_by (λ (s : Side). s.counts.done) sides = ap (λ c. c.done) kept.counted in
    let hh : pending.held + count ≡ sum_by (λ (s : Side). s.counts.held) (sides ++ side ∷ []) = omega (arith, held, helds, h) in
    let uu : pending.out ≡ sum_by (λ (s : Side). s.counts.out) (sides ++ side ∷ []) = omega (arith, out, outs, u) in
    let dd : pending.done ≡ sum_by (λ (s : Side). s.counts.done) (sides ++ side ∷ []) = omega (arith, done, dones, d) in
    let counted : record { held = pending.held + count; out = pending.out; done = pending.done } ≡ total (λ s. s.counts) (sides ++ side ∷ []) =
    λ i. record { held = hh i; out = uu i; done = dd i }
    in
    let size : sizes (operation ∷ []) ≡ count =
    sum_by-cons (λ (frame : Frame). length frame.reads) (frame_of operation) []
    ∙ omega (arith, length-map operation.pieces (λ p. is_read p.piece.kind), (planned_fresh operation call context.epoch plan blocking e).pieces)
    in
    let sum_of : sizes (context.operations ++ operation ∷ []) ≡ sizes context.operations + sizes (operation ∷ []) =
    ap (λ fs. sum_by (λ (frame : Frame). length frame.reads) fs) (map-append frame_of context.operations (operation ∷ []))
    ∙ sum_by-append (λ (frame : Frame). length frame.reads) (map frame_of context.operations) (frame_of operation ∷ [])
    in
    let before = kept.sum in
    let whole : all ≡ sizes (context.operations ++ operation ∷ []) = omega (arith, size, sum_of, before, sum) in
    record {
      ordered = subst IsOrdered (sym path) (ordered_more context (flags_of sides) call plan blocking kept.ordered calls turns few);
      each = subst (λ os. AllZip IsSideOf os later) (sym operations)
          (subst (λ ss. AllZip IsSideOf (context.operations ++ operation ∷ []) ss) (sym q)
          (all_zipped_more IsSideOf context.operations sides operation side kept.each keeps));
      counted = counted ∙ ap (total (λ s. s.counts)) (sym q);
      sum = whole ∙ ap sizes (sym operations);
    }

-- held pieces are pieces
pub held_within : (context : Context) (sides : List Side) (pending : Pending) (pieces : ℕ) → IsKept context sides pending pieces → pending.held ≤ pieces
held_within context sides pending pieces kept =
    let within = (total_within context.operations sides kept.each).0 in
    let h : pending.held ≡ sum_by (λ (s : Side). s.counts.held) sides = ap (λ c. c.held) kept.counted in
    let sum = kept.sum in
    omega (arith, within, h, sum)

sum_map : {A B : Type 0} (f : B → ℕ) (g : A → B) (xs : List A) → sum_by f (map g xs) ≡ sum_by (λ x. f (g x)) xs
sum_map f g [] = refl
sum_map f g (x ∷ xs) = sum_by-cons f (g x) (map g xs) ∙ (ap (λ n. f (g x) + n) (sum_map f g xs) ∙ sym (sum_by-cons (λ y. f (g y)) x xs))

-- what is kept once all results were told
counts_told : (sides : List Side) → total (λ side. side.counts) (map told_side sides) ≡ record (total (λ side. side.counts) sides) { done = 0 }
counts_told sides = λ i. record {
  held = sum_map (λ (s : Side). s.counts.held) told_side sides i;
  out = sum_map (λ (s : Side). s.counts.out) told_side sides i;
  done = (sum_map (λ (s : Side). s.counts.done) told_side sides ∙ sum_none sides) i;
}

flags_told : (sides : List Side) → flags_of (map told_side sides) ≡ flags_of sides
flags_told [] = refl
flags_told (s ∷ sides) = ap (λ fs. s.flags ∷ fs) (flags_told sides)

pub kept_told : (context next : Context) (sides later : List Side) (pending : Pending) (pieces : ℕ) → IsKept context sides pending pieces →
    next ≡ reported context → later ≡ map told_side sides → IsKept next later (record pending { done = 0 }) pieces
kept_told context next sides later pending pieces kept p q =
    let frames : map frame_of (map as_reported context.operations) ≡ map frame_of context.operations = frames_reported context.operations in
    let told : IsKept (reported context) (map told_side sides) (record pending { done = 0 }) pieces =
    record {
      ordered = ordered_again context (reported context) (flags_of sides) (flags_of (map told_side sides)) kept.ordered refl frames
          (ap (map (length {A = Bool})) (flags_told sides));
      each = all_told context.operations sides kept.each;
      counted = (λ i. record (kept.counted i) { done = 0 }) ∙ sym (counts_told sides);
      sum = kept.sum ∙ ap (λ fs. sum_by (λ frame. length frame.reads) fs) (sym frames);
    }
    in
    subst (λ c. IsKept c later (record pending { done = 0 }) pieces) (sym p)
    (subst (λ ss. IsKept (reported context) ss (record pending { done = 0 }) pieces) (sym q) told)

-- what reporting leaves
pub reported_is : (context next : Context) (sides later : List Side) → next ≡ reported context → later ≡ map told_side sides →
    tracked next (flags_of later) ≡ told_all (tracked context (flags_of sides))
reported_is context next sides later p q = λ i. tracked (p i) ((ap flags_of q ∙ flags_told sides) i)

-- the counts once a side is another have 64 bits
pub fits_side : (context : Context) (sides : List Side) (pending : Pending) (pieces k : ℕ) (operation : Operation) (side new : Side) →
    IsKept context sides pending pieces → pieces < 2 ^ 64 → slice_get context.operations k ≡ Some operation → slice_get sides k ≡ Some side →
    IsSideOf operation new → Fits (recounted pending side.counts new.counts)
fits_side context sides pending pieces k operation side new kept small there beside keeps =
    fits_set context sides pending pieces k operation operation side new kept small there beside refl keeps

-- an operation whose result was told, with any room
pub side_told : (operation : Operation) (side new : Side) → IsSideOf operation side → new.flags ≡ side.flags → new.counts ≡ (told_side side).counts →
    IsSideOf (as_reported operation) new
side_told operation side new kept flags counts =
    let told : IsSideOf (as_reported operation) (told_side side) = side_tell operation side kept in
    record {
      counted = counts ∙ (told.counted ∙ ap (λ fs. counts_of (as_reported operation, fs)) (sym flags));
      sized = ap (length {A = Bool}) flags ∙ kept.sized;
      few = kept.few;
      room = λ e. absurd (false≢true (sym (no_room (operation.blocking && is_get operation.kind)) ∙ e));
    }

has_room_for : (kind : PlanKind) (blocking reported : Bool) → reported ≡ false → (blocking || is_copy kind) ≡ true → is_get kind ≡ true →
    (blocking && is_get kind && not reported) ≡ true
has_room_for plan.Put blocking reported e h g = absurd (false≢true g)
has_room_for plan.Fetch blocking reported e h g = absurd (false≢true g)
has_room_for plan.Copy blocking reported e h g = absurd (false≢true g)
has_room_for plan.Get true reported e h g = rw e refl
has_room_for plan.Get false reported e h g = absurd (false≢true h)

-- the room of a blocking operation or a copy is enough for the bytes of a get
pub room_enough : (operation : Operation) (side : Side) → IsSideOf operation side → operation.reported ≡ false →
    (operation.blocking || is_copy operation.kind) ≡ true → is_get operation.kind ≡ true → needed operation.pieces ≤ length side.room.items
room_enough operation side kept e h g = kept.room (has_room_for operation.kind operation.blocking operation.reported e h g)

-- the same, for a number that is that of the pieces
pub kept_more_by : (count : ℕ) (context next : Context) (sides later : List Side) (pending : Pending) (pieces all call : ℕ) (plan : Plan) (blocking : Bool) (operation : Operation) (side : Side) →
    count ≡ length plan.pieces → IsKept context sides pending pieces → All (λ operation. operation.call < call) context.operations → is_planned_in_turn plan ≡ true → count < 2 ^ 32 →
    operation ≡ planned_operation call context.epoch plan blocking → side.flags ≡ replicate count false → IsSideOf operation side →
    side.counts ≡ held_only count → next ≡ with_one_more context operation → later ≡ sides ++ side ∷ [] → all ≡ pieces + count →
    IsKept next later (record pending { held = pending.held + count }) all
kept_more_by count context next sides later pending pieces all call plan blocking operation side same kept calls turns few e flags keeps counts p q sum =
    let small : length plan.pieces < 2 ^ 32 = omega (arith, same, few) in
    subst (λ n. IsKept next later (record pending { held = pending.held + n }) all) (sym same)
    (kept_more context next sides later pending pieces all call plan blocking operation side kept calls turns small e
    (flags ∙ ap (λ n. replicate n false) same) keeps (counts ∙ ap held_only same) p q (sum ∙ ap (λ n. pieces + n) same))

pub planned_fresh_by : (count : ℕ) (operation : Operation) (call epoch : ℕ) (plan : Plan) (blocking : Bool) → count ≡ length plan.pieces →
    operation ≡ planned_operation call epoch plan blocking → IsFresh operation count
planned_fresh_by count operation call epoch plan blocking same e =
    subst (λ n. IsFresh operation n) (sym same) (planned_fresh operation call epoch plan blocking e)
