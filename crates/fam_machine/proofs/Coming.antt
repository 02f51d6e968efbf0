-- The step of a piece.
use Rattle.std.proofs.Common.{◌≡◌, ℕ, map, Option, Some, None, Bool, true, false, sym, ap, subst, ◌∙◌, refl}
use Rattle.std.specs.Prelude.{◌&&◌, if◌then◌else◌, slice_get, slice_set, IsTrue, IsSome}
use Rattle.std.specs.Option.{option_map, option_map_or}
use Rattle.std.proofs.lemmas.Bool.{false≢true}
use Rattle.std.proofs.lemmas.List.{map-set}
use Rattle.std.proofs.lemmas.Option.{same_Some, slice_get-map}
use Rattle.fam_model.specs.declared.event.What.TheVariants as what
use Rattle.fam_model.specs.declared.piece.MarkedPiece.{MarkedPiece}
use Rattle.fam_model.specs.declared.piece.Operation.{Operation}
use Rattle.fam_model.specs.declared.piece.PieceKind.{PieceKind}
use Rattle.fam_model.specs.declared.piece.PlanKind.{PlanKind}
use Rattle.fam_model.specs.declared.piece.PlanPiece.{PlanPiece}
use Rattle.fam_model.specs.declared.reply.PieceAnswer.{PieceAnswer}
use Rattle.fam_model.specs.declared.state.Context.{Context}
use Rattle.fam_model.specs.declared.state.ProgramState.{ProgramState}
use Rattle.fam_model.specs.Directory.{Memory}
use Rattle.fam_model.specs.Limits.{service_limits}
use Rattle.fam_model.specs.Lists.{◌>>=◌, when, is_some_and}
use Rattle.fam_model.specs.Operations.{is_left, may_come, is_past_fences, has_its_bytes}
use Rattle.fam_model.specs.PieceStep.{bytes_found, due_answer, may_answer, is_refused, with_answer, piece_step, memory_by_kind, memory_by_piece}
use Rattle.fam_model.specs.Programs.{Placed, placed, with_placed, with_program}
use Rattle.fam_model.specs.Rules.{is_due}
use Rattle.fam_context.specs.Effects.{is_answer_of, answered_with}
use Rattle.fam_program.specs.Parts.{may_collect, collected_step, piece_of}
use Rattle.fam_program.specs.declared.tracked.TrackedProgram.{TrackedProgram}
use Rattle.fam_machine.specs.declared.parts.Parts.{Parts}
use Rattle.fam_machine.specs.Collected.{collected_answer}
use Rattle.fam_machine.specs.Sound.{IsSound, IsSoundPiece, may_have, piece_extent}
use Rattle.fam_machine.specs.Views.{state_of, effect_at, rule_at}
use Rattle.fam_machine.proofs.Bytes.{piece_sound_at}
use Rattle.fam_machine.proofs.Collecting.{answer_fits, answered_same}
use Rattle.fam_machine.proofs.Lists.{All-at}
use Rattle.fam_machine.proofs.Programs.{placed_sound}
use Rattle.fam_machine.proofs.Taking.{effect_here, rule_here, sound_here}

-- a piece that may come, with where it is
pub record IsDueAt (p : ProgramState) (call j : ℕ) : Type 0 where
  pub at : Placed
  pub there : placed p call ≡ Some at
  pub left : MarkedPiece
  pub left_there : slice_get at.operation.pieces j ≡ Some left
  pub is_still_left : is_left left ≡ true
  pub comes : may_come at.context at.operation j ≡ true

left_and : (context : Context) (operation : Operation) (j : ℕ) → may_come context operation j ≡ true → is_some_and (slice_get operation.pieces j) is_left ≡ true
unfolding may_come
left_and context operation j e = first (is_some_and (slice_get operation.pieces j) is_left) (is_past_fences context operation) (has_its_bytes operation j) e
  where
    first : (a b c : Bool) → (a && b && c) ≡ true → a ≡ true
    first true b c t = refl
    first false b c t = absurd (false≢true t)

some_and : {A : Type 0} (o : Option A) (test : A → Bool) → is_some_and o test ≡ true → (x : A) × (o ≡ Some x) × (test x ≡ true)
some_and None test e = absurd (false≢true e)
some_and (Some x) test e = (x, refl, e)

-- a piece that may come is there and left
pub due_at : (p : ProgramState) (call j : ℕ) → is_due p call j ≡ true → IsDueAt p call j
due_at p call j e =
    let at = some_and (placed p call) (λ at. may_come at.context at.operation j) e in
    let left = some_and (slice_get at.0.operation.pieces j) is_left (left_and at.0.context at.0.operation j at.2) in
    record { at = at.0; there = at.1; left = left.0; left_there = left.1; is_still_left = left.2; comes = at.2 }

pub is_placed : (p : ProgramState) (call j : ℕ) → is_due p call j ≡ true → IsSome (placed p call)
is_placed p call j e = subst IsSome (sym (due_at p call j e).there) refl

piece_at : (p : ProgramState) (call j : ℕ) → (due : IsDueAt p call j) → piece_of p call j ≡ Some due.left
piece_at p call j due = ap (λ o. o >>= λ at. slice_get at.operation.pieces j) due.there ∙ due.left_there

pub has_piece : (p : ProgramState) (call j : ℕ) → is_due p call j ≡ true → IsSome (piece_of p call j)
has_piece p call j e = subst IsSome (sym (piece_at p call j (due_at p call j e))) refl

-- What the code knows of a piece that may come: its program, what its operation gives back, and the piece.
pub record Finds (parts : Parts) (pe call j : ℕ) (p : TrackedProgram) (given_back : PlanKind) (piece : PlanPiece) : Type 0 where
  pub program : slice_get parts.programs pe ≡ Some p
  pub due : is_due p.state call j ≡ true
  pub gives : option_map (λ at. at.operation.kind) (placed p.state call) ≡ Some given_back
  pub finds : option_map (λ m. m.piece) (piece_of p.state call j) ≡ Some piece

-- it is that of its operation
pub kind_at : (parts : Parts) (pe call j : ℕ) (p : TrackedProgram) (given_back : PlanKind) (piece : PlanPiece) → Finds parts pe call j p given_back piece → (due : IsDueAt p.state call j) → due.at.operation.kind ≡ given_back
kind_at parts pe call j p given_back piece found due = same_Some _ given_back (ap (option_map (λ (at : Placed). at.operation.kind)) (sym due.there) ∙ found.gives)

-- and the piece is that of its place
pub same_piece : (parts : Parts) (pe call j : ℕ) (p : TrackedProgram) (given_back : PlanKind) (piece : PlanPiece) → Finds parts pe call j p given_back piece → (due : IsDueAt p.state call j) → due.left.piece ≡ piece
same_piece parts pe call j p given_back piece found due = same_Some _ piece (ap (option_map (λ (m : MarkedPiece). m.piece)) (sym (piece_at p.state call j due)) ∙ found.finds)

-- the piece is sound
pub sound_piece : (parts : Parts) (pe call j : ℕ) (p : TrackedProgram) (given_back : PlanKind) (piece : PlanPiece) → IsSound (state_of parts) → Finds parts pe call j p given_back piece → IsSoundPiece parts.rows piece
sound_piece parts pe call j p given_back piece sound found =
    let due = due_at p.state call j found.due in
    let holds = (sound_here parts pe p sound found.program).holds in
    subst (IsSoundPiece parts.rows) (same_piece parts pe call j p given_back piece found due) (piece_sound_at parts.rows p.state call j due.at due.left holds due.there due.left_there)

-- and does what its operation does
may_have_piece : (parts : Parts) (pe call j : ℕ) (p : TrackedProgram) (given_back : PlanKind) (piece : PlanPiece) → IsSound (state_of parts) → Finds parts pe call j p given_back piece → IsTrue (may_have given_back piece.kind)
may_have_piece parts pe call j p given_back piece sound found =
    let due = due_at p.state call j found.due in
    let holds = (sound_here parts pe p sound found.program).holds in
    let operation = (placed_sound parts.rows p.state call due.at holds due.there).operation in
    let at_j : slice_get (map piece_extent due.at.operation.pieces) j ≡ Some (piece_extent due.left) = slice_get-map piece_extent due.at.operation.pieces j ∙ ap (option_map piece_extent) due.left_there in
    let may : IsTrue (may_have due.at.operation.kind due.left.piece.kind) = All-at (λ (e : PieceKind × ℕ). IsTrue (may_have due.at.operation.kind e.0)) (map piece_extent due.at.operation.pieces) j (piece_extent due.left) operation.kinds at_j in
    subst (λ (k : PlanKind). IsTrue (may_have k piece.kind)) (kind_at parts pe call j p given_back piece found due)
    (subst (λ (q : PlanPiece). IsTrue (may_have due.at.operation.kind q.kind)) (same_piece parts pe call j p given_back piece found due) may)

-- its context may be told the answer
pub may_collect_it : (parts : Parts) (pe call j : ℕ) (p : TrackedProgram) (given_back : PlanKind) (piece : PlanPiece) (given : PieceAnswer) → IsSound (state_of parts) → Finds parts pe call j p given_back piece → may_answer service_limits (due_answer parts.rows parts.memory p.state.who given_back piece) given ≡ true → may_collect p.state call j (collected_answer given_back piece given (bytes_found parts.memory piece)) ≡ true
may_collect_it parts pe call j p given_back piece given sound found may =
    let due = due_at p.state call j found.due in
    let told = collected_answer given_back piece given (bytes_found parts.memory piece) in
    let fits : is_answer_of given_back piece told ≡ true = answer_fits parts.rows parts.memory p.state.who given_back piece given sound.filled (sound_piece parts pe call j p given_back piece sound found) (may_have_piece parts pe call j p given_back piece sound found) may in
    let here : is_answer_of due.at.operation.kind due.left.piece told ≡ true =
    (λ i. is_answer_of (kind_at parts pe call j p given_back piece found due i) (same_piece parts pe call j p given_back piece found due i) told) ∙ fits
    in
    ap (λ o. is_some_and o (λ at. is_some_and (slice_get at.operation.pieces j) (λ q. is_left q && is_answer_of at.operation.kind q.piece told))) due.there
    ∙ ap (λ o. is_some_and o (λ q. is_left q && is_answer_of due.at.operation.kind q.piece told)) due.left_there
    ∙ (λ i. due.is_still_left i && here i)

-- the effect of a piece

piece_effect : (parts : Parts) (pe call j : ℕ) (p q : TrackedProgram) (given : PieceAnswer) (memory : Memory) → slice_get parts.programs pe ≡ Some p → piece_step service_limits parts.rows parts.memory p.state call j given ≡ Some q.state → memory ≡ memory_by_piece parts.memory p.state call j given → effect_at (state_of parts) pe call (what.Piece j given) ≡ Some (state_of (record parts { memory = memory; programs = slice_set parts.programs pe q }))
piece_effect parts pe call j p q given memory e step same =
    effect_here parts pe call (what.Piece j given) p e
    ∙ ap (option_map (with_program (record (state_of parts) { memory = memory_by_piece parts.memory p.state call j given }) pe)) step
    ∙ (λ i. Some (record (state_of parts) { memory = sym same i; programs = sym (map-set (λ (q : TrackedProgram). q.state) parts.programs pe q) i }))

-- the step of a piece whose answer it may have
pub piece_taken : (parts : Parts) (pe call j : ℕ) (p q : TrackedProgram) (given_back : PlanKind) (piece : PlanPiece) (given : PieceAnswer) (memory : Memory) → Finds parts pe call j p given_back piece → may_answer service_limits (due_answer parts.rows parts.memory p.state.who given_back piece) given ≡ true → collected_step p.state call j (collected_answer given_back piece given (bytes_found parts.memory piece)) ≡ Some q.state → memory ≡ (if is_refused given then parts.memory else memory_by_kind piece.kind parts.memory piece) → effect_at (state_of parts) pe call (what.Piece j given) ≡ Some (state_of (record parts { memory = memory; programs = slice_set parts.programs pe q }))
piece_taken parts pe call j p q given_back piece given memory found may collected same =
    let due = due_at p.state call j found.due in
    let at = due.at in
    let k = kind_at parts pe call j p given_back piece found due in
    let r = same_piece parts pe call j p given_back piece found due in
    let may_here : may_answer service_limits (due_answer parts.rows parts.memory p.state.who at.operation.kind due.left.piece) given ≡ true =
    (λ i. may_answer service_limits (due_answer parts.rows parts.memory p.state.who (k i) (r i)) given) ∙ may
    in
    let told : answered_with at.operation j due.left.piece (collected_answer given_back piece given (bytes_found parts.memory piece)) ≡ with_answer at.operation j due.left.piece given (bytes_found parts.memory due.left.piece) =
    (λ i. answered_with at.operation j due.left.piece (collected_answer (sym k i) (sym r i) given (bytes_found parts.memory (sym r i))))
    ∙ answered_same parts.rows parts.memory p.state.who at.operation j due.left.piece given may_here
    in
    let step : collected_step p.state call j (collected_answer given_back piece given (bytes_found parts.memory piece)) ≡ Some (with_placed p.state at (answered_with at.operation j due.left.piece (collected_answer given_back piece given (bytes_found parts.memory piece)))) =
    ap (λ o. o >>= λ at. slice_get at.operation.pieces j >>= λ left. Some (with_placed p.state at (answered_with at.operation j left.piece (collected_answer given_back piece given (bytes_found parts.memory piece))))) due.there
    ∙ ap (λ o. o >>= λ left. Some (with_placed p.state at (answered_with at.operation j left.piece (collected_answer given_back piece given (bytes_found parts.memory piece))))) due.left_there
    in
    let new : q.state ≡ with_placed p.state at (with_answer at.operation j due.left.piece given (bytes_found parts.memory due.left.piece)) =
    same_Some q.state _ (sym collected ∙ step) ∙ ap (with_placed p.state at) told
    in
    let taken : piece_step service_limits parts.rows parts.memory p.state call j given ≡ Some q.state =
    ap (λ o. o >>= λ at. slice_get at.operation.pieces j >>= λ left. when (may_come at.context at.operation j && may_answer service_limits (due_answer parts.rows parts.memory p.state.who at.operation.kind left.piece) given) (with_placed p.state at (with_answer at.operation j left.piece given (bytes_found parts.memory left.piece)))) due.there
    ∙ ap (λ o. o >>= λ left. when (may_come at.context at.operation j && may_answer service_limits (due_answer parts.rows parts.memory p.state.who at.operation.kind left.piece) given) (with_placed p.state at (with_answer at.operation j left.piece given (bytes_found parts.memory left.piece)))) due.left_there
    ∙ (λ i. when (due.comes i && may_here i) (with_placed p.state at (with_answer at.operation j due.left.piece given (bytes_found parts.memory due.left.piece))))
    ∙ ap (λ x. Some x) (sym new)
    in
    let bytes : memory_by_piece parts.memory p.state call j given ≡ (if is_refused given then parts.memory else memory_by_kind piece.kind parts.memory piece) =
    ap (λ o. option_map_or (λ (left : MarkedPiece). if is_refused given then parts.memory else memory_by_kind left.piece.kind parts.memory left.piece) o parts.memory) (piece_at p.state call j due)
    ∙ (λ i. if is_refused given then parts.memory else memory_by_kind (r i).kind parts.memory (r i))
    in
    piece_effect parts pe call j p q given memory found.program taken (same ∙ sym bytes)

no_step : (parts : Parts) (pe call j : ℕ) (p : TrackedProgram) (given : PieceAnswer) → slice_get parts.programs pe ≡ Some p → piece_step service_limits parts.rows parts.memory p.state call j given ≡ None → effect_at (state_of parts) pe call (what.Piece j given) ≡ None
no_step parts pe call j p given e step =
    effect_here parts pe call (what.Piece j given) p e
    ∙ ap (option_map (with_program (record (state_of parts) { memory = memory_by_piece parts.memory p.state call j given }) pe)) step

not_due_with : (p : ProgramState) (j : ℕ) (answers : Placed → MarkedPiece → Bool) (next : Placed → MarkedPiece → ProgramState) (o : Option Placed) → is_some_and o (λ at. may_come at.context at.operation j) ≡ false → (o >>= λ at. slice_get at.operation.pieces j >>= λ left. when (may_come at.context at.operation j && answers at left) (next at left)) ≡ None
not_due_with p j answers next None e = refl
not_due_with p j answers next (Some at) e = here (slice_get at.operation.pieces j)
  where
    here : (o : Option MarkedPiece) → (o >>= λ left. when (may_come at.context at.operation j && answers at left) (next at left)) ≡ None
    here None = refl
    here (Some left) = ap (λ b. when (b && answers at left) (next at left)) e

-- a piece that may not come breaks rule 4
pub not_due : (parts : Parts) (pe call j : ℕ) (p : TrackedProgram) (given : PieceAnswer) → slice_get parts.programs pe ≡ Some p → is_due p.state call j ≡ false → (effect_at (state_of parts) pe call (what.Piece j given) ≡ None) × (rule_at (state_of parts) pe call (what.Piece j given) ≡ 4)
not_due parts pe call j p given e fails = (
  no_step parts pe call j p given e
      (not_due_with p.state j (λ at left. may_answer service_limits (due_answer parts.rows parts.memory p.state.who at.operation.kind left.piece) given)
      (λ at left. with_placed p.state at (with_answer at.operation j left.piece given (bytes_found parts.memory left.piece))) (placed p.state call) fails),
  rule_here parts pe call (what.Piece j given) p e ∙ ap (λ b. if b then 5 else 4) fails,
)

-- one that may not have its answer breaks rule 5
pub not_answered : (parts : Parts) (pe call j : ℕ) (p : TrackedProgram) (given_back : PlanKind) (piece : PlanPiece) (given : PieceAnswer) → Finds parts pe call j p given_back piece → may_answer service_limits (due_answer parts.rows parts.memory p.state.who given_back piece) given ≡ false → (effect_at (state_of parts) pe call (what.Piece j given) ≡ None) × (rule_at (state_of parts) pe call (what.Piece j given) ≡ 5)
not_answered parts pe call j p given_back piece given found fails =
    let due = due_at p.state call j found.due in
    let at = due.at in
    let k = kind_at parts pe call j p given_back piece found due in
    let r = same_piece parts pe call j p given_back piece found due in
    let may_not : may_answer service_limits (due_answer parts.rows parts.memory p.state.who at.operation.kind due.left.piece) given ≡ false =
    (λ i. may_answer service_limits (due_answer parts.rows parts.memory p.state.who (k i) (r i)) given) ∙ fails
    in (
      no_step parts pe call j p given found.program
          (ap (λ o. o >>= λ at. slice_get at.operation.pieces j >>= λ left. when (may_come at.context at.operation j && may_answer service_limits (due_answer parts.rows parts.memory p.state.who at.operation.kind left.piece) given) (with_placed p.state at (with_answer at.operation j left.piece given (bytes_found parts.memory left.piece)))) due.there
          ∙ ap (λ o. o >>= λ left. when (may_come at.context at.operation j && may_answer service_limits (due_answer parts.rows parts.memory p.state.who at.operation.kind left.piece) given) (with_placed p.state at (with_answer at.operation j left.piece given (bytes_found parts.memory left.piece)))) due.left_there
          ∙ (λ i. when (due.comes i && may_not i) (with_placed p.state at (with_answer at.operation j due.left.piece given (bytes_found parts.memory due.left.piece))))),
      rule_here parts pe call (what.Piece j given) p found.program ∙ ap (λ b. if b then 5 else 4) found.due,
    )
