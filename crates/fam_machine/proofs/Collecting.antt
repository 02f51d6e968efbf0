-- A piece that is answered.
use Rattle.std.proofs.Common.{◌≡◌, ℕ, ◌+◌, ◌≤◌, List, [], length, Option, Some, None, Bool, true, false, sym, ap, ◌∙◌, refl, arith}
use Rattle.std.specs.Prelude.{◌&&◌, ◌==◌, not, if◌then◌else◌, IsTrue}
use Rattle.std.proofs.lemmas.Bool.{false≢true}
use Rattle.std.proofs.lemmas.Bool.Decides.{nat_tests}
use Rattle.std.proofs.lemmas.List.{length-take, length-drop}
use Rattle.fam_base.specs.Permission.{is_allowed}
use Rattle.fam_base.specs.declared.naming.Who.{Who}
use Rattle.fam_base.specs.declared.error.FamError.{FamError}
use Rattle.fam_base.specs.declared.error.FamError.TheVariants.{Absent, NoPermission}
use Rattle.fam_model.specs.contracts.plain.PieceAnswerExact.TheImpl.Laws as answer_laws
use Rattle.fam_model.specs.declared.piece.Mark.TheVariants as mark
use Rattle.fam_model.specs.declared.piece.MarkedPiece.{MarkedPiece}
use Rattle.fam_model.specs.declared.piece.Operation.{Operation}
use Rattle.fam_model.specs.declared.piece.PieceKind.{PieceKind}
use Rattle.fam_model.specs.declared.piece.PieceKind.TheVariants as kind
use Rattle.fam_model.specs.declared.piece.PlanKind.{PlanKind}
use Rattle.fam_model.specs.declared.piece.PlanKind.TheVariants as plan
use Rattle.fam_model.specs.declared.piece.PlanPiece.{PlanPiece}
use Rattle.fam_model.specs.declared.reply.PieceAnswer.{PieceAnswer}
use Rattle.fam_model.specs.declared.reply.PieceAnswer.TheVariants as answer
use Rattle.fam_model.specs.declared.rows.ItemRow.{ItemRow}
use Rattle.fam_model.specs.declared.rows.Rows.{Rows}
use Rattle.fam_model.specs.Directory.{Memory as MemoryOfItems}
use Rattle.fam_model.specs.Limits.{Limits, service_limits}
use Rattle.fam_model.specs.Lists.{change_place}
use Rattle.fam_model.specs.Operations.{is_copy}
use Rattle.fam_model.specs.PieceStep.{item_bytes, bytes_found, served_answer, due_answer, may_answer, is_refused, is_read, is_copy_read, marked, handed, with_answer}
use Rattle.fam_model.specs.Rows.{item_of, item_owner}
use Rattle.fam_context.specs.Effects.{gives_bytes, is_answer_of, answered_with}
use Rattle.fam_machine.specs.Collected.{collected_answer}
use Rattle.fam_machine.specs.Sound.{IsSoundPiece, IsMemoryOf, may_have}
use Rattle.fam_machine.proofs.Bytes.{found_inside}
use Rattle.fam_machine.proofs.Lists.{both_true}

-- the answer that is due

-- an item that is there, where the program may do what the piece needs
pub record IsServed (rows : Rows) (memory : MemoryOfItems) (plan_kind : PlanKind) (piece : PlanPiece) (given : PieceAnswer) : Type 0 where
  pub row : ItemRow
  pub there : item_of rows piece.item.0 ≡ Some row
  pub right : given ≡ served_answer plan_kind (bytes_found memory piece)

refused_not : (error : FamError) (given : PieceAnswer) → given ≡ answer.Refused error → is_refused given ≡ false → ⊥
refused_not error given e f = false≢true (sym f ∙ ap is_refused e)

due_with : (rows : Rows) (memory : MemoryOfItems) (who : Who) (plan_kind : PlanKind) (piece : PlanPiece) (given : PieceAnswer) (o : Option ItemRow) → item_of rows piece.item.0 ≡ o → is_refused given ≡ false → given ≡ elim o [ None ↦ answer.Refused Absent | Some row ↦ if is_allowed (item_owner row) row.mode who piece.need then served_answer plan_kind (bytes_found memory piece) else answer.Refused NoPermission ] → IsServed rows memory plan_kind piece given
due_with rows memory who plan_kind piece given None e f same = absurd (refused_not Absent given same f)
due_with rows memory who plan_kind piece given (Some row) e f same = here (is_allowed (item_owner row) row.mode who piece.need) same
  where
    here : (allowed : Bool) → given ≡ (if allowed then served_answer plan_kind (bytes_found memory piece) else answer.Refused NoPermission) → IsServed rows memory plan_kind piece given
    here true same = record { row = row; there = e; right = same }
    here false same = absurd (refused_not NoPermission given same f)

due_served : (rows : Rows) (memory : MemoryOfItems) (who : Who) (plan_kind : PlanKind) (piece : PlanPiece) (given : PieceAnswer) → is_refused given ≡ false → given ≡ due_answer rows memory who plan_kind piece → IsServed rows memory plan_kind piece given
unfolding due_answer
due_served rows memory who plan_kind piece given f same = due_with rows memory who plan_kind piece given (item_of rows piece.item.0) refl f same

is_the_due : (limits : Limits) (due given : PieceAnswer) → is_refused given ≡ false → may_answer limits due given ≡ true → given ≡ due
unfolding may_answer
is_the_due limits due answer.Ok f e = answer_laws.equal_is_same-law answer.Ok due e
is_the_due limits due (answer.Data bytes) f e = answer_laws.equal_is_same-law (answer.Data bytes) due e
is_the_due limits due (answer.Refused error) f e = absurd (false≢true (sym f))

-- a piece that is not refused finds its item, and has the answer that is due
pub served_there : (rows : Rows) (memory : MemoryOfItems) (who : Who) (plan_kind : PlanKind) (piece : PlanPiece) (given : PieceAnswer) → is_refused given ≡ false → may_answer service_limits (due_answer rows memory who plan_kind piece) given ≡ true → IsServed rows memory plan_kind piece given
served_there rows memory who plan_kind piece given f e =
    due_served rows memory who plan_kind piece given f (is_the_due service_limits (due_answer rows memory who plan_kind piece) given f e)

-- so it lies inside the bytes of its item
pub served_inside : (rows : Rows) (memory : MemoryOfItems) (who : Who) (plan_kind : PlanKind) (piece : PlanPiece) (given : PieceAnswer) → IsMemoryOf rows.items memory → IsSoundPiece rows piece → may_answer service_limits (due_answer rows memory who plan_kind piece) given ≡ true → is_refused given ≡ false → piece.offset + piece.n ≤ length (item_bytes memory piece.item.0)
served_inside rows memory who plan_kind piece given same sound e f =
    let served = served_there rows memory who plan_kind piece given f e in found_inside rows memory piece served.row same sound served.there

length-found : (memory : MemoryOfItems) (piece : PlanPiece) → piece.offset + piece.n ≤ length (item_bytes memory piece.item.0) → length (bytes_found memory piece) ≡ piece.n
length-found memory piece inside = omega (arith, length-take {A = ℕ}, length-drop {A = ℕ})

-- what a context is told of it

right_bytes : (n : ℕ) (found bytes : List ℕ) (gives : Bool) → gives ≡ true → length found ≡ n → bytes ≡ found → (gives && length bytes == n) ≡ true
right_bytes n found bytes true t long same = let size : length bytes ≡ n = ap length same ∙ long in grind (arith, nat_tests)
right_bytes n found bytes false t long same = absurd (false≢true t)

data_of : (a b : List ℕ) → answer.Data a ≡ answer.Data b → a ≡ b
data_of a b e = cc

ok_is_no_data : (bytes : List ℕ) → answer.Ok ≡ answer.Data bytes → ⊥
ok_is_no_data bytes e = cc

fits_with : (plan_kind : PlanKind) (k : PieceKind) (piece : PlanPiece) (given : PieceAnswer) (found : List ℕ) → piece.kind ≡ k → IsTrue (may_have plan_kind k) → length found ≡ piece.n → (is_refused given ≡ false → given ≡ served_answer plan_kind found) → is_answer_of plan_kind piece (collected_answer plan_kind piece given found) ≡ true
fits_with plan_kind k piece (answer.Refused error) found e may long right = refl
fits_with plan.Get kind.Read piece (answer.Data bytes) found e may long right = right_bytes piece.n found bytes (gives_bytes plan.Get piece.kind) (ap (gives_bytes plan.Get) e) long (data_of bytes found (right refl))
fits_with plan.Fetch (kind.Atomic op w a b) piece (answer.Data bytes) found e may long right = right_bytes piece.n found bytes (gives_bytes plan.Fetch piece.kind) (ap (gives_bytes plan.Fetch) e) long (data_of bytes found (right refl))
fits_with plan.Put kind.Write piece answer.Ok found e may long right = ap (λ k. not (gives_bytes plan.Put k)) e
fits_with plan.Put (kind.Atomic op w a b) piece answer.Ok found e may long right = ap (λ k. not (gives_bytes plan.Put k)) e
fits_with plan.Copy kind.Write piece answer.Ok found e may long right = copied_write (is_read piece.kind) (ap is_read e)
  where
    copied_write : (reads : Bool) → reads ≡ false → is_answer_of plan.Copy piece (if reads then answer.Data found else answer.Ok) ≡ true
    copied_write true t = absurd (false≢true (sym t))
    copied_write false t = ap (λ k. not (gives_bytes plan.Copy k)) e
fits_with plan.Copy kind.Read piece answer.Ok found e may long right = copied_read (is_read piece.kind) (ap is_read e)
  where
    copied_read : (reads : Bool) → reads ≡ true → is_answer_of plan.Copy piece (if reads then answer.Data found else answer.Ok) ≡ true
    copied_read true t = right_bytes piece.n found found (gives_bytes plan.Copy piece.kind) (ap (gives_bytes plan.Copy) e) long refl
    copied_read false t = absurd (false≢true t)
fits_with plan.Get kind.Read piece answer.Ok found e may long right = absurd (ok_is_no_data found (right refl))
fits_with plan.Fetch (kind.Atomic op w a b) piece answer.Ok found e may long right = absurd (ok_is_no_data found (right refl))
fits_with plan.Put kind.Write piece (answer.Data bytes) found e may long right = absurd (ok_is_no_data bytes (sym (right refl)))
fits_with plan.Put (kind.Atomic op w a b) piece (answer.Data bytes) found e may long right = absurd (ok_is_no_data bytes (sym (right refl)))
fits_with plan.Copy kind.Write piece (answer.Data bytes) found e may long right = absurd (ok_is_no_data bytes (sym (right refl)))
fits_with plan.Copy kind.Read piece (answer.Data bytes) found e may long right = absurd (ok_is_no_data bytes (sym (right refl)))
fits_with plan_kind k piece given found e may long right = absurd (false≢true may)

-- the answer fits its piece
pub answer_fits : (rows : Rows) (memory : MemoryOfItems) (who : Who) (plan_kind : PlanKind) (piece : PlanPiece) (given : PieceAnswer) → IsMemoryOf rows.items memory → IsSoundPiece rows piece → IsTrue (may_have plan_kind piece.kind) → may_answer service_limits (due_answer rows memory who plan_kind piece) given ≡ true → is_answer_of plan_kind piece (collected_answer plan_kind piece given (bytes_found memory piece)) ≡ true
answer_fits rows memory who plan_kind piece (answer.Refused error) same sound may e = refl
answer_fits rows memory who plan_kind piece answer.Ok same sound may e =
    fits_with plan_kind piece.kind piece answer.Ok (bytes_found memory piece) refl may
    (length-found memory piece (served_inside rows memory who plan_kind piece answer.Ok same sound e refl))
    (λ f. (served_there rows memory who plan_kind piece answer.Ok f e).right)
answer_fits rows memory who plan_kind piece (answer.Data bytes) same sound may e =
    fits_with plan_kind piece.kind piece (answer.Data bytes) (bytes_found memory piece) refl may
    (length-found memory piece (served_inside rows memory who plan_kind piece (answer.Data bytes) same sound e refl))
    (λ f. (served_there rows memory who plan_kind piece (answer.Data bytes) f e).right)

-- what the operation has of it

not_copy : (plan_kind : PlanKind) (bytes found : List ℕ) → answer.Data bytes ≡ served_answer plan_kind found → is_copy plan_kind ≡ false
not_copy plan.Get bytes found e = refl
not_copy plan.Fetch bytes found e = refl
not_copy plan.Put bytes found e = refl
not_copy plan.Copy bytes found e = absurd (ok_is_no_data bytes (sym e))

-- where no copy reads, it is no matter which bytes were found
unread : (operation : Operation) (j : ℕ) (piece : PlanPiece) (given : PieceAnswer) (bytes found : List ℕ) → is_copy_read operation piece ≡ false → with_answer operation j piece given bytes ≡ with_answer operation j piece given found
unread operation j piece given bytes found e =
    let marks = change_place j (marked (mark.Answered given)) operation.pieces in
    let last : List ℕ → Bool → List MarkedPiece = λ bytes reads. if reads then change_place (j + 1) (handed given bytes) marks else marks in
    (λ i. record operation { pieces = last bytes (e i) }) ∙ sym (λ i. record operation { pieces = last found (e i) })

ok_with : (operation : Operation) (j : ℕ) (piece : PlanPiece) (found : List ℕ) (reads : Bool) → is_copy_read operation piece ≡ reads → answered_with operation j piece (if reads then answer.Data found else answer.Ok) ≡ with_answer operation j piece answer.Ok found
ok_with operation j piece found true e = ap (λ reads. if reads then with_answer operation j piece answer.Ok found else with_answer operation j piece (answer.Data found) found) e
ok_with operation j piece found false e = unread operation j piece answer.Ok [] found e

data_with : (operation : Operation) (j : ℕ) (piece : PlanPiece) (bytes found : List ℕ) (reads : Bool) → is_copy_read operation piece ≡ reads → is_copy operation.kind ≡ false → answered_with operation j piece (answer.Data bytes) ≡ with_answer operation j piece (answer.Data bytes) found
data_with operation j piece bytes found true e f = absurd (false≢true (sym f ∙ (both_true (is_copy operation.kind) (is_read piece.kind) e).0))
data_with operation j piece bytes found false e f =
    ap (λ reads. if reads then with_answer operation j piece answer.Ok bytes else with_answer operation j piece (answer.Data bytes) bytes) e
    ∙ unread operation j piece (answer.Data bytes) bytes found e

-- a context that is told so has the operation with the answer
pub answered_same : (rows : Rows) (memory : MemoryOfItems) (who : Who) (operation : Operation) (j : ℕ) (piece : PlanPiece) (given : PieceAnswer) → may_answer service_limits (due_answer rows memory who operation.kind piece) given ≡ true → answered_with operation j piece (collected_answer operation.kind piece given (bytes_found memory piece)) ≡ with_answer operation j piece given (bytes_found memory piece)
answered_same rows memory who operation j piece (answer.Refused error) e = refl
answered_same rows memory who operation j piece answer.Ok e = ok_with operation j piece (bytes_found memory piece) (is_copy_read operation piece) refl
answered_same rows memory who operation j piece (answer.Data bytes) e =
    data_with operation j piece bytes (bytes_found memory piece) (is_copy_read operation piece) refl
    (not_copy operation.kind bytes (bytes_found memory piece) (served_there rows memory who operation.kind piece (answer.Data bytes) refl e).right)
