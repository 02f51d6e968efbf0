-- What the issue of a call keeps.
use Rattle.std.proofs.Common.{◌≡◌, ℕ, List, [], ◌∷◌, ◌++◌, map, Option, Some, None, Bool, true, false, sym, ap, subst, refl}
use Rattle.std.specs.Prelude.{not, if◌then◌else◌, slice_get, IsTrue}
use Rattle.std.proofs.lemmas.List.Elements.{All-cons, All-nil, All-append, All-map, All-set}
use Rattle.std.proofs.lemmas.Option.{none-some, same_Some}
use Rattle.fam_base.specs.declared.naming.Descriptor.{Descriptor}
use Rattle.fam_base.specs.declared.error.FamError.{FamError}
use Rattle.fam_base.specs.declared.error.FamError.TheVariants.{BadHandle, Budget}
use Rattle.fam_model.specs.declared.call.Call.{Call}
use Rattle.fam_model.specs.declared.call.Call.TheVariants as call
use Rattle.fam_model.specs.declared.call.DataOp.{DataOp}
use Rattle.fam_model.specs.declared.piece.PlanPiece.{PlanPiece}
use Rattle.fam_model.specs.declared.reply.Reply.{Reply}
use Rattle.fam_model.specs.declared.rows.Rows.{Rows}
use Rattle.fam_model.specs.declared.service.Service.{Service}
use Rattle.fam_model.specs.declared.state.Context.{Context}
use Rattle.fam_model.specs.declared.state.ProgramState.{ProgramState}
use Rattle.fam_model.specs.Directory.{first_case, error_or}
use Rattle.fam_model.specs.Issue.{issue_refusal, targets, plan_refusals, data_refusals, is_over_budget, slot_of, second_slot_of}
use Rattle.fam_model.specs.IssueStep.{new_operation, with_issued, accepted, issue_with, issue_step, left_piece}
use Rattle.fam_model.specs.Pieces.{pieces, plan_kind}
use Rattle.fam_model.specs.Programs.{item_slot, is_open, open_context}
use Rattle.fam_model.specs.Shape.{is_shaped, is_shaped_data, is_context}
use Rattle.fam_machine.specs.Sound.{IsKnown, IsSoundPiece, IsSoundOperation, IsSoundContext, IsSoundSlot, HoldsSound, may_have, piece_extent}
use Rattle.fam_machine.proofs.Lists.{bind_some, when_some, both_true, All-at}
use Rattle.fam_machine.proofs.Planned.{MayBePlanned, pieces_sound, pieces_may, pieces_paired}
use Rattle.fam_machine.proofs.Programs.{IsNext, counted_next, open_context_sound}

-- where no case of a list holds, none of its front does
no_case_in_front : (xs ys : List (Bool × FamError)) → first_case (xs ++ ys) ≡ None → first_case xs ≡ None
no_case_in_front [] ys e = refl
no_case_in_front (x ∷ xs) ys e = here x.0 (no_case_in_front xs ys) e
  where
    here : (holds : Bool) → (first_case (xs ++ ys) ≡ None → first_case xs ≡ None) → (if holds then Some x.1 else first_case (xs ++ ys)) ≡ None → (if holds then Some x.1 else first_case xs) ≡ None
    here true later e = e
    here false later e = later e

-- and none behind the first one
no_case_behind : (holds : Bool) (error : FamError) (cases : List (Bool × FamError)) → first_case ((holds, error) ∷ cases) ≡ None → first_case cases ≡ None
no_case_behind true error cases e = absurd (none-some error (sym e))
no_case_behind false error cases e = e

-- the descriptor of a slot is known
slot_known : (rows : Rows) (p : ProgramState) (slot : ℕ) (d : Descriptor) → HoldsSound rows p → item_slot p slot ≡ Some d → IsKnown rows d
slot_known rows p slot d holds e =
    let there = bind_some (slice_get p.item_slots slot) (λ held. held) d e in
    All-at (IsSoundSlot rows) p.item_slots slot there.0 holds.slots there.1 d there.2

-- so are the items of an operation
pub targets_known : (rows : Rows) (p : ProgramState) (op : DataOp) (items : Descriptor × Descriptor) → HoldsSound rows p → targets p op ≡ Some items → IsKnown rows items.0 × IsKnown rows items.1
targets_known rows p op items holds e =
    let from = bind_some (item_slot p (slot_of op)) _ items e in
    let to = bind_some (item_slot p (second_slot_of op)) _ items from.2 in
    let same = same_Some _ items to.2 in (
      subst (IsKnown rows) (ap (λ (x : Descriptor × Descriptor). x.0) same) (slot_known rows p (slot_of op) from.0 holds from.1),
      subst (IsKnown rows) (ap (λ (x : Descriptor × Descriptor). x.1) same) (slot_known rows p (second_slot_of op) to.0 holds to.1),
    )

-- a data call that is not refused has a plan
pub not_refused : (service : Service) (p : ProgramState) (c : ℕ) (op : DataOp) (items : Descriptor × Descriptor) → targets p op ≡ Some items → first_case (data_refusals service p c op) ≡ None → first_case (plan_refusals op items.0 items.1) ≡ None
not_refused service p c op items e none =
    let behind = no_case_behind (not (is_open p c)) BadHandle (error_or BadHandle (targets p op) (λ items. plan_refusals op items.0 items.1 ++ (is_over_budget service p op items.0 items.1, Budget) ∷ [])) none in
    let there : first_case (plan_refusals op items.0 items.1 ++ (is_over_budget service p op items.0 items.1, Budget) ∷ []) ≡ None =
    subst (λ o. first_case (error_or BadHandle o (λ items. plan_refusals op items.0 items.1 ++ (is_over_budget service p op items.0 items.1, Budget) ∷ [])) ≡ None) e behind
    in
    no_case_in_front (plan_refusals op items.0 items.1) ((is_over_budget service p op items.0 items.1, Budget) ∷ []) there

-- a new operation is sound
new_sound : (rows : Rows) (service : Service) (call epoch : ℕ) (op : DataOp) (blocking : Bool) (items : Descriptor × Descriptor) → MayBePlanned rows op items.0 items.1 → IsSoundOperation rows (new_operation call epoch op blocking (pieces service op items.0 items.1))
new_sound rows service call epoch op blocking items may =
    record {
      inside = All-map (λ m. IsSoundPiece rows m.piece) left_piece (pieces service op items.0 items.1) (pieces_sound rows service op items.0 items.1 may);
      kinds = All-map (λ extent. IsTrue (may_have (plan_kind op) extent.0)) piece_extent (map left_piece (pieces service op items.0 items.1))
          (All-map (λ m. IsTrue (may_have (plan_kind op) m.piece.kind)) left_piece (pieces service op items.0 items.1) (pieces_may service op items.0 items.1));
      paired = pieces_paired service op items.0 items.1;
    }

issued_next : (rows : Rows) (p : ProgramState) (c : ℕ) (context : Context) (op : DataOp) (blocking : Bool) (ps : List PlanPiece) → HoldsSound rows p → IsSoundContext rows context → IsSoundOperation rows (new_operation p.next_call context.epoch op blocking ps) → IsNext rows 1 p (with_issued p c context op blocking ps)
issued_next rows p c context op blocking ps holds sound new =
    let operation = new_operation p.next_call context.epoch op blocking ps in
    let operations : IsSoundContext rows (record context { operations = context.operations ++ operation ∷ [] }) =
    All-append (IsSoundOperation rows) context.operations (operation ∷ []) sound (All-cons (IsSoundOperation rows) operation [] new (All-nil (IsSoundOperation rows)))
    in
    record {
      who = refl;
      is_local = refl;
      standing = refl;
      arrived = refl;
      next = refl;
      holds = record {
        slots = holds.slots;
        operations = All-set (IsSoundContext rows) p.contexts c (record context { operations = context.operations ++ operation ∷ [] }) operations holds.operations;
      };
    }

shaped_data : (c : ℕ) (op : DataOp) (blocking : Bool) → is_shaped (call.Data c op blocking) ≡ true → is_shaped_data op blocking ≡ true
shaped_data c op blocking e = (both_true (is_context c) (is_shaped_data op blocking) e).1

accepted_next : (rows : Rows) (service : Service) (p q : ProgramState) (asked : Call) → HoldsSound rows p → is_shaped asked ≡ true → issue_refusal service p asked ≡ None → accepted service p asked ≡ Some q → IsNext rows 1 p q
accepted_next rows service p q (call.Data c op blocking) holds shaped none e =
    let context = bind_some (open_context p c) _ q e in
    let items = bind_some (targets p op) _ q context.2 in
    let known = targets_known rows p op items.0 holds items.1 in
    let may : MayBePlanned rows op items.0.0 items.0.1 = record {
      known_from = known.0;
      known_to = known.1;
      blocking = blocking;
      shaped = shaped_data c op blocking shaped;
      not_refused = not_refused service p c op items.0 items.1 none;
    } in
    subst (IsNext rows 1 p) (same_Some _ q items.2)
    (issued_next rows p c context.0 op blocking (pieces service op items.0.0 items.0.1) holds (open_context_sound rows p c context.0 holds context.1)
    (new_sound rows service p.next_call context.0.epoch op blocking items.0 may))
accepted_next rows service p q asked holds shaped none e = absurd (none-some q e)

issued_with : (rows : Rows) (service : Service) (p q : ProgramState) (asked : Call) (given : Reply) (refusal : Option FamError) → issue_refusal service p asked ≡ refusal → HoldsSound rows p → is_shaped asked ≡ true → issue_with refusal service p asked given ≡ Some q → IsNext rows 1 p q
issued_with rows service p q asked given (Some error) r holds shaped e =
    subst (IsNext rows 1 p) (when_some _ _ q e).1 (counted_next rows p holds)
issued_with rows service p q asked given None r holds shaped e =
    let next = bind_some (accepted service p asked) _ q e in
    subst (IsNext rows 1 p) (when_some _ _ q next.2).1 (accepted_next rows service p next.0 asked holds shaped r next.1)

pub issue_next : (rows : Rows) (service : Service) (p q : ProgramState) (asked : Call) (given : Reply) → HoldsSound rows p → is_shaped asked ≡ true → issue_step service p asked given ≡ Some q → IsNext rows 1 p q
issue_next rows service p q asked given holds shaped e =
    issued_with rows service p q asked given (issue_refusal service p asked) refl holds shaped e
