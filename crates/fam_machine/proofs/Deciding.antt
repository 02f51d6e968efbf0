-- What becomes of a call that is issued.
use Rattle.std.proofs.Common.{◌≡◌, ℕ, ◌+◌, List, [], ◌∷◌, map, Bool, true, false, ap, ◌∙◌, refl}
use Rattle.std.specs.Prelude.{◌||◌, not, if◌then◌else◌}
use Rattle.std.specs.List.{flat_map}
use Rattle.fam_base.specs.declared.naming.Descriptor.{Descriptor}
use Rattle.fam_model.specs.declared.call.DataOp.{DataOp}
use Rattle.fam_model.specs.declared.call.DataOp.TheVariants as data_op
use Rattle.fam_model.specs.declared.piece.Part.{Part}
use Rattle.fam_model.specs.declared.piece.PlanKind.TheVariants as plan_kinds
use Rattle.fam_model.specs.declared.rows.Rows.{Rows}
use Rattle.fam_model.specs.declared.service.Service.{Service}
use Rattle.fam_model.specs.declared.state.ProgramState.{ProgramState}
use Rattle.fam_layout.specs.declared.plan.Plan.{Plan}
use Rattle.fam_layout.specs.Plans.{planned}
use Rattle.fam_context.specs.Order.{is_planned_in_turn, are_in_turn}
use Rattle.fam_model.specs.Atomic.{is_fetching}
use Rattle.fam_model.specs.Operations.{is_copy}
use Rattle.fam_model.specs.PieceStep.{is_read}
use Rattle.fam_model.specs.Pieces.{read_piece, write_piece, part, cut_where, is_border}
use Rattle.fam_machine.specs.Issuing.{Knows, IsAccepted}
use Rattle.fam_machine.specs.Sound.{HoldsSound}
use Rattle.fam_machine.proofs.Issued.{targets_known}

-- the items of an operation lie where items may lie
pub knows : (rows : Rows) (p : ProgramState) (op : DataOp) → HoldsSound rows p → Knows p op
knows rows p op holds items e = let known = targets_known rows p op items holds e in (known.0.room, known.1.room)

-- plans

in_turn_parts : (service : Service) (from to : Descriptor) (from_offset to_offset : ℕ) (parts : List Part) → are_in_turn (map (λ p. is_read p.kind) (flat_map (λ p. read_piece service from (part (from_offset + p.offset) p.n) ∷ write_piece service to (part (to_offset + p.offset) p.n) [] ∷ []) parts)) ≡ true
in_turn_parts service from to from_offset to_offset [] = refl
in_turn_parts service from to from_offset to_offset (p ∷ parts) = in_turn_parts service from to from_offset to_offset parts

no_copy_of_atomic : (fetches rest : Bool) → (not (is_copy (if fetches then plan_kinds.Fetch else plan_kinds.Put)) || rest) ≡ true
no_copy_of_atomic true rest = refl
no_copy_of_atomic false rest = refl

-- a copy's plan reads and writes in turn
planned_in_turn : (service : Service) (op : DataOp) (from to : Descriptor) → is_planned_in_turn (planned service op from to) ≡ true
planned_in_turn service (data_op.Copy source from_offset target to_offset count) from to =
    in_turn_parts service from to from_offset to_offset (cut_where (λ k. is_border service.unit (from.base + from_offset) k || is_border service.unit (to.base + to_offset) k) 0 count)
planned_in_turn service (data_op.Atomic item offset width o a b) from to = no_copy_of_atomic (is_fetching o) _
planned_in_turn service op from to = refl

pub accepted_in_turn : (service : Service) (p : ProgramState) (c : ℕ) (op : DataOp) (plan : Plan) → IsAccepted service p c op plan → is_planned_in_turn plan ≡ true
accepted_in_turn service p c op plan made = ap is_planned_in_turn made.planned_so ∙ planned_in_turn service op made.items.0 made.items.1
