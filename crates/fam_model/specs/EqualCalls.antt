-- Equal calls are the same.
use Rattle.std.specs.Prelude.{◌≡◌, ℕ, ℤ, Bool, true, false, ◌==◌, ◌&&◌, refl}
use Rattle.std.specs.Bool.{beq}
use Rattle.std.specs.Ordering.{int_eq}
use Rattle.std.proofs.Common.{rules}
use denote.Enum.Bare.{same_true}
use Rattle.fam_model.specs.declared.call.Call.{Call}
use Rattle.fam_model.specs.declared.call.Call.TheVariants as call
use Rattle.fam_model.specs.declared.call.Op.{Op}
use Rattle.fam_model.specs.declared.call.Width.{Width}
use Rattle.fam_model.specs.declared.call.DataOp.{DataOp}
use Rattle.fam_model.specs.declared.call.DataOp.TheVariants as data_op
use Rattle.fam_model.specs.contracts.call.Op.{the_type as the_op}
use Rattle.fam_model.specs.contracts.call.Width.{the_type as the_width}
use Rattle.fam_model.specs.contracts.call.CallPartialEq.TheImpl as calls
use Rattle.fam_model.specs.contracts.call.OpPartialEq.TheImpl as ops
use Rattle.fam_model.specs.contracts.call.WidthPartialEq.TheImpl as widths
use Rattle.fam_model.specs.contracts.call.DataOpPartialEq.TheImpl as data_ops
use Rattle.fam_model.specs.contracts.plain.MetaCallExact.TheImpl.Laws as meta_laws

-- both of two tests hold
both_true : (p q : Bool) → (p && q) ≡ true → (p ≡ true) × (q ≡ true)
both_true true true e = (refl, refl)
both_true true false e = cc
both_true false q e = cc

-- equal fields are the same

equal_numbers : (a b : ℕ) → (a == b) ≡ true → a ≡ b
equal_numbers a b e = search rules

equal_ints : (a b : ℤ) → int_eq a b ≡ true → a ≡ b
equal_ints a b e = search rules

equal_tests : (a b : Bool) → beq a b ≡ true → a ≡ b
equal_tests a b e = search rules

equal_ops : (a b : Op) → ops.ghosts.eq a b ≡ true → a ≡ b
equal_ops a b e = same_true the_op tt a b e

equal_widths : (a b : Width) → widths.ghosts.eq a b ≡ true → a ≡ b
equal_widths a b e = same_true the_width tt a b e

-- atomics of equal fields are the same
equal_atomics : (item offset other_item other_offset : ℕ) (width other_width : Width) (op other_op : Op) (a b other_a other_b : ℤ) →
    (item == other_item && (offset == other_offset && (widths.ghosts.eq width other_width && (ops.ghosts.eq op other_op && (int_eq a other_a && int_eq b other_b))))) ≡ true →
    data_op.Atomic item offset width op a b ≡ data_op.Atomic other_item other_offset other_width other_op other_a other_b
equal_atomics item offset other_item other_offset width other_width op other_op a b other_a other_b e =
    let one = both_true _ _ e in
    let two = both_true _ _ one.1 in
    let three = both_true _ _ two.1 in
    let four = both_true _ _ three.1 in
    let five = both_true _ _ four.1 in
    let same_item = equal_numbers item other_item one.0 in
    let same_offset = equal_numbers offset other_offset two.0 in
    let same_width = equal_widths width other_width three.0 in
    let same_op = equal_ops op other_op four.0 in
    let same_a = equal_ints a other_a five.0 in
    let same_b = equal_ints b other_b five.1 in
    cc

-- equal operations are the same
pub equal_data_ops : (a b : DataOp) → data_ops.ghosts.eq a b ≡ true → a ≡ b
equal_data_ops (data_op.Get a b c) (data_op.Get x y z) e = search rules
equal_data_ops (data_op.Put a b c) (data_op.Put x y z) e = search rules
equal_data_ops (data_op.Gather a b c d f) (data_op.Gather x y z u v) e = search rules
equal_data_ops (data_op.Scatter a b c d f g) (data_op.Scatter x y z u v w) e = search rules
equal_data_ops (data_op.GatherIndex a b c) (data_op.GatherIndex x y z) e = search rules
equal_data_ops (data_op.ScatterIndex a b c d) (data_op.ScatterIndex x y z u) e = search rules
equal_data_ops (data_op.Copy a b c d f) (data_op.Copy x y z u v) e = search rules
equal_data_ops (data_op.Atomic item offset width op a b) (data_op.Atomic other_item other_offset other_width other_op other_a other_b) e =
    equal_atomics item offset other_item other_offset width other_width op other_op a b other_a other_b e
equal_data_ops a b e = cc

-- data calls of equal fields are the same
equal_data_calls : (context other_context : ℕ) (op other_op : DataOp) (blocking other_blocking : Bool) →
    (context == other_context && (data_ops.ghosts.eq op other_op && beq blocking other_blocking)) ≡ true →
    call.Data context op blocking ≡ call.Data other_context other_op other_blocking
equal_data_calls context other_context op other_op blocking other_blocking e =
    let one = both_true _ _ e in
    let two = both_true _ _ one.1 in
    let same_context = equal_numbers context other_context one.0 in
    let same_op = equal_data_ops op other_op two.0 in
    let same_blocking = equal_tests blocking other_blocking two.1 in
    cc

-- equal calls are the same
pub equal_calls : (a b : Call) → calls.ghosts.eq a b ≡ true → a ≡ b
equal_calls (call.Meta a) (call.Meta b) e = let same : a ≡ b = meta_laws.equal_is_same-law a b e in cc
equal_calls (call.Data a b c) (call.Data x y z) e = equal_data_calls a x b y c z e
equal_calls (call.OpenContext a) (call.OpenContext b) e = search rules
equal_calls (call.CloseContext a) (call.CloseContext b) e = search rules
equal_calls (call.CopyWait a b) (call.CopyWait x y) e = search rules
equal_calls (call.Fence a) (call.Fence b) e = search rules
equal_calls (call.Quiet a) (call.Quiet b) e = search rules
equal_calls call.Barrier call.Barrier e = refl
equal_calls call.Leave call.Leave e = refl
equal_calls call.Crash call.Crash e = refl
equal_calls a b e = cc
