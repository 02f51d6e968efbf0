-- The words of each call that can be told are printed, and their number is the one that the first of them asks for.
use Rattle.std.proofs.Common.{◌≡◌, ℕ, ◌*◌, ◌<◌, ◌≤◌, Bool, true, false, List, [], ◌∷◌, ◌++◌, length, refl, lit≤, lt_of_lt_of_le}
use Rattle.std.specs.Prelude.{◌==◌, ◌&&◌, ℤ}
use Rattle.std.specs.List.{list_all}
use Rattle.std.specs.Bool.{beq}
use Rattle.std.specs.Fmt.{signed_decimal}
use Rattle.std.proofs.lemmas.Bool.{leb-true, ltb-true}
use Rattle.fam_model.specs.declared.call.Width.{Width}
use Rattle.fam_model.specs.declared.call.Width.TheVariants.{I32, U32, I64, U64, I128, F32, F64}
use Rattle.fam_model.specs.declared.call.Op.{Op}
use Rattle.fam_model.specs.declared.call.Op.TheVariants.{Set, Add, Sub, Min, Max, And, Or, Xor, Fetch, FetchAdd, FetchSub, FetchMin, FetchMax, FetchAnd, FetchOr, FetchXor, Swap, Cas}
use Rattle.fam_model.specs.declared.call.MetaCall.{MetaCall}
use Rattle.fam_model.specs.declared.call.MetaCall.TheVariants as meta
use Rattle.fam_model.specs.declared.call.DataOp.{DataOp}
use Rattle.fam_model.specs.declared.call.DataOp.TheVariants as data_op
use Rattle.fam_model.specs.declared.call.Call.{Call}
use Rattle.fam_model.specs.declared.call.Call.TheVariants as call
use Rattle.fam_model.specs.Atomic.{is_fetching, is_in_range}
use Rattle.fam_model.specs.CallText.{width_word, op_word, argument_words, meta_words, data_words, call_words, has_text}
use Rattle.fam_model.specs.Shape.{is_slot, is_context, is_name, is_shaped, is_zero, is_short, are_few, has_arguments}
use Rattle.fam_model.specs.Values.{is_u64, is_mode, are_bytes, call_fits, call_numbers, call_modes, call_bytes}
use Rattle.fam_script.specs.Reading.{Words}
use Rattle.fam_script.proofs.Tests.{and_left, and_right}
use Rattle.fam_script.proofs.WordsBack.{is_printed, IsLow, low_of, decimal_printed, mode_printed, hex_printed, list_printed, signed_printed, in_range_narrow}
use Rattle.report_reader.specs.EventForm.{is_call_told}
use Rattle.report_reader.specs.Reading.{call_size}
use Rattle.report_reader.proofs.Words.{both}
use Rattle.report_reader.proofs.RepliesBack.{HasWord, name_is_printed}

slot_below : (s : ℕ) → is_slot s ≡ true → s < 16
slot_below s e = ltb-true s 16 e

context_below : (s : ℕ) → is_context s ≡ true → s < 8
context_below s e = ltb-true s 8 e

slot_low : (s : ℕ) → is_slot s ≡ true → IsLow s
slot_low s e = lt_of_lt_of_le (slot_below s e) (lit≤ tt)

context_low : (s : ℕ) → is_context s ≡ true → IsLow s
context_low s e = lt_of_lt_of_le (context_below s e) (lit≤ tt)

mode_low : (m : ℕ) → is_mode m ≡ true → m ≤ 511
mode_low m e = leb-true m 511 e

-- what a lawful call's line says of its parts
module _ (asked : Call) (e : is_call_told asked ≡ true) where
  shaped_of : is_shaped asked ≡ true
  shaped_of = and_right (has_text asked) (is_shaped asked) (and_left (has_text asked && is_shaped asked) (call_fits asked) e)

  fits_of : call_fits asked ≡ true
  fits_of = and_right (has_text asked && is_shaped asked) (call_fits asked) e

  numbers_of : list_all is_u64 (call_numbers asked) ≡ true
  numbers_of = and_left (list_all is_u64 (call_numbers asked)) (list_all is_mode (call_modes asked)) (and_left (list_all is_u64 (call_numbers asked) && list_all is_mode (call_modes asked)) (are_bytes (call_bytes asked)) fits_of)

  modes_of : list_all is_mode (call_modes asked) ≡ true
  modes_of = and_right (list_all is_u64 (call_numbers asked)) (list_all is_mode (call_modes asked)) (and_left (list_all is_u64 (call_numbers asked) && list_all is_mode (call_modes asked)) (are_bytes (call_bytes asked)) fits_of)

  bytes_of : are_bytes (call_bytes asked) ≡ true
  bytes_of = and_right (list_all is_u64 (call_numbers asked) && list_all is_mode (call_modes asked)) (are_bytes (call_bytes asked)) fits_of

head_of : {A : Type 0} (p : A → Bool) (x : A) (xs : List A) → list_all p (x ∷ xs) ≡ true → p x ≡ true
head_of p x xs e = and_left (p x) (list_all p xs) e

tail_of : {A : Type 0} (p : A → Bool) (x : A) (xs : List A) → list_all p (x ∷ xs) ≡ true → list_all p xs ≡ true
tail_of p x xs e = and_right (p x) (list_all p xs) e

width_printed : (w : Width) → is_printed (width_word w) ≡ true
width_printed I32 = refl
width_printed U32 = refl
width_printed I64 = refl
width_printed U64 = refl
width_printed I128 = refl
width_printed F32 = refl
width_printed F64 = refl

op_printed : (o : Op) → is_printed (op_word o) ≡ true
op_printed Set = refl
op_printed Add = refl
op_printed Sub = refl
op_printed Min = refl
op_printed Max = refl
op_printed And = refl
op_printed Or = refl
op_printed Xor = refl
op_printed Fetch = refl
op_printed FetchAdd = refl
op_printed FetchSub = refl
op_printed FetchMin = refl
op_printed FetchMax = refl
op_printed FetchAnd = refl
op_printed FetchOr = refl
op_printed FetchXor = refl
op_printed Swap = refl
op_printed Cas = refl

one_printed : (width : Width) (a : ℤ) → is_in_range width a ≡ true → list_all is_printed (signed_decimal a ∷ []) ≡ true
one_printed width a e = both (signed_printed a (in_range_narrow width a e)) refl

arguments_printed : (op : Op) (width : Width) (a b : ℤ) → has_arguments op width a b ≡ true → list_all is_printed (argument_words op a b) ≡ true
arguments_printed Set width a b e = one_printed width a (and_left (is_in_range width a) (is_zero b) e)
arguments_printed Add width a b e = one_printed width a (and_left (is_in_range width a) (is_zero b) e)
arguments_printed Sub width a b e = one_printed width a (and_left (is_in_range width a) (is_zero b) e)
arguments_printed Min width a b e = one_printed width a (and_left (is_in_range width a) (is_zero b) e)
arguments_printed Max width a b e = one_printed width a (and_left (is_in_range width a) (is_zero b) e)
arguments_printed And width a b e = one_printed width a (and_left (is_in_range width a) (is_zero b) e)
arguments_printed Or width a b e = one_printed width a (and_left (is_in_range width a) (is_zero b) e)
arguments_printed Xor width a b e = one_printed width a (and_left (is_in_range width a) (is_zero b) e)
arguments_printed Fetch width a b e = refl
arguments_printed FetchAdd width a b e = one_printed width a (and_left (is_in_range width a) (is_zero b) e)
arguments_printed FetchSub width a b e = one_printed width a (and_left (is_in_range width a) (is_zero b) e)
arguments_printed FetchMin width a b e = one_printed width a (and_left (is_in_range width a) (is_zero b) e)
arguments_printed FetchMax width a b e = one_printed width a (and_left (is_in_range width a) (is_zero b) e)
arguments_printed FetchAnd width a b e = one_printed width a (and_left (is_in_range width a) (is_zero b) e)
arguments_printed FetchOr width a b e = one_printed width a (and_left (is_in_range width a) (is_zero b) e)
arguments_printed FetchXor width a b e = one_printed width a (and_left (is_in_range width a) (is_zero b) e)
arguments_printed Swap width a b e = one_printed width a (and_left (is_in_range width a) (is_zero b) e)
arguments_printed Cas width a b e =
    both (signed_printed a (in_range_narrow width a (and_left (is_in_range width a) (is_in_range width b) e)))
    (one_printed width b (and_right (is_in_range width a) (is_in_range width b) e))

atomic_printed : (context item offset : ℕ) (width : Width) (op : Op) (a b : ℤ) (blocking : Bool) → is_call_told (call.Data context (data_op.Atomic item offset width op a b) blocking) ≡ true →
    list_all is_printed (data_words context (data_op.Atomic item offset width op a b) blocking) ≡ true
atomic_printed context item offset width op a b blocking e =
    let asked = call.Data context (data_op.Atomic item offset width op a b) blocking in
    let rest = is_slot item && has_arguments op width a b && beq blocking (is_fetching op) in
    let shaped = and_right (is_context context) rest (shaped_of asked e) in
    let context-ok = and_left (is_context context) rest (shaped_of asked e) in
    let first = and_left (is_slot item && has_arguments op width a b) (beq blocking (is_fetching op)) shaped in
    let item-ok = and_left (is_slot item) (has_arguments op width a b) first in
    let offset-ok = head_of is_u64 offset [] (numbers_of asked e) in
    both (decimal_printed context (context_low context context-ok)) (both (decimal_printed item (slot_low item item-ok))
    (both (decimal_printed offset (low_of offset offset-ok)) (both (width_printed width) (both (op_printed op)
    (arguments_printed op width a b (and_right (is_slot item) (has_arguments op width a b) first))))))

meta_printed : (m : MetaCall) → is_call_told (call.Meta m) ≡ true → list_all is_printed (meta_words m) ≡ true
meta_printed (meta.CreateRegion slot name size mode) e = both (decimal_printed slot (slot_low slot (and_left (is_slot slot) (is_name name) (shaped_of (call.Meta (meta.CreateRegion slot name size mode)) e)))) (both (name_is_printed name (and_right (is_slot slot) (is_name name) (shaped_of (call.Meta (meta.CreateRegion slot name size mode)) e))) (both (decimal_printed size (low_of size (head_of is_u64 size ([]) (numbers_of (call.Meta (meta.CreateRegion slot name size mode)) e)))) (both (mode_printed mode (mode_low mode (head_of is_mode mode ([]) (modes_of (call.Meta (meta.CreateRegion slot name size mode)) e)))) (refl))))
meta_printed (meta.DestroyRegion slot) e = both (decimal_printed slot (slot_low slot (shaped_of (call.Meta (meta.DestroyRegion slot)) e))) (refl)
meta_printed (meta.ResizeRegion slot size) e = both (decimal_printed slot (slot_low slot (shaped_of (call.Meta (meta.ResizeRegion slot size)) e))) (both (decimal_printed size (low_of size (head_of is_u64 size ([]) (numbers_of (call.Meta (meta.ResizeRegion slot size)) e)))) (refl))
meta_printed (meta.SetRegionMode slot mode) e = both (decimal_printed slot (slot_low slot (shaped_of (call.Meta (meta.SetRegionMode slot mode)) e))) (both (mode_printed mode (mode_low mode (head_of is_mode mode ([]) (modes_of (call.Meta (meta.SetRegionMode slot mode)) e)))) (refl))
meta_printed (meta.LookupRegion slot name) e = both (decimal_printed slot (slot_low slot (and_left (is_slot slot) (is_name name) (shaped_of (call.Meta (meta.LookupRegion slot name)) e)))) (both (name_is_printed name (and_right (is_slot slot) (is_name name) (shaped_of (call.Meta (meta.LookupRegion slot name)) e))) (refl))
meta_printed (meta.StatRegion slot) e = both (decimal_printed slot (slot_low slot (shaped_of (call.Meta (meta.StatRegion slot)) e))) (refl)
meta_printed (meta.Allocate slot name size mode region) e = both (decimal_printed slot (slot_low slot (and_left (is_slot slot) (is_slot region) (and_left (is_slot slot && is_slot region) (is_name name) (shaped_of (call.Meta (meta.Allocate slot name size mode region)) e))))) (both (name_is_printed name (and_right (is_slot slot && is_slot region) (is_name name) (shaped_of (call.Meta (meta.Allocate slot name size mode region)) e))) (both (decimal_printed size (low_of size (head_of is_u64 size ([]) (numbers_of (call.Meta (meta.Allocate slot name size mode region)) e)))) (both (mode_printed mode (mode_low mode (head_of is_mode mode ([]) (modes_of (call.Meta (meta.Allocate slot name size mode region)) e)))) (both (decimal_printed region (slot_low region (and_right (is_slot slot) (is_slot region) (and_left (is_slot slot && is_slot region) (is_name name) (shaped_of (call.Meta (meta.Allocate slot name size mode region)) e))))) (refl)))))
meta_printed (meta.Deallocate slot) e = both (decimal_printed slot (slot_low slot (shaped_of (call.Meta (meta.Deallocate slot)) e))) (refl)
meta_printed (meta.SetItemMode slot mode) e = both (decimal_printed slot (slot_low slot (shaped_of (call.Meta (meta.SetItemMode slot mode)) e))) (both (mode_printed mode (mode_low mode (head_of is_mode mode ([]) (modes_of (call.Meta (meta.SetItemMode slot mode)) e)))) (refl))
meta_printed (meta.Lookup slot name region) e = both (decimal_printed slot (slot_low slot (and_left (is_slot slot) (is_name name) (and_left (is_slot slot && is_name name) (is_name region) (shaped_of (call.Meta (meta.Lookup slot name region)) e))))) (both (name_is_printed name (and_right (is_slot slot) (is_name name) (and_left (is_slot slot && is_name name) (is_name region) (shaped_of (call.Meta (meta.Lookup slot name region)) e)))) (both (name_is_printed region (and_right (is_slot slot && is_name name) (is_name region) (shaped_of (call.Meta (meta.Lookup slot name region)) e))) (refl)))
meta_printed (meta.Stat slot) e = both (decimal_printed slot (slot_low slot (shaped_of (call.Meta (meta.Stat slot)) e))) (refl)

data_printed : (context : ℕ) (op : DataOp) (blocking : Bool) → is_call_told (call.Data context op blocking) ≡ true → list_all is_printed (data_words context op blocking) ≡ true
data_printed context (data_op.Get item offset count) true e = both (decimal_printed context (context_low context (and_left (is_context context) (is_slot item) (shaped_of (call.Data context (data_op.Get item offset count) true) e)))) (both (decimal_printed item (slot_low item (and_right (is_context context) (is_slot item) (shaped_of (call.Data context (data_op.Get item offset count) true) e)))) (both (decimal_printed offset (low_of offset (head_of is_u64 offset (count ∷ []) (numbers_of (call.Data context (data_op.Get item offset count) true) e)))) (both (decimal_printed count (low_of count (head_of is_u64 count ([]) (tail_of is_u64 offset (count ∷ []) (numbers_of (call.Data context (data_op.Get item offset count) true) e))))) (refl))))
data_printed context (data_op.Get item offset count) false e = both (decimal_printed context (context_low context (and_left (is_context context) (is_slot item) (shaped_of (call.Data context (data_op.Get item offset count) false) e)))) (both (decimal_printed item (slot_low item (and_right (is_context context) (is_slot item) (shaped_of (call.Data context (data_op.Get item offset count) false) e)))) (both (decimal_printed offset (low_of offset (head_of is_u64 offset (count ∷ []) (numbers_of (call.Data context (data_op.Get item offset count) false) e)))) (both (decimal_printed count (low_of count (head_of is_u64 count ([]) (tail_of is_u64 offset (count ∷ []) (numbers_of (call.Data context (data_op.Get item offset count) false) e))))) (refl))))
data_printed context (data_op.Put item offset bytes) true e = both (decimal_printed context (context_low context (and_left (is_context context) (is_slot item && is_short bytes) (shaped_of (call.Data context (data_op.Put item offset bytes) true) e)))) (both (decimal_printed item (slot_low item (and_left (is_slot item) (is_short bytes) (and_right (is_context context) (is_slot item && is_short bytes) (shaped_of (call.Data context (data_op.Put item offset bytes) true) e))))) (both (decimal_printed offset (low_of offset (head_of is_u64 offset ([]) (numbers_of (call.Data context (data_op.Put item offset bytes) true) e)))) (both (hex_printed bytes (bytes_of (call.Data context (data_op.Put item offset bytes) true) e)) (refl))))
data_printed context (data_op.Put item offset bytes) false e = both (decimal_printed context (context_low context (and_left (is_context context) (is_slot item && is_short bytes) (shaped_of (call.Data context (data_op.Put item offset bytes) false) e)))) (both (decimal_printed item (slot_low item (and_left (is_slot item) (is_short bytes) (and_right (is_context context) (is_slot item && is_short bytes) (shaped_of (call.Data context (data_op.Put item offset bytes) false) e))))) (both (decimal_printed offset (low_of offset (head_of is_u64 offset ([]) (numbers_of (call.Data context (data_op.Put item offset bytes) false) e)))) (both (hex_printed bytes (bytes_of (call.Data context (data_op.Put item offset bytes) false) e)) (refl))))
data_printed context (data_op.Gather item first stride size count) true e = both (decimal_printed context (context_low context (and_left (is_context context) (is_slot item) (shaped_of (call.Data context (data_op.Gather item first stride size count) true) e)))) (both (decimal_printed item (slot_low item (and_right (is_context context) (is_slot item) (shaped_of (call.Data context (data_op.Gather item first stride size count) true) e)))) (both (decimal_printed first (low_of first (head_of is_u64 first (stride ∷ size ∷ count ∷ []) (numbers_of (call.Data context (data_op.Gather item first stride size count) true) e)))) (both (decimal_printed stride (low_of stride (head_of is_u64 stride (size ∷ count ∷ []) (tail_of is_u64 first (stride ∷ size ∷ count ∷ []) (numbers_of (call.Data context (data_op.Gather item first stride size count) true) e))))) (both (decimal_printed size (low_of size (head_of is_u64 size (count ∷ []) (tail_of is_u64 stride (size ∷ count ∷ []) (tail_of is_u64 first (stride ∷ size ∷ count ∷ []) (numbers_of (call.Data context (data_op.Gather item first stride size count) true) e)))))) (both (decimal_printed count (low_of count (head_of is_u64 count ([]) (tail_of is_u64 size (count ∷ []) (tail_of is_u64 stride (size ∷ count ∷ []) (tail_of is_u64 first (stride ∷ size ∷ count ∷ []) (numbers_of (call.Data context (data_op.Gather item first stride size count) true) e))))))) (refl))))))
data_printed context (data_op.Gather item first stride size count) false e = both (decimal_printed context (context_low context (and_left (is_context context) (is_slot item) (shaped_of (call.Data context (data_op.Gather item first stride size count) false) e)))) (both (decimal_printed item (slot_low item (and_right (is_context context) (is_slot item) (shaped_of (call.Data context (data_op.Gather item first stride size count) false) e)))) (both (decimal_printed first (low_of first (head_of is_u64 first (stride ∷ size ∷ count ∷ []) (numbers_of (call.Data context (data_op.Gather item first stride size count) false) e)))) (both (decimal_printed stride (low_of stride (head_of is_u64 stride (size ∷ count ∷ []) (tail_of is_u64 first (stride ∷ size ∷ count ∷ []) (numbers_of (call.Data context (data_op.Gather item first stride size count) false) e))))) (both (decimal_printed size (low_of size (head_of is_u64 size (count ∷ []) (tail_of is_u64 stride (size ∷ count ∷ []) (tail_of is_u64 first (stride ∷ size ∷ count ∷ []) (numbers_of (call.Data context (data_op.Gather item first stride size count) false) e)))))) (both (decimal_printed count (low_of count (head_of is_u64 count ([]) (tail_of is_u64 size (count ∷ []) (tail_of is_u64 stride (size ∷ count ∷ []) (tail_of is_u64 first (stride ∷ size ∷ count ∷ []) (numbers_of (call.Data context (data_op.Gather item first stride size count) false) e))))))) (refl))))))
data_printed context (data_op.Scatter item first stride size count bytes) true e = both (decimal_printed context (context_low context (and_left (is_context context) (is_slot item && is_short bytes && length bytes == count * size) (shaped_of (call.Data context (data_op.Scatter item first stride size count bytes) true) e)))) (both (decimal_printed item (slot_low item (and_left (is_slot item) (is_short bytes) (and_left (is_slot item && is_short bytes) (length bytes == count * size) (and_right (is_context context) (is_slot item && is_short bytes && length bytes == count * size) (shaped_of (call.Data context (data_op.Scatter item first stride size count bytes) true) e)))))) (both (decimal_printed first (low_of first (head_of is_u64 first (stride ∷ size ∷ count ∷ []) (numbers_of (call.Data context (data_op.Scatter item first stride size count bytes) true) e)))) (both (decimal_printed stride (low_of stride (head_of is_u64 stride (size ∷ count ∷ []) (tail_of is_u64 first (stride ∷ size ∷ count ∷ []) (numbers_of (call.Data context (data_op.Scatter item first stride size count bytes) true) e))))) (both (decimal_printed size (low_of size (head_of is_u64 size (count ∷ []) (tail_of is_u64 stride (size ∷ count ∷ []) (tail_of is_u64 first (stride ∷ size ∷ count ∷ []) (numbers_of (call.Data context (data_op.Scatter item first stride size count bytes) true) e)))))) (both (decimal_printed count (low_of count (head_of is_u64 count ([]) (tail_of is_u64 size (count ∷ []) (tail_of is_u64 stride (size ∷ count ∷ []) (tail_of is_u64 first (stride ∷ size ∷ count ∷ []) (numbers_of (call.Data context (data_op.Scatter item first stride size count bytes) true) e))))))) (both (hex_printed bytes (bytes_of (call.Data context (data_op.Scatter item first stride size count bytes) true) e)) (refl)))))))
data_printed context (data_op.Scatter item first stride size count bytes) false e = both (decimal_printed context (context_low context (and_left (is_context context) (is_slot item && is_short bytes && length bytes == count * size) (shaped_of (call.Data context (data_op.Scatter item first stride size count bytes) false) e)))) (both (decimal_printed item (slot_low item (and_left (is_slot item) (is_short bytes) (and_left (is_slot item && is_short bytes) (length bytes == count * size) (and_right (is_context context) (is_slot item && is_short bytes && length bytes == count * size) (shaped_of (call.Data context (data_op.Scatter item first stride size count bytes) false) e)))))) (both (decimal_printed first (low_of first (head_of is_u64 first (stride ∷ size ∷ count ∷ []) (numbers_of (call.Data context (data_op.Scatter item first stride size count bytes) false) e)))) (both (decimal_printed stride (low_of stride (head_of is_u64 stride (size ∷ count ∷ []) (tail_of is_u64 first (stride ∷ size ∷ count ∷ []) (numbers_of (call.Data context (data_op.Scatter item first stride size count bytes) false) e))))) (both (decimal_printed size (low_of size (head_of is_u64 size (count ∷ []) (tail_of is_u64 stride (size ∷ count ∷ []) (tail_of is_u64 first (stride ∷ size ∷ count ∷ []) (numbers_of (call.Data context (data_op.Scatter item first stride size count bytes) false) e)))))) (both (decimal_printed count (low_of count (head_of is_u64 count ([]) (tail_of is_u64 size (count ∷ []) (tail_of is_u64 stride (size ∷ count ∷ []) (tail_of is_u64 first (stride ∷ size ∷ count ∷ []) (numbers_of (call.Data context (data_op.Scatter item first stride size count bytes) false) e))))))) (both (hex_printed bytes (bytes_of (call.Data context (data_op.Scatter item first stride size count bytes) false) e)) (refl)))))))
data_printed context (data_op.GatherIndex item size places) true e = both (decimal_printed context (context_low context (and_left (is_context context) (is_slot item && are_few places) (shaped_of (call.Data context (data_op.GatherIndex item size places) true) e)))) (both (decimal_printed item (slot_low item (and_left (is_slot item) (are_few places) (and_right (is_context context) (is_slot item && are_few places) (shaped_of (call.Data context (data_op.GatherIndex item size places) true) e))))) (both (decimal_printed size (low_of size (head_of is_u64 size places (numbers_of (call.Data context (data_op.GatherIndex item size places) true) e)))) (both (list_printed places (tail_of is_u64 size places (numbers_of (call.Data context (data_op.GatherIndex item size places) true) e))) (refl))))
data_printed context (data_op.GatherIndex item size places) false e = both (decimal_printed context (context_low context (and_left (is_context context) (is_slot item && are_few places) (shaped_of (call.Data context (data_op.GatherIndex item size places) false) e)))) (both (decimal_printed item (slot_low item (and_left (is_slot item) (are_few places) (and_right (is_context context) (is_slot item && are_few places) (shaped_of (call.Data context (data_op.GatherIndex item size places) false) e))))) (both (decimal_printed size (low_of size (head_of is_u64 size places (numbers_of (call.Data context (data_op.GatherIndex item size places) false) e)))) (both (list_printed places (tail_of is_u64 size places (numbers_of (call.Data context (data_op.GatherIndex item size places) false) e))) (refl))))
data_printed context (data_op.ScatterIndex item size places bytes) true e = both (decimal_printed context (context_low context (and_left (is_context context) (is_slot item && are_few places && is_short bytes && length bytes == length places * size) (shaped_of (call.Data context (data_op.ScatterIndex item size places bytes) true) e)))) (both (decimal_printed item (slot_low item (and_left (is_slot item) (are_few places) (and_left (is_slot item && are_few places) (is_short bytes) (and_left (is_slot item && are_few places && is_short bytes) (length bytes == length places * size) (and_right (is_context context) (is_slot item && are_few places && is_short bytes && length bytes == length places * size) (shaped_of (call.Data context (data_op.ScatterIndex item size places bytes) true) e))))))) (both (decimal_printed size (low_of size (head_of is_u64 size places (numbers_of (call.Data context (data_op.ScatterIndex item size places bytes) true) e)))) (both (list_printed places (tail_of is_u64 size places (numbers_of (call.Data context (data_op.ScatterIndex item size places bytes) true) e))) (both (hex_printed bytes (bytes_of (call.Data context (data_op.ScatterIndex item size places bytes) true) e)) (refl)))))
data_printed context (data_op.ScatterIndex item size places bytes) false e = both (decimal_printed context (context_low context (and_left (is_context context) (is_slot item && are_few places && is_short bytes && length bytes == length places * size) (shaped_of (call.Data context (data_op.ScatterIndex item size places bytes) false) e)))) (both (decimal_printed item (slot_low item (and_left (is_slot item) (are_few places) (and_left (is_slot item && are_few places) (is_short bytes) (and_left (is_slot item && are_few places && is_short bytes) (length bytes == length places * size) (and_right (is_context context) (is_slot item && are_few places && is_short bytes && length bytes == length places * size) (shaped_of (call.Data context (data_op.ScatterIndex item size places bytes) false) e))))))) (both (decimal_printed size (low_of size (head_of is_u64 size places (numbers_of (call.Data context (data_op.ScatterIndex item size places bytes) false) e)))) (both (list_printed places (tail_of is_u64 size places (numbers_of (call.Data context (data_op.ScatterIndex item size places bytes) false) e))) (both (hex_printed bytes (bytes_of (call.Data context (data_op.ScatterIndex item size places bytes) false) e)) (refl)))))
data_printed context (data_op.Copy from from_offset to to_offset count) false e = both (decimal_printed context (context_low context (and_left (is_context context) (is_slot from && is_slot to && true) (shaped_of (call.Data context (data_op.Copy from from_offset to to_offset count) false) e)))) (both (decimal_printed from (slot_low from (and_left (is_slot from) (is_slot to) (and_left (is_slot from && is_slot to) (true) (and_right (is_context context) (is_slot from && is_slot to && true) (shaped_of (call.Data context (data_op.Copy from from_offset to to_offset count) false) e)))))) (both (decimal_printed from_offset (low_of from_offset (head_of is_u64 from_offset (to_offset ∷ count ∷ []) (numbers_of (call.Data context (data_op.Copy from from_offset to to_offset count) false) e)))) (both (decimal_printed to (slot_low to (and_right (is_slot from) (is_slot to) (and_left (is_slot from && is_slot to) (true) (and_right (is_context context) (is_slot from && is_slot to && true) (shaped_of (call.Data context (data_op.Copy from from_offset to to_offset count) false) e)))))) (both (decimal_printed to_offset (low_of to_offset (head_of is_u64 to_offset (count ∷ []) (tail_of is_u64 from_offset (to_offset ∷ count ∷ []) (numbers_of (call.Data context (data_op.Copy from from_offset to to_offset count) false) e))))) (both (decimal_printed count (low_of count (head_of is_u64 count ([]) (tail_of is_u64 to_offset (count ∷ []) (tail_of is_u64 from_offset (to_offset ∷ count ∷ []) (numbers_of (call.Data context (data_op.Copy from from_offset to to_offset count) false) e)))))) (refl))))))
data_printed context (data_op.Copy from from_offset to to_offset count) true e =
    let shaped = and_right (is_context context) (is_slot from && is_slot to && false) (shaped_of (call.Data context (data_op.Copy from from_offset to to_offset count) true) e) in
    absurd (let never = and_right (is_slot from && is_slot to) false shaped in cc)
data_printed context (data_op.Atomic item offset width op a b) blocking e = atomic_printed context item offset width op a b blocking e

pub call_printed : (asked : Call) → is_call_told asked ≡ true → list_all is_printed (call_words asked) ≡ true
call_printed (call.Meta m) e = meta_printed m e
call_printed (call.Data context op blocking) e = data_printed context op blocking e
call_printed (call.OpenContext context) e = both (decimal_printed context (context_low context (shaped_of (call.OpenContext context) e))) refl
call_printed (call.CloseContext context) e = both (decimal_printed context (context_low context (shaped_of (call.CloseContext context) e))) refl
call_printed (call.CopyWait context number) e =
    both (decimal_printed context (context_low context (shaped_of (call.CopyWait context number) e)))
    (both (decimal_printed number (low_of number (head_of is_u64 number [] (numbers_of (call.CopyWait context number) e)))) refl)
call_printed (call.Fence context) e = both (decimal_printed context (context_low context (shaped_of (call.Fence context) e))) refl
call_printed (call.Quiet context) e = both (decimal_printed context (context_low context (shaped_of (call.Quiet context) e))) refl
call_printed call.Barrier e = refl
call_printed call.Crash e = refl
call_printed call.Leave e = absurd cc

-- how many words there are, whatever stands behind them

abbrev pub IsSized : Words → Words → Type 0
IsSized words behind = (call_size (words ++ behind) ≡ length words) × HasWord words

meta_sized : (m : MetaCall) (behind : Words) → IsSized (meta_words m) behind
meta_sized (meta.CreateRegion slot name size mode) behind = (refl, (_, _, refl))
meta_sized (meta.DestroyRegion slot) behind = (refl, (_, _, refl))
meta_sized (meta.ResizeRegion slot size) behind = (refl, (_, _, refl))
meta_sized (meta.SetRegionMode slot mode) behind = (refl, (_, _, refl))
meta_sized (meta.LookupRegion slot name) behind = (refl, (_, _, refl))
meta_sized (meta.StatRegion slot) behind = (refl, (_, _, refl))
meta_sized (meta.Allocate slot name size mode region) behind = (refl, (_, _, refl))
meta_sized (meta.Deallocate slot) behind = (refl, (_, _, refl))
meta_sized (meta.SetItemMode slot mode) behind = (refl, (_, _, refl))
meta_sized (meta.Lookup slot name region) behind = (refl, (_, _, refl))
meta_sized (meta.Stat slot) behind = (refl, (_, _, refl))

atomic_sized : (context item offset : ℕ) (width : Width) (op : Op) (a b : ℤ) (blocking : Bool) (behind : Words) → IsSized (data_words context (data_op.Atomic item offset width op a b) blocking) behind
atomic_sized context item offset width Set a b blocking behind = (refl, (_, _, refl))
atomic_sized context item offset width Add a b blocking behind = (refl, (_, _, refl))
atomic_sized context item offset width Sub a b blocking behind = (refl, (_, _, refl))
atomic_sized context item offset width Min a b blocking behind = (refl, (_, _, refl))
atomic_sized context item offset width Max a b blocking behind = (refl, (_, _, refl))
atomic_sized context item offset width And a b blocking behind = (refl, (_, _, refl))
atomic_sized context item offset width Or a b blocking behind = (refl, (_, _, refl))
atomic_sized context item offset width Xor a b blocking behind = (refl, (_, _, refl))
atomic_sized context item offset width Fetch a b blocking behind = (refl, (_, _, refl))
atomic_sized context item offset width FetchAdd a b blocking behind = (refl, (_, _, refl))
atomic_sized context item offset width FetchSub a b blocking behind = (refl, (_, _, refl))
atomic_sized context item offset width FetchMin a b blocking behind = (refl, (_, _, refl))
atomic_sized context item offset width FetchMax a b blocking behind = (refl, (_, _, refl))
atomic_sized context item offset width FetchAnd a b blocking behind = (refl, (_, _, refl))
atomic_sized context item offset width FetchOr a b blocking behind = (refl, (_, _, refl))
atomic_sized context item offset width FetchXor a b blocking behind = (refl, (_, _, refl))
atomic_sized context item offset width Swap a b blocking behind = (refl, (_, _, refl))
atomic_sized context item offset width Cas a b blocking behind = (refl, (_, _, refl))

data_sized : (context : ℕ) (op : DataOp) (blocking : Bool) (behind : Words) → IsSized (data_words context op blocking) behind
data_sized context (data_op.Get item offset count) true behind = (refl, (_, _, refl))
data_sized context (data_op.Get item offset count) false behind = (refl, (_, _, refl))
data_sized context (data_op.Put item offset bytes) true behind = (refl, (_, _, refl))
data_sized context (data_op.Put item offset bytes) false behind = (refl, (_, _, refl))
data_sized context (data_op.Gather item first stride size count) true behind = (refl, (_, _, refl))
data_sized context (data_op.Gather item first stride size count) false behind = (refl, (_, _, refl))
data_sized context (data_op.Scatter item first stride size count bytes) true behind = (refl, (_, _, refl))
data_sized context (data_op.Scatter item first stride size count bytes) false behind = (refl, (_, _, refl))
data_sized context (data_op.GatherIndex item size places) true behind = (refl, (_, _, refl))
data_sized context (data_op.GatherIndex item size places) false behind = (refl, (_, _, refl))
data_sized context (data_op.ScatterIndex item size places bytes) true behind = (refl, (_, _, refl))
data_sized context (data_op.ScatterIndex item size places bytes) false behind = (refl, (_, _, refl))
data_sized context (data_op.Copy from from_offset to to_offset count) blocking behind = (refl, (_, _, refl))
data_sized context (data_op.Atomic item offset width op a b) blocking behind = atomic_sized context item offset width op a b blocking behind

pub call_sized : (asked : Call) (behind : Words) → is_call_told asked ≡ true → IsSized (call_words asked) behind
call_sized (call.Meta m) behind e = meta_sized m behind
call_sized (call.Data context op blocking) behind e = data_sized context op blocking behind
call_sized (call.OpenContext context) behind e = (refl, (_, _, refl))
call_sized (call.CloseContext context) behind e = (refl, (_, _, refl))
call_sized (call.CopyWait context number) behind e = (refl, (_, _, refl))
call_sized (call.Fence context) behind e = (refl, (_, _, refl))
call_sized (call.Quiet context) behind e = (refl, (_, _, refl))
call_sized call.Barrier behind e = (refl, (_, _, refl))
call_sized call.Crash behind e = (refl, (_, _, refl))
call_sized call.Leave behind e = absurd cc
