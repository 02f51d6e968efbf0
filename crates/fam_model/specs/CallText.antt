-- The text of a call.
use Rattle.std.specs.Prelude.{ℕ, Bool, true, false, ℤ, List, [], ◌∷◌, ◌++◌, codes, if◌then◌else◌}
use Rattle.std.specs.Fmt.{decimal, signed_decimal}
use Rattle.fam_model.specs.declared.call.Width.{Width}
use Rattle.fam_model.specs.declared.call.Width.TheVariants.{I32, U32, I64, U64, I128, F32, F64}
use Rattle.fam_model.specs.declared.call.Op.{Op}
use Rattle.fam_model.specs.declared.call.Op.TheVariants.{Set, Add, Sub, Min, Max, And, Or, Xor, Fetch, FetchAdd, FetchSub, FetchMin, FetchMax, FetchAnd, FetchOr, FetchXor, Swap, Cas}
use Rattle.fam_model.specs.declared.call.MetaCall.{MetaCall}
use Rattle.fam_model.specs.declared.call.MetaCall.TheVariants as meta
use Rattle.fam_model.specs.declared.call.DataOp.{DataOp}
use Rattle.fam_model.specs.declared.call.DataOp.TheVariants as data_op
use Rattle.fam_model.specs.declared.call.Call.{Call}
use Rattle.fam_model.specs.declared.call.Call.TheVariants as call
use Rattle.fam_model.specs.Words.{hex_text, list_text, mode_text, region_slot_text, item_slot_text, context_text, words_text}

-- the word of a width
abbrev pub width_word : Width → List ℕ
width_word I32 = codes "i32"
width_word U32 = codes "u32"
width_word I64 = codes "i64"
width_word U64 = codes "u64"
width_word I128 = codes "i128"
width_word F32 = codes "f32"
width_word F64 = codes "f64"

-- the word of an operation
abbrev pub op_word : Op → List ℕ
op_word Set = codes "set"
op_word Add = codes "add"
op_word Sub = codes "sub"
op_word Min = codes "min"
op_word Max = codes "max"
op_word And = codes "and"
op_word Or = codes "or"
op_word Xor = codes "xor"
op_word Fetch = codes "fetch"
op_word FetchAdd = codes "fetch-add"
op_word FetchSub = codes "fetch-sub"
op_word FetchMin = codes "fetch-min"
op_word FetchMax = codes "fetch-max"
op_word FetchAnd = codes "fetch-and"
op_word FetchOr = codes "fetch-or"
op_word FetchXor = codes "fetch-xor"
op_word Swap = codes "swap"
op_word Cas = codes "cas"

-- the arguments that an operation takes
abbrev pub argument_words : Op → ℤ → ℤ → List (List ℕ)
argument_words Fetch a b = []
argument_words Cas a b = signed_decimal a ∷ signed_decimal b ∷ []
argument_words _ a b = signed_decimal a ∷ []

-- the words of a call on the directory
abbrev pub meta_words : MetaCall → List (List ℕ)
meta_words (meta.CreateRegion slot name size mode) =
    codes "region" ∷ region_slot_text slot ∷ name ∷ decimal size ∷ mode_text mode ∷ []
meta_words (meta.DestroyRegion slot) = codes "destroy" ∷ region_slot_text slot ∷ []
meta_words (meta.ResizeRegion slot size) = codes "resize" ∷ region_slot_text slot ∷ decimal size ∷ []
meta_words (meta.SetRegionMode slot mode) = codes "chmod-region" ∷ region_slot_text slot ∷ mode_text mode ∷ []
meta_words (meta.LookupRegion slot name) = codes "lookup-region" ∷ region_slot_text slot ∷ name ∷ []
meta_words (meta.StatRegion slot) = codes "stat-region" ∷ region_slot_text slot ∷ []
meta_words (meta.Allocate slot name size mode region) =
    codes "alloc" ∷ item_slot_text slot ∷ name ∷ decimal size ∷ mode_text mode ∷ region_slot_text region ∷ []
meta_words (meta.Deallocate slot) = codes "dealloc" ∷ item_slot_text slot ∷ []
meta_words (meta.SetItemMode slot mode) = codes "chmod" ∷ item_slot_text slot ∷ mode_text mode ∷ []
meta_words (meta.Lookup slot name region) = codes "lookup" ∷ item_slot_text slot ∷ name ∷ region ∷ []
meta_words (meta.Stat slot) = codes "stat" ∷ item_slot_text slot ∷ []

-- the word of a data call that may be made without waiting
abbrev pub verb : List ℕ → Bool → List ℕ
verb word blocking = if blocking then word else word ++ codes "-nb"

-- the words of a data call on a context
abbrev pub data_words : ℕ → DataOp → Bool → List (List ℕ)
data_words context (data_op.Get item offset count) blocking =
    verb (codes "get") blocking ∷ context_text context ∷ item_slot_text item ∷ decimal offset ∷ decimal count ∷ []
data_words context (data_op.Put item offset bytes) blocking =
    verb (codes "put") blocking ∷ context_text context ∷ item_slot_text item ∷ decimal offset ∷ hex_text bytes ∷ []
data_words context (data_op.Gather item first stride size count) blocking =
    verb (codes "gather") blocking ∷ context_text context ∷ item_slot_text item
    ∷ decimal first ∷ decimal stride ∷ decimal size ∷ decimal count ∷ []
data_words context (data_op.Scatter item first stride size count bytes) blocking =
    verb (codes "scatter") blocking ∷ context_text context ∷ item_slot_text item
    ∷ decimal first ∷ decimal stride ∷ decimal size ∷ decimal count ∷ hex_text bytes ∷ []
data_words context (data_op.GatherIndex item size places) blocking =
    verb (codes "gather-index") blocking ∷ context_text context ∷ item_slot_text item
    ∷ decimal size ∷ list_text places ∷ []
data_words context (data_op.ScatterIndex item size places bytes) blocking =
    verb (codes "scatter-index") blocking ∷ context_text context ∷ item_slot_text item
    ∷ decimal size ∷ list_text places ∷ hex_text bytes ∷ []
data_words context (data_op.Copy from from_offset to to_offset count) blocking =
    codes "copy" ∷ context_text context ∷ item_slot_text from ∷ decimal from_offset
    ∷ item_slot_text to ∷ decimal to_offset ∷ decimal count ∷ []
data_words context (data_op.Atomic item offset width op a b) blocking =
    codes "atomic" ∷ context_text context ∷ item_slot_text item ∷ decimal offset
    ∷ width_word width ∷ op_word op ∷ argument_words op a b

-- the words of any call; none for leaving
abbrev pub call_words : Call → List (List ℕ)
call_words (call.Meta meta_call) = meta_words meta_call
call_words (call.Data context op blocking) = data_words context op blocking
call_words (call.OpenContext context) = codes "open" ∷ context_text context ∷ []
call_words (call.CloseContext context) = codes "close" ∷ context_text context ∷ []
call_words (call.CopyWait context number) = codes "copy-wait" ∷ context_text context ∷ decimal number ∷ []
call_words (call.Fence context) = codes "fence" ∷ context_text context ∷ []
call_words (call.Quiet context) = codes "quiet" ∷ context_text context ∷ []
call_words call.Barrier = codes "barrier" ∷ []
call_words call.Leave = []
call_words call.Crash = codes "crash" ∷ []

-- leaving is the end of a program, and has no text of its own
abbrev pub has_text : Call → Bool
has_text call.Leave = false
has_text _ = true

-- the text of a call
abbrev pub call_text : Call → List ℕ
call_text asked = words_text (call_words asked)
