-- Values of the definitions, computed.
use Rattle.std.specs.Prelude.{◌≡◌, ℕ, true, false, pos, negsuc, List, [], ◌∷◌, map, length, codes, Option, Some, None}
use Rattle.fam_base.specs.declared.error.FamError.{FamError}
use Rattle.fam_base.specs.declared.error.FamError.TheVariants as error
use Rattle.fam_model.specs.declared.call.Op.TheVariants as op
use Rattle.fam_model.specs.declared.call.Width.TheVariants as width
use Rattle.fam_model.specs.declared.call.Call.{Call}
use Rattle.fam_model.specs.declared.call.Call.TheVariants as call
use Rattle.fam_model.specs.declared.call.DataOp.TheVariants as data_op
use Rattle.fam_model.specs.declared.change.Change.{Change}
use Rattle.fam_model.specs.declared.change.Change.TheVariants as change
use Rattle.fam_model.specs.declared.event.Event.{Event}
use Rattle.fam_model.specs.declared.event.What.TheVariants as what
use Rattle.fam_model.specs.declared.piece.Part.{Part}
use Rattle.fam_model.specs.declared.piece.Place.{Place}
use Rattle.fam_model.specs.declared.reply.PieceAnswer.TheVariants as answer
use Rattle.fam_model.specs.declared.reply.Reply.{Reply}
use Rattle.fam_model.specs.declared.reply.Reply.TheVariants as reply
use Rattle.fam_model.specs.declared.rows.Rows.{Rows}
use Rattle.fam_model.specs.declared.script.Program.{Program}
use Rattle.fam_model.specs.declared.script.Statement.{Statement, One, Repeat', Spin, end_of-Statement, more_of-Statement}
use Rattle.fam_model.specs.declared.state.ProgramState.{ProgramState}
use Rattle.fam_model.specs.Atomic.{atomic, bytes_after}
use Rattle.fam_model.specs.Earned.{parts, are_earned}
use Rattle.fam_model.specs.History.{calls, served}
use Rattle.fam_model.specs.Issue.{issue_refusal}
use Rattle.fam_model.specs.Journal.{rows_of, short, short_place, record_length}
use Rattle.fam_model.specs.Limits.{Limits, service_limits}
use Rattle.fam_model.specs.Opened.{new_program}
use Rattle.fam_model.specs.Pieces.{cuts, place_at}
use Rattle.fam_model.specs.Rows.{common_rows, room}
use Rattle.fam_model.specs.Text.{next_call, follows}
use Rattle.fam_model.specs.Worked.{user, stripes, at, other_at, issued, put, get, put_and_get, gone_and_new, alone, together}

-- new values of atomics, by the width's own order and range
pub record AtomicExamples : Type 0 where
  pub wraps : atomic op.Add width.I32 (pos 2147483647) (pos 1) (pos 0) ≡ negsuc 2147483647
  pub wraps_below : atomic op.Sub width.U32 (pos 0) (pos 1) (pos 0) ≡ pos 4294967295
  pub signed_least : atomic op.FetchMin width.I64 (negsuc 0) (pos 0) (pos 0) ≡ negsuc 0
  pub unsigned_least : atomic op.FetchMin width.U64 (pos 18446744073709551615) (pos 0) (pos 0) ≡ pos 0
  pub other_value : atomic op.Cas width.I128 (pos 5) (pos 4) (pos 9) ≡ pos 5
  pub that_value : atomic op.Cas width.I128 (pos 5) (pos 5) (pos 9) ≡ pos 9
  pub single_bits : atomic op.FetchXor width.U32 (pos 12) (pos 10) (pos 0) ≡ pos 6
  pub bytes : bytes_after op.Set width.I32 (negsuc 0) (pos 0) (0 ∷ 0 ∷ 0 ∷ 0 ∷ []) ≡ 255 ∷ 255 ∷ 255 ∷ 255 ∷ []

-- a part of an item
abbrev pub part : ℕ → ℕ → Part
part offset n = record { offset = offset; n = n }

-- a place in units
abbrev pub place : ℕ → ℕ → ℕ → Place
place stripe row byte = record { stripe = stripe; row = row; at = byte }

-- how ranges are cut, where addresses lie on two servers of two stripes each, and what room an item takes
pub record LayoutExamples : Type 0 where
  pub four_parts : cuts 0 63 130 64 ≡ part 63 1 ∷ part 64 64 ∷ part 128 64 ∷ part 192 1 ∷ []
  pub by_base : cuts 64 0 64 128 ≡ part 0 64 ∷ []
  pub no_bytes : cuts 0 63 0 64 ≡ []
  pub places :
      map (place_at (record { servers = 2; stripes = 2; unit = 64 }) 1) (0 ∷ 63 ∷ 64 ∷ 192 ∷ 260 ∷ [])
      ≡ place 1 0 0 ∷ place 1 0 63 ∷ place 2 0 0 ∷ place 0 0 0 ∷ place 1 1 4 ∷ []
  pub rooms : map room (0 ∷ 1 ∷ 64 ∷ 65 ∷ []) ≡ 64 ∷ 64 ∷ 64 ∷ 128 ∷ []

-- a program that has made so many data calls, moved so many bytes and had so many pieces
abbrev pub spent : ℕ → ℕ → ℕ → ProgramState
spent data_calls moved pieces =
    record (new_program (user 5) true) { data_calls = data_calls; moved = moved; pieces = pieces }

-- the refusal of a get of the common item's first 65 bytes, which lie in two units
abbrev pub refusal_of_get : ProgramState → Option FamError
refusal_of_get p = issue_refusal (stripes 1) p (get 0 65)

-- a program's calls end with its budget of calls, of bytes and of pieces
pub record BudgetExamples : Type 0 where
  pub last_call : refusal_of_get (spent 65535 0 0) ≡ None
  pub too_many_calls : refusal_of_get (spent 65536 0 0) ≡ Some error.Budget
  pub last_bytes : refusal_of_get (spent 0 4194239 0) ≡ None
  pub too_many_bytes : refusal_of_get (spent 0 4194240 0) ≡ Some error.Budget
  pub last_pieces : refusal_of_get (spent 0 0 65534) ≡ None
  pub too_many_pieces : refusal_of_get (spent 0 0 65535) ≡ Some error.Budget

-- the creation of a region of 4,096 bytes
abbrev pub create : ℕ → List ℕ → Change
create number name = change.CreateRegion (record { 0 = number }) 5 5 448 4096 name

-- the rows with region 2 after region 1 was destroyed
abbrev pub second_region : Rows
second_region = rows_of (create 1 (codes "a") ∷ change.DestroyRegion (record { 0 = 1 }) ∷ create 2 (codes "b") ∷ [])

-- the lengths of records, and the shortest journal of rows, which leads back to them
pub record JournalExamples : Type 0 where
  pub creation : record_length (create 1 (codes "a")) ≡ 34
  pub skip : record_length (change.Skip 2 1) ≡ 22
  pub destruction : record_length (change.DestroyRegion (record { 0 = 1 })) ≡ 14
  pub shortest : short second_region ≡ change.Skip 2 1 ∷ create 2 (codes "b") ∷ []
  pub place : short_place second_region ≡ 72
  pub leads_back : rows_of (short second_region) ≡ second_region
  pub nothing : short common_rows ≡ []

-- the changes of a history
pub record ServedExamples : Type 0 where
  pub changes :
      served service_limits (alone gone_and_new).start gone_and_new
      ≡ change.CreateRegion (record { 0 = 1 }) 5 5 448 64 (codes "a")
      ∷ change.Allocate (record { 0 = 1 }) (record { 0 = 1 }) 0 64 5 5 384 (codes "x")
      ∷ change.Deallocate (record { 0 = 1 })
      ∷ change.Allocate (record { 0 = 2 }) (record { 0 = 1 }) 0 64 5 5 384 (codes "y")
      ∷ []

-- two rounds of the barrier
abbrev pub two_rounds : List Event
two_rounds =
    at 0 what.Arrive
    ∷ other_at 0 what.Arrive
    ∷ other_at 0 (what.Answer reply.Passed)
    ∷ other_at 1 what.Arrive
    ∷ at 0 (what.Answer reply.Passed)
    ∷ at 1 what.Arrive
    ∷ at 1 (what.Answer reply.Passed)
    ∷ other_at 1 (what.Answer reply.Passed)
    ∷ []

-- a history of so many entries at most
abbrev pub small_history : Limits
small_history = record { history = 130; journal = 16_777_216 }

-- a get whose piece finds the history of its stripe full
abbrev pub full : ℕ → List Event
full used = at 0 (issued (get 0 1)) ∷ at 0 (what.Piece 0 (answer.Refused (error.HistoryFull used 3))) ∷ []

-- a history is cut before the first answer of each round; a refusal is earned up to what earlier events may have taken
pub record PartExamples : Type 0 where
  pub cut : map length (parts service_limits (together two_rounds).start two_rounds) ≡ 2 ∷ 4 ∷ 2 ∷ []
  pub earned : are_earned small_history (alone []).start (full 131 ∷ []) ≡ true
  pub invented : are_earned small_history (alone []).start (full 132 ∷ []) ≡ false

-- a program of user 5
abbrev pub program : List Statement → Program
program statements = record { who = user 5; statements = statements }

-- it fetches the first eight bytes until they are 1, three times at most, and is then quiet
abbrev pub spinning : Program
spinning = program (Spin 0 0 0 width.U64 (pos 1) 3 ∷ One (call.Quiet 0) ∷ [])

-- the call of the spin
abbrev pub fetch : Call
fetch = call.Data 0 (data_op.Atomic 0 0 width.U64 op.Fetch (pos 0) (pos 0)) true

-- twice a fence and three times a quiet
abbrev pub repeating : Program
repeating =
    program
    (Repeat' 2 (tt ∷ tt ∷ [])
    (more_of-Statement (One (call.Fence 0))
    (more_of-Statement (Repeat' 3 (tt ∷ []) (more_of-Statement (One (call.Quiet 0)) end_of-Statement)) end_of-Statement))
    ∷ [])

-- the reply of a fetch
abbrev pub value : ℕ → Reply
value n = reply.Value (pos n)

-- the reply of a quiet with nothing to tell
abbrev pub empty_report : Reply
empty_report = reply.Report []

-- a program that crashes, with a statement behind
abbrev pub crashing : Program
crashing = program (One call.Crash ∷ One (call.Quiet 0) ∷ [])

-- the next calls of programs
pub record ProgramExamples : Type 0 where
  pub spin_begins : next_call spinning [] ≡ Some fetch
  pub spin_goes_on : next_call spinning (value 0 ∷ []) ≡ Some fetch
  pub spin_ends : next_call spinning (value 0 ∷ value 1 ∷ []) ≡ Some (call.Quiet 0)
  pub spin_ends_with_an_error : next_call spinning (reply.Error error.Absent ∷ []) ≡ Some (call.Quiet 0)
  pub spin_gives_up : next_call spinning (value 0 ∷ value 0 ∷ value 0 ∷ []) ≡ Some (call.Quiet 0)
  pub leaves : next_call spinning (value 1 ∷ empty_report ∷ []) ≡ Some call.Leave
  pub has_left : next_call spinning (value 1 ∷ empty_report ∷ reply.Left ∷ []) ≡ None
  pub repeats :
      map (next_call repeating)
      ([] ∷ (reply.Done ∷ []) ∷ (reply.Done ∷ empty_report ∷ empty_report ∷ []) ∷ (reply.Done ∷ empty_report ∷ empty_report ∷ empty_report ∷ []) ∷ [])
      ≡ Some (call.Fence 0) ∷ Some (call.Quiet 0) ∷ Some (call.Quiet 0) ∷ Some (call.Fence 0) ∷ []
  pub crashes : next_call crashing [] ≡ Some call.Crash
  pub has_crashed : next_call crashing (reply.Crashed ∷ []) ≡ None
  pub follows_its_text : follows (program (One (put 0 (1 ∷ 2 ∷ 3 ∷ 4 ∷ [])) ∷ One (get 0 4) ∷ [])) (calls (put_and_get (1 ∷ 2 ∷ 3 ∷ 4 ∷ [])) 0) ≡ true
  pub follows_no_other : follows (program (One (get 0 4) ∷ [])) (calls (put_and_get (1 ∷ 2 ∷ 3 ∷ 4 ∷ [])) 0) ≡ false
