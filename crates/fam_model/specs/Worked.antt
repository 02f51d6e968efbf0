-- Worked histories, each of which is legal.
use Rattle.std.specs.Prelude.{ℕ, Bool, true, false, pos, negsuc, List, [], ◌∷◌, length, replicate, codes, IsTrue}
use Rattle.std.specs.List.{list_all}
use Rattle.fam_base.specs.declared.naming.Descriptor.{Descriptor}
use Rattle.fam_base.specs.declared.naming.Who.{Who}
use Rattle.fam_base.specs.declared.error.FamError.{FamError}
use Rattle.fam_base.specs.declared.error.FamError.TheVariants as error
use Rattle.fam_model.specs.declared.call.Op.TheVariants as op
use Rattle.fam_model.specs.declared.call.Width.TheVariants as width
use Rattle.fam_model.specs.declared.call.MetaCall.TheVariants as meta
use Rattle.fam_model.specs.declared.call.Call.{Call}
use Rattle.fam_model.specs.declared.call.Call.TheVariants as call
use Rattle.fam_model.specs.declared.call.DataOp.TheVariants as data_op
use Rattle.fam_model.specs.declared.reply.OpResult.{OpResult}
use Rattle.fam_model.specs.declared.reply.PieceAnswer.{PieceAnswer}
use Rattle.fam_model.specs.declared.reply.PieceAnswer.TheVariants as answer
use Rattle.fam_model.specs.declared.reply.Reply.TheVariants as reply
use Rattle.fam_model.specs.declared.event.Event.{Event}
use Rattle.fam_model.specs.declared.event.What.{What}
use Rattle.fam_model.specs.declared.event.What.TheVariants as what
use Rattle.fam_model.specs.declared.service.Service.{Service}
use Rattle.fam_model.specs.declared.state.State.{State}
use Rattle.fam_model.specs.History.{is_legal}
use Rattle.fam_model.specs.Limits.{service_limits}
use Rattle.fam_model.specs.Opened.{opened}
use Rattle.fam_model.specs.Rows.{common_rows}

-- runs

-- events from a state on
pub record Run : Type 0 where
  pub start : State
  pub events : List Event

-- one server with so many stripes, in units of 64 bytes
abbrev pub stripes : ℕ → Service
stripes n = record { servers = 1; stripes = n; unit = 64 }

-- a user of a group of the same number
abbrev pub user : ℕ → Who
user n = record { uid = n; gid = n }

-- a fresh directory, and a program for each user, all of them local
abbrev pub fresh : Service → List Who → State
fresh service whos = opened common_rows service whos (length whos)

-- one program on one stripe
abbrev pub alone : List Event → Run
alone events = record { start = fresh (stripes 1) (user 5 ∷ []); events = events }

-- one program on two stripes
abbrev pub on_two_stripes : List Event → Run
on_two_stripes events = record { start = fresh (stripes 2) (user 5 ∷ []); events = events }

-- two programs of different users on one stripe
abbrev pub together : List Event → Run
together events = record { start = fresh (stripes 1) (user 5 ∷ user 6 ∷ []); events = events }

-- what happened at a call of program 0
abbrev pub at : ℕ → What → Event
at call what = record { pe = record { 0 = 0 }; call = call; what = what }

-- what happened at a call of program 1
abbrev pub other_at : ℕ → What → Event
other_at call what = record { pe = record { 0 = 1 }; call = call; what = what }

-- the run is legal under the limits of the service
abbrev pub is_legal_run : Run → Bool
is_legal_run run = is_legal service_limits run.start run.events

-- calls and what comes of them

-- a call that was accepted
abbrev pub issued : Call → What
issued asked = what.Issue asked reply.Issued

-- a call that was refused at issue
abbrev pub refused : Call → FamError → What
refused asked given = what.Issue asked (reply.Error given)

-- a piece that did what it had to do
abbrev pub served : ℕ → What
served piece = what.Piece piece answer.Ok

-- a piece that found these bytes
abbrev pub found : ℕ → List ℕ → What
found piece bytes = what.Piece piece (answer.Data bytes)

-- a blocking put on the common item
abbrev pub put : ℕ → List ℕ → Call
put offset bytes = call.Data 0 (data_op.Put 0 offset bytes) true

-- the same, not blocking
abbrev pub put_nb : ℕ → List ℕ → Call
put_nb offset bytes = call.Data 0 (data_op.Put 0 offset bytes) false

-- a blocking get of the common item
abbrev pub get : ℕ → ℕ → Call
get offset count = call.Data 0 (data_op.Get 0 offset count) true

-- a copy inside the common item, of two bytes to the next place
abbrev pub copy : Call
copy = call.Data 0 (data_op.Copy 0 0 0 1 2) false

-- a get of the first byte of a slot's item
abbrev pub get_first : ℕ → Call
get_first slot = call.Data 0 (data_op.Get slot 0 1) true

-- region 1, named a, of so many bytes, in slot 1; its owner alone may use it
abbrev pub region_a : ℕ → What
region_a size = what.Meta (meta.CreateRegion 1 (codes "a") size 448) (reply.Region (record { 0 = 1 }))

-- an item of region 1
abbrev pub item : ℕ → ℕ → ℕ → Descriptor
item number base size = record { item = record { 0 = number }; region = record { 0 = 1 }; base = base; size = size }

-- an item of this name and size in slot 1's region, by its number and base
abbrev pub allocated : ℕ → List ℕ → ℕ → ℕ → ℕ → What
allocated slot name size number base = what.Meta (meta.Allocate slot name size 384 1) (reply.Item (item number base size))

-- the result of a call in a report
abbrev pub result : ℕ → PieceAnswer → OpResult
result call given = record { call = call; answer = given }

-- a creation that is refused though it would be served
abbrev pub creation_refused : FamError → Bool → What
creation_refused given doubt = what.Refused (call.Meta (meta.CreateRegion 1 (codes "a") 4096 448)) given doubt

-- histories

-- a get after a put, where the get finds these bytes
abbrev pub put_and_get : List ℕ → List Event
put_and_get bytes =
    at 0 (issued (put 0 (1 ∷ 2 ∷ 3 ∷ 4 ∷ [])))
    ∷ at 0 (served 0)
    ∷ at 0 (what.Answer reply.Done)
    ∷ at 1 (issued (get 0 4))
    ∷ at 1 (found 0 bytes)
    ∷ at 1 (what.Answer (reply.Bytes bytes))
    ∷ at 2 what.Leave
    ∷ []

-- two puts with a fence between them, whose pieces come in this order of calls
abbrev pub fenced_puts : ℕ → ℕ → List Event
fenced_puts first second =
    at 0 (issued (put_nb 0 (1 ∷ [])))
    ∷ at 1 (what.Fence 0)
    ∷ at 2 (issued (put_nb 64 (2 ∷ [])))
    ∷ at first (served 0)
    ∷ at second (served 0)
    ∷ at 3 (what.Quiet 0 (reply.Report (result 0 answer.Ok ∷ result 2 answer.Ok ∷ [])))
    ∷ []

-- two puts without a fence, of which the second comes first
abbrev pub unfenced_puts : List Event
unfenced_puts =
    at 0 (issued (put_nb 0 (1 ∷ [])))
    ∷ at 1 (issued (put_nb 0 (2 ∷ [])))
    ∷ at 1 (served 0)
    ∷ at 0 (served 0)
    ∷ at 2 (what.Quiet 0 (reply.Report (result 0 answer.Ok ∷ result 1 answer.Ok ∷ [])))
    ∷ at 3 (issued (get 0 1))
    ∷ at 3 (found 0 (1 ∷ []))
    ∷ at 3 (what.Answer (reply.Bytes (1 ∷ [])))
    ∷ []

-- a put of four units on two stripes, whose pieces come from the last to the first
abbrev pub put_of_four_units : List Event
put_of_four_units =
    at 0 (issued (put 63 (replicate 130 7)))
    ∷ at 0 (served 3)
    ∷ at 0 (served 2)
    ∷ at 0 (served 1)
    ∷ at 0 (served 0)
    ∷ at 0 (what.Answer reply.Done)
    ∷ []

-- a copy that overlaps itself; what it read is written, and its result is told once
abbrev pub copied : List Event
copied =
    at 0 (issued (put 0 (1 ∷ 2 ∷ [])))
    ∷ at 0 (served 0)
    ∷ at 0 (what.Answer reply.Done)
    ∷ at 1 (issued copy)
    ∷ at 1 (served 0)
    ∷ at 2 (issued (put 0 (9 ∷ 9 ∷ [])))
    ∷ at 2 (served 0)
    ∷ at 2 (what.Answer reply.Done)
    ∷ at 1 (served 1)
    ∷ at 3 (what.Wait 0 1 reply.Done)
    ∷ at 4 (refused (call.CopyWait 0 1) error.BadHandle)
    ∷ at 5 (issued (get 0 3))
    ∷ at 5 (found 0 (9 ∷ 1 ∷ 2 ∷ []))
    ∷ at 5 (what.Answer (reply.Bytes (9 ∷ 1 ∷ 2 ∷ [])))
    ∷ at 6 (what.Quiet 0 (reply.Report []))
    ∷ []

-- a gather of one element three times, and a scatter of two elements to one place, whose pieces come in this order;
-- the place keeps the later one
abbrev pub overlapping : ℕ → ℕ → ℕ → List Event
overlapping first second kept =
    at 0 (issued (put 2 (170 ∷ 187 ∷ [])))
    ∷ at 0 (served 0)
    ∷ at 0 (what.Answer reply.Done)
    ∷ at 1 (issued (call.Data 0 (data_op.Gather 0 1 0 2 3) true))
    ∷ at 1 (found 0 (170 ∷ 187 ∷ []))
    ∷ at 1 (found 2 (170 ∷ 187 ∷ []))
    ∷ at 1 (found 1 (170 ∷ 187 ∷ []))
    ∷ at 1 (what.Answer (reply.Bytes (170 ∷ 187 ∷ 170 ∷ 187 ∷ 170 ∷ 187 ∷ [])))
    ∷ at 2 (issued (call.Data 0 (data_op.ScatterIndex 0 1 (5 ∷ 5 ∷ []) (7 ∷ 8 ∷ [])) true))
    ∷ at 2 (served first)
    ∷ at 2 (served second)
    ∷ at 2 (what.Answer reply.Done)
    ∷ at 3 (issued (get 5 1))
    ∷ at 3 (found 0 (kept ∷ []))
    ∷ at 3 (what.Answer (reply.Bytes (kept ∷ [])))
    ∷ []

-- a fetching atomic gives the old value, in the order of its own width
abbrev pub fetched : List Event
fetched =
    at 0 (issued (call.Data 0 (data_op.Atomic 0 8 width.I64 op.Set (negsuc 0) (pos 0)) false))
    ∷ at 0 (served 0)
    ∷ at 1 (issued (call.Data 0 (data_op.Atomic 0 8 width.U64 op.FetchMin (pos 0) (pos 0)) true))
    ∷ at 1 (found 0 (replicate 8 255))
    ∷ at 1 (what.Answer (reply.Value (pos 18446744073709551615)))
    ∷ at 2 (issued (call.Data 0 (data_op.Atomic 0 8 width.I64 op.Cas (pos 0) (negsuc 1)) true))
    ∷ at 2 (found 0 (replicate 8 0))
    ∷ at 2 (what.Answer (reply.Value (pos 0)))
    ∷ at 3 (issued (get 8 2))
    ∷ at 3 (found 0 (254 ∷ 255 ∷ []))
    ∷ at 3 (what.Answer (reply.Bytes (254 ∷ 255 ∷ [])))
    ∷ []

-- two programs at the barrier
abbrev pub barrier : List Event
barrier =
    at 0 what.Arrive
    ∷ other_at 0 what.Arrive
    ∷ other_at 0 (what.Answer reply.Passed)
    ∷ other_at 1 what.Leave
    ∷ at 0 (what.Answer reply.Passed)
    ∷ at 1 what.Leave
    ∷ []

-- a program passes the barrier as soon as the other one has crashed, and then alone
abbrev pub barrier_of_the_rest : List Event
barrier_of_the_rest =
    at 0 what.Arrive
    ∷ other_at 0 what.Crash
    ∷ at 0 (what.Answer reply.Passed)
    ∷ at 1 what.Arrive
    ∷ at 1 (what.Answer reply.Passed)
    ∷ []

-- a crash comes while a call is started; of the pieces that it leaves one still comes, and one is lost
abbrev pub crashed : List Event
crashed =
    at 0 (issued (put_nb 8 (170 ∷ [])))
    ∷ at 1 (issued (put 16 (187 ∷ [])))
    ∷ at 2 what.Crash
    ∷ at 0 (served 0)
    ∷ at 1 (what.Lose 0)
    ∷ []

-- with a copy's read its write is lost
abbrev pub lost_copy : List Event
lost_copy = at 0 (issued copy) ∷ at 1 what.Crash ∷ at 0 (what.Lose 0) ∷ []

-- the mode of an item changes between two pieces of a put: the first stays, the second is refused, and the report says so
abbrev pub torn_put : List Event
torn_put =
    at 0 (region_a 4096)
    ∷ at 1 (allocated 1 (codes "x") 256 1 0)
    ∷ at 2 (issued (call.Data 0 (data_op.Put 1 62 (1 ∷ 2 ∷ 3 ∷ 4 ∷ [])) false))
    ∷ at 2 (served 1)
    ∷ at 3 (what.Meta (meta.SetItemMode 1 0) reply.Done)
    ∷ at 2 (what.Piece 0 (answer.Refused error.NoPermission))
    ∷ at 4 (what.Quiet 0 (reply.Report (result 2 (answer.Refused error.NoPermission) ∷ [])))
    ∷ at 5 (what.Meta (meta.SetItemMode 1 384) reply.Done)
    ∷ at 6 (issued (call.Data 0 (data_op.Get 1 62 4) true))
    ∷ at 6 (found 0 (0 ∷ 0 ∷ []))
    ∷ at 6 (found 1 (3 ∷ 4 ∷ []))
    ∷ at 6 (what.Answer (reply.Bytes (0 ∷ 0 ∷ 3 ∷ 4 ∷ [])))
    ∷ []

-- room is used again: what is gone is absent, and the new item has zero bytes
abbrev pub gone_and_new : List Event
gone_and_new =
    at 0 (region_a 64)
    ∷ at 1 (allocated 1 (codes "x") 64 1 0)
    ∷ at 2 (issued (call.Data 0 (data_op.Put 1 0 (255 ∷ [])) true))
    ∷ at 2 (served 0)
    ∷ at 2 (what.Answer reply.Done)
    ∷ at 3 (what.Meta (meta.Deallocate 1) reply.Done)
    ∷ at 4 (allocated 2 (codes "y") 64 2 0)
    ∷ at 5 (issued (get_first 1))
    ∷ at 5 (what.Piece 0 (answer.Refused error.Absent))
    ∷ at 5 (what.Answer (reply.Error error.Absent))
    ∷ at 6 (issued (get_first 2))
    ∷ at 6 (found 0 (0 ∷ []))
    ∷ at 6 (what.Answer (reply.Bytes (0 ∷ [])))
    ∷ []

-- the items of a region are gone with it
abbrev pub destroyed : List Event
destroyed =
    at 0 (region_a 128)
    ∷ at 1 (allocated 1 (codes "x") 64 1 0)
    ∷ at 2 (issued (call.Data 0 (data_op.Put 1 0 (1 ∷ [])) false))
    ∷ at 3 (what.Meta (meta.DestroyRegion 1) reply.Done)
    ∷ at 2 (what.Piece 0 (answer.Refused error.Absent))
    ∷ at 4 (what.Meta (meta.Stat 1) (reply.Error error.Absent))
    ∷ at 5 (what.Meta (meta.StatRegion 1) (reply.Error error.Absent))
    ∷ at 6 (what.Meta (meta.Lookup 1 (codes "x") (codes "a")) (reply.Error error.Absent))
    ∷ at 7 (what.Meta (meta.CreateRegion 1 (codes "a") 64 448) (reply.Region (record { 0 = 2 })))
    ∷ []

-- any base that fits may be taken
abbrev pub two_items : ℕ → List Event
two_items base =
    at 0 (region_a 256) ∷ at 1 (allocated 1 (codes "x") 64 1 64) ∷ at 2 (allocated 2 (codes "y") 64 2 base) ∷ []

-- look-ups and stats need no permission; what is looked up fills a slot
abbrev pub looked_up : List Event
looked_up =
    at 0 (region_a 4096)
    ∷ at 1 (allocated 1 (codes "x") 100 1 64)
    ∷ other_at 0 (what.Meta (meta.LookupRegion 3 (codes "a")) (reply.Region (record { 0 = 1 })))
    ∷ other_at 1 (what.Meta (meta.Lookup 3 (codes "x") (codes "a")) (reply.Item (item 1 64 100)))
    ∷ other_at 2
    (what.Meta (meta.StatRegion 3)
    (reply.RegionStat (record { name = codes "a"; size = 4096; uid = 5; gid = 5; mode = 448 })))
    ∷ other_at 3
    (what.Meta (meta.Stat 3)
    (reply.ItemStat (record { name = codes "x"; region = record { 0 = 1 }; base = 64; size = 100; uid = 5; gid = 5; mode = 384 })))
    ∷ other_at 4 (issued (get_first 3))
    ∷ other_at 4 (what.Piece 0 (answer.Refused error.NoPermission))
    ∷ other_at 4 (what.Answer (reply.Error error.NoPermission))
    ∷ other_at 5 (what.Meta (meta.Lookup 3 (codes "y") (codes "a")) (reply.Error error.Absent))
    ∷ other_at 6 (what.Meta (meta.LookupRegion 3 (codes "a/b")) (reply.Error error.BadName))
    ∷ other_at 7 (what.Meta (meta.DestroyRegion 3) (reply.Error error.NoPermission))
    ∷ []

-- refusals of the directory
abbrev pub directory_refusals : List Event
directory_refusals =
    at 0 (what.Meta (meta.CreateRegion 1 (codes "a/b") 64 448) (reply.Error error.BadName))
    ∷ at 1 (what.Meta (meta.CreateRegion 1 (codes "a") 67108865 448) (reply.Error error.TooLarge))
    ∷ at 2 (region_a 128)
    ∷ at 3 (what.Meta (meta.CreateRegion 2 (codes "a") 64 448) (reply.Error error.Exists))
    ∷ at 4 (refused (call.Meta (meta.Allocate 1 (codes "x") 64 384 2)) error.BadHandle)
    ∷ at 5 (what.Meta (meta.Allocate 1 (codes "x") 64 384 0) (reply.Error error.NoPermission))
    ∷ at 6 (allocated 1 (codes "x") 100 1 0)
    ∷ at 7 (what.Meta (meta.Allocate 2 (codes "x") 1 384 1) (reply.Error error.Exists))
    ∷ at 8 (what.Meta (meta.Allocate 2 (codes "y") 1 384 1) (reply.Error error.NoSpace))
    ∷ at 9 (what.Meta (meta.ResizeRegion 1 64) (reply.Error error.InUse))
    ∷ at 10 (what.Meta (meta.ResizeRegion 1 192) reply.Done)
    ∷ at 11 (what.Meta (meta.Deallocate 0) (reply.Error error.NoPermission))
    ∷ at 12 (what.Meta (meta.SetRegionMode 0 511) (reply.Error error.NoPermission))
    ∷ []

-- refusals at issue, and calls with no pieces
abbrev pub issue_refusals : List Event
issue_refusals =
    at 0 (issued (put 4096 []))
    ∷ at 0 (what.Answer reply.Done)
    ∷ at 1 (issued (get 4096 0))
    ∷ at 1 (what.Answer (reply.Bytes []))
    ∷ at 2 (refused (put 4096 (1 ∷ [])) error.Range)
    ∷ at 3 (refused (put 18446744073709551615 (1 ∷ [])) error.Range)
    ∷ at 4 (refused (call.Data 0 (data_op.Atomic 0 16 width.I128 op.Add (pos 1) (pos 0)) false) error.Unsupported)
    ∷ at 5 (refused (call.Data 0 (data_op.Atomic 0 4 width.U64 op.Fetch (pos 0) (pos 0)) true) error.Unaligned)
    ∷ at 6 (refused (call.Data 0 (data_op.Gather 0 0 0 1 4097) true) error.TooLarge)
    ∷ at 7 (refused (get 0 1048577) error.TooLarge)
    ∷ at 8 (refused (call.Data 1 (data_op.Get 0 0 1) true) error.BadHandle)
    ∷ at 9 (refused (call.Data 0 (data_op.Get 1 0 1) true) error.BadHandle)
    ∷ at 10 what.Leave
    ∷ []

-- contexts: one that is open is not opened, one that is not open takes no call, and the first is not closed
abbrev pub contexts : List Event
contexts =
    at 0 (what.Quiet 0 (reply.Report []))
    ∷ at 1 (what.OpenContext 1)
    ∷ at 2 (refused (call.OpenContext 1) error.Exists)
    ∷ at 3 (refused (call.Fence 2) error.BadHandle)
    ∷ at 4 (what.CloseContext 1 (reply.Report []))
    ∷ at 5 (refused (call.CloseContext 0) error.Unsupported)
    ∷ []

-- a context that is opened again has no operations
abbrev pub opened_again : List Event
opened_again =
    at 0 (what.OpenContext 1)
    ∷ at 1 (issued (call.Data 1 (data_op.Put 0 0 (1 ∷ [])) false))
    ∷ at 2 (what.Fence 1)
    ∷ at 3 (issued (call.Data 1 (data_op.Get 0 0 1) false))
    ∷ at 1 (served 0)
    ∷ at 3 (found 0 (1 ∷ []))
    ∷ at 4 (what.CloseContext 1 (reply.Report (result 1 answer.Ok ∷ result 3 (answer.Data (1 ∷ [])) ∷ [])))
    ∷ at 5 (refused (call.Quiet 1) error.BadHandle)
    ∷ at 6 (what.OpenContext 1)
    ∷ at 7 (what.Quiet 1 (reply.Report []))
    ∷ []

-- pieces that find no memory or no room; a copy whose read is refused has no write
abbrev pub refused_pieces : List Event
refused_pieces =
    at 0 (issued (put 63 (1 ∷ 2 ∷ [])))
    ∷ at 0 (served 1)
    ∷ at 0 (what.Piece 0 (answer.Refused error.Memory))
    ∷ at 0 (what.Answer (reply.Error error.Memory))
    ∷ at 1 (issued (get 63 2))
    ∷ at 1 (found 0 (0 ∷ []))
    ∷ at 1 (found 1 (2 ∷ []))
    ∷ at 1 (what.Answer (reply.Bytes (0 ∷ 2 ∷ [])))
    ∷ at 2 (issued copy)
    ∷ at 2 (what.Piece 0 (answer.Refused (error.HistoryFull 262142 3)))
    ∷ at 3 (what.Wait 0 2 (reply.Error (error.HistoryFull 262142 3)))
    ∷ []

-- calls that would be served are refused for want of room or by the disk
abbrev pub refused_calls : List Event
refused_calls =
    at 0 (creation_refused error.DiskFault true)
    ∷ at 1 (creation_refused (error.JournalFull 16777216 34) false)
    ∷ at 2 (creation_refused (error.HistoryFull 262144 1) false)
    ∷ at 3 (what.Refused (call.Meta (meta.StatRegion 0)) (error.HistoryFull 262144 1) false)
    ∷ at 4 (what.Refused call.Barrier (error.HistoryFull 262144 1) false)
    ∷ at 5 (region_a 4096)
    ∷ []

-- all of them
abbrev pub worked_histories : List Run
worked_histories =
    alone (put_and_get (1 ∷ 2 ∷ 3 ∷ 4 ∷ []))
    ∷ alone (fenced_puts 0 2)
    ∷ on_two_stripes (fenced_puts 0 2)
    ∷ alone unfenced_puts
    ∷ on_two_stripes put_of_four_units
    ∷ alone copied
    ∷ alone (overlapping 0 1 8)
    ∷ alone (overlapping 1 0 7)
    ∷ alone fetched
    ∷ together barrier
    ∷ together barrier_of_the_rest
    ∷ alone crashed
    ∷ alone lost_copy
    ∷ alone torn_put
    ∷ alone gone_and_new
    ∷ alone destroyed
    ∷ alone (two_items 192)
    ∷ together looked_up
    ∷ alone directory_refusals
    ∷ alone issue_refusals
    ∷ alone contexts
    ∷ alone opened_again
    ∷ alone refused_pieces
    ∷ alone refused_calls
    ∷ []

-- each of these histories is legal
abbrev pub WorkedHistoriesAreLegal : Type 0
WorkedHistoriesAreLegal = IsTrue (list_all is_legal_run worked_histories)
