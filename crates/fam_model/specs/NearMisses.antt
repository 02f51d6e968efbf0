-- Histories that are nearly legal, with the first event that has no next state and the rule that it breaks.
use Rattle.std.specs.Prelude.{◌≡◌, ℕ, true, false, List, [], ◌∷◌, ◌++◌, map, codes, Option, Some}
use Rattle.fam_base.specs.declared.error.FamError.TheVariants as error
use Rattle.fam_model.specs.declared.call.MetaCall.TheVariants as meta
use Rattle.fam_model.specs.declared.call.Call.TheVariants as call
use Rattle.fam_model.specs.declared.reply.PieceAnswer.TheVariants as answer
use Rattle.fam_model.specs.declared.reply.Reply.TheVariants as reply
use Rattle.fam_model.specs.declared.event.Event.{Event}
use Rattle.fam_model.specs.declared.event.What.TheVariants as what
use Rattle.fam_model.specs.Limits.{service_limits}
use Rattle.fam_model.specs.Rules.{first_broken}
use Rattle.fam_model.specs.Worked.{Run, alone, together, on_two_stripes, at, other_at, issued, refused, served, found, put, put_nb, copy, result, creation_refused, put_and_get, fenced_puts, two_items}

-- a run whose event at this place, counted from 0, breaks this rule, while those before it are legal
pub record NearMiss : Type 0 where
  pub run : Run
  pub place : ℕ
  pub rule : ℕ

-- a near miss with its parts in order
abbrev pub miss : Run → ℕ → ℕ → NearMiss
miss run place rule = record { run = run; place = place; rule = rule }

-- a put that is issued and whose piece is left
abbrev pub pending_put : List Event
pending_put = at 0 (issued (put_nb 0 (1 ∷ []))) ∷ []

-- near misses of each rule
abbrev pub near_misses : List NearMiss
near_misses =
    -- there is no such program
    miss (alone (other_at 0 (what.Fence 0) ∷ [])) 0 1
    -- a call number is left out
    ∷ miss (alone (at 0 (what.Fence 0) ∷ at 2 (what.Fence 0) ∷ [])) 1 1
    -- a call while a blocking one is started
    ∷ miss (alone (at 0 (issued (put 0 (1 ∷ []))) ∷ at 1 (what.Fence 0) ∷ [])) 1 1
    -- a call after leaving
    ∷ miss (alone (at 0 what.Leave ∷ at 1 (what.Fence 0) ∷ [])) 1 1
    -- a base that is taken
    ∷ miss (alone (two_items 64)) 2 2
    -- a base that is no multiple of 64
    ∷ miss (alone (two_items 130)) 2 2
    -- the second of two refusals that hold
    ∷ miss (alone (at 0 (what.Meta (meta.CreateRegion 1 (codes "a/b") 67108865 448) (reply.Error error.TooLarge)) ∷ [])) 0 2
    -- a call on the directory by way of an empty slot, which is refused at issue
    ∷ miss (alone (at 0 (what.Meta (meta.Stat 1) (reply.Error error.BadHandle)) ∷ [])) 0 2
    -- a wrong refusal at issue
    ∷ miss (alone (at 0 (refused (put 4096 (1 ∷ [])) error.TooLarge) ∷ [])) 0 3
    -- an issue of a call that is no data call and is not refused
    ∷ miss (alone (at 0 (issued (call.Fence 0)) ∷ [])) 0 3
    -- a piece past a fence
    ∷ miss (alone (fenced_puts 2 0)) 3 4
    ∷ miss (on_two_stripes (fenced_puts 2 0)) 3 4
    -- a copy's write before its read
    ∷ miss (alone (at 0 (issued copy) ∷ at 0 (served 1) ∷ [])) 1 4
    -- a piece that comes twice
    ∷ miss (alone (pending_put ++ at 0 (served 0) ∷ at 0 (served 0) ∷ [])) 2 4
    -- a copy's write after its read was refused
    ∷ miss (alone (at 0 (issued copy) ∷ at 0 (what.Piece 0 (answer.Refused error.Memory)) ∷ at 0 (served 1) ∷ [])) 2 4
    -- a wrong byte
    ∷ miss (alone (put_and_get (1 ∷ 2 ∷ 3 ∷ 5 ∷ []))) 4 5
    -- a put's piece with bytes
    ∷ miss (alone (pending_put ++ at 0 (found 0 (0 ∷ [])) ∷ [])) 1 5
    -- a piece whose stripe has room
    ∷ miss (alone (pending_put ++ at 0 (what.Piece 0 (answer.Refused (error.HistoryFull 262141 3))) ∷ [])) 1 5
    -- a piece that is refused though its program may write there
    ∷ miss (alone (pending_put ++ at 0 (what.Piece 0 (answer.Refused error.NoPermission)) ∷ [])) 1 5
    -- an answer before the piece
    ∷ miss (alone (at 0 (issued (put 0 (1 ∷ []))) ∷ at 0 (what.Answer reply.Done) ∷ [])) 1 6
    -- an answer to a call that does not block
    ∷ miss (alone (pending_put ++ at 0 (served 0) ∷ at 0 (what.Answer reply.Done) ∷ [])) 2 6
    -- a context that is open is opened
    ∷ miss (alone (at 0 (what.OpenContext 0) ∷ [])) 0 7
    -- a fence on a context that is not open
    ∷ miss (alone (at 0 (what.Fence 1) ∷ [])) 0 7
    -- a quiet with a piece left
    ∷ miss (alone (pending_put ++ at 1 (what.Quiet 0 (reply.Report (result 0 answer.Ok ∷ []))) ∷ [])) 1 8
    -- a report without a result
    ∷ miss (alone (pending_put ++ at 0 (served 0) ∷ at 1 (what.Quiet 0 (reply.Report [])) ∷ [])) 2 8
    -- the first context is closed
    ∷ miss (alone (at 0 (what.CloseContext 0 (reply.Report [])) ∷ [])) 0 8
    -- a wait for what is no copy
    ∷ miss (alone (pending_put ++ at 0 (served 0) ∷ at 1 (what.Wait 0 0 reply.Done) ∷ [])) 2 9
    -- a wait for a copy with a piece left
    ∷ miss (alone (at 0 (issued copy) ∷ at 0 (served 0) ∷ at 1 (what.Wait 0 0 reply.Done) ∷ [])) 2 9
    -- a barrier is passed before all have arrived
    ∷ miss (together (at 0 what.Arrive ∷ at 0 (what.Answer reply.Passed) ∷ [])) 1 10
    -- a program leaves with a piece left
    ∷ miss (alone (at 0 (issued copy) ∷ at 1 what.Leave ∷ [])) 1 11
    -- a piece of a running program is lost
    ∷ miss (alone (pending_put ++ at 0 (what.Lose 0) ∷ [])) 1 11
    -- a write that was lost with its read is lost again
    ∷ miss (alone (at 0 (issued copy) ∷ at 1 what.Crash ∷ at 0 (what.Lose 0) ∷ at 0 (what.Lose 1) ∷ [])) 3 11
    -- the directory has room
    ∷ miss (alone (at 0 (creation_refused (error.HistoryFull 262143 1) false) ∷ [])) 0 12
    -- the journal has room
    ∷ miss (alone (at 0 (creation_refused (error.JournalFull 16777181 34) false) ∷ [])) 0 12
    -- a change in doubt where the disk did not fail
    ∷ miss (alone (at 0 (creation_refused (error.HistoryFull 262144 1) true) ∷ [])) 0 12
    -- a look-up does not go to the disk
    ∷ miss (alone (at 0 (what.Refused (call.Meta (meta.StatRegion 0)) error.DiskFault false) ∷ [])) 0 12
    -- a call that would be refused anyway
    ∷ miss (alone (at 0 (what.Refused (call.Meta (meta.Deallocate 0)) error.DiskFault false) ∷ [])) 0 12
    ∷ []

-- the first event of a near miss that has no next state, and the rule that it breaks
abbrev pub broken_in : NearMiss → Option (ℕ × ℕ)
broken_in near = first_broken service_limits near.run.start 0 near.run.events

-- what is told of a near miss
abbrev pub told_of : NearMiss → Option (ℕ × ℕ)
told_of near = Some (near.place, near.rule)

-- each near miss breaks its rule at its place, and nothing before it
abbrev pub NearMissesBreakRules : Type 0
NearMissesBreakRules = map broken_in near_misses ≡ map told_of near_misses
