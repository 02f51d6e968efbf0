-- Scripts played by the schedule, with the replies that their programs have.
use Rattle.std.specs.Prelude.{◌≡◌, ℕ, zero, suc, true, false, List, [], ◌∷◌, map, length, drop, ◌-◌, codes}
use Rattle.std.specs.Option.{option_map_or}
use Rattle.fam_base.specs.declared.error.FamError.TheVariants as error
use Rattle.fam_model.specs.declared.call.Call.{Call}
use Rattle.fam_model.specs.declared.call.Call.TheVariants as call
use Rattle.fam_model.specs.declared.call.DataOp.TheVariants as data_op
use Rattle.fam_model.specs.declared.call.MetaCall.TheVariants as meta
use Rattle.fam_model.specs.declared.event.Event.{Event}
use Rattle.fam_model.specs.declared.event.What.TheVariants as what
use Rattle.fam_model.specs.declared.reply.OpResult.{OpResult}
use Rattle.fam_model.specs.declared.reply.PieceAnswer.TheVariants as answer
use Rattle.fam_model.specs.declared.reply.Reply.{Reply}
use Rattle.fam_model.specs.declared.reply.Reply.TheVariants as reply
use Rattle.fam_model.specs.declared.script.Script.{Script}
use Rattle.fam_model.specs.declared.script.Statement.{One}
use Rattle.fam_model.specs.Limits.{service_limits}
use Rattle.fam_model.specs.Lists.{numbers_below}
use Rattle.fam_model.specs.Rows.{common_rows}
use Rattle.fam_model.specs.Step.{step}
use Rattle.fam_schedule.specs.Schedule.{Run, next_step, went_on, new_run, replies_to, event_of}

-- playing

-- the run with so many events more, or where it ends before
abbrev pub plays_on : ℕ → Script → Run → Run
plays_on zero script run = run
plays_on (suc n) script run =
    option_map_or (λ chosen.
    option_map_or (λ next. plays_on n script (went_on run chosen.0 next chosen.1)) (step service_limits run.now chosen.0) run)
    (next_step script run) run

-- a script of programs that make these calls, on one server of so many stripes in units of 64 bytes
abbrev pub script_of : ℕ → List (List Call) → Script
script_of stripes programs =
    record {
      service = record { servers = 1; stripes = stripes; unit = 64 };
      programs = map (λ calls. record { who = record { uid = 5; gid = 5 }; statements = map One calls }) programs;
      lines = 0;
    }

-- its run by a seed, of 60 events at most
abbrev pub run_of : ℕ → Script → Run
run_of seed script = plays_on 60 script (new_run common_rows script seed)

-- the replies of its programs
abbrev pub replies_by : ℕ → Script → List (List Reply)
replies_by seed script =
    let run = run_of seed script in map (replies_to run.before) (numbers_below (length script.programs))

-- calls and replies

abbrev pub put : ℕ → List ℕ → Call
put offset bytes = call.Data 0 (data_op.Put 0 offset bytes) true

abbrev pub put_nb : ℕ → List ℕ → Call
put_nb offset bytes = call.Data 0 (data_op.Put 0 offset bytes) false

abbrev pub get : ℕ → ℕ → Call
get offset count = call.Data 0 (data_op.Get 0 offset count) true

abbrev pub get_nb : ℕ → ℕ → Call
get_nb offset count = call.Data 0 (data_op.Get 0 offset count) false

abbrev pub done : ℕ → OpResult
done call = record { call = call; answer = answer.Ok }

abbrev pub gave : ℕ → List ℕ → OpResult
gave call bytes = record { call = call; answer = answer.Data bytes }

-- scripts

-- a put whose two pieces lie in two units, and a get of the same bytes
abbrev pub both_sides : Script
both_sides = script_of 1 ((put_nb 62 (1 ∷ 2 ∷ 3 ∷ 4 ∷ []) ∷ get_nb 62 4 ∷ call.Quiet 0 ∷ get 62 4 ∷ []) ∷ [])

-- four puts that nothing orders, the last two to one byte
abbrev pub unordered : Script
unordered =
    script_of 1
    ((put_nb 8 (170 ∷ []) ∷ put_nb 16 (187 ∷ []) ∷ put_nb 0 (1 ∷ []) ∷ put_nb 0 (2 ∷ []) ∷ call.Quiet 0 ∷ get 0 1 ∷ []) ∷ [])

-- the same with a fence before the last
abbrev pub ordered : Script
ordered =
    script_of 1
    ((put_nb 8 (170 ∷ []) ∷ put_nb 16 (187 ∷ []) ∷ put_nb 0 (1 ∷ []) ∷ call.Fence 0 ∷ put_nb 0 (2 ∷ []) ∷ call.Quiet 0 ∷ get 0 1 ∷ []) ∷ [])

-- a fence between puts on two stripes
abbrev pub across : Script
across = script_of 2 ((put_nb 0 (1 ∷ []) ∷ call.Fence 0 ∷ put_nb 64 (2 ∷ []) ∷ call.Quiet 0 ∷ []) ∷ [])

-- opening and closing
abbrev pub contexts : Script
contexts =
    script_of 1
    ((call.Quiet 0 ∷ call.Quiet 0 ∷ call.OpenContext 1 ∷ call.OpenContext 1 ∷ call.Fence 2 ∷ call.CloseContext 1 ∷ call.CloseContext 0 ∷ []) ∷ [])

-- a copy within one item
abbrev pub copied : Script
copied =
    script_of 1
    ((put 0 (1 ∷ 2 ∷ 3 ∷ 4 ∷ []) ∷ call.Data 0 (data_op.Copy 0 0 0 1 4) false ∷ call.CopyWait 0 1 ∷ call.CopyWait 0 1 ∷ get 0 5 ∷ call.Quiet 0 ∷ []) ∷ [])

-- a crash with three puts under way
abbrev pub crashed : Script
crashed = script_of 1 ((put_nb 8 (170 ∷ []) ∷ put_nb 16 (187 ∷ []) ∷ put_nb 0 (204 ∷ []) ∷ call.Crash ∷ []) ∷ [])

-- a program that makes an item and crashes, and one that waits for it at the barrier
abbrev pub left_behind : Script
left_behind =
    script_of 1
    ((call.Meta (meta.CreateRegion 1 (codes "a") 64 511) ∷ call.Meta (meta.Allocate 1 (codes "x") 64 438 1) ∷ call.Crash ∷ [])
    ∷ (call.Barrier ∷ call.Meta (meta.Lookup 1 (codes "x") (codes "a")) ∷ []) ∷ [])

-- what comes of them

-- the replies of its programs are these, by each seed below n
abbrev pub AlwaysReplies : ℕ → Script → List (List Reply) → Type 0
AlwaysReplies n script replies = map (λ seed. replies_by seed script) (numbers_below n) ≡ map (λ seed. replies) (numbers_below n)

-- By the seed 42 a put's second piece comes before a get of the same bytes, and its first one after it; of two puts to
-- one byte the earlier one comes last.
pub record PiecesComeInAnyOrder : Type 0 where
  pub both_sides : replies_by 42 both_sides
      ≡ (reply.Issued ∷ reply.Issued ∷ reply.Report (done 0 ∷ gave 1 (0 ∷ 0 ∷ 3 ∷ 4 ∷ []) ∷ [])
      ∷ reply.Bytes (1 ∷ 2 ∷ 3 ∷ 4 ∷ []) ∷ reply.Left ∷ []) ∷ []
  pub unordered : replies_by 42 unordered
      ≡ (reply.Issued ∷ reply.Issued ∷ reply.Issued ∷ reply.Issued ∷ reply.Report (done 0 ∷ done 1 ∷ done 2 ∷ done 3 ∷ [])
      ∷ reply.Bytes (1 ∷ []) ∷ reply.Left ∷ []) ∷ []

-- A fence orders them by each seed, also across stripes.
pub record FencesOrder : Type 0 where
  pub ordered : AlwaysReplies 20 ordered
      ((reply.Issued ∷ reply.Issued ∷ reply.Issued ∷ reply.Done ∷ reply.Issued ∷ reply.Report (done 0 ∷ done 1 ∷ done 2 ∷ done 4 ∷ [])
      ∷ reply.Bytes (2 ∷ []) ∷ reply.Left ∷ []) ∷ [])
  pub across : AlwaysReplies 20 across
      ((reply.Issued ∷ reply.Done ∷ reply.Issued ∷ reply.Report (done 0 ∷ done 2 ∷ []) ∷ reply.Left ∷ []) ∷ [])

-- Contexts are opened and closed once, and a copy is waited for once.
pub record ContextsReply : Type 0 where
  pub contexts : AlwaysReplies 3 contexts
      ((reply.Report [] ∷ reply.Report [] ∷ reply.Done ∷ reply.Error error.Exists ∷ reply.Error error.BadHandle ∷ reply.Report []
      ∷ reply.Error error.Unsupported ∷ reply.Left ∷ []) ∷ [])
  pub copied : AlwaysReplies 3 copied
      ((reply.Done ∷ reply.Issued ∷ reply.Done ∷ reply.Error error.BadHandle ∷ reply.Bytes (1 ∷ 1 ∷ 2 ∷ 3 ∷ 4 ∷ []) ∷ reply.Report []
      ∷ reply.Left ∷ []) ∷ [])

-- the last two of these events
abbrev pub last_two : List Event → List Event
last_two events = drop (length events - 2) events

-- By the seed 42 the piece that a crash leaves is lost. Who has crashed is waited for by nobody.
pub record CrashesHappen : Type 0 where
  pub lost : last_two (run_of 42 crashed).before ≡ event_of 0 3 what.Crash ∷ event_of 0 2 (what.Lose 0) ∷ []
  pub left_behind : map (λ seed. replies_to (run_of seed left_behind).before 1) (numbers_below 10)
      ≡ map (λ seed. reply.Passed ∷ reply.Item (record { item = record { 0 = 1 }; region = record { 0 = 1 }; base = 0; size = 64 }) ∷ reply.Left ∷ []) (numbers_below 10)
