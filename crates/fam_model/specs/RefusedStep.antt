-- Calls that would be served, and are refused for want of room or by the disk.
use Rattle.std.specs.Prelude.{ℕ, ◌+◌, Bool, true, false, not, ◌&&◌, nat_lt, Option, is_none}
use Rattle.fam_base.specs.declared.error.FamError.{FamError}
use Rattle.fam_base.specs.declared.error.FamError.TheVariants.{HistoryFull, JournalFull, DiskFault}
use Rattle.fam_model.specs.declared.call.MetaCall.{MetaCall}
use Rattle.fam_model.specs.declared.call.MetaCall.TheVariants as meta
use Rattle.fam_model.specs.declared.call.Call.{Call}
use Rattle.fam_model.specs.declared.call.Call.TheVariants as call
use Rattle.fam_model.specs.declared.rows.Rows.{Rows}
use Rattle.fam_model.specs.declared.state.ProgramState.{ProgramState}
use Rattle.fam_model.specs.Directory.{refusal}
use Rattle.fam_model.specs.EndStep.{may_arrive}
use Rattle.fam_model.specs.Limits.{Limits}
use Rattle.fam_model.specs.Lists.{when, is_some_and}
use Rattle.fam_model.specs.Programs.{request_of, counted}

-- the directory or the barrier would serve the call
abbrev pub would_serve : Rows → ℕ → ProgramState → Call → Bool
would_serve rows round p (call.Meta asked) =
    is_some_and (request_of p asked) (λ request. is_none (refusal rows p.who request))
would_serve rows round p call.Barrier = may_arrive round p
would_serve rows round p _ = false

-- no look-up and no stat
abbrev pub is_change : MetaCall → Bool
is_change (meta.LookupRegion slot name) = false
is_change (meta.StatRegion slot) = false
is_change (meta.Lookup slot name region) = false
is_change (meta.Stat slot) = false
is_change _ = true

-- the call goes to the journal
abbrev pub changes_directory : Call → Bool
changes_directory (call.Meta asked) = is_change asked
changes_directory _ = false

-- the error exceeds its limit, or is the disk's; only with that one the change may be in doubt
abbrev pub may_refuse : Limits → Call → FamError → Bool → Bool
may_refuse limits asked (HistoryFull used need) doubt = nat_lt limits.history (used + need) && not doubt
may_refuse limits asked (JournalFull used need) doubt =
    changes_directory asked && nat_lt limits.journal (used + need + 1) && not doubt
may_refuse limits asked DiskFault doubt = changes_directory asked
may_refuse limits asked _ doubt = false

-- a call that would be served is refused; nothing changes but the call number
abbrev pub refused_step : Limits → Rows → ℕ → ProgramState → Call → FamError → Bool → Option ProgramState
refused_step limits rows round p asked error doubt =
    when (would_serve rows round p asked && may_refuse limits asked error doubt) (counted p)
