-- Runs of scripts over a disk, and their reports.
use Rattle.std.proofs.Common.{◌≡◌, ℕ, Bool, true, List, [], refl, sym, subst, inl, inr}
use Rattle.std.specs.Prelude.{◌⊎◌, IfSome, codes}
use Rattle.fam_base.specs.Causes.{Rose}
use Rattle.fam_model.specs.Limits.{service_limits}
use Rattle.meta_journal.specs.Opened.{IsRefused}
use Rattle.meta_journal.specs.declared.starting.OpenFault.{OpenFault}
use Rattle.meta_journal.specs.declared.starting.OpenFault.TheVariants as refusal
use Rattle.fam_io.specs.State.{SinkState}
use Rattle.fam_disk.specs.Crash.{DiskState}
use Rattle.fam_model.specs.declared.event.Event.{Event}
use Rattle.fam_model.specs.declared.rows.Rows.{Rows}
use Rattle.fam_model.specs.declared.script.Script.{Script}
use Rattle.famrun.specs.declared.ending.Ending.{Ending}
use Rattle.famrun.specs.declared.ending.Ending.TheVariants as ending
use Rattle.famrun.specs.Ending.{NotOpened, PlaysScript, ReportsRun, Tells, TellsFault}
use Rattle.famrun.specs.OverDisk.{IsDamagedAt, Looks, RunsOver}
use Rattle.famrun.proofs.OverDisk.{if_some_is, so_far}

told_so : {D : Type 0} (state : D → DiskState) (seed : ℕ) (script : Script) (rows : Rows) (history : List Event) (whole : Bool) (before after : SinkState) (old new : D) (e : Ending) →
    RunsOver state seed script rows history whole old new → ReportsRun script rows history whole before after e → PlaysScript state seed script history before after old new e
told_so state seed script rows history whole before after old new ending.Told r (is, told) = (rows, subst (λ b. RunsOver state seed script rows history b old new) is r, told)
told_so state seed script rows history whole before after old new ending.WriteFault r (is, front, rose) = (rows, subst (λ b. RunsOver state seed script rows history b old new) is r, front, rose)
told_so state seed script rows history whole before after old new ending.NoMemory r told = (inr (rows, so_far state seed script rows history whole old new r), told)
told_so state seed script rows history whole before after old new ending.BadWords r told = told
told_so state seed script rows history whole before after old new (ending.BadLine n) r told = told
told_so state seed script rows history whole before after old new (ending.Illegal line rule) r told = told
told_so state seed script rows history whole before after old new ending.ReadFault r told = told
told_so state seed script rows history whole before after old new ending.DiskFault r told = absurd told
told_so state seed script rows history whole before after old new (ending.Damaged place) r told = absurd told
told_so state seed script rows history whole before after old new ending.TooLong r told = told

-- a run that was reported
pub reported : {D : Type 0} (state : D → DiskState) (seed : ℕ) (script : Script) (rows : Rows) (history given : List Event) (whole : Bool) (before after : SinkState) (old new : D) (e : Ending) →
    RunsOver state seed script rows history whole old new → given ≡ history → ReportsRun script rows history whole before after e → PlaysScript state seed script given before after old new e
reported state seed script rows history given whole before after old new e r same told =
    subst (λ h. PlaysScript state seed script h before after old new e) (sym same) (told_so state seed script rows history whole before after old new e r told)

-- nothing was played for want of memory
pub no_memory : {D : Type 0} (state : D → DiskState) (seed : ℕ) (script : Script) (history : List Event) (before after : SinkState) (old new : D) (e : Ending) → history ≡ [] → e ≡ ending.NoMemory →
    Looks (state old) (state new) → Tells before after (codes "no memory\n") → PlaysScript state seed script history before after old new e
no_memory state seed script history before after old new e none is looks told =
    subst (PlaysScript state seed script history before after old new) (sym is) (inl (none, looks), told)

-- the journal was not opened
pub unopened : {D : Type 0} (state : D → DiskState) (seed : ℕ) (script : Script) (history : List Event) (before after : SinkState) (old new : D) (e : Ending) → history ≡ [] → Looks (state old) (state new) →
    NotOpened (state old) (state new) before after e → PlaysScript state seed script history before after old new e
unopened state seed script history before after old new ending.DiskFault none looks not = (none, looks, not)
unopened state seed script history before after old new (ending.Damaged place) none looks not = (none, looks, not)
unopened state seed script history before after old new ending.NoMemory none looks not = (inl (none, looks), not)
unopened state seed script history before after old new ending.Told none looks not = absurd not
unopened state seed script history before after old new ending.WriteFault none looks not = absurd not
unopened state seed script history before after old new ending.BadWords none looks not = not
unopened state seed script history before after old new (ending.BadLine n) none looks not = not
unopened state seed script history before after old new (ending.Illegal line rule) none looks not = not
unopened state seed script history before after old new ending.ReadFault none looks not = not
unopened state seed script history before after old new ending.TooLong none looks not = not

-- what was told is why
pub not_opened : (old new : DiskState) (before after : SinkState) (fault : OpenFault) (e : Ending) → (fault ≡ refusal.DiskFault → Rose old.faults new.faults) → IfSome old.content (λ bytes. IsRefused service_limits.journal bytes fault) →
    TellsFault fault before after e → NotOpened old new before after e
not_opened old new before after refusal.Memory ending.NoMemory rose refused told = told
not_opened old new before after refusal.DiskFault ending.DiskFault rose refused told = (rose refl, told)
not_opened old new before after (refusal.Damaged place) ending.NoMemory rose refused told = told
not_opened old new before after (refusal.Damaged place) (ending.Damaged told) rose refused (same, line) =
    subst (λ p. NotOpened old new before after (ending.Damaged p)) (sym same) (damaged_there, line)
  where
    damaged_there : IsDamagedAt old place
    damaged_there bytes is = if_some_is old.content (λ b. IsRefused service_limits.journal b (refusal.Damaged place)) bytes is refused
not_opened old new before after refusal.Memory ending.Told rose refused told = absurd told
not_opened old new before after refusal.Memory ending.BadWords rose refused told = absurd told
not_opened old new before after refusal.Memory (ending.BadLine n) rose refused told = absurd told
not_opened old new before after refusal.Memory (ending.Illegal line rule) rose refused told = absurd told
not_opened old new before after refusal.Memory ending.ReadFault rose refused told = absurd told
not_opened old new before after refusal.Memory ending.WriteFault rose refused told = absurd told
not_opened old new before after refusal.Memory ending.DiskFault rose refused told = absurd told
not_opened old new before after refusal.Memory (ending.Damaged p) rose refused told = absurd told
not_opened old new before after refusal.Memory ending.TooLong rose refused told = absurd told
not_opened old new before after refusal.DiskFault ending.Told rose refused told = absurd told
not_opened old new before after refusal.DiskFault ending.BadWords rose refused told = absurd told
not_opened old new before after refusal.DiskFault (ending.BadLine n) rose refused told = absurd told
not_opened old new before after refusal.DiskFault (ending.Illegal line rule) rose refused told = absurd told
not_opened old new before after refusal.DiskFault ending.ReadFault rose refused told = absurd told
not_opened old new before after refusal.DiskFault ending.WriteFault rose refused told = absurd told
not_opened old new before after refusal.DiskFault ending.NoMemory rose refused told = absurd told
not_opened old new before after refusal.DiskFault (ending.Damaged p) rose refused told = absurd told
not_opened old new before after refusal.DiskFault ending.TooLong rose refused told = absurd told
not_opened old new before after (refusal.Damaged place) ending.Told rose refused told = absurd told
not_opened old new before after (refusal.Damaged place) ending.BadWords rose refused told = absurd told
not_opened old new before after (refusal.Damaged place) (ending.BadLine n) rose refused told = absurd told
not_opened old new before after (refusal.Damaged place) (ending.Illegal line rule) rose refused told = absurd told
not_opened old new before after (refusal.Damaged place) ending.ReadFault rose refused told = absurd told
not_opened old new before after (refusal.Damaged place) ending.WriteFault rose refused told = absurd told
not_opened old new before after (refusal.Damaged place) ending.DiskFault rose refused told = absurd told
not_opened old new before after (refusal.Damaged place) ending.TooLong rose refused told = absurd told
