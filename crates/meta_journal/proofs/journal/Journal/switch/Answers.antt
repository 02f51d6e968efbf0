use Rattle.meta_journal.proofs.Syncs.{more_syncs}
use Rattle.std.proofs.Common.{ℕ, List, subst}
use Rattle.fam_disk.proofs.Moments.{run_on}
use Rattle.fam_disk.specs.Crash.{LeavesOnly}
use Rattle.fam_model.specs.declared.change.Change.{Change}
use Rattle.fam_model.specs.Journal.{rows_of}
use Rattle.meta_journal.specs.Reading.{HasRows}
use Rattle.meta_journal.specs.State.{acknowledged}
use Rattle.meta_journal.proofs.journal.Journal.switch.Goals as goal

pub returns-in_err-go_over-clause-any_moment : goal.returns-in_err-go_over-clause-any_moment
returns-in_err-go_over-clause-any_moment g c =
    let j = c.args.self.now in
    let D = g.D.Disk.state in
    let at_first = D j.disk in
    let at_second = D c.reach_other.new.self.disk in
    let at_third = D c.go_over.new.self.disk in
    let A = acknowledged j in
    let same : LeavesOnly (HasRows j.limit (rows_of A)) at_second at_third =
    subst (λ (limit : ℕ). LeavesOnly (HasRows limit (rows_of A)) at_second at_third) c.reach_other.ensures.same.limit
    (subst (λ (changes : List Change). LeavesOnly (HasRows c.reach_other.new.self.limit (rows_of changes)) at_second at_third) c.reach_other.ensures.acknowledged
    c.go_over.ensures.any_moment) in
    run_on (HasRows j.limit (rows_of A)) at_first at_second at_third c.reach_other.ensures.any_moment same

pub returns-clause-any_moment : goal.returns-clause-any_moment
returns-clause-any_moment g c =
    let j = c.args.self.now in
    let D = g.D.Disk.state in
    let at_first = D j.disk in
    let at_second = D c.reach_other.new.self.disk in
    let at_third = D c.go_over.new.self.disk in
    let A = acknowledged j in
    let same : LeavesOnly (HasRows j.limit (rows_of A)) at_second at_third =
    subst (λ (limit : ℕ). LeavesOnly (HasRows limit (rows_of A)) at_second at_third) c.reach_other.ensures.same.limit
    (subst (λ (changes : List Change). LeavesOnly (HasRows c.reach_other.new.self.limit (rows_of changes)) at_second at_third) c.reach_other.ensures.acknowledged
    c.go_over.ensures.any_moment) in
    run_on (HasRows j.limit (rows_of A)) at_first at_second at_third c.reach_other.ensures.any_moment same

pub returns-in_err-go_over-clause-syncs : goal.returns-in_err-go_over-clause-syncs
returns-in_err-go_over-clause-syncs g c =
    let D = g.D.Disk.state in
    let at_first = D c.args.self.now.disk in
    let at_second = D c.reach_other.new.self.disk in
    let at_third = D c.go_over.new.self.disk in
    more_syncs at_first at_second at_third c.reach_other.ensures.syncs c.reach_other.ensures.any_moment.tells c.go_over.ensures.syncs

pub returns-clause-syncs : goal.returns-clause-syncs
returns-clause-syncs g c =
    let D = g.D.Disk.state in
    let at_first = D c.args.self.now.disk in
    let at_second = D c.reach_other.new.self.disk in
    let at_third = D c.go_over.new.self.disk in
    more_syncs at_first at_second at_third c.reach_other.ensures.syncs c.reach_other.ensures.any_moment.tells c.go_over.ensures.syncs
