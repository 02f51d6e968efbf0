use Rattle.meta_journal.proofs.Syncs.{more_syncs}
use Rattle.std.proofs.Common.{inl, inr, ap, sym, ◌∙◌}
use Rattle.fam_model.specs.Journal.{rows_of}
use Rattle.meta_journal.specs.State.{acknowledged}
use Rattle.meta_journal.proofs.Results.{on_err}
use Rattle.meta_journal.proofs.Appending.{may_go_on, settled_so_far, rows_so_far, room_so_far, added_so_far}
use Rattle.meta_journal.proofs.journal.Journal.append_reserved.Goals as goal

pub make_room-requires-clause-form : goal.make_room-requires-clause-form
make_room-requires-clause-form g c κs within =
    let settled = c.settle_doubt.ensures in
    may_go_on c.args.self.now c.settle_doubt.new.self settled.same settled.acknowledged (λ told. sym settled.any_moment.tells ∙ told) c.args.reserve.short c.requires.form

pub returns-in_err-make_room-clause-any_moment : goal.returns-in_err-make_room-clause-any_moment
returns-in_err-make_room-clause-any_moment g c =
    let j = c.args.self.now in
    let D = g.D.Disk.state in
    let at_first = D j.disk in
    let at_second = D c.settle_doubt.new.self.disk in
    let at_third = D c.make_room.new.self.disk in
    let settled = c.settle_doubt.ensures in
    let room = c.make_room.ensures in
    let change = c.args.reserve.record.change in
    let A = acknowledged j in
    room_so_far j.limit A j.doubt change at_first at_second at_third c.settle_doubt.new.self.limit (acknowledged c.settle_doubt.new.self) settled.same.limit (ap rows_of settled.acknowledged)
    (settled_so_far j.limit A j.doubt change at_first at_second settled.any_moment) room.any_moment

pub returns-in_err-add-clause-any_moment : goal.returns-in_err-add-clause-any_moment
returns-in_err-add-clause-any_moment g c =
    let j = c.args.self.now in
    let D = g.D.Disk.state in
    let at_first = D j.disk in
    let at_second = D c.settle_doubt.new.self.disk in
    let at_third = D c.make_room.new.self.disk in
    let at_fourth = D c.add.new.self.disk in
    let settled = c.settle_doubt.ensures in
    let room = c.make_room.ensures in
    let change = c.args.reserve.record.change in
    let A = acknowledged j in
    let so_far = room_so_far j.limit A j.doubt change at_first at_second at_third c.settle_doubt.new.self.limit (acknowledged c.settle_doubt.new.self) settled.same.limit (ap rows_of settled.acknowledged)
    (settled_so_far j.limit A j.doubt change at_first at_second settled.any_moment) room.any_moment in
    added_so_far j.limit A j.doubt change at_first at_third at_fourth c.make_room.new.self.limit (acknowledged c.make_room.new.self) (room.limit ∙ settled.same.limit) (room.same_rows ∙ ap rows_of settled.acknowledged)
    so_far c.add.ensures.any_moment

pub returns-clause-any_moment : goal.returns-clause-any_moment
returns-clause-any_moment g c =
    let j = c.args.self.now in
    let D = g.D.Disk.state in
    let at_first = D j.disk in
    let at_second = D c.settle_doubt.new.self.disk in
    let at_third = D c.make_room.new.self.disk in
    let at_fourth = D c.add.new.self.disk in
    let settled = c.settle_doubt.ensures in
    let room = c.make_room.ensures in
    let change = c.args.reserve.record.change in
    let A = acknowledged j in
    let so_far = room_so_far j.limit A j.doubt change at_first at_second at_third c.settle_doubt.new.self.limit (acknowledged c.settle_doubt.new.self) settled.same.limit (ap rows_of settled.acknowledged)
    (settled_so_far j.limit A j.doubt change at_first at_second settled.any_moment) room.any_moment in
    added_so_far j.limit A j.doubt change at_first at_third at_fourth c.make_room.new.self.limit (acknowledged c.make_room.new.self) (room.limit ∙ settled.same.limit) (room.same_rows ∙ ap rows_of settled.acknowledged)
    so_far c.add.ensures.any_moment

pub returns-in_err-make_room-clause-syncs : goal.returns-in_err-make_room-clause-syncs
returns-in_err-make_room-clause-syncs g c =
    let D = g.D.Disk.state in
    let at_first = D c.args.self.now.disk in
    let at_second = D c.settle_doubt.new.self.disk in
    let at_third = D c.make_room.new.self.disk in
    more_syncs at_first at_second at_third c.settle_doubt.ensures.syncs c.settle_doubt.ensures.any_moment.tells c.make_room.ensures.syncs

pub returns-in_err-add-clause-syncs : goal.returns-in_err-add-clause-syncs
returns-in_err-add-clause-syncs g c =
    let D = g.D.Disk.state in
    let at_first = D c.args.self.now.disk in
    let at_second = D c.settle_doubt.new.self.disk in
    let at_third = D c.make_room.new.self.disk in
    let at_fourth = D c.add.new.self.disk in
    more_syncs at_first at_third at_fourth (more_syncs at_first at_second at_third c.settle_doubt.ensures.syncs c.settle_doubt.ensures.any_moment.tells c.make_room.ensures.syncs)
    (c.make_room.ensures.any_moment.tells ∙ c.settle_doubt.ensures.any_moment.tells) c.add.ensures.syncs

pub returns-clause-syncs : goal.returns-clause-syncs
returns-clause-syncs g c =
    let D = g.D.Disk.state in
    let at_first = D c.args.self.now.disk in
    let at_second = D c.settle_doubt.new.self.disk in
    let at_third = D c.make_room.new.self.disk in
    let at_fourth = D c.add.new.self.disk in
    more_syncs at_first at_third at_fourth (more_syncs at_first at_second at_third c.settle_doubt.ensures.syncs c.settle_doubt.ensures.any_moment.tells c.make_room.ensures.syncs)
    (c.make_room.ensures.any_moment.tells ∙ c.settle_doubt.ensures.any_moment.tells) c.add.ensures.syncs

pub returns-in_err-make_room-clause-not_yet : goal.returns-in_err-make_room-clause-not_yet
returns-in_err-make_room-clause-not_yet g c =
    let j = c.args.self.now in
    let D = g.D.Disk.state in
    let settled = c.settle_doubt.ensures in
    let room = c.make_room.ensures in
    on_err _ (inr (rows_so_far j.limit (acknowledged j) j.doubt c.args.reserve.record.change (D j.disk) (D c.settle_doubt.new.self.disk) (D c.make_room.new.self.disk)
    c.settle_doubt.new.self.limit (acknowledged c.settle_doubt.new.self) settled.same.limit (ap rows_of settled.acknowledged) settled.any_moment room.any_moment))

pub returns-in_err-add-clause-not_yet : goal.returns-in_err-add-clause-not_yet
returns-in_err-add-clause-not_yet g c =
    let j = c.args.self.now in
    let D = g.D.Disk.state in
    let change = c.args.reserve.record.change in
    let A = acknowledged j in
    let settled = c.settle_doubt.ensures in
    let room = c.make_room.ensures in
    let so_far = rows_so_far j.limit A j.doubt change (D j.disk) (D c.settle_doubt.new.self.disk) (D c.make_room.new.self.disk)
    c.settle_doubt.new.self.limit (acknowledged c.settle_doubt.new.self) settled.same.limit (ap rows_of settled.acknowledged) settled.any_moment room.any_moment in
    on_err _ (elim c.in_err-add.ensures.not_yet [
      | inl doubts ↦ inl doubts
      | inr run ↦ inr (rows_so_far j.limit A j.doubt change (D j.disk) (D c.make_room.new.self.disk) (D c.add.new.self.disk)
          c.make_room.new.self.limit (acknowledged c.make_room.new.self) (room.limit ∙ settled.same.limit) (room.same_rows ∙ ap rows_of settled.acknowledged) so_far run)
    ])
