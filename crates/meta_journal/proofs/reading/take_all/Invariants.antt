use Rattle.std.proofs.Common.{◌≡◌, ◌≤◌, ◌+◌, length}
use Rattle.fam_model.specs.Rows.{common_rows}
use Rattle.meta_journal.specs.Opening.{read_from}
use Rattle.meta_journal.proofs.reading.take_all.Given as goal

-- The rest is read over the records so far as all of the bytes are over none.
abbrev pub invariant-loop : goal.invariant-loop
invariant-loop l =
    (read_from l.is_first common_rows 16 l.bytes ≡ read_from l.is_first l.records.rows l.records.place l.rest)
    × (l.records.place + length l.rest ≤ 16 + length l.bytes)
    × (l.counter + length l.rest ≤ length l.bytes)
