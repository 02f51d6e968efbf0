use Rattle.std.proofs.Common.{rules, ◌≡◌, Some}
use Rattle.fam_model.specs.Rows.{item_of}
use Rattle.fam_machine.proofs.Bytes.{memory_rises, found_inside}
use Rattle.fam_machine.proofs.answers.due_answer.Goals as goal

pub bytes_found-requires-clause-rising : goal.bytes_found-requires-clause-rising
bytes_found-requires-clause-rising c = memory_rises c.args.rows.now c.args.memory.now c.requires.lawful c.requires.filled

pub bytes_found-requires-clause-inside : goal.bytes_found-requires-clause-inside
bytes_found-requires-clause-inside c =
    let there : item_of c.args.rows.now c.args.piece.now.item.0 ≡ Some c.in-Some.row.now = search rules in
    found_inside c.args.rows.now c.args.memory.now c.args.piece.now c.in-Some.row.now c.requires.filled c.requires.sound there
