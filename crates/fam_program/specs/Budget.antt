-- The budget of a program, where the number of pieces is known.
use Rattle.std.specs.Prelude.{ℕ, ◌+◌, Bool, ◌||◌, nat_le, nat_lt}
use Rattle.fam_model.specs.declared.call.DataOp.{DataOp}
use Rattle.fam_model.specs.declared.state.ProgramState.{ProgramState}
use Rattle.fam_model.specs.Limits.{max_data_calls, max_moved, max_pieces}
use Rattle.fam_model.specs.Pieces.{moved}

-- the program's accepted calls would move too much with an operation of so many pieces
abbrev pub exceeds_budget : ProgramState → DataOp → ℕ → Bool
exceeds_budget p op n =
    nat_le max_data_calls p.data_calls || nat_lt max_moved (p.moved + moved op) || nat_lt max_pieces (p.pieces + n)
