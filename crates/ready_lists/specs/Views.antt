-- The name of a piece.
use Rattle.fam_schedule.specs.Schedule.{PieceName}
use Rattle.ready_lists.specs.declared.piece.PieceAt.{PieceAt}

-- the name that a piece's program, call and number give
abbrev pub name_of : PieceAt → PieceName
name_of at = record { pe = at.pe; call = at.call; piece = at.piece }
