use Rattle.turn_cell.proofs.cell.Cell.part.Given as goal

abbrev pub ghosts-part_as : goal.ghosts-part_as
ghosts-part_as g a = record { number = a.number; owner = a.owner }
