-- What reading a whole input answers.
use Rattle.std.specs.Prelude.{ℕ, ◌<◌, ◌≤◌, List, length, Result, Ok, Err, ⊤}
use Rattle.fam_io.specs.declared.whole.ReadFault.{ReadFault}
use Rattle.fam_io.specs.declared.whole.ReadFault.TheVariants.{Memory, Failed, TooLong}

-- The answer where this is left and no read fails. Memory may be wanting.
abbrev pub IsAnswer : {T : Type 0} → ℕ → List ℕ → Result T ReadFault → Type 0
IsAnswer limit left (Ok bytes) = length left ≤ limit
IsAnswer limit left (Err Memory) = ⊤
IsAnswer limit left (Err Failed) = ⊥
IsAnswer limit left (Err TooLong) = limit < length left
