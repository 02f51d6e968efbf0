-- The short form of a journal: the shortest changes that make its rows.
use Rattle.std.specs.Prelude.{◌≡◌, ℕ, List, [], ◌∷◌, ◌++◌}
use Rattle.fam_model.specs.declared.change.Change.{Change}
use Rattle.fam_model.specs.declared.rows.Rows.{Rows}
use Rattle.fam_model.specs.Journal.{rows_of, short}
use Rattle.fam_model.specs.Rows.{common_rows}
use Rattle.meta_journal.specs.Image.{AreLawful}
use Rattle.meta_journal.specs.Layout.{records}

-- lawful changes that make these rows
pub record Restores (rows : Rows) (changes : List Change) : Type 0 where
  pub same_rows : rows_of changes ≡ rows
  pub lawful : AreLawful common_rows changes

-- the bytes of the short form, and a closed gate behind them
abbrev pub short_bytes : Rows → List ℕ
short_bytes rows = records (short rows) ++ 0 ∷ []
