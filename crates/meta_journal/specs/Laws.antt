-- Laws of changes, and of the short form of a journal.
use Rattle.std.specs.Prelude.{◌≡◌, ℕ, ◌^◌, ◌<◌, ◌≤◌, IsTrue}
use Rattle.fam_model.specs.declared.change.Change.{Change}
use Rattle.fam_model.specs.declared.change.Change.TheVariants as change
use Rattle.fam_model.specs.declared.rows.Rows.{Rows}
use Rattle.fam_model.specs.Journal.{rows_of, short, short_place}
use Rattle.fam_model.specs.Lawful.{is_lawful_change}
use Rattle.fam_model.specs.Rows.{IsLawful}
use Rattle.meta_codec.specs.Body.{HasBody}

-- the short form of lawful rows makes these rows
pub record ShortFormRestores : Type 0 where
  pub same_rows : (rows : Rows) → IsLawful rows → rows_of (short rows) ≡ rows

-- the short form of lawful rows ends below this place
pub record ShortFormIsSmall : Type 0 where
  pub small : (rows : Rows) → IsLawful rows → short_place rows ≤ 9_400_000

-- the group that a change gives, and 0 where it gives none
abbrev pub group_given : Change → ℕ
group_given (change.CreateRegion region uid gid mode size name) = gid
group_given (change.Allocate item region base size uid gid mode name) = gid
group_given _ = 0

-- a change that is lawful on lawful rows has a body, where its group is a number of 32 bits
pub record LawfulChangesHaveBodies : Type 0 where
  pub bodies : (rows : Rows) (chosen : Change) → IsLawful rows → IsTrue (is_lawful_change rows chosen) → group_given chosen < 2 ^ 32 → HasBody chosen
