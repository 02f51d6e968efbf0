-- Worked journals.
use Rattle.std.specs.Prelude.{◌≡◌, ℕ, ◌+◌, List, [], ◌∷◌, ◌++◌, length, take, Result, Ok, Err, codes}
use Rattle.fam_model.specs.declared.change.Change.{Change}
use Rattle.fam_model.specs.declared.change.Change.TheVariants as change
use Rattle.fam_model.specs.Journal.{rows_of, short, short_place}
use Rattle.meta_journal.specs.Reading.{Contents, journal}

abbrev pub region : ℕ → List ℕ → Change
region number name = change.CreateRegion (record { 0 = number }) 5 5 448 4096 name

abbrev pub destroy : ℕ → Change
destroy number = change.DestroyRegion (record { 0 = number })

-- the journal of one region, by its bytes: version, area in use, gate, kind and name may differ
abbrev pub one_region : ℕ → ℕ → ℕ → ℕ → List ℕ → List ℕ
one_region version area gate kind name =
    70 ∷ 65 ∷ 77 ∷ 74 ∷ version ∷ 0 ∷ 0 ∷ 0 ∷ area ∷ 0 ∷ 0 ∷ 0 ∷ 0 ∷ 0 ∷ 0 ∷ 0
    ∷ gate ∷ (length name + 28) ∷ 0 ∷ 0 ∷ 0
    ∷ kind ∷ 1 ∷ 0 ∷ 0 ∷ 0 ∷ 0 ∷ 0 ∷ 0 ∷ 0 ∷ 5 ∷ 0 ∷ 0 ∷ 0 ∷ 5 ∷ 0 ∷ 0 ∷ 0 ∷ 192 ∷ 1 ∷ 0 ∷ 16 ∷ 0 ∷ 0 ∷ 0 ∷ 0 ∷ 0 ∷ 0 ∷ length name ∷ (name ++ 0 ∷ [])

abbrev pub reads : List ℕ → Result Contents ℕ
reads disk = journal 100 disk

-- 33 bytes, one more than a name of the first version has
abbrev pub long_name : List ℕ
long_name = codes "aaaaaaaaaaaaaaaaaaaaaaaaaaaaaaaaa"

abbrev pub contents : List Change → ℕ → Result Contents ℕ
contents changes place = Ok (record { changes = changes; place = place })

pub record WorkedJournals : Type 0 where
  pub its_length : length (one_region 2 0 1 1 (codes "a")) ≡ 51
  pub is_read : reads (one_region 2 0 1 1 (codes "a")) ≡ contents (region 1 (codes "a") ∷ []) 50
  pub closed_gate : reads (one_region 2 0 0 1 (codes "a")) ≡ contents [] 16
  pub cut_short : reads (take 50 (one_region 2 0 1 1 (codes "a"))) ≡ Err 16
  pub other_kind : reads (one_region 2 0 1 9 (codes "a")) ≡ Err 16
  pub no_second_area : reads (one_region 2 1 1 1 (codes "a")) ≡ Err 8
  pub first_version : reads (one_region 1 0 1 1 (codes "a")) ≡ contents (region 1 (codes "a") ∷ []) 50
  pub long_name_in_second : reads (one_region 2 0 1 1 long_name) ≡ contents (region 1 long_name ∷ []) 82
  pub long_name_in_first : reads (one_region 1 0 1 1 long_name) ≡ Err 16
  -- a region made and gone, another made: its short form skips the first number
  pub short_of_second : short (rows_of (region 1 (codes "a") ∷ destroy 1 ∷ region 2 (codes "b") ∷ [])) ≡ change.Skip 2 1 ∷ region 2 (codes "b") ∷ []
  pub short_ends : short_place (rows_of (region 1 (codes "a") ∷ destroy 1 ∷ region 2 (codes "b") ∷ [])) ≡ 72
