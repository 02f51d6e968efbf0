-- Short forms as they are written.
use Rattle.std.proofs.Common.{◌≡◌, ℕ, ◌+◌, List, [], ◌∷◌, ◌++◌, refl, sym, ap, ◌∙◌, subst, append_assoc}
use Rattle.std.specs.List.{All}
use Rattle.fam_model.specs.declared.change.Change.{Change}
use Rattle.fam_model.specs.declared.rows.RegionRow.{RegionRow}
use Rattle.fam_model.specs.declared.rows.ItemRow.{ItemRow}
use Rattle.fam_model.specs.declared.rows.Rows.{Rows}
use Rattle.fam_model.specs.Journal.{skip_to, creation, allocation, short_regions, short_items}
use Rattle.fam_model.specs.Rows.{region_number, item_number}
use Rattle.std.proofs.lemmas.List.Elements.{All-cons}
use Rattle.meta_codec.specs.Body.{HasBody}
use Rattle.meta_journal.specs.Layout.{records, record_bytes}
use Rattle.meta_journal.specs.Writing.{Rises, next_behind}

-- records of changes, and then of others
pub records_append : (xs ys : List Change) → records (xs ++ ys) ≡ records xs ++ records ys
records_append [] ys = refl
records_append (c ∷ cs) ys =
    ap (λ (l : List ℕ). (1 ∷ record_bytes c) ++ l) (records_append cs ys) ∙ sym (append_assoc (1 ∷ record_bytes c) (records cs) (records ys))

-- the bytes behind two additions
pub row_added : (old mid new : List ℕ) (xs ys : List Change) → mid ≡ old ++ records xs → new ≡ mid ++ records ys → new ≡ old ++ records (xs ++ ys)
row_added old mid new xs ys first second =
    second ∙ ap (λ (l : List ℕ). l ++ records ys) first ∙ append_assoc old (records xs) (records ys) ∙ ap (λ (l : List ℕ). old ++ l) (sym (records_append xs ys))

-- what is added first does not matter for what is left
pub rest_settles : (old new : List ℕ) (xs ys : List Change) → new ≡ old ++ records xs → new ++ records ys ≡ old ++ records (xs ++ ys)
rest_settles old new xs ys added = row_added old new (new ++ records ys) xs ys added refl

pub region_settles : (rows : Rows) (old new : List ℕ) (next : ℕ) (row : RegionRow) (left : List RegionRow) → new ≡ old ++ records (skip_to next 1 (region_number row) 1 ++ creation row ∷ [])
    → new ++ records (short_regions rows (region_number row + 1) left) ≡ old ++ records (short_regions rows next (row ∷ left))
region_settles rows old new next row left added =
    rest_settles old new (skip_to next 1 (region_number row) 1 ++ creation row ∷ []) (short_regions rows (region_number row + 1) left) added
    ∙ ap (λ cs. old ++ records cs) (append_assoc (skip_to next 1 (region_number row) 1) (creation row ∷ []) (short_regions rows (region_number row + 1) left))

pub item_settles : (rows : Rows) (old new : List ℕ) (region next : ℕ) (row : ItemRow) (left : List ItemRow) → new ≡ old ++ records (skip_to region next region (item_number row) ++ allocation row ∷ [])
    → new ++ records (short_items rows region (item_number row + 1) left) ≡ old ++ records (short_items rows region next (row ∷ left))
item_settles rows old new region next row left added =
    rest_settles old new (skip_to region next region (item_number row) ++ allocation row ∷ []) (short_items rows region (item_number row + 1) left) added
    ∙ ap (λ cs. old ++ records cs) (append_assoc (skip_to region next region (item_number row)) (allocation row ∷ []) (short_items rows region (item_number row + 1) left))

-- What is left settles the rest: regions, written one after another behind these bytes, from this number on.
pub record RegionsLeft (first_bytes bytes : List ℕ) (first next : ℕ) (all left : List RegionRow) : Type 0 where
  pub behind : next_behind region_number next left ≡ next_behind region_number first all
  pub rise : Rises region_number next left
  pub added : (rows : Rows) → bytes ++ records (short_regions rows next left) ≡ first_bytes ++ records (short_regions rows first all)
  pub bodies : All (λ row. HasBody (creation row)) left → All (λ row. HasBody (creation row)) all

pub regions_begin : (bytes : List ℕ) (first : ℕ) (all : List RegionRow) → Rises region_number first all → RegionsLeft bytes bytes first first all all
regions_begin bytes first all rise = record { behind = refl; rise = rise; added = λ rows. refl; bodies = λ bodies. bodies }

pub regions_go_on : (first_bytes bytes new : List ℕ) (first next : ℕ) (all left : List RegionRow) (row : RegionRow) (rest : List RegionRow) → RegionsLeft first_bytes bytes first next all left → left ≡ row ∷ rest
    → new ≡ bytes ++ records (skip_to next 1 (region_number row) 1 ++ creation row ∷ []) → HasBody (creation row)
    → RegionsLeft first_bytes new first (region_number row + 1) all rest
regions_go_on first_bytes bytes new first next all left row rest so_far split written body =
    let before = subst (λ (xs : List RegionRow). RegionsLeft first_bytes bytes first next all xs) split so_far in
    record {
      behind = before.behind;
      rise = before.rise.1;
      added = λ rows. region_settles rows bytes new next row rest written ∙ before.added rows;
      bodies = λ others. before.bodies (All-cons (λ x. HasBody (creation x)) row rest body others);
    }

-- the same of items
pub record ItemsLeft (first_bytes bytes : List ℕ) (region first next : ℕ) (all left : List ItemRow) : Type 0 where
  pub behind : next_behind item_number next left ≡ next_behind item_number first all
  pub rise : Rises item_number next left
  pub added : (rows : Rows) → bytes ++ records (short_items rows region next left) ≡ first_bytes ++ records (short_items rows region first all)
  pub bodies : All (λ row. HasBody (allocation row)) left → All (λ row. HasBody (allocation row)) all

pub items_begin : (bytes : List ℕ) (region first : ℕ) (all : List ItemRow) → Rises item_number first all → ItemsLeft bytes bytes region first first all all
items_begin bytes region first all rise = record { behind = refl; rise = rise; added = λ rows. refl; bodies = λ bodies. bodies }

pub items_go_on : (first_bytes bytes new : List ℕ) (region first next : ℕ) (all left : List ItemRow) (row : ItemRow) (rest : List ItemRow) → ItemsLeft first_bytes bytes region first next all left → left ≡ row ∷ rest
    → new ≡ bytes ++ records (skip_to region next region (item_number row) ++ allocation row ∷ []) → HasBody (allocation row)
    → ItemsLeft first_bytes new region first (item_number row + 1) all rest
items_go_on first_bytes bytes new region first next all left row rest so_far split written body =
    let before = subst (λ (xs : List ItemRow). ItemsLeft first_bytes bytes region first next all xs) split so_far in
    record {
      behind = before.behind;
      rise = before.rise.1;
      added = λ rows. item_settles rows bytes new region next row rest written ∙ before.added rows;
      bodies = λ others. before.bodies (All-cons (λ x. HasBody (allocation x)) row rest body others);
    }
