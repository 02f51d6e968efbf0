-- The lines of the opening are read back from their texts, and each by its own reader alone.
use Rattle.std.proofs.Common.{◌≡◌, ◌≢◌, ℕ, ◌<◌, ◌≤◌, ◌^◌, true, not, List, [], ◌∷◌, Option, Some, None, refl, sym, ap, subst, ◌∙◌, arith, inl, inr}
use Rattle.std.specs.Prelude.{◌==◌, ◌&&◌, ◌||◌, nat_le, codes, length, IfSome}
use Rattle.std.specs.List.{list_all}
use Rattle.std.specs.Str.{bytes_eq}
use Rattle.std.specs.Fmt.{decimal}
use Rattle.std.proofs.lemmas.Bool.{leb-true, le-leb, lt-ltb, or_cases}
use Rattle.std.proofs.lemmas.Bool.Decides.{nat_tests}
use Rattle.fam_base.specs.Name.{is_between, is_good_byte, is_good_name}
use Rattle.fam_model.specs.declared.report.ReplyLine.{ReplyLine}
use Rattle.fam_model.specs.declared.rows.ItemRow.{ItemRow}
use Rattle.fam_model.specs.declared.rows.RegionRow.{RegionRow}
use Rattle.fam_model.specs.Lists.{◌>>=◌, when}
use Rattle.fam_model.specs.ReportText.{reply_line_text, region_text, item_text}
use Rattle.fam_model.specs.Rows.{region_number, item_number}
use Rattle.fam_model.specs.Values.{is_u32, is_u64, is_mode}
use Rattle.fam_model.specs.Words.{mode_text}
use Rattle.fam_script.specs.Reading.{Words, parts, two_of, three_of, number_of}
use Rattle.fam_script.proofs.Numbers.{number_is as number_is_low}
use Rattle.fam_script.proofs.Splits.{lacks}
use Rattle.fam_script.proofs.Tests.{and_left, and_right, and_both, all_same, some_is, bind_some, when_some, when_true, same_bytes, bytes_same}
use Rattle.fam_script.proofs.WordsBack.{is_printed}
use Rattle.report_reader.specs.Reading.{loose_reply_line, reply_line_of, opening_text, loose_opening, opening_of, region_row_from, loose_region, is_shown_region, region_line_of, item_row_from, loose_item, is_shown_item, item_line_of, events_text, events_of}
use Rattle.report_reader.specs.Report.{reply_line_fits}
use Rattle.report_reader.proofs.Words.{both, words_back, words_lack_feed}
use Rattle.report_reader.proofs.RepliesBack.{number_is, small_is, mode_is, u64_printed, u32_printed, mode_is_printed}

-- good names are printed

within : (low high x : ℕ) → is_between low high x ≡ true → 33 ≤ low → high ≤ 126 → is_between 33 126 x ≡ true
within low high x e p q =
    let a = leb-true low x (and_left (nat_le low x) (nat_le x high) e) in
    let b = leb-true x high (and_right (nat_le low x) (nat_le x high) e) in
    and_both (nat_le 33 x) (nat_le x 126) (le-leb 33 x (omega arith)) (le-leb x 126 (omega arith))

equal_within : (c x : ℕ) → (x == c) ≡ true → 33 ≤ c → c ≤ 126 → is_between 33 126 x ≡ true
equal_within c x e p q =
    let same : x ≡ c = grind (arith, nat_tests) in
    and_both (nat_le 33 x) (nat_le x 126) (le-leb 33 x (omega arith)) (le-leb x 126 (omega arith))

good_byte_printed : (x : ℕ) → is_good_byte x ≡ true → is_between 33 126 x ≡ true
good_byte_printed x e =
    let five = is_between 97 122 x || is_between 65 90 x || is_between 48 57 x || x == 95 || x == 46 in
    let four = is_between 97 122 x || is_between 65 90 x || is_between 48 57 x || x == 95 in
    let three = is_between 97 122 x || is_between 65 90 x || is_between 48 57 x in
    let two = is_between 97 122 x || is_between 65 90 x in
    elim (or_cases five (x == 45) e) [
      | inr e ↦ equal_within 45 x e (omega arith) (omega arith)
      | inl e ↦ elim (or_cases four (x == 46) e) [
        | inr e ↦ equal_within 46 x e (omega arith) (omega arith)
        | inl e ↦ elim (or_cases three (x == 95) e) [
          | inr e ↦ equal_within 95 x e (omega arith) (omega arith)
          | inl e ↦ elim (or_cases two (is_between 48 57 x) e) [
            | inr e ↦ within 48 57 x e (omega arith) (omega arith)
            | inl e ↦ elim (or_cases (is_between 97 122 x) (is_between 65 90 x) e) [
              | inl e ↦ within 97 122 x e (omega arith) (omega arith)
              | inr e ↦ within 65 90 x e (omega arith) (omega arith)
            ]
          ]
        ]
      ]
    ]

good_name_printed : (name : List ℕ) → is_good_name name ≡ true → is_printed name ≡ true
good_name_printed name e = all_same is_good_byte (is_between 33 126) good_byte_printed name (and_right (is_between 1 64 (length name)) (list_all is_good_byte name) e)

not_zero_is : (n : ℕ) → n ≢ 0 → not (n == 0) ≡ true
not_zero_is n h = grind (arith, nat_tests)

-- a region's row whose fields may stand in a line
pub record IsShownRegion (row : RegionRow) : Type 0 where
  pub some : region_number row ≢ 0
  pub number : is_u64 (region_number row) ≡ true
  pub uid : is_u32 row.uid ≡ true
  pub gid : is_u32 row.gid ≡ true
  pub mode : is_mode row.mode ≡ true
  pub size : is_u64 row.size ≡ true
  pub name : is_good_name row.name ≡ true

module _ (row : RegionRow) (h : IsShownRegion row) where
  abbrev region_words : Words
  region_words = decimal row.number.0 ∷ decimal row.uid ∷ decimal row.gid ∷ mode_text row.mode ∷ decimal row.size ∷ row.name ∷ []

  region_printed : list_all is_printed (codes "region" ∷ region_words) ≡ true
  region_printed = both (u64_printed row.number.0 h.number) (both (u32_printed row.uid h.uid) (both (u32_printed row.gid h.gid) (both (mode_is_printed row.mode h.mode)
      (both (u64_printed row.size h.size) (both (good_name_printed row.name h.name) refl)))))

  pub region_split : parts 32 (region_text row) ≡ codes "region" ∷ region_words
  region_split = words_back (codes "region") region_words region_printed

  region_loose : loose_region (parts 32 (region_text row)) ≡ Some row
  region_loose =
      ap loose_region region_split
      ∙ (λ i. region_row_from (number_is row.number.0 h.number i) (small_is row.uid h.uid i) (small_is row.gid h.gid i) (mode_is row.mode h.mode i) (number_is row.size h.size i) row.name)

  pub region_back : region_line_of (region_text row) ≡ Some row
  region_back =
      ap (λ (o : Option RegionRow). o >>= λ found. when (is_shown_region found && bytes_eq (region_text found) (region_text row)) found) region_loose
      ∙ when_true (is_shown_region row && bytes_eq (region_text row) (region_text row)) row
      (and_both (is_shown_region row) (bytes_eq (region_text row) (region_text row)) (both (not_zero_is (region_number row) h.some) h.gid) (bytes_same (region_text row) (region_text row) refl))

  pub region_lacks_feed : lacks 10 (region_text row) ≡ true
  region_lacks_feed = words_lack_feed (codes "region") region_words region_printed

-- an item's row whose fields may stand in a line
pub record IsShownItem (row : ItemRow) : Type 0 where
  pub some : item_number row ≢ 0
  pub number : is_u64 (item_number row) ≡ true
  pub region : is_u64 row.region.0 ≡ true
  pub base : is_u64 row.base ≡ true
  pub size : is_u64 row.size ≡ true
  pub uid : is_u32 row.uid ≡ true
  pub gid : is_u32 row.gid ≡ true
  pub mode : is_mode row.mode ≡ true
  pub name : is_good_name row.name ≡ true

module _ (row : ItemRow) (h : IsShownItem row) where
  abbrev item_words : Words
  item_words = decimal row.number.0 ∷ decimal row.region.0 ∷ decimal row.base ∷ decimal row.size ∷ decimal row.uid ∷ decimal row.gid ∷ mode_text row.mode ∷ row.name ∷ []

  item_printed : list_all is_printed (codes "item" ∷ item_words) ≡ true
  item_printed = both (u64_printed row.number.0 h.number) (both (u64_printed row.region.0 h.region) (both (u64_printed row.base h.base) (both (u64_printed row.size h.size)
      (both (u32_printed row.uid h.uid) (both (u32_printed row.gid h.gid) (both (mode_is_printed row.mode h.mode) (both (good_name_printed row.name h.name) refl)))))))

  item_split : parts 32 (item_text row) ≡ codes "item" ∷ item_words
  item_split = words_back (codes "item") item_words item_printed

  item_loose : loose_item (parts 32 (item_text row)) ≡ Some row
  item_loose =
      ap loose_item item_split
      ∙ (λ i. item_row_from (number_is row.number.0 h.number i) (number_is row.region.0 h.region i) (number_is row.base h.base i) (number_is row.size h.size i)
      (small_is row.uid h.uid i) (small_is row.gid h.gid i) (mode_is row.mode h.mode i) row.name)

  pub item_back : item_line_of (item_text row) ≡ Some row
  item_back =
      ap (λ (o : Option ItemRow). o >>= λ found. when (is_shown_item found && bytes_eq (item_text found) (item_text row)) found) item_loose
      ∙ when_true (is_shown_item row && bytes_eq (item_text row) (item_text row)) row
      (and_both (is_shown_item row) (bytes_eq (item_text row) (item_text row)) (both (not_zero_is (item_number row) h.some) h.gid) (bytes_same (item_text row) (item_text row) refl))

  -- an item's line is no region's
  pub item_no_region : region_line_of (item_text row) ≡ None
  item_no_region =
      ap (λ (ws : Words). loose_region ws >>= λ found. when (is_shown_region found && bytes_eq (region_text found) (item_text row)) found) item_split

  pub item_lacks_feed : lacks 10 (item_text row) ≡ true
  item_lacks_feed = words_lack_feed (codes "item") item_words item_printed

-- the next numbers

module _ (next_region next_item : ℕ) (p : is_u64 next_region ≡ true) (q : is_u64 next_item ≡ true) where
  abbrev opening_words : Words
  opening_words = decimal next_region ∷ decimal next_item ∷ []

  opening_printed : list_all is_printed (codes "opening" ∷ opening_words) ≡ true
  opening_printed = both (u64_printed next_region p) (both (u64_printed next_item q) refl)

  opening_split : parts 32 (opening_text next_region next_item) ≡ codes "opening" ∷ opening_words
  opening_split = words_back (codes "opening") opening_words opening_printed

  abbrev kept_opening : ℕ × ℕ → Option (ℕ × ℕ)
  kept_opening found = when (bytes_eq (opening_text found.0 found.1) (opening_text next_region next_item)) found

  pub opening_back : opening_of (opening_text next_region next_item) ≡ Some (next_region, next_item)
  opening_back =
      ap (λ (ws : Words). three_of ws >>= λ w. loose_opening (number_of w.1) (number_of w.2) >>= kept_opening) opening_split
      ∙ (λ i. loose_opening (number_is next_region p i) (number_is next_item q i) >>= kept_opening)
      ∙ when_true (bytes_eq (opening_text next_region next_item) (opening_text next_region next_item)) (next_region, next_item) (bytes_same (opening_text next_region next_item) (opening_text next_region next_item) refl)

  -- it is no reply line
  pub opening_no_reply : reply_line_of (opening_text next_region next_item) ≡ None
  opening_no_reply =
      ap (λ (ws : Words). loose_reply_line ws >>= λ told. when (reply_line_fits told && bytes_eq (reply_line_text told) (opening_text next_region next_item)) told) opening_split

  pub opening_lacks_feed : lacks 10 (opening_text next_region next_item) ≡ true
  opening_lacks_feed = words_lack_feed (codes "opening") opening_words opening_printed

-- the number of events

module _ (count : ℕ) (p : is_u64 count ≡ true) where
  events_printed : list_all is_printed (codes "events" ∷ decimal count ∷ []) ≡ true
  events_printed = both (u64_printed count p) refl

  events_split : parts 32 (events_text count) ≡ codes "events" ∷ decimal count ∷ []
  events_split = words_back (codes "events") (decimal count ∷ []) events_printed

  abbrev kept_events : ℕ → Option ℕ
  kept_events found = when (bytes_eq (events_text found) (events_text count)) found

  pub events_back : events_of (events_text count) ≡ Some count
  events_back =
      ap (λ (ws : Words). two_of ws >>= λ w. number_of w.1 >>= kept_events) events_split
      ∙ ap (λ (o : Option ℕ). o >>= kept_events) (number_is count p)
      ∙ when_true (bytes_eq (events_text count) (events_text count)) count (bytes_same (events_text count) (events_text count) refl)

  pub events_no_region : region_line_of (events_text count) ≡ None
  events_no_region = ap (λ (ws : Words). loose_region ws >>= λ found. when (is_shown_region found && bytes_eq (region_text found) (events_text count)) found) events_split

  pub events_no_item : item_line_of (events_text count) ≡ None
  events_no_item = ap (λ (ws : Words). loose_item ws >>= λ found. when (is_shown_item found && bytes_eq (item_text found) (events_text count)) found) events_split

  pub events_lacks_feed : lacks 10 (events_text count) ≡ true
  events_lacks_feed = words_lack_feed (codes "events") (decimal count ∷ []) events_printed

-- what is read of a line has that line as its text

number_low : (word : List ℕ) (n : ℕ) → number_of word ≡ Some n → is_u64 n ≡ true
number_low word n e = by_answer (number_of word) (number_is_low word) e
  where
    by_answer : (o : Option ℕ) → IfSome o (λ m. (m < 2 ^ 64) × (word ≡ decimal m)) → o ≡ Some n → is_u64 n ≡ true
    by_answer None h e = absurd cc
    by_answer (Some m) h e = lt-ltb n (2 ^ 64) (subst (λ (k : ℕ). k < 2 ^ 64) (some_is m n e) h.0)

pub reply_line_takes : (text : List ℕ) (told : ReplyLine) → reply_line_of text ≡ Some told → (reply_line_fits told ≡ true) × (text ≡ reply_line_text told)
reply_line_takes text told e =
    let b = bind_some (loose_reply_line (parts 32 text)) (λ found. when (reply_line_fits found && bytes_eq (reply_line_text found) text) found) told e in
    let w = when_some (reply_line_fits b.0 && bytes_eq (reply_line_text b.0) text) b.0 told b.2 in (
      ap reply_line_fits (sym w.1) ∙ and_left (reply_line_fits b.0) (bytes_eq (reply_line_text b.0) text) w.0,
      sym (same_bytes (reply_line_text b.0) text (and_right (reply_line_fits b.0) (bytes_eq (reply_line_text b.0) text) w.0)) ∙ ap reply_line_text w.1,
    )

pub region_takes : (text : List ℕ) (row : RegionRow) → region_line_of text ≡ Some row → (is_shown_region row ≡ true) × (text ≡ region_text row)
region_takes text row e =
    let b = bind_some (loose_region (parts 32 text)) (λ found. when (is_shown_region found && bytes_eq (region_text found) text) found) row e in
    let w = when_some (is_shown_region b.0 && bytes_eq (region_text b.0) text) b.0 row b.2 in (
      ap is_shown_region (sym w.1) ∙ and_left (is_shown_region b.0) (bytes_eq (region_text b.0) text) w.0,
      sym (same_bytes (region_text b.0) text (and_right (is_shown_region b.0) (bytes_eq (region_text b.0) text) w.0)) ∙ ap region_text w.1,
    )

pub item_takes : (text : List ℕ) (row : ItemRow) → item_line_of text ≡ Some row → (is_shown_item row ≡ true) × (text ≡ item_text row)
item_takes text row e =
    let b = bind_some (loose_item (parts 32 text)) (λ found. when (is_shown_item found && bytes_eq (item_text found) text) found) row e in
    let w = when_some (is_shown_item b.0 && bytes_eq (item_text b.0) text) b.0 row b.2 in (
      ap is_shown_item (sym w.1) ∙ and_left (is_shown_item b.0) (bytes_eq (item_text b.0) text) w.0,
      sym (same_bytes (item_text b.0) text (and_right (is_shown_item b.0) (bytes_eq (item_text b.0) text) w.0)) ∙ ap item_text w.1,
    )

pub opening_takes : (text : List ℕ) (next : ℕ × ℕ) → opening_of text ≡ Some next → text ≡ opening_text next.0 next.1
opening_takes text next e =
    let b = bind_some (three_of (parts 32 text)) (λ w. loose_opening (number_of w.1) (number_of w.2) >>= λ p. when (bytes_eq (opening_text p.0 p.1) text) p) next e in
    let c = bind_some (loose_opening (number_of b.0.1) (number_of b.0.2)) (λ p. when (bytes_eq (opening_text p.0 p.1) text) p) next b.2 in
    let w = when_some (bytes_eq (opening_text c.0.0 c.0.1) text) c.0 next c.2 in
    sym (same_bytes (opening_text c.0.0 c.0.1) text w.0) ∙ ap (λ (p : ℕ × ℕ). opening_text p.0 p.1) w.1

pub events_takes : (text : List ℕ) (count : ℕ) → events_of text ≡ Some count → (is_u64 count ≡ true) × (text ≡ events_text count)
events_takes text count e =
    let b = bind_some (two_of (parts 32 text)) (λ w. number_of w.1 >>= λ n. when (bytes_eq (events_text n) text) n) count e in
    let c = bind_some (number_of b.0.1) (λ n. when (bytes_eq (events_text n) text) n) count b.2 in
    let w = when_some (bytes_eq (events_text c.0) text) c.0 count c.2 in
    let low = number_low b.0.1 c.0 c.1 in (
      ap is_u64 (sym w.1) ∙ low,
      sym (same_bytes (events_text c.0) text w.0) ∙ ap events_text w.1,
    )
