-- What stands behind the lines so far: with each line one more, and always the beginning of a lawful report.
use Rattle.std.proofs.Common.{◌≡◌, ℕ, suc, ◌+◌, ◌-◌, ◌<◌, ◌≤◌, Bool, true, false, not, cond, List, [], ◌∷◌, ◌++◌, length, map, Option, Some, None, refl, sym, ap, subst, ◌∙◌, append_assoc, arith, zero}
use Rattle.std.specs.Prelude.{◌==◌, ◌&&◌, nat_le, nat_lt, codes, replicate, ⊤}
use Rattle.std.specs.List.{list_all, filter}
use Rattle.std.specs.Str.{bytes_eq}
use Rattle.std.proofs.lemmas.Bool.{leb-true, le-leb, ltb-true, eqb-true, eqb-false}
use Rattle.std.proofs.lemmas.List.{append-nil, map-append, length-append, length-replicate}
use Rattle.std.proofs.lemmas.List.Elements.{filter-append}
use Rattle.fam_model.specs.declared.change.Change.{Change}
use Rattle.fam_model.specs.declared.change.Change.TheVariants as change
use Rattle.fam_model.specs.declared.event.Event.{Event}
use Rattle.fam_model.specs.declared.event.What.TheVariants as what
use Rattle.fam_model.specs.declared.report.ReplyLine.{ReplyLine}
use Rattle.fam_model.specs.declared.report.Report.{Report}
use Rattle.fam_model.specs.declared.rows.ItemRow.{ItemRow}
use Rattle.fam_model.specs.declared.rows.RegionRow.{RegionRow}
use Rattle.fam_model.specs.declared.rows.Rows.{Rows}
use Rattle.fam_model.specs.Directory.{after}
use Rattle.fam_model.specs.EventText.{event_text}
use Rattle.fam_model.specs.Lawful.{is_lawful_change}
use Rattle.fam_model.specs.Limits.{number_end}
use Rattle.fam_model.specs.Lists.{◌>>=◌, when}
use Rattle.fam_model.specs.ReportText.{reply_line_text, region_text, item_text, opening_lines, event_lines, report_lines}
use Rattle.fam_model.specs.Rows.{IsLawful, common_rows, common_item, region_number, item_number}
use Rattle.fam_model.specs.Values.{is_u32, is_u64}
use Rattle.fam_rows.proofs.CommonLaw.{common_rows_are_lawful}
use Rattle.fam_rows.proofs.Keeping.{keeps_law}
use Rattle.fam_script.proofs.Tests.{and_left, and_right, and_both, all_both, some_is, bind_some, when_some, same_bytes}
use Rattle.report_reader.specs.declared.stage.Opening.{Opening}
use Rattle.report_reader.specs.declared.stage.Stage.{Stage}
use Rattle.report_reader.specs.declared.stage.Stage.TheVariants as stage
use Rattle.report_reader.specs.EventForm.{event_fits}
use Rattle.report_reader.specs.Machine.{changed, finished_rows, create, with_region, with_rows, add_region, allocate, with_item, add_item, opened, begun, with_event, opening_step, told_step, events_step, item_step, region_step, first_step, step, run}
use Rattle.report_reader.specs.Reading.{reply_line_of, opening_text, opening_of, region_line_of, item_line_of, events_text, events_of, event_of}
use Rattle.report_reader.specs.Report.{reply_line_fits, groups_fit, IsLawfulReport, BeginsReport}
use Rattle.report_reader.proofs.Openings.{some_opening, some_stage}
use Rattle.report_reader.proofs.RowsBack.{reply_line_takes, region_takes, item_takes, opening_takes, events_takes}
use Rattle.report_reader.proofs.EventsBack.{event_takes}

abbrev pub a_stage : Stage → Stage
a_stage s = s

abbrev pub Texts : Type 0
Texts = List (List ℕ)

abbrev one_text : List ℕ → Texts
one_text t = t ∷ []

-- the lines so far

abbrev pub told_lines : List ReplyLine → Texts
told_lines replies = codes "replies" ∷ map reply_line_text replies

abbrev pub opened_lines : Opening → Texts
opened_lines o = told_lines o.replies ++ opening_lines (finished_rows o)

abbrev pub counted_lines : ℕ → List Event → Texts
counted_lines count history = events_text count ∷ map event_text history

abbrev pub happened_lines : Report → ℕ → Texts
happened_lines report count = (told_lines report.replies ++ opening_lines report.rows) ++ counted_lines count report.history

abbrev pub so_far : Stage → Texts
so_far stage.Nothing = []
so_far (stage.Replies replies) = told_lines replies
so_far (stage.Regions o) = opened_lines o
so_far (stage.Items o) = opened_lines o
so_far (stage.Events report left) = happened_lines report (length report.history + left)
so_far (stage.Whole report) = report_lines report

-- what holds of them

pub record IsGoodOpening (o : Opening) : Type 0 where
  pub rows : IsLawful o.rows
  pub next : is_lawful_change o.rows (change.Skip o.next_region o.next_item) ≡ true
  pub groups : groups_fit o.rows ≡ true
  pub replies : list_all reply_line_fits o.replies ≡ true

pub record IsGoodReport (report : Report) (left : ℕ) : Type 0 where
  pub rows : IsLawful report.rows
  pub groups : groups_fit report.rows ≡ true
  pub replies : list_all reply_line_fits report.replies ≡ true
  pub history : list_all event_fits report.history ≡ true
  pub count : is_u64 (length report.history + left) ≡ true

abbrev pub IsGood : Stage → Type 0
IsGood stage.Nothing = ⊤
IsGood (stage.Replies replies) = list_all reply_line_fits replies ≡ true
IsGood (stage.Regions o) = IsGoodOpening o × (o.rows.items ≡ common_item ∷ [])
IsGood (stage.Items o) = IsGoodOpening o
IsGood (stage.Events report left) = IsGoodReport report left
IsGood (stage.Whole report) = IsLawfulReport report

-- a line more
pub record GoesOn (before now : Stage) (text : List ℕ) : Type 0 where
  pub good : IsGood now
  pub lines : so_far now ≡ so_far before ++ text ∷ []

-- reply lines

told_more : (replies : List ReplyLine) (told : ReplyLine) → told_lines (replies ++ told ∷ []) ≡ told_lines replies ++ reply_line_text told ∷ []
told_more replies told = ap (λ (ts : Texts). codes "replies" ∷ ts) (map-append reply_line_text replies (told ∷ []))

replies_more : (replies : List ReplyLine) (told : ReplyLine) → list_all reply_line_fits replies ≡ true → reply_line_fits told ≡ true → list_all reply_line_fits (replies ++ told ∷ []) ≡ true
replies_more replies told a b = all_both reply_line_fits replies (told ∷ []) a (and_both (reply_line_fits told) true b refl)

opening_goes : (replies : List ReplyLine) (text : List ℕ) (now : Stage) → opening_step replies text ≡ Some now → list_all reply_line_fits replies ≡ true → GoesOn (stage.Replies replies) now text
opening_goes replies text now e good =
    let a = bind_some (opening_of text >>= opened replies) (λ o. some_stage (stage.Regions o)) now e in
    let b = bind_some (opening_of text) (opened replies) a.0 a.1 in
    let o : Opening = record { replies = replies; rows = common_rows; next_region = b.0.0; next_item = b.0.1 } in
    let w = when_some (is_lawful_change common_rows (change.Skip b.0.0 b.0.1)) o a.0 b.2 in
    let now-is : stage.Regions o ≡ now = ap (λ (x : Opening). a_stage (stage.Regions x)) w.1 ∙ some_is (stage.Regions a.0) now a.2 in
    subst (λ (s : Stage). GoesOn (stage.Replies replies) s text) now-is (record {
      good = (record { rows = common_rows_are_lawful; next = w.0; groups = refl; replies = good }, refl);
      lines = ap (λ (t : List ℕ). told_lines replies ++ t ∷ []) (sym (opening_takes text b.0 b.1));
    })

told_goes : (o : Option ReplyLine) (replies : List ReplyLine) (text : List ℕ) (now : Stage) → reply_line_of text ≡ o → told_step o replies text ≡ Some now → list_all reply_line_fits replies ≡ true → GoesOn (stage.Replies replies) now text
told_goes None replies text now is e good = opening_goes replies text now e good
told_goes (Some told) replies text now is e good =
    let takes = reply_line_takes text told is in
    subst (λ (s : Stage). GoesOn (stage.Replies replies) s text) (some_is (stage.Replies (replies ++ told ∷ [])) now e) (record {
      good = replies_more replies told good takes.0;
      lines = told_more replies told ∙ ap (λ (t : List ℕ). told_lines replies ++ t ∷ []) (sym takes.1);
    })

-- the events begin

finished_lawful : (o : Opening) → IsGoodOpening o → IsLawful (finished_rows o)
finished_lawful o good = keeps_law o.rows (change.Skip o.next_region o.next_item) good.rows good.next

nothing_and : (n : ℕ) → 0 + n ≡ n
nothing_and n = omega arith

events_goes : (before : Stage) (o : Opening) (text : List ℕ) (now : Stage) → so_far before ≡ opened_lines o → events_step o text ≡ Some now → IsGoodOpening o → GoesOn before now text
events_goes before o text now lines e good =
    let a = bind_some (events_of text) (λ count. some_stage (stage.Events (begun o) count)) now e in
    let takes = events_takes text a.0 a.1 in
    subst (λ (s : Stage). GoesOn before s text) (some_is (stage.Events (begun o) a.0) now a.2) (record {
      good = record { rows = finished_lawful o good; groups = good.groups; replies = good.replies; history = refl; count = ap is_u64 (nothing_and a.0) ∙ takes.0 };
      lines = ap (λ (n : ℕ). opened_lines o ++ events_text n ∷ []) (nothing_and a.0) ∙ ap (λ (t : List ℕ). opened_lines o ++ t ∷ []) (sym takes.1) ∙ ap (λ (ts : Texts). ts ++ text ∷ []) (sym lines);
    })

-- rows

abbrev shown_regions : List RegionRow → Texts
shown_regions rows = map region_text (filter (λ row. not (region_number row == 0)) rows)

abbrev shown_items : List ItemRow → Texts
shown_items rows = map item_text (filter (λ row. not (item_number row == 0)) rows)

regions_more : (rows : List RegionRow) (row : RegionRow) → not (region_number row == 0) ≡ true → shown_regions (rows ++ row ∷ []) ≡ shown_regions rows ++ region_text row ∷ []
regions_more rows row some =
    ap (map region_text) (filter-append (λ row. not (region_number row == 0)) rows (row ∷ []) ∙ ap (λ (b : Bool). filter (λ row. not (region_number row == 0)) rows ++ cond b (row ∷ []) []) some)
    ∙ map-append region_text (filter (λ row. not (region_number row == 0)) rows) (row ∷ [])

items_more : (rows : List ItemRow) (row : ItemRow) → not (item_number row == 0) ≡ true → shown_items (rows ++ row ∷ []) ≡ shown_items rows ++ item_text row ∷ []
items_more rows row some =
    ap (map item_text) (filter-append (λ row. not (item_number row == 0)) rows (row ∷ []) ∙ ap (λ (b : Bool). filter (λ row. not (item_number row == 0)) rows ++ cond b (row ∷ []) []) some)
    ∙ map-append item_text (filter (λ row. not (item_number row == 0)) rows) (row ∷ [])

-- a lawful change of lawful rows
changed_is : (rows now : Rows) (chosen : Change) → changed rows chosen ≡ Some now → IsLawful rows → IsLawful now × (after rows chosen ≡ now)
changed_is rows now chosen e lawful =
    let w = when_some (is_lawful_change rows chosen) (after rows chosen) now e in
    (subst IsLawful w.1 (keeps_law rows chosen lawful w.0), w.1)

-- the numbers of an opening are bounds of what comes next
bounds_of : (o : Opening) → is_lawful_change o.rows (change.Skip o.next_region o.next_item) ≡ true →
    (o.rows.next_region ≤ o.next_region) × (o.next_region ≤ number_end) × (o.rows.next_item ≤ o.next_item) × (o.next_item ≤ number_end)
bounds_of o e =
    let a = nat_le o.rows.next_region o.next_region in
    let b = nat_le o.next_region number_end in
    let c = nat_le o.rows.next_item o.next_item in
    let d = nat_le o.next_item number_end in
    let three = and_left (a && b && c) d e in
    let two = and_left (a && b) c three in (
      leb-true o.rows.next_region o.next_region (and_left a b two),
      leb-true o.next_region number_end (and_right a b two),
      leb-true o.rows.next_item o.next_item (and_right (a && b) c three),
      leb-true o.next_item number_end (and_right (a && b && c) d e),
    )

skip_is : (rows : Rows) (r i : ℕ) → rows.next_region ≤ r → r ≤ number_end → rows.next_item ≤ i → i ≤ number_end → is_lawful_change rows (change.Skip r i) ≡ true
skip_is rows r i p q u v =
    and_both (nat_le rows.next_region r && nat_le r number_end && nat_le rows.next_item i) (nat_le i number_end)
    (and_both (nat_le rows.next_region r && nat_le r number_end) (nat_le rows.next_item i)
    (and_both (nat_le rows.next_region r) (nat_le r number_end) (le-leb rows.next_region r p) (le-leb r number_end q)) (le-leb rows.next_item i u))
    (le-leb i number_end v)

-- a region more

abbrev region_rows : Opening → RegionRow → Rows
region_rows o row = record { regions = o.rows.regions ++ row ∷ []; items = o.rows.items; next_region = region_number row + 1; next_item = o.rows.next_item }

record RegionAdded (o next : Opening) (row : RegionRow) : Type 0 where
  is : with_rows o (region_rows o row) ≡ next
  lawful : IsLawful (region_rows o row)
  below : region_number row < o.next_region

region_added : (o next : Opening) (row : RegionRow) → add_region o row ≡ Some next → IsLawful o.rows → RegionAdded o next row
region_added o next row e lawful =
    let a = bind_some (when (nat_lt row.number.0 o.next_region) row) (λ below. with_region o.rows below >>= λ rows. some_opening (with_rows o rows)) next e in
    let w = when_some (nat_lt row.number.0 o.next_region) row a.0 a.1 in
    let b = bind_some (with_region o.rows a.0) (λ rows. some_opening (with_rows o rows)) next a.2 in
    let c = bind_some (changed o.rows (change.Skip (region_number a.0) o.rows.next_item)) (λ skipped. changed skipped (create a.0)) b.0 b.1 in
    let skipped = changed_is o.rows c.0 (change.Skip (region_number a.0) o.rows.next_item) c.1 lawful in
    let grown = changed_is c.0 b.0 (create a.0) c.2 skipped.0 in
    let rows-is : region_rows o row ≡ b.0 =
    ap (region_rows o) w.1 ∙ ap (λ (rows : Rows). after rows (create a.0)) skipped.1 ∙ grown.1 in
    record {
      is = ap (with_rows o) rows-is ∙ some_is (with_rows o b.0) next b.2;
      lawful = subst IsLawful (sym rows-is) grown.0;
      below = ltb-true (region_number row) o.next_region w.0;
    }

region_goes : (o next : Opening) (text : List ℕ) (row : RegionRow) → region_line_of text ≡ Some row → add_region o row ≡ Some next → IsGoodOpening o → o.rows.items ≡ common_item ∷ [] →
    GoesOn (stage.Regions o) (stage.Regions next) text
region_goes o next text row read e good items =
    let takes = region_takes text row read in
    let added = region_added o next row e good.rows in
    let bounds = bounds_of o good.next in
    let shown = and_left (not (region_number row == 0)) (is_u32 row.gid) takes.0 in
    let gid = and_right (not (region_number row == 0)) (is_u32 row.gid) takes.0 in
    let regions = list_all (λ (r : RegionRow). is_u32 r.gid) o.rows.regions in
    let others = list_all (λ (i : ItemRow). is_u32 i.gid) o.rows.items in
    let below = added.below in
    let head : List ℕ = opening_text o.next_region o.next_item in
    let kept : shown_items o.rows.items ≡ [] = ap shown_items items in
    let more : opening_lines (finished_rows (with_rows o (region_rows o row))) ≡ opening_lines (finished_rows o) ++ region_text row ∷ [] =
    (λ i. head ∷ (regions_more o.rows.regions row shown i ++ kept i))
    ∙ ap (λ (ts : Texts). head ∷ ts) (append-nil (shown_regions o.rows.regions ++ region_text row ∷ []))
    ∙ ap (λ (ts : Texts). head ∷ (ts ++ region_text row ∷ [])) (sym (append-nil (shown_regions o.rows.regions)))
    ∙ ap (λ (ts : Texts). head ∷ ((shown_regions o.rows.regions ++ ts) ++ region_text row ∷ [])) (sym kept) in
    subst (λ (n : Opening). GoesOn (stage.Regions o) (stage.Regions n) text) added.is (record {
      good = (
        record {
          rows = added.lawful;
          next = skip_is (region_rows o row) o.next_region o.next_item (omega (arith, below)) bounds.1 bounds.2 bounds.3;
          groups = and_both (list_all (λ (r : RegionRow). is_u32 r.gid) (o.rows.regions ++ row ∷ [])) others
              (all_both (λ (r : RegionRow). is_u32 r.gid) o.rows.regions (row ∷ []) (and_left regions others good.groups) (and_both (is_u32 row.gid) true gid refl))
              (and_right regions others good.groups);
          replies = good.replies;
        },
        items,
      );
      lines = ap (λ (ts : Texts). told_lines o.replies ++ ts) (more ∙ ap (λ (t : List ℕ). opening_lines (finished_rows o) ++ t ∷ []) (sym takes.1))
          ∙ sym (append_assoc (told_lines o.replies) (opening_lines (finished_rows o)) (text ∷ []));
    })

-- an item more

abbrev item_rows : Opening → ItemRow → Rows
item_rows o row = record { regions = o.rows.regions; items = o.rows.items ++ row ∷ []; next_region = o.rows.next_region; next_item = item_number row + 1 }

record ItemAdded (o next : Opening) (row : ItemRow) : Type 0 where
  is : with_rows o (item_rows o row) ≡ next
  lawful : IsLawful (item_rows o row)
  below : item_number row < o.next_item

item_added : (o next : Opening) (row : ItemRow) → add_item o row ≡ Some next → IsLawful o.rows → ItemAdded o next row
item_added o next row e lawful =
    let a = bind_some (when (nat_lt row.number.0 o.next_item) row) (λ below. with_item o.rows below >>= λ rows. some_opening (with_rows o rows)) next e in
    let w = when_some (nat_lt row.number.0 o.next_item) row a.0 a.1 in
    let b = bind_some (with_item o.rows a.0) (λ rows. some_opening (with_rows o rows)) next a.2 in
    let c = bind_some (changed o.rows (change.Skip o.rows.next_region (item_number a.0))) (λ skipped. changed skipped (allocate a.0)) b.0 b.1 in
    let skipped = changed_is o.rows c.0 (change.Skip o.rows.next_region (item_number a.0)) c.1 lawful in
    let grown = changed_is c.0 b.0 (allocate a.0) c.2 skipped.0 in
    let rows-is : item_rows o row ≡ b.0 =
    ap (item_rows o) w.1 ∙ ap (λ (rows : Rows). after rows (allocate a.0)) skipped.1 ∙ grown.1 in
    record {
      is = ap (with_rows o) rows-is ∙ some_is (with_rows o b.0) next b.2;
      lawful = subst IsLawful (sym rows-is) grown.0;
      below = ltb-true (item_number row) o.next_item w.0;
    }

item_goes : (before : Stage) (o next : Opening) (text : List ℕ) (row : ItemRow) → so_far before ≡ opened_lines o → item_line_of text ≡ Some row → add_item o row ≡ Some next → IsGoodOpening o →
    GoesOn before (stage.Items next) text
item_goes before o next text row lines read e good =
    let takes = item_takes text row read in
    let added = item_added o next row e good.rows in
    let bounds = bounds_of o good.next in
    let shown = and_left (not (item_number row == 0)) (is_u32 row.gid) takes.0 in
    let gid = and_right (not (item_number row == 0)) (is_u32 row.gid) takes.0 in
    let regions = list_all (λ (r : RegionRow). is_u32 r.gid) o.rows.regions in
    let others = list_all (λ (i : ItemRow). is_u32 i.gid) o.rows.items in
    let below = added.below in
    let head : List ℕ = opening_text o.next_region o.next_item in
    let more : opening_lines (finished_rows (with_rows o (item_rows o row))) ≡ opening_lines (finished_rows o) ++ item_text row ∷ [] =
    ap (λ (ts : Texts). head ∷ (shown_regions o.rows.regions ++ ts)) (items_more o.rows.items row shown)
    ∙ ap (λ (ts : Texts). head ∷ ts) (sym (append_assoc (shown_regions o.rows.regions) (shown_items o.rows.items) (item_text row ∷ []))) in
    subst (λ (n : Opening). GoesOn before (stage.Items n) text) added.is (record {
      good = record {
        rows = added.lawful;
        next = skip_is (item_rows o row) o.next_region o.next_item bounds.0 bounds.1 (omega (arith, below)) bounds.3;
        groups = and_both regions (list_all (λ (i : ItemRow). is_u32 i.gid) (o.rows.items ++ row ∷ []))
            (and_left regions others good.groups)
            (all_both (λ (i : ItemRow). is_u32 i.gid) o.rows.items (row ∷ []) (and_right regions others good.groups) (and_both (is_u32 row.gid) true gid refl));
        replies = good.replies;
      };
      lines = ap (λ (ts : Texts). told_lines o.replies ++ ts) (more ∙ ap (λ (t : List ℕ). opening_lines (finished_rows o) ++ t ∷ []) (sym takes.1))
          ∙ sym (append_assoc (told_lines o.replies) (opening_lines (finished_rows o)) (text ∷ []))
          ∙ ap (λ (ts : Texts). ts ++ text ∷ []) (sym lines);
    })

item_step_goes : (before : Stage) (row : Option ItemRow) (o : Opening) (text : List ℕ) (now : Stage) → so_far before ≡ opened_lines o → item_line_of text ≡ row → item_step row o text ≡ Some now → IsGoodOpening o → GoesOn before now text
item_step_goes before None o text now lines read e good = events_goes before o text now lines e good
item_step_goes before (Some row) o text now lines read e good =
    let b = bind_some (add_item o row) (λ next. some_stage (stage.Items next)) now e in
    subst (λ (s : Stage). GoesOn before s text) (some_is (stage.Items b.0) now b.2) (item_goes before o b.0 text row lines read b.1 good)

region_step_goes : (row : Option RegionRow) (o : Opening) (text : List ℕ) (now : Stage) → region_line_of text ≡ row → region_step row o text ≡ Some now → IsGoodOpening o → o.rows.items ≡ common_item ∷ [] → GoesOn (stage.Regions o) now text
region_step_goes None o text now read e good items = item_step_goes (stage.Regions o) (item_line_of text) o text now refl refl e good
region_step_goes (Some row) o text now read e good items =
    let b = bind_some (add_region o row) (λ next. some_stage (stage.Regions next)) now e in
    subst (λ (s : Stage). GoesOn (stage.Regions o) s text) (some_is (stage.Regions b.0) now b.2) (region_goes o b.0 text row read b.1 good items)

-- events

events_more : (history : List Event) (event : Event) → map event_text (history ++ event ∷ []) ≡ map event_text history ++ event_text event ∷ []
events_more history event = map-append event_text history (event ∷ [])

last_goes : (report : Report) (left : ℕ) (text : List ℕ) (now : Stage) → left ≡ 0 → when (bytes_eq text (codes "done")) (a_stage (stage.Whole report)) ≡ Some now → IsGoodReport report left → GoesOn (stage.Events report left) now text
last_goes report left text now none e good =
    let w = when_some (bytes_eq text (codes "done")) (a_stage (stage.Whole report)) now e in
    let count : length report.history + left ≡ length report.history = omega (arith, none) in
    subst (λ (s : Stage). GoesOn (stage.Events report left) s text) w.1 (record {
      good = record { rows = good.rows; groups = good.groups; replies = good.replies; history = good.history; event_count = ap is_u64 (sym count) ∙ good.count };
      lines = ap (λ (t : List ℕ). happened_lines report (length report.history) ++ t ∷ []) (sym (same_bytes text (codes "done") w.0))
          ∙ ap (λ (n : ℕ). happened_lines report n ++ text ∷ []) (sym count);
    })

one_goes : (report : Report) (left : ℕ) (text : List ℕ) (now : Stage) → (left ≡ 0 → ⊥) → (event_of text >>= λ event. some_stage (stage.Events (with_event report event) (left - 1))) ≡ Some now → IsGoodReport report left →
    GoesOn (stage.Events report left) now text
one_goes report left text now some e good =
    let b = bind_some (event_of text) (λ event. some_stage (stage.Events (with_event report event) (left - 1))) now e in
    let event = b.0 in
    let takes = event_takes text event b.1 in
    let count : length (report.history ++ event ∷ []) + (left - 1) ≡ length report.history + left = omega (arith, length-append report.history (event ∷ []), not_none left some) in
    let front = told_lines report.replies ++ opening_lines report.rows in
    let head = events_text (length report.history + left) in
    subst (λ (s : Stage). GoesOn (stage.Events report left) s text) (some_is (stage.Events (with_event report event) (left - 1)) now b.2) (record {
      good = record {
        rows = good.rows;
        groups = good.groups;
        replies = good.replies;
        history = all_both event_fits report.history (event ∷ []) good.history (and_both (event_fits event) true takes.0 refl);
        count = ap is_u64 count ∙ good.count;
      };
      lines = (λ i. front ++ (events_text (count i) ∷ events_more report.history event i))
          ∙ sym (append_assoc front (head ∷ map event_text report.history) (event_text event ∷ []))
          ∙ ap (λ (t : List ℕ). (front ++ (head ∷ map event_text report.history)) ++ t ∷ []) (sym takes.1);
    })
  where
    not_none : (n : ℕ) → (n ≡ 0 → ⊥) → 1 ≤ n
    not_none zero h = absurd (h refl)
    not_none (suc n) h = omega arith

event_goes : (report : Report) (left : ℕ) (text : List ℕ) (now : Stage) (b : Bool) → (left == 0) ≡ b →
    cond b (when (bytes_eq text (codes "done")) (a_stage (stage.Whole report))) (event_of text >>= λ event. some_stage (stage.Events (with_event report event) (left - 1))) ≡ Some now →
    IsGoodReport report left → GoesOn (stage.Events report left) now text
event_goes report left text now true t e good = last_goes report left text now (eqb-true left 0 t) e good
event_goes report left text now false t e good = one_goes report left text now (eqb-false left 0 t) e good

-- any line

first_goes : (text : List ℕ) (now : Stage) → first_step text ≡ Some now → GoesOn stage.Nothing now text
first_goes text now e =
    let w = when_some (bytes_eq text (codes "replies")) (a_stage (stage.Replies [])) now e in
    subst (λ (s : Stage). GoesOn stage.Nothing s text) w.1 (record {
      good = refl;
      lines = ap (λ (t : List ℕ). one_text t) (sym (same_bytes text (codes "replies") w.0));
    })

pub goes_on : (before now : Stage) (text : List ℕ) → step before text ≡ Some now → IsGood before → GoesOn before now text
goes_on stage.Nothing now text e good = first_goes text now e
goes_on (stage.Replies replies) now text e good = told_goes (reply_line_of text) replies text now refl e good
goes_on (stage.Regions o) now text e good = region_step_goes (region_line_of text) o text now refl e good.0 good.1
goes_on (stage.Items o) now text e good = item_step_goes (stage.Items o) (item_line_of text) o text now refl refl e good
goes_on (stage.Events report left) now text e good = event_goes report left text now (left == 0) refl e good
goes_on (stage.Whole report) now text e good = absurd cc

-- what the lines so far are the beginning of

-- an event that may stand anywhere
abbrev any_event : Event
any_event = record { pe = record { 0 = 0 }; call = 0; what = what.Arrive }

filled : (left : ℕ) → list_all event_fits (replicate left any_event) ≡ true
filled zero = refl
filled (suc left) = filled left

opening_begins : (o : Opening) → IsGoodOpening o → BeginsReport (opened_lines o)
opening_begins o good = record {
  report = begun o;
  lawful = record { rows = finished_lawful o good; groups = good.groups; replies = good.replies; history = refl; event_count = refl };
  rest = event_lines [] ++ codes "done" ∷ [];
  begins = append_assoc (opened_lines o) (event_lines []) (codes "done" ∷ []);
}

pub stage_begins : (s : Stage) → IsGood s → BeginsReport (so_far s)
stage_begins stage.Nothing good =
    let report : Report = record { replies = []; rows = common_rows; history = [] } in
    record {
      report = report;
      lawful = record { rows = common_rows_are_lawful; groups = refl; replies = refl; history = refl; event_count = refl };
      rest = report_lines report;
      begins = refl;
    }
stage_begins (stage.Replies replies) good =
    let report : Report = record { replies = replies; rows = common_rows; history = [] } in
    record {
      report = report;
      lawful = record { rows = common_rows_are_lawful; groups = refl; replies = good; history = refl; event_count = refl };
      rest = (opening_lines common_rows ++ event_lines []) ++ codes "done" ∷ [];
      begins = ap (λ (ts : Texts). ts ++ codes "done" ∷ []) (append_assoc (told_lines replies) (opening_lines common_rows) (event_lines []))
          ∙ append_assoc (told_lines replies) (opening_lines common_rows ++ event_lines []) (codes "done" ∷ []);
    }
stage_begins (stage.Regions o) good = opening_begins o good.0
stage_begins (stage.Items o) good = opening_begins o good
stage_begins (stage.Events report left) good =
    let more = replicate left any_event in
    let whole : Report = record report { history = report.history ++ more } in
    let front = told_lines report.replies ++ opening_lines report.rows in
    let count : length (report.history ++ more) ≡ length report.history + left = length-append report.history more ∙ ap (λ (n : ℕ). length report.history + n) (length-replicate left any_event) in
    let head = events_text (length report.history + left) in
    record {
      report = whole;
      lawful = record {
        rows = good.rows;
        groups = good.groups;
        replies = good.replies;
        history = all_both event_fits report.history more good.history (filled left);
        event_count = ap is_u64 count ∙ good.count;
      };
      rest = map event_text more ++ codes "done" ∷ [];
      begins = (λ i. (front ++ (events_text (count i) ∷ map-append event_text report.history more i)) ++ codes "done" ∷ [])
          ∙ ap (λ (ts : Texts). ts ++ codes "done" ∷ []) (sym (append_assoc front (head ∷ map event_text report.history) (map event_text more)))
          ∙ append_assoc (front ++ (head ∷ map event_text report.history)) (map event_text more) (codes "done" ∷ []);
    }
stage_begins (stage.Whole report) good = record { report = report; lawful = good; rest = []; begins = sym (append-nil (report_lines report)) }

-- lines taken in turn
pub record Ran (before now : Stage) (texts : Texts) : Type 0 where
  pub good : IsGood now
  pub lines : so_far now ≡ so_far before ++ texts

pub run_goes : (before now : Stage) (texts : Texts) → run before texts ≡ Some now → IsGood before → Ran before now texts
run_goes before now [] e good = subst (λ (s : Stage). Ran before s []) (some_is before now e) (record { good = good; lines = sym (append-nil (so_far before)) })
run_goes before now (text ∷ texts) e good =
    let b = bind_some (step before text) (λ next. run next texts) now e in
    let first = goes_on before b.0 text b.1 good in
    let others = run_goes b.0 now texts b.2 first.good in
    record {
      good = others.good;
      lines = others.lines ∙ ap (λ (ts : Texts). ts ++ texts) first.lines ∙ append_assoc (so_far before) (text ∷ []) texts;
    }

pub begins_from_run : (now : Stage) (texts : Texts) → run stage.Nothing texts ≡ Some now → BeginsReport texts
begins_from_run now texts e =
    let ran = run_goes stage.Nothing now texts e tt in
    subst BeginsReport ran.lines (stage_begins now ran.good)
