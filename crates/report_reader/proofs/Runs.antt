-- The lines of a lawful report are read to its end.
use Rattle.std.proofs.Common.{◌≡◌, ◌≢◌, ℕ, zero, suc, ◌+◌, ◌-◌, ◌<◌, ◌≤◌, ◌^◌, Bool, true, not, cond, List, [], ◌∷◌, ◌++◌, length, map, drop, get_or, Option, Some, None, refl, sym, ap, subst, ◌∙◌, append_assoc, arith, lit≤, lt_of_lt_of_le}
use Rattle.std.specs.Prelude.{◌==◌, ◌&&◌, nat_le, codes, AllPairs}
use Rattle.std.specs.List.{list_all, filter}
use Rattle.std.specs.Str.{bytes_eq}
use Rattle.std.proofs.lemmas.Bool.{le-leb, lt-ltb}
use Rattle.std.proofs.lemmas.List.{append-nil}
use Rattle.fam_model.specs.declared.change.Change.TheVariants as change
use Rattle.fam_model.specs.declared.event.Event.{Event}
use Rattle.fam_model.specs.declared.report.ReplyLine.{ReplyLine}
use Rattle.fam_model.specs.declared.report.Report.{Report}
use Rattle.fam_model.specs.declared.rows.ItemRow.{ItemRow}
use Rattle.fam_model.specs.declared.rows.RegionRow.{RegionRow}
use Rattle.fam_model.specs.declared.rows.Rows.{Rows}
use Rattle.fam_model.specs.EventText.{event_text}
use Rattle.fam_model.specs.Lawful.{is_lawful_change}
use Rattle.fam_model.specs.Limits.{number_end}
use Rattle.fam_model.specs.Lists.{◌>>=◌, when}
use Rattle.fam_model.specs.ReportText.{reply_line_text, region_text, item_text, opening_lines, event_lines, report_lines}
use Rattle.fam_model.specs.Rows.{IsLawful, common_rows, common_region, common_item, region_number, item_number}
use Rattle.fam_model.specs.Values.{is_u64}
use Rattle.fam_rows.proofs.Places.{rises}
use Rattle.fam_script.proofs.Splits.{lacks}
use Rattle.fam_script.proofs.Tests.{and_left, and_right, and_both, all_both, when_true}
use Rattle.report_reader.specs.declared.stage.Opening.{Opening}
use Rattle.report_reader.specs.declared.stage.Stage.{Stage}
use Rattle.report_reader.specs.declared.stage.Stage.TheVariants as stage
use Rattle.report_reader.specs.EventForm.{event_fits}
use Rattle.report_reader.specs.Machine.{opened, with_event, told_step, item_step, region_step, step, run}
use Rattle.report_reader.specs.Reading.{opening_text, events_text, event_of}
use Rattle.report_reader.specs.Report.{reply_line_fits, groups_fit, IsLawfulReport}
use Rattle.report_reader.proofs.Lists.{first_is, pairs_behind, kept_whole, not_zero, one_less}
use Rattle.report_reader.proofs.Openings.{some_stage, with_regions, with_items, RegionsRun, regions_run, ItemsRun, items_run, shown_region, shown_item}
use Rattle.report_reader.proofs.EventsBack.{event_back, event_lacks_feed}
use Rattle.report_reader.proofs.RepliesBack.{reply_line_back, reply_line_lacks_feed}
use Rattle.report_reader.proofs.RowsBack.{opening_back, opening_no_reply, opening_lacks_feed, region_lacks_feed, item_no_region, item_lacks_feed, events_back, events_no_region, events_no_item, events_lacks_feed}
use Rattle.report_reader.proofs.Steps.{Texts, told_lines}

-- runs put together

pub run_then : (a b : Stage) (xs ys : Texts) → run a xs ≡ Some b → run a (xs ++ ys) ≡ run b ys
run_then a b [] ys e = ap (λ (o : Option Stage). o >>= λ s. run s ys) e
run_then a b (x ∷ xs) ys e = by_step (step a x) e (λ s f. run_then s b xs ys f)
  where
    by_step : (o : Option Stage) → (o >>= λ s. run s xs) ≡ Some b → ((s : Stage) → run s xs ≡ Some b → run s (xs ++ ys) ≡ run b ys) → (o >>= λ s. run s (xs ++ ys)) ≡ run b ys
    by_step None f more = absurd cc
    by_step (Some s) f more = more s f

-- reply lines

replies_run : (done more : List ReplyLine) → list_all reply_line_fits more ≡ true → run (stage.Replies done) (map reply_line_text more) ≡ Some (stage.Replies (done ++ more))
replies_run done [] fits = ap (λ (rs : List ReplyLine). some_stage (stage.Replies rs)) (sym (append-nil done))
replies_run done (told ∷ more) fits =
    ap (λ (o : Option ReplyLine). told_step o done (reply_line_text told) >>= λ next. run next (map reply_line_text more)) (reply_line_back told (and_left (reply_line_fits told) (list_all reply_line_fits more) fits))
    ∙ replies_run (done ++ told ∷ []) more (and_right (reply_line_fits told) (list_all reply_line_fits more) fits)
    ∙ ap (λ (rs : List ReplyLine). some_stage (stage.Replies rs)) (append_assoc done (told ∷ []) more)

-- events

events_run : (report : Report) (more : List Event) → list_all event_fits more ≡ true →
    run (stage.Events report (length more)) (map event_text more) ≡ Some (stage.Events (record report { history = report.history ++ more }) 0)
events_run report [] fits = ap (λ (es : List Event). some_stage (stage.Events (record report { history = es }) 0)) (sym (append-nil report.history))
events_run report (event ∷ more) fits =
    let text = event_text event in
    let left = length (event ∷ more) in
    ap (λ (b : Bool). cond b (when (bytes_eq text (codes "done")) (stage.Whole report)) (event_of text >>= λ e. some_stage (stage.Events (with_event report e) (left - 1))) >>= λ next. run next (map event_text more)) (not_zero (length more))
    ∙ ap (λ (o : Option Event). (o >>= λ e. some_stage (stage.Events (with_event report e) (left - 1))) >>= λ next. run next (map event_text more)) (event_back event (and_left (event_fits event) (list_all event_fits more) fits))
    ∙ ap (λ (n : ℕ). run (stage.Events (with_event report event) n) (map event_text more)) (one_less (length more))
    ∙ events_run (with_event report event) more (and_right (event_fits event) (list_all event_fits more) fits)
    ∙ ap (λ (es : List Event). some_stage (stage.Events (record report { history = es }) 0)) (append_assoc report.history (event ∷ []) more)

-- the rows of a lawful opening

module _ (R : Rows) (lawful : IsLawful R) (groups : groups_fit R ≡ true) (replies : List ReplyLine) where
  abbrev own_regions : List RegionRow
  own_regions = drop 1 R.regions

  abbrev own_items : List ItemRow
  own_items = drop 1 R.items

  regions_are : R.regions ≡ (common_region ∷ []) ++ own_regions
  regions_are = first_is R.regions common_region lawful.common_region_first

  items_are : R.items ≡ (common_item ∷ []) ++ own_items
  items_are = first_is R.items common_item lawful.common_item_first

  regions_above : (k : ℕ) (d : RegionRow) → k < length own_regions → 1 ≤ region_number (get_or own_regions k d)
  regions_above k d low =
      let above = pairs_behind (λ (a b : RegionRow). region_number a < region_number b) [] common_region own_regions (subst (AllPairs (λ (a b : RegionRow). region_number a < region_number b)) regions_are (rises region_number R.regions lawful.region_numbers_rise)) k d low in
      omega (arith, above)

  items_above : (k : ℕ) (d : ItemRow) → k < length own_items → 1 ≤ item_number (get_or own_items k d)
  items_above k d low =
      let above = pairs_behind (λ (a b : ItemRow). item_number a < item_number b) [] common_item own_items (subst (AllPairs (λ (a b : ItemRow). item_number a < item_number b)) items_are (rises item_number R.items lawful.item_numbers_rise)) k d low in
      omega (arith, above)

  not_none : (n : ℕ) → 1 ≤ n → not (n == 0) ≡ true
  not_none zero h = absurd (omega arith)
  not_none (suc n) h = ap not (not_zero n)

  shown_regions : filter (λ row. not (region_number row == 0)) R.regions ≡ own_regions
  shown_regions =
      ap (filter (λ row. not (region_number row == 0))) regions_are
      ∙ kept_whole (λ row. not (region_number row == 0)) own_regions (λ k d low. not_none (region_number (get_or own_regions k d)) (regions_above k d low))

  shown_items : filter (λ row. not (item_number row == 0)) R.items ≡ own_items
  shown_items =
      ap (filter (λ row. not (item_number row == 0))) items_are
      ∙ kept_whole (λ row. not (item_number row == 0)) own_items (λ k d low. not_none (item_number (get_or own_items k d)) (items_above k d low))

  -- the lines of the opening
  abbrev row_lines : Texts
  row_lines = map region_text own_regions ++ map item_text own_items

  pub opening_is : opening_lines R ≡ opening_text R.next_region R.next_item ∷ row_lines
  opening_is = λ i. opening_text R.next_region R.next_item ∷ (map region_text (shown_regions i) ++ map item_text (shown_items i))

  next_region_low : is_u64 R.next_region ≡ true
  next_region_low =
      let bound = lawful.next_region_bound in
      let below : R.next_region < number_end + 1 = omega (arith, bound) in
      lt-ltb R.next_region (2 ^ 64) (lt_of_lt_of_le below (lit≤ tt))

  next_item_low : is_u64 R.next_item ≡ true
  next_item_low =
      let bound = lawful.next_item_bound in
      let below : R.next_item < number_end + 1 = omega (arith, bound) in
      lt-ltb R.next_item (2 ^ 64) (lt_of_lt_of_le below (lit≤ tt))

  region_first : 1 ≤ R.next_region
  region_first = (let h = common_law in omega (arith, h))
    where
      common_law : 0 < R.next_region
      common_law = (subst (λ (rs : List RegionRow). (k : ℕ) (d : RegionRow) → k < length rs → region_number (get_or rs k d) < R.next_region) regions_are (λ k d low. (lawful.regions k d low).number)) 0 common_region (omega arith)

  item_first : 1 ≤ R.next_item
  item_first = (let h = common_law in omega (arith, h))
    where
      common_law : 0 < R.next_item
      common_law = (subst (λ (rs : List ItemRow). (k : ℕ) (d : ItemRow) → k < length rs → item_number (get_or rs k d) < R.next_item) items_are (λ k d low. (lawful.items k d low).number)) 0 common_item (omega arith)

  abbrev start : Opening
  start = with_regions R lawful groups replies (common_region ∷ []) 1

  opening_runs : step (stage.Replies replies) (opening_text R.next_region R.next_item) ≡ Some (stage.Regions start)
  opening_runs =
      let text = opening_text R.next_region R.next_item in
      let a = nat_le 1 R.next_region in
      let b = nat_le R.next_region number_end in
      let c = nat_le 1 R.next_item in
      let d = nat_le R.next_item number_end in
      let skips : is_lawful_change common_rows (change.Skip R.next_region R.next_item) ≡ true =
      and_both (a && b && c) d (and_both (a && b) c (and_both a b (le-leb 1 R.next_region region_first) (le-leb R.next_region number_end lawful.next_region_bound)) (le-leb 1 R.next_item item_first)) (le-leb R.next_item number_end lawful.next_item_bound) in
      ap (λ (o : Option ReplyLine). told_step o replies text) (opening_no_reply R.next_region R.next_item next_region_low next_item_low)
      ∙ ap (λ (o : Option (ℕ × ℕ)). (o >>= opened replies) >>= λ o. some_stage (stage.Regions o)) (opening_back R.next_region R.next_item next_region_low next_item_low)
      ∙ ap (λ (o : Option Opening). o >>= λ o. some_stage (stage.Regions o)) (when_true (is_lawful_change common_rows (change.Skip R.next_region R.next_item)) start skips)

  regions_ran : RegionsRun R lawful groups replies (common_region ∷ []) own_regions 1
  regions_ran = regions_run R lawful groups replies (common_region ∷ []) own_regions 1 regions_are (omega arith) (lit≤ tt) regions_above

  after_regions : run (stage.Regions start) (map region_text own_regions) ≡ Some (stage.Regions (with_items R lawful groups replies regions_ran.next (common_item ∷ []) 1))
  after_regions =
      regions_ran.runs
      ∙ ap (λ (rs : List RegionRow). some_stage (stage.Regions (with_regions R lawful groups replies rs regions_ran.next))) (sym regions_are)

  items_ran : ItemsRun R lawful groups replies regions_ran.next regions_ran.bound (common_item ∷ []) own_items 1
  items_ran = items_run R lawful groups replies regions_ran.next regions_ran.bound (common_item ∷ []) own_items 1 items_are (omega arith) items_above

  after_items : run (stage.Items (with_items R lawful groups replies regions_ran.next (common_item ∷ []) 1)) (map item_text own_items) ≡ Some (stage.Items (with_items R lawful groups replies regions_ran.next R.items items_ran.next_item))
  after_items =
      items_ran.runs
      ∙ ap (λ (is : List ItemRow). some_stage (stage.Items (with_items R lawful groups replies regions_ran.next is items_ran.next_item))) (sym items_are)

  module _ (history : List Event) (fits : list_all event_fits history ≡ true) (count : is_u64 (length history) ≡ true) where
    abbrev head : List ℕ
    head = events_text (length history)

    abbrev begun : Report
    begun = record { replies = replies; rows = R; history = [] }

    -- items and the number of events, behind the regions
    no_region_first : (o : Opening) (done more : List ItemRow) → R.items ≡ done ++ more → ((k : ℕ) (d : ItemRow) → k < length more → 1 ≤ item_number (get_or more k d)) → (rest : Texts) →
        run (stage.Regions o) (map item_text more ++ head ∷ rest) ≡ run (stage.Items o) (map item_text more ++ head ∷ rest)
    no_region_first o done [] are above rest = ap (λ (x : Option RegionRow). region_step x o head >>= λ next. run next rest) (events_no_region (length history) count)
    no_region_first o done (row ∷ more) are above rest =
        let some : item_number row ≢ 0 = λ e. (let one = above 0 row (omega arith) in omega (arith, e, one)) in
        ap (λ (x : Option RegionRow). region_step x o (item_text row) >>= λ next. run next (map item_text more ++ head ∷ rest)) (item_no_region row (shown_item R lawful groups replies done row more are some))

    events_begin : (next n : ℕ) → step (stage.Items (with_items R lawful groups replies next R.items n)) head ≡ Some (stage.Events begun (length history))
    events_begin next n =
        let o = with_items R lawful groups replies next R.items n in
        ap (λ (x : Option ItemRow). item_step x o head) (events_no_item (length history) count)
        ∙ ap (λ (x : Option ℕ). x >>= λ found. some_stage (stage.Events begun found)) (events_back (length history) count)

    ended : run (stage.Events begun (length history)) (map event_text history ++ codes "done" ∷ []) ≡ Some (stage.Whole (record { replies = replies; rows = R; history = history }))
    ended = run_then (stage.Events begun (length history)) (stage.Events (record { replies = replies; rows = R; history = history }) 0) (map event_text history) (codes "done" ∷ []) (events_run begun history fits)

    abbrev last_lines : Texts
    last_lines = map event_text history ++ codes "done" ∷ []

    from_items : run (stage.Items (with_items R lawful groups replies regions_ran.next (common_item ∷ []) 1)) (map item_text own_items ++ head ∷ last_lines) ≡ Some (stage.Whole (record { replies = replies; rows = R; history = history }))
    from_items =
        let o = with_items R lawful groups replies regions_ran.next R.items items_ran.next_item in
        run_then (stage.Items (with_items R lawful groups replies regions_ran.next (common_item ∷ []) 1)) (stage.Items o) (map item_text own_items) (head ∷ last_lines) after_items
        ∙ ap (λ (x : Option Stage). x >>= λ s. run s last_lines) (events_begin regions_ran.next items_ran.next_item)
        ∙ ended

    from_regions : run (stage.Regions start) (row_lines ++ head ∷ last_lines) ≡ Some (stage.Whole (record { replies = replies; rows = R; history = history }))
    from_regions =
        let o = with_items R lawful groups replies regions_ran.next (common_item ∷ []) 1 in
        ap (run (stage.Regions start)) (append_assoc (map region_text own_regions) (map item_text own_items) (head ∷ last_lines))
        ∙ run_then (stage.Regions start) (stage.Regions o) (map region_text own_regions) (map item_text own_items ++ head ∷ last_lines) after_regions
        ∙ no_region_first o (common_item ∷ []) own_items items_are items_above last_lines
        ∙ from_items

    from_opening : run (stage.Replies replies) (opening_lines R ++ head ∷ last_lines) ≡ Some (stage.Whole (record { replies = replies; rows = R; history = history }))
    from_opening =
        ap (λ (ts : Texts). run (stage.Replies replies) (ts ++ head ∷ last_lines)) opening_is
        ∙ ap (λ (x : Option Stage). x >>= λ s. run s (row_lines ++ head ∷ last_lines)) opening_runs
        ∙ from_regions

-- the lines of a report, from its replies on
report_lines_are : (report : Report) → report_lines report ≡ told_lines report.replies ++ (opening_lines report.rows ++ events_text (length report.history) ∷ (map event_text report.history ++ codes "done" ∷ []))
report_lines_are report =
    let told = told_lines report.replies in
    let opening = opening_lines report.rows in
    let events = event_lines report.history in
    ap (λ (ts : Texts). ts ++ codes "done" ∷ []) (append_assoc told opening events)
    ∙ append_assoc told (opening ++ events) (codes "done" ∷ [])
    ∙ ap (λ (ts : Texts). told ++ ts) (append_assoc opening events (codes "done" ∷ []))

pub report_runs : (report : Report) → IsLawfulReport report → run stage.Nothing (report_lines report) ≡ Some (stage.Whole report)
report_runs report lawful =
    let rest = opening_lines report.rows ++ events_text (length report.history) ∷ (map event_text report.history ++ codes "done" ∷ []) in
    ap (run stage.Nothing) (report_lines_are report)
    ∙ run_then (stage.Replies []) (stage.Replies report.replies) (map reply_line_text report.replies) rest (replies_run [] report.replies lawful.replies)
    ∙ from_opening report.rows lawful.rows lawful.groups report.replies report.history lawful.history lawful.event_count

-- no line has a line feed in it

replies_lack : (replies : List ReplyLine) → list_all reply_line_fits replies ≡ true → list_all (lacks 10) (map reply_line_text replies) ≡ true
replies_lack [] fits = refl
replies_lack (told ∷ replies) fits =
    and_both (lacks 10 (reply_line_text told)) (list_all (lacks 10) (map reply_line_text replies))
    (reply_line_lacks_feed told (and_left (reply_line_fits told) (list_all reply_line_fits replies) fits)) (replies_lack replies (and_right (reply_line_fits told) (list_all reply_line_fits replies) fits))

events_lack : (events : List Event) → list_all event_fits events ≡ true → list_all (lacks 10) (map event_text events) ≡ true
events_lack [] fits = refl
events_lack (event ∷ events) fits =
    and_both (lacks 10 (event_text event)) (list_all (lacks 10) (map event_text events))
    (event_lacks_feed event (and_left (event_fits event) (list_all event_fits events) fits)) (events_lack events (and_right (event_fits event) (list_all event_fits events) fits))

module _ (R : Rows) (lawful : IsLawful R) (groups : groups_fit R ≡ true) (replies : List ReplyLine) where
  regions_lack : (done more : List RegionRow) → R.regions ≡ done ++ more → ((k : ℕ) (d : RegionRow) → k < length more → 1 ≤ region_number (get_or more k d)) → list_all (lacks 10) (map region_text more) ≡ true
  regions_lack done [] are above = refl
  regions_lack done (row ∷ more) are above =
      let some : region_number row ≢ 0 = λ e. (let one = above 0 row (omega arith) in omega (arith, e, one)) in
      and_both (lacks 10 (region_text row)) (list_all (lacks 10) (map region_text more)) (region_lacks_feed row (shown_region R lawful groups replies done row more are some))
      (regions_lack (done ++ row ∷ []) more (are ∙ sym (append_assoc done (row ∷ []) more)) (λ k d low. above (suc k) d (omega arith)))

  items_lack : (done more : List ItemRow) → R.items ≡ done ++ more → ((k : ℕ) (d : ItemRow) → k < length more → 1 ≤ item_number (get_or more k d)) → list_all (lacks 10) (map item_text more) ≡ true
  items_lack done [] are above = refl
  items_lack done (row ∷ more) are above =
      let some : item_number row ≢ 0 = λ e. (let one = above 0 row (omega arith) in omega (arith, e, one)) in
      and_both (lacks 10 (item_text row)) (list_all (lacks 10) (map item_text more)) (item_lacks_feed row (shown_item R lawful groups replies done row more are some))
      (items_lack (done ++ row ∷ []) more (are ∙ sym (append_assoc done (row ∷ []) more)) (λ k d low. above (suc k) d (omega arith)))

  opening_lacks : list_all (lacks 10) (opening_lines R) ≡ true
  opening_lacks =
      ap (λ (ts : Texts). list_all (lacks 10) ts) (opening_is R lawful groups replies)
      ∙ and_both (lacks 10 (opening_text R.next_region R.next_item)) (list_all (lacks 10) (row_lines R lawful groups replies))
      (opening_lacks_feed R.next_region R.next_item (next_region_low R lawful groups replies) (next_item_low R lawful groups replies))
      (all_both (lacks 10) (map region_text (own_regions R lawful groups replies)) (map item_text (own_items R lawful groups replies))
      (regions_lack (common_region ∷ []) (own_regions R lawful groups replies) (regions_are R lawful groups replies) (regions_above R lawful groups replies))
      (items_lack (common_item ∷ []) (own_items R lawful groups replies) (items_are R lawful groups replies) (items_above R lawful groups replies)))

pub report_lacks : (report : Report) → IsLawfulReport report → list_all (lacks 10) (report_lines report) ≡ true
report_lacks report lawful =
    ap (λ (ts : Texts). list_all (lacks 10) ts) (report_lines_are report)
    ∙ all_both (lacks 10) (told_lines report.replies) (opening_lines report.rows ++ events_text (length report.history) ∷ (map event_text report.history ++ codes "done" ∷ []))
    (replies_lack report.replies lawful.replies)
    (all_both (lacks 10) (opening_lines report.rows) (events_text (length report.history) ∷ (map event_text report.history ++ codes "done" ∷ []))
    (opening_lacks report.rows lawful.rows lawful.groups report.replies)
    (and_both (lacks 10 (events_text (length report.history))) (list_all (lacks 10) (map event_text report.history ++ codes "done" ∷ []))
    (events_lacks_feed (length report.history) lawful.event_count)
    (all_both (lacks 10) (map event_text report.history) (codes "done" ∷ []) (events_lack report.history lawful.history) refl)))
