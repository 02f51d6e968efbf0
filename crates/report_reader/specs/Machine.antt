-- How the lines of a report are read in turn. A reader need not believe any of this: it is proved that reports, and no other bytes,
-- are read so.
use Rattle.std.specs.Prelude.{◌≡◌, ℕ, ◌+◌, ◌-◌, ◌==◌, nat_lt, List, [], ◌∷◌, ◌++◌, codes, Option, Some, None, Result, Ok, Err, MatchOption, if◌then◌else◌}
use Rattle.std.specs.Str.{bytes_eq}
use Rattle.fam_model.specs.declared.change.Change.{Change}
use Rattle.fam_model.specs.declared.change.Change.TheVariants as change
use Rattle.fam_model.specs.declared.event.Event.{Event}
use Rattle.fam_model.specs.declared.report.ReplyLine.{ReplyLine}
use Rattle.fam_model.specs.declared.report.Report.{Report}
use Rattle.fam_model.specs.declared.rows.ItemRow.{ItemRow}
use Rattle.fam_model.specs.declared.rows.RegionRow.{RegionRow}
use Rattle.fam_model.specs.declared.rows.Rows.{Rows}
use Rattle.fam_model.specs.Directory.{after}
use Rattle.fam_model.specs.Lawful.{is_lawful_change}
use Rattle.fam_model.specs.Lists.{◌>>=◌, when}
use Rattle.fam_model.specs.Rows.{common_rows}
use Rattle.fam_script.specs.BadLine.{whole_lines}
use Rattle.fam_script.specs.Parsing.{rest_of}
use Rattle.report_reader.specs.declared.stage.Opening.{Opening}
use Rattle.report_reader.specs.declared.stage.Stage.{Stage}
use Rattle.report_reader.specs.declared.stage.Stage.TheVariants as stage
use Rattle.report_reader.specs.Reading.{reply_line_of, opening_of, region_line_of, item_line_of, events_of, event_of}

-- rows after a change, where it is lawful
abbrev pub changed : Rows → Change → Option Rows
changed rows chosen = when (is_lawful_change rows chosen) (after rows chosen)

-- the rows so far, whose next numbers are those behind their last rows, with the next numbers of the opening
abbrev pub finished_rows : Opening → Rows
finished_rows o = after o.rows (change.Skip o.next_region o.next_item)

-- a region more
abbrev pub create : RegionRow → Change
create row = change.CreateRegion row.number row.uid row.gid row.mode row.size row.name

abbrev pub with_region : Rows → RegionRow → Option Rows
with_region rows row = do
  skipped ← changed rows (change.Skip row.number.0 rows.next_item)
  changed skipped (create row)

abbrev pub with_rows : Opening → Rows → Opening
with_rows o rows = record o { rows = rows }

abbrev pub add_region : Opening → RegionRow → Option Opening
add_region o row = do
  below ← when (nat_lt row.number.0 o.next_region) row
  rows ← with_region o.rows below
  Some (with_rows o rows)

-- an item more
abbrev pub allocate : ItemRow → Change
allocate row = change.Allocate row.number row.region row.base row.size row.uid row.gid row.mode row.name

abbrev pub with_item : Rows → ItemRow → Option Rows
with_item rows row = do
  skipped ← changed rows (change.Skip rows.next_region row.number.0)
  changed skipped (allocate row)

abbrev pub add_item : Opening → ItemRow → Option Opening
add_item o row = do
  below ← when (nat_lt row.number.0 o.next_item) row
  rows ← with_item o.rows below
  Some (with_rows o rows)

-- an opening without rows of its own
abbrev pub opened : List ReplyLine → ℕ × ℕ → Option Opening
opened replies next =
    when (is_lawful_change common_rows (change.Skip next.0 next.1))
    (record { replies = replies; rows = common_rows; next_region = next.0; next_item = next.1 })

-- the report whose events begin
abbrev pub begun : Opening → Report
begun o = record { replies = o.replies; rows = finished_rows o; history = [] }

-- an event more
abbrev pub with_event : Report → Event → Report
with_event report event = record report { history = report.history ++ event ∷ [] }

-- steps

abbrev pub opening_step : List ReplyLine → List ℕ → Option Stage
opening_step replies text = opening_of text >>= opened replies >>= λ o. Some (stage.Regions o)

-- a line among the replies that is a reply line, or is none
abbrev pub told_step : Option ReplyLine → List ReplyLine → List ℕ → Option Stage
told_step (Some told) replies text = Some (stage.Replies (replies ++ told ∷ []))
told_step None replies text = opening_step replies text

abbrev pub events_step : Opening → List ℕ → Option Stage
events_step o text = events_of text >>= λ count. Some (stage.Events (begun o) count)

-- a line behind the regions that is an item's, or is none
abbrev pub item_step : Option ItemRow → Opening → List ℕ → Option Stage
item_step (Some row) o text = add_item o row >>= λ next. Some (stage.Items next)
item_step None o text = events_step o text

-- a line among the regions that is a region's, or is none
abbrev pub region_step : Option RegionRow → Opening → List ℕ → Option Stage
region_step (Some row) o text = add_region o row >>= λ next. Some (stage.Regions next)
region_step None o text = item_step (item_line_of text) o text

abbrev pub event_step : Report → ℕ → List ℕ → Option Stage
event_step report left text =
    if left == 0 then when (bytes_eq text (codes "done")) (stage.Whole report)
    else event_of text >>= λ event. Some (stage.Events (with_event report event) (left - 1))

abbrev pub first_step : List ℕ → Option Stage
first_step text = when (bytes_eq text (codes "replies")) (stage.Replies [])

-- what the lines are with one more; none where no report goes on so
abbrev pub step : Stage → List ℕ → Option Stage
step stage.Nothing text = first_step text
step (stage.Replies replies) text = told_step (reply_line_of text) replies text
step (stage.Regions o) text = region_step (region_line_of text) o text
step (stage.Items o) text = item_step (item_line_of text) o text
step (stage.Events report left) text = event_step report left text
step (stage.Whole report) text = None

-- lines taken in turn
abbrev pub run : Stage → List (List ℕ) → Option Stage
run before [] = Some before
run before (text ∷ texts) = do
  next ← step before text
  run next texts

-- bytes

-- after all whole lines: the report, or the number of the line that is missing or cut
abbrev pub ended_with : ℕ → Stage → List ℕ → Result Report ℕ
ended_with n (stage.Whole report) [] = Ok report
ended_with n before rest = Err (n + 1)

-- the report, or none
abbrev pub GivesReport : ℕ → Stage → List ℕ → Option Report → Type 0
GivesReport n before rest result =
    MatchOption result (ended_with n before rest ≡ Err (n + 1)) (λ report. ended_with n before rest ≡ Ok report)

-- what comes of a step, whose line is bad where it cannot be made
abbrev pub and_then : ℕ → Option Stage → (Stage → Result Report ℕ) → Result Report ℕ
and_then n None others = Err (n + 1)
and_then n (Some next) others = others next

-- the report that the lines from here on complete, where n lines came before, or its bad line
abbrev pub scan : ℕ → Stage → List (List ℕ) → List ℕ → Result Report ℕ
scan n before [] rest = ended_with n before rest
scan n before (text ∷ texts) rest = and_then n (step before text) (λ next. scan (n + 1) next texts rest)

-- the report that the bytes are, or their bad line
abbrev pub read_of : List ℕ → Result Report ℕ
read_of bytes = scan 0 stage.Nothing (whole_lines bytes) (rest_of bytes)
