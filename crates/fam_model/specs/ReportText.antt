-- The text of a report.
use Rattle.std.specs.Prelude.{ℕ, ◌==◌, not, List, [], ◌∷◌, ◌++◌, map, filter, length, codes, Option, Some, None}
use Rattle.std.specs.List.{flat_map, filter_map, enumerate_from}
use Rattle.std.specs.Fmt.{decimal}
use Rattle.fam_model.specs.declared.rows.RegionRow.{RegionRow}
use Rattle.fam_model.specs.declared.rows.ItemRow.{ItemRow}
use Rattle.fam_model.specs.declared.rows.Rows.{Rows}
use Rattle.fam_model.specs.declared.event.Event.{Event}
use Rattle.fam_model.specs.History.{calls}
use Rattle.fam_model.specs.Lists.{numbers_below}
use Rattle.fam_model.specs.Rows.{region_number, item_number}
use Rattle.fam_model.specs.Text.{Asked}
use Rattle.fam_model.specs.Words.{mode_text, words_text, text_of}
use Rattle.fam_model.specs.declared.report.ReplyLine.{ReplyLine}
use Rattle.fam_model.specs.declared.report.Report.{Report}
use Rattle.fam_model.specs.ReplyText.{reply_words}
use Rattle.fam_model.specs.EventText.{call_name, event_text}

-- the lines of a report

-- a reply with the name of its call
abbrev pub reply_line_text : ReplyLine → List ℕ
reply_line_text told = words_text (call_name told.pe told.call ∷ reply_words told.reply)

-- a region of the opening
abbrev pub region_text : RegionRow → List ℕ
region_text row =
    words_text
    (codes "region" ∷ decimal row.number.0 ∷ decimal row.uid ∷ decimal row.gid ∷ mode_text row.mode
    ∷ decimal row.size ∷ row.name ∷ [])

-- an item of the opening
abbrev pub item_text : ItemRow → List ℕ
item_text row =
    words_text
    (codes "item" ∷ decimal row.number.0 ∷ decimal row.region.0 ∷ decimal row.base ∷ decimal row.size
    ∷ decimal row.uid ∷ decimal row.gid ∷ mode_text row.mode ∷ row.name ∷ [])

-- the directory before the first event, without the region and the item that are always there
abbrev pub opening_lines : Rows → List (List ℕ)
opening_lines rows =
    words_text (codes "opening" ∷ decimal rows.next_region ∷ decimal rows.next_item ∷ [])
    ∷ (map region_text (filter (λ row. not (region_number row == 0)) rows.regions)
    ++ map item_text (filter (λ row. not (item_number row == 0)) rows.items))

-- the number of events, and the events
abbrev pub event_lines : List Event → List (List ℕ)
event_lines history = words_text (codes "events" ∷ decimal (length history) ∷ []) ∷ map event_text history

-- all lines of a report
abbrev pub report_lines : Report → List (List ℕ)
report_lines report =
    codes "replies" ∷ map reply_line_text report.replies
    ++ opening_lines report.rows
    ++ event_lines report.history
    ++ codes "done" ∷ []

-- the text of a report
abbrev pub report_text : Report → List ℕ
report_text report = text_of (report_lines report)

-- the report of a run

-- a call's reply with its number, where it has one
abbrev pub numbered : ℕ → ℕ × Asked → Option ReplyLine
numbered pe (number, (asked, Some given)) = Some (record { pe = record { 0 = pe }; call = number; reply = given })
numbered pe (number, (asked, None)) = None

-- the replies of each program in order, in order of its calls
abbrev pub reply_lines : ℕ → List Event → List ReplyLine
reply_lines programs history =
    flat_map (λ pe. filter_map (numbered pe) (enumerate_from 0 (calls history pe))) (numbers_below programs)

-- the report of a history of so many programs that began with these rows
abbrev pub report_of : ℕ → Rows → List Event → Report
report_of programs rows history = record { replies = reply_lines programs history; rows = rows; history = history }
