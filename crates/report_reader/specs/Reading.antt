-- How a line of a report is read. A reader need not believe any of this: it is proved that each line that has the form of one is
-- read so, and no other text. Words are read loosely, and what they give is kept only where it prints as the text.
use Rattle.std.specs.Prelude.{ℕ, Bool, true, false, not, ◌&&◌, ◌||◌, ◌==◌, List, [], ◌∷◌, ◌++◌, drop, take, codes, Option, Some, None, if◌then◌else◌}
use Rattle.std.specs.Str.{bytes_eq}
use Rattle.std.specs.Fmt.{decimal}
use Rattle.fam_base.specs.declared.error.FamError.{FamError}
use Rattle.fam_base.specs.declared.error.FamError.TheVariants as error
use Rattle.fam_base.specs.declared.naming.PeId.{PeId}
use Rattle.fam_model.specs.declared.call.Call.{Call}
use Rattle.fam_model.specs.declared.call.Call.TheVariants as call
use Rattle.fam_model.specs.declared.event.Event.{Event}
use Rattle.fam_model.specs.declared.event.What.{What}
use Rattle.fam_model.specs.declared.event.What.TheVariants as what
use Rattle.fam_model.specs.declared.line.Line.{Line}
use Rattle.fam_model.specs.declared.line.Line.TheVariants as line
use Rattle.fam_model.specs.declared.reply.OpResult.{OpResult}
use Rattle.fam_model.specs.declared.reply.PieceAnswer.{PieceAnswer}
use Rattle.fam_model.specs.declared.reply.PieceAnswer.TheVariants as answer
use Rattle.fam_model.specs.declared.reply.Reply.{Reply}
use Rattle.fam_model.specs.declared.reply.Reply.TheVariants as reply
use Rattle.fam_model.specs.declared.report.ReplyLine.{ReplyLine}
use Rattle.fam_model.specs.declared.rows.ItemRow.{ItemRow}
use Rattle.fam_model.specs.declared.rows.RegionRow.{RegionRow}
use Rattle.fam_model.specs.EventText.{event_text}
use Rattle.fam_model.specs.Lists.{◌>>=◌, when}
use Rattle.fam_model.specs.ReportText.{reply_line_text, region_text, item_text}
use Rattle.fam_model.specs.Rows.{region_number, item_number}
use Rattle.fam_model.specs.Values.{is_u32}
use Rattle.fam_model.specs.Words.{words_text}
use Rattle.fam_script.specs.Reading.{Words, parts, one_of, two_of, three_of, four_of, five_of, six_of, seven_of, number_of, small_of, slot_of, signed_of, mode_of, hex_of, line_of, or_else}
use Rattle.report_reader.specs.EventForm.{is_call_told, event_fits}
use Rattle.report_reader.specs.Report.{reply_line_fits}

-- the name of a call: its program and its number
abbrev pub name_from : Option ℕ → Option ℕ → Option (PeId × ℕ)
name_from pe number = do
  p ← pe
  n ← number
  Some (record { 0 = p }, n)

abbrev pub name_of : List ℕ → Option (PeId × ℕ)
name_of word = two_of (parts 46 word) >>= λ w. name_from (small_of w.0) (number_of w.1)

-- errors and answers

-- an error without numbers
abbrev pub early_error_of : List ℕ → Option FamError
early_error_of word =
    if bytes_eq word (codes "Memory") then Some error.Memory
    else if bytes_eq word (codes "Absent") then Some error.Absent
    else if bytes_eq word (codes "NoPermission") then Some error.NoPermission
    else if bytes_eq word (codes "Range") then Some error.Range
    else if bytes_eq word (codes "Unaligned") then Some error.Unaligned
    else if bytes_eq word (codes "Unsupported") then Some error.Unsupported
    else if bytes_eq word (codes "TooLarge") then Some error.TooLarge
    else None

abbrev pub late_error_of : List ℕ → Option FamError
late_error_of word =
    if bytes_eq word (codes "NoSpace") then Some error.NoSpace
    else if bytes_eq word (codes "Exists") then Some error.Exists
    else if bytes_eq word (codes "BadName") then Some error.BadName
    else if bytes_eq word (codes "BadHandle") then Some error.BadHandle
    else if bytes_eq word (codes "InUse") then Some error.InUse
    else if bytes_eq word (codes "Budget") then Some error.Budget
    else if bytes_eq word (codes "DiskFault") then Some error.DiskFault
    else None

abbrev pub plain_error_of : List ℕ → Option FamError
plain_error_of word = or_else (early_error_of word) (late_error_of word)

-- an error with numbers
abbrev pub full_error : List ℕ → ℕ → ℕ → Option FamError
full_error word used need =
    if bytes_eq word (codes "HistoryFull") then Some (error.HistoryFull used need)
    else if bytes_eq word (codes "JournalFull") then Some (error.JournalFull used need)
    else None

abbrev pub full_error_from : List ℕ → Option ℕ → Option ℕ → Option FamError
full_error_from word used need = do
  u ← used
  n ← need
  full_error word u n

abbrev pub full_error_of : Words → Option FamError
full_error_of words = three_of words >>= λ w. full_error_from w.0 (number_of w.1) (number_of w.2)

-- an error
abbrev pub one_error_of : Words → Option FamError
one_error_of words = one_of words >>= plain_error_of

abbrev pub error_of : Words → Option FamError
error_of words = or_else (one_error_of words) (full_error_of words)

-- the answer of a piece
abbrev pub bare_answer : List ℕ → Option PieceAnswer
bare_answer word = if bytes_eq word (codes "ok") then Some answer.Ok else None

abbrev pub data_answer : Words → Option PieceAnswer
data_answer arguments = one_of arguments >>= hex_of >>= λ bytes. Some (answer.Data bytes)

abbrev pub failed_answer : Words → Option PieceAnswer
failed_answer arguments = error_of arguments >>= λ e. Some (answer.Refused e)

abbrev pub spoken_answer : Words → Option PieceAnswer
spoken_answer [] = None
spoken_answer (word ∷ arguments) =
    if bytes_eq word (codes "ok") then data_answer arguments
    else if bytes_eq word (codes "error") then failed_answer arguments
    else None

abbrev pub one_answer : Words → Option PieceAnswer
one_answer words = one_of words >>= bare_answer

abbrev pub answer_of : Words → Option PieceAnswer
answer_of words = or_else (one_answer words) (spoken_answer words)

-- results of operations

-- a result, whose word has slashes in place of spaces
abbrev pub result_from : Option ℕ → Option PieceAnswer → Option OpResult
result_from number given = do
  a ← given
  n ← number
  Some (record { call = n; answer = a })

abbrev pub result_of : List ℕ → Option OpResult
result_of word = two_of (parts 61 word) >>= λ w. result_from (number_of w.0) (answer_of (parts 47 w.1))

-- the result in front of others
abbrev pub result_onto : Option OpResult → Option (List OpResult) → Option (List OpResult)
result_onto first others = first >>= λ r. others >>= λ rs. Some (r ∷ rs)

-- a result for each word
abbrev pub results_of : Words → Option (List OpResult)
results_of [] = Some []
results_of (word ∷ words) = result_onto (result_of word) (results_of words)

-- some results at least
abbrev pub some_results : Words → Option Reply
some_results [] = None
some_results (word ∷ words) = results_of (word ∷ words) >>= λ results. Some (reply.Report results)

-- replies

abbrev pub bare_reply : List ℕ → Option Reply
bare_reply word =
    if bytes_eq word (codes "ok") then Some reply.Done
    else if bytes_eq word (codes "issued") then Some reply.Issued
    else if bytes_eq word (codes "report") then Some (reply.Report [])
    else if bytes_eq word (codes "passed") then Some reply.Passed
    else if bytes_eq word (codes "left") then Some reply.Left
    else if bytes_eq word (codes "crashed") then Some reply.Crashed
    else None

abbrev pub one_reply : Words → Option Reply
one_reply words = one_of words >>= bare_reply

abbrev pub bytes_reply : Words → Option Reply
bytes_reply arguments = one_of arguments >>= hex_of >>= λ bytes. Some (reply.Bytes bytes)

abbrev pub region_reply : Words → Option Reply
region_reply arguments = one_of arguments >>= number_of >>= λ n. Some (reply.Region (record { 0 = n }))

abbrev pub item_from : Option ℕ → Option ℕ → Option ℕ → Option ℕ → Option Reply
item_from item region base size = do
  i ← item
  r ← region
  b ← base
  s ← size
  Some (reply.Item (record { item = record { 0 = i }; region = record { 0 = r }; base = b; size = s }))

abbrev pub item_reply : Words → Option Reply
item_reply arguments =
    four_of arguments >>= λ w. item_from (number_of w.0) (number_of w.1) (number_of w.2) (number_of w.3)

abbrev pub region_stat_from : List ℕ → Option ℕ → Option ℕ → Option ℕ → Option ℕ → Option Reply
region_stat_from name size uid gid mode = do
  s ← size
  u ← uid
  g ← gid
  m ← mode
  Some (reply.RegionStat (record { name = name; size = s; uid = u; gid = g; mode = m }))

abbrev pub region_stat_reply : Words → Option Reply
region_stat_reply arguments =
    five_of arguments >>= λ w. region_stat_from w.0 (number_of w.1) (small_of w.2) (small_of w.3) (mode_of w.4)

abbrev pub stat_from : List ℕ → Option ℕ → Option ℕ → Option ℕ → Option ℕ → Option ℕ → Option ℕ → Option Reply
stat_from name region base size uid gid mode = do
  r ← region
  b ← base
  s ← size
  u ← uid
  g ← gid
  m ← mode
  Some (reply.ItemStat (record { name = name; region = record { 0 = r }; base = b; size = s; uid = u; gid = g; mode = m }))

abbrev pub stat_reply : Words → Option Reply
stat_reply arguments =
    seven_of arguments >>= λ w.
    stat_from w.0 (number_of w.1) (number_of w.2) (number_of w.3) (small_of w.4) (small_of w.5) (mode_of w.6)

abbrev pub value_reply : Words → Option Reply
value_reply arguments = one_of arguments >>= signed_of >>= λ z. Some (reply.Value z)

abbrev pub error_reply : Words → Option Reply
error_reply arguments = error_of arguments >>= λ e. Some (reply.Error e)

-- a reply that tells a thing
abbrev pub told_reply : List ℕ → Words → Option Reply
told_reply word arguments =
    if bytes_eq word (codes "region") then region_reply arguments
    else if bytes_eq word (codes "item") then item_reply arguments
    else if bytes_eq word (codes "value") then value_reply arguments
    else if bytes_eq word (codes "error") then error_reply arguments
    else None

-- a reply with bytes, a name or results
abbrev pub long_reply : List ℕ → Words → Option Reply
long_reply word arguments =
    if bytes_eq word (codes "ok") then bytes_reply arguments
    else if bytes_eq word (codes "region-stat") then region_stat_reply arguments
    else if bytes_eq word (codes "stat") then stat_reply arguments
    else if bytes_eq word (codes "report") then some_results arguments
    else None

abbrev pub spoken_reply : Words → Option Reply
spoken_reply [] = None
spoken_reply (word ∷ arguments) = or_else (told_reply word arguments) (long_reply word arguments)

abbrev pub reply_of : Words → Option Reply
reply_of words = or_else (one_reply words) (spoken_reply words)

-- reply lines

abbrev pub reply_line_from : PeId × ℕ → Option Reply → Option ReplyLine
reply_line_from name given = given >>= λ r. Some (record { pe = name.0; call = name.1; reply = r })

abbrev pub loose_reply_line : Words → Option ReplyLine
loose_reply_line [] = None
loose_reply_line (name ∷ given) = name_of name >>= λ n. reply_line_from n (reply_of given)

-- the reply line whose text this is
abbrev pub reply_line_of : List ℕ → Option ReplyLine
reply_line_of text =
    loose_reply_line (parts 32 text) >>= λ told.
    when (reply_line_fits told && bytes_eq (reply_line_text told) text) told

-- the text of a call

-- the call that a line of a program is
abbrev pub call_on : Line → Option Call
call_on (line.One asked) = Some asked
call_on _ = None

-- the call whose text this is
abbrev pub call_of : List ℕ → Option Call
call_of text = line_of text >>= call_on

-- how many words a statement has that begins with this one
abbrev pub is_one_word : List ℕ → Bool
is_one_word word = bytes_eq word (codes "barrier") || bytes_eq word (codes "crash")

abbrev pub is_two_words : List ℕ → Bool
is_two_words word =
    bytes_eq word (codes "destroy") || bytes_eq word (codes "stat-region") || bytes_eq word (codes "dealloc")
    || bytes_eq word (codes "stat") || bytes_eq word (codes "open") || bytes_eq word (codes "close")
    || bytes_eq word (codes "fence") || bytes_eq word (codes "quiet")

abbrev pub is_three_words : List ℕ → Bool
is_three_words word =
    bytes_eq word (codes "resize") || bytes_eq word (codes "chmod-region") || bytes_eq word (codes "chmod")
    || bytes_eq word (codes "lookup-region") || bytes_eq word (codes "copy-wait")

abbrev pub is_five_words : List ℕ → Bool
is_five_words word =
    bytes_eq word (codes "region") || bytes_eq word (codes "get") || bytes_eq word (codes "get-nb")
    || bytes_eq word (codes "put") || bytes_eq word (codes "put-nb")
    || bytes_eq word (codes "gather-index") || bytes_eq word (codes "gather-index-nb")

abbrev pub is_six_words : List ℕ → Bool
is_six_words word =
    bytes_eq word (codes "alloc") || bytes_eq word (codes "scatter-index") || bytes_eq word (codes "scatter-index-nb")

abbrev pub is_seven_words : List ℕ → Bool
is_seven_words word =
    bytes_eq word (codes "gather") || bytes_eq word (codes "gather-nb") || bytes_eq word (codes "copy")

abbrev pub is_eight_words : List ℕ → Bool
is_eight_words word = bytes_eq word (codes "scatter") || bytes_eq word (codes "scatter-nb")

abbrev pub verb_size : List ℕ → ℕ
verb_size word =
    if is_one_word word then 1
    else if is_two_words word then 2
    else if is_three_words word then 3
    else if bytes_eq word (codes "lookup") then 4
    else if is_five_words word then 5
    else if is_six_words word then 6
    else if is_seven_words word then 7
    else if is_eight_words word then 8
    else 0

-- an atomic has as many as its operation asks for
abbrev pub op_size : List ℕ → ℕ
op_size op = if bytes_eq op (codes "fetch") then 6 else if bytes_eq op (codes "cas") then 8 else 7

-- the first word, and no bytes where there is none
abbrev pub first_of : Words → List ℕ
first_of [] = []
first_of (word ∷ words) = word

-- how many words the statement in front has
abbrev pub call_size : Words → ℕ
call_size [] = 0
call_size (verb ∷ arguments) =
    if bytes_eq verb (codes "atomic") then op_size (first_of (drop 4 arguments)) else verb_size verb

-- what happened

-- what stands behind the colon
abbrev pub behind_colon : Words → Words
behind_colon [] = []
behind_colon (colon ∷ given) = given

-- a call, and the words behind its text
abbrev pub CallInFront : Type 0
CallInFront = Call × Words

abbrev pub call_before : Option Call → Words → Option CallInFront
call_before asked [] = None
call_before asked (word ∷ given) = asked >>= λ c. Some (c, word ∷ given)

abbrev pub call_in_front : Words → Option CallInFront
call_in_front words =
    let n = call_size words in
    if n == 0 then None else call_before (call_of (words_text (take n words))) (behind_colon (drop n words))

abbrev pub meta_from : Call → Option Reply → Option What
meta_from (call.Meta meta_call) given = given >>= λ r. Some (what.Meta meta_call r)
meta_from _ given = None

abbrev pub meta_of : Words → Option What
meta_of words = call_in_front words >>= λ c. meta_from c.0 (reply_of c.1)

abbrev pub issue_from : Call → Option Reply → Option What
issue_from asked given = given >>= λ r. Some (what.Issue asked r)

abbrev pub issue_of : Words → Option What
issue_of words = call_in_front words >>= λ c. issue_from c.0 (reply_of c.1)

-- an error and its doubt
abbrev pub Doubted : Type 0
Doubted = FamError × Bool

abbrev pub doubt_of : List ℕ → List ℕ → Option Doubted
doubt_of word bit = when (bytes_eq word (codes "DiskFault")) (error.DiskFault, bytes_eq bit (codes "1"))

abbrev pub doubtful_of : Words → Option Doubted
doubtful_of words = two_of words >>= λ w. doubt_of w.0 w.1

abbrev pub sure_of : Words → Option Doubted
sure_of words = error_of words >>= λ e. Some (e, false)

abbrev pub doubted_of : Words → Option Doubted
doubted_of words = or_else (doubtful_of words) (sure_of words)

-- behind the word `error`
abbrev pub refusal_of : Words → Option Doubted
refusal_of [] = None
refusal_of (word ∷ arguments) = doubted_of arguments

abbrev pub refused_from : Call → Option Doubted → Option What
refused_from asked given = given >>= λ d. Some (what.Refused asked d.0 d.1)

abbrev pub refused_of : Words → Option What
refused_of words = call_in_front words >>= λ c. refused_from c.0 (refusal_of c.1)

abbrev pub piece_from : Option PieceAnswer → Option ℕ → Option What
piece_from given piece = do
  a ← given
  p ← piece
  Some (what.Piece p a)

abbrev pub piece_of : Words → Option What
piece_of [] = None
piece_of (piece ∷ words) = piece_from (answer_of (behind_colon words)) (small_of piece)

abbrev pub answered_of : Words → Option What
answered_of words = reply_of (behind_colon words) >>= λ r. Some (what.Answer r)

abbrev pub open_of : Words → Option What
open_of words = slot_of (first_of words) >>= λ c. Some (what.OpenContext c)

abbrev pub close_from : Option Reply → Option ℕ → Option What
close_from given context = do
  r ← given
  c ← context
  Some (what.CloseContext c r)

abbrev pub close_of : Words → Option What
close_of [] = None
close_of (context ∷ words) = close_from (reply_of (behind_colon words)) (slot_of context)

abbrev pub quiet_from : Option Reply → Option ℕ → Option What
quiet_from given context = do
  r ← given
  c ← context
  Some (what.Quiet c r)

abbrev pub quiet_of : Words → Option What
quiet_of [] = None
quiet_of (context ∷ words) = quiet_from (reply_of (behind_colon words)) (slot_of context)

abbrev pub wait_from : Option Reply → Option ℕ → Option ℕ → Option What
wait_from given context named = do
  r ← given
  c ← context
  n ← named
  Some (what.Wait c n r)

abbrev pub wait_with : List ℕ → Words → Option What
wait_with context [] = None
wait_with context (named ∷ words) = wait_from (reply_of (behind_colon words)) (slot_of context) (number_of named)

abbrev pub wait_of : Words → Option What
wait_of [] = None
wait_of (context ∷ words) = wait_with context words

abbrev pub fence_of : Words → Option What
fence_of words = one_of words >>= slot_of >>= λ c. Some (what.Fence c)

abbrev pub lose_of : Words → Option What
lose_of words = one_of words >>= small_of >>= λ p. Some (what.Lose p)

abbrev pub bare_what : List ℕ → Option What
bare_what word =
    if bytes_eq word (codes "arrive") then Some what.Arrive
    else if bytes_eq word (codes "leave") then Some what.Leave
    else if bytes_eq word (codes "crash") then Some what.Crash
    else None

abbrev pub one_what : Words → Option What
one_what words = one_of words >>= bare_what

-- one that tells a call
abbrev pub call_what : List ℕ → Words → Option What
call_what word arguments =
    if bytes_eq word (codes "meta") then meta_of arguments
    else if bytes_eq word (codes "issue") then issue_of arguments
    else if bytes_eq word (codes "refused") then refused_of arguments
    else None

-- one of a piece, or the answer of a call
abbrev pub piece_what : List ℕ → Words → Option What
piece_what word arguments =
    if bytes_eq word (codes "piece") then piece_of arguments
    else if bytes_eq word (codes "answer") then answered_of arguments
    else if bytes_eq word (codes "lose") then lose_of arguments
    else None

-- one of a context
abbrev pub context_what : List ℕ → Words → Option What
context_what word arguments =
    if bytes_eq word (codes "open") then open_of arguments
    else if bytes_eq word (codes "close") then close_of arguments
    else if bytes_eq word (codes "fence") then fence_of arguments
    else if bytes_eq word (codes "quiet") then quiet_of arguments
    else if bytes_eq word (codes "wait") then wait_of arguments
    else None

abbrev pub spoken_what : Words → Option What
spoken_what [] = None
spoken_what (word ∷ arguments) =
    or_else (call_what word arguments) (or_else (piece_what word arguments) (context_what word arguments))

abbrev pub what_of : Words → Option What
what_of words = or_else (one_what words) (spoken_what words)

-- its call, if it tells one, is one that can be told
abbrev pub calls_told : What → Bool
calls_told (what.Meta meta_call given) = is_call_told (call.Meta meta_call)
calls_told (what.Issue asked given) = is_call_told asked
calls_told (what.Refused asked error doubt) = is_call_told asked
calls_told _ = true

abbrev pub event_from : PeId × ℕ → Option What → Option Event
event_from name happened = happened >>= λ w. Some (record { pe = name.0; call = name.1; what = w })

abbrev pub loose_event : Words → Option Event
loose_event [] = None
loose_event (name ∷ happened) = name_of name >>= λ n. event_from n (what_of happened)

-- the event whose text this is
abbrev pub event_of : List ℕ → Option Event
event_of text =
    loose_event (parts 32 text) >>= λ event. when (event_fits event && bytes_eq (event_text event) text) event

-- the opening

-- the next numbers
abbrev pub opening_text : ℕ → ℕ → List ℕ
opening_text next_region next_item = words_text (codes "opening" ∷ decimal next_region ∷ decimal next_item ∷ [])

abbrev pub loose_opening : Option ℕ → Option ℕ → Option (ℕ × ℕ)
loose_opening next_region next_item = do
  r ← next_region
  i ← next_item
  Some (r, i)

abbrev pub opening_of : List ℕ → Option (ℕ × ℕ)
opening_of text =
    three_of (parts 32 text) >>= λ w. loose_opening (number_of w.1) (number_of w.2) >>= λ p.
    when (bytes_eq (opening_text p.0 p.1) text) p

-- a region
abbrev pub region_row_from : Option ℕ → Option ℕ → Option ℕ → Option ℕ → Option ℕ → List ℕ → Option RegionRow
region_row_from number uid gid mode size name = do
  n ← number
  u ← uid
  g ← gid
  m ← mode
  s ← size
  Some (record { number = record { 0 = n }; uid = u; gid = g; mode = m; size = s; name = name })

abbrev pub region_row : Words → Option RegionRow
region_row arguments =
    six_of arguments >>= λ w.
    region_row_from (number_of w.0) (small_of w.1) (small_of w.2) (mode_of w.3) (number_of w.4) w.5

abbrev pub loose_region : Words → Option RegionRow
loose_region [] = None
loose_region (word ∷ arguments) = if bytes_eq word (codes "region") then region_row arguments else None

-- a region's row that is shown
abbrev pub is_shown_region : RegionRow → Bool
is_shown_region row = not (region_number row == 0) && is_u32 row.gid

abbrev pub region_line_of : List ℕ → Option RegionRow
region_line_of text =
    loose_region (parts 32 text) >>= λ row. when (is_shown_region row && bytes_eq (region_text row) text) row

-- an item
abbrev pub item_row_from : Option ℕ → Option ℕ → Option ℕ → Option ℕ → Option ℕ → Option ℕ → Option ℕ → List ℕ → Option ItemRow
item_row_from number region base size uid gid mode name = do
  n ← number
  r ← region
  b ← base
  s ← size
  u ← uid
  g ← gid
  m ← mode
  Some (record { number = record { 0 = n }; region = record { 0 = r }; base = b; size = s; uid = u; gid = g; mode = m; name = name })

abbrev pub item_row : List ℕ → Words → Option ItemRow
item_row number arguments =
    seven_of arguments >>= λ w.
    item_row_from (number_of number) (number_of w.0) (number_of w.1) (number_of w.2) (small_of w.3) (small_of w.4) (mode_of w.5) w.6

abbrev pub numbered_item : Words → Option ItemRow
numbered_item [] = None
numbered_item (number ∷ arguments) = item_row number arguments

abbrev pub loose_item : Words → Option ItemRow
loose_item [] = None
loose_item (word ∷ arguments) = if bytes_eq word (codes "item") then numbered_item arguments else None

-- an item's row that is shown
abbrev pub is_shown_item : ItemRow → Bool
is_shown_item row = not (item_number row == 0) && is_u32 row.gid

abbrev pub item_line_of : List ℕ → Option ItemRow
item_line_of text =
    loose_item (parts 32 text) >>= λ row. when (is_shown_item row && bytes_eq (item_text row) text) row

-- the number of events
abbrev pub events_text : ℕ → List ℕ
events_text count = words_text (codes "events" ∷ decimal count ∷ [])

abbrev pub events_of : List ℕ → Option ℕ
events_of text =
    two_of (parts 32 text) >>= λ w. number_of w.1 >>= λ n. when (bytes_eq (events_text n) text) n
