-- The line that tells of a trial run.
use Rattle.std.specs.Prelude.{ℕ, ◌+◌, ◌*◌, ◌%◌, ◌^◌, Bool, true, false, not, List, [], ◌∷◌, ◌++◌, length, sum_by, count_by, codes}
use Rattle.std.specs.List.{enumerate_from}
use Rattle.std.specs.Fmt.{decimal}
use Rattle.fam_model.specs.declared.event.Event.{Event}
use Rattle.fam_model.specs.declared.reply.Reply.{Reply}
use Rattle.fam_model.specs.declared.reply.Reply.TheVariants as reply
use Rattle.fam_model.specs.declared.report.ReplyLine.{ReplyLine}
use Rattle.fam_model.specs.declared.state.State.{State}
use Rattle.fam_model.specs.PieceStep.{item_bytes}
use Rattle.fam_model.specs.ReportText.{reply_lines}
use Rattle.fam_model.specs.Rows.{item_number}
use Rattle.fam_model.specs.Words.{words_text, text_of}

-- replies

-- a refusal
abbrev pub is_error : Reply → Bool
is_error (reply.Error error) = true
is_error _ = false

-- the line of a refusal
abbrev pub is_refusal : ReplyLine → Bool
is_refusal line = is_error line.reply

-- memory

-- bytes weighted by the number of their item and their place in it
abbrev pub item_sum : ℕ → List ℕ → ℕ
item_sum item bytes = sum_by (λ entry. entry.1 * (4096 * item + entry.0 + 1)) (enumerate_from 0 bytes)

-- the sum over all items that are there, in 64 bits
abbrev pub memory_sum : State → ℕ
memory_sum state = sum_by (λ row. item_sum (item_number row) (item_bytes state.memory (item_number row))) state.rows.items % 2 ^ 64

-- the line

-- the words that name a run: its seed, and how many programs of how many calls
abbrev pub run_words : ℕ → ℕ → ℕ → List (List ℕ)
run_words seed programs calls = codes "trial" ∷ decimal seed ∷ decimal programs ∷ decimal calls ∷ []

-- so many events, and so many calls that were served
abbrev pub served_words : ℕ → ℕ → List (List ℕ)
served_words events served = codes "events" ∷ decimal events ∷ codes "ok" ∷ decimal served ∷ []

-- so many calls that were refused, and the sum over memory
abbrev pub refused_words : ℕ → ℕ → List (List ℕ)
refused_words refused sum = codes "refused" ∷ decimal refused ∷ codes "sum" ∷ decimal sum ∷ []

-- all words, by the history of the run, its reply lines and the state after it
abbrev pub trial_words : ℕ → ℕ → ℕ → List Event → List ReplyLine → State → List (List ℕ)
trial_words seed programs calls history replies state =
    run_words seed programs calls
    ++ served_words (length history) (count_by (λ line. not (is_refusal line)) replies)
    ++ refused_words (count_by is_refusal replies) (memory_sum state)

-- the line of a history with these reply lines
abbrev pub trial_text : ℕ → ℕ → ℕ → List Event → List ReplyLine → State → List ℕ
trial_text seed programs calls history replies state =
    text_of (words_text (trial_words seed programs calls history replies state) ∷ [])

-- the line of a history
abbrev pub trial_line : ℕ → ℕ → ℕ → List Event → State → List ℕ
trial_line seed programs calls history state =
    trial_text seed programs calls history (reply_lines programs history) state
