-- The texts of errors and replies.
use Rattle.std.specs.Prelude.{ℕ, List, [], ◌∷◌, ◌++◌, map, codes}
use Rattle.std.specs.List.{join_with_byte}
use Rattle.std.specs.Fmt.{decimal, signed_decimal}
use Rattle.fam_base.specs.Error.{word_of}
use Rattle.fam_base.specs.declared.error.FamError.{FamError}
use Rattle.fam_base.specs.declared.error.FamError.TheVariants.{HistoryFull, JournalFull}
use Rattle.fam_model.specs.declared.reply.PieceAnswer.{PieceAnswer}
use Rattle.fam_model.specs.declared.reply.PieceAnswer.TheVariants as answer
use Rattle.fam_model.specs.declared.reply.OpResult.{OpResult}
use Rattle.fam_model.specs.declared.reply.Reply.{Reply}
use Rattle.fam_model.specs.declared.reply.Reply.TheVariants as reply
use Rattle.fam_model.specs.Words.{hex_text, mode_text, words_text}

-- an error's word, and its numbers where it has some
abbrev pub error_words : FamError → List (List ℕ)
error_words (HistoryFull used need) = word_of (HistoryFull used need) ∷ decimal used ∷ decimal need ∷ []
error_words (JournalFull used need) = word_of (JournalFull used need) ∷ decimal used ∷ decimal need ∷ []
error_words error = word_of error ∷ []

-- the answer of a piece
abbrev pub answer_words : PieceAnswer → List (List ℕ)
answer_words answer.Ok = codes "ok" ∷ []
answer_words (answer.Data bytes) = codes "ok" ∷ hex_text bytes ∷ []
answer_words (answer.Refused error) = codes "error" ∷ error_words error

-- a result in a report of operations, as one word: the same words with slashes between them
abbrev pub result_word : OpResult → List ℕ
result_word result = decimal result.call ++ codes "=" ++ join_with_byte 47 (answer_words result.answer)

-- the words of a reply
abbrev pub reply_words : Reply → List (List ℕ)
reply_words reply.Done = codes "ok" ∷ []
reply_words reply.Issued = codes "issued" ∷ []
reply_words (reply.Bytes bytes) = codes "ok" ∷ hex_text bytes ∷ []
reply_words (reply.Region region) = codes "region" ∷ decimal region.0 ∷ []
reply_words (reply.Item d) = codes "item" ∷ decimal d.item.0 ∷ decimal d.region.0 ∷ decimal d.base ∷ decimal d.size ∷ []
reply_words (reply.RegionStat row) =
    codes "region-stat" ∷ row.name ∷ decimal row.size ∷ decimal row.uid ∷ decimal row.gid ∷ mode_text row.mode ∷ []
reply_words (reply.ItemStat row) =
    codes "stat" ∷ row.name ∷ decimal row.region.0 ∷ decimal row.base ∷ decimal row.size
    ∷ decimal row.uid ∷ decimal row.gid ∷ mode_text row.mode ∷ []
reply_words (reply.Value number) = codes "value" ∷ signed_decimal number ∷ []
reply_words (reply.Report results) = codes "report" ∷ map result_word results
reply_words reply.Passed = codes "passed" ∷ []
reply_words reply.Left = codes "left" ∷ []
reply_words reply.Crashed = codes "crashed" ∷ []
reply_words (reply.Error error) = codes "error" ∷ error_words error

-- the text of a reply
abbrev pub reply_text : Reply → List ℕ
reply_text given = words_text (reply_words given)
