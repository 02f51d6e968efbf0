-- The lines of all replies.
use Rattle.std.proofs.Common.{◌≡◌, ℕ, ◌+◌, Bool, true, false, List, [], ◌∷◌, ◌++◌, length, map, refl, sym, ap, ◌∙◌, append-nil, arith, suc}
use Rattle.std.specs.Prelude.{◌&&◌, Some, None, slice_get}
use Rattle.std.specs.List.{list_all, filter_map, enumerate_from, flat_map, range_with_len}
use Rattle.std.proofs.lemmas.List.Elements.{filter_map-append}
use Rattle.fam_model.specs.declared.event.Event.{Event}
use Rattle.fam_model.specs.declared.report.ReplyLine.{ReplyLine}
use Rattle.fam_model.specs.declared.script.Program.{Program as Text}
use Rattle.fam_model.specs.declared.state.Started.{Started}
use Rattle.fam_model.specs.declared.state.Started.TheVariants as begun
use Rattle.fam_model.specs.History.{calls}
use Rattle.fam_model.specs.Lists.{numbers_below}
use Rattle.fam_model.specs.ReportText.{numbered}
use Rattle.fam_model.specs.Text.{Asked}
use Rattle.fam_schedule.specs.Schedule.{replies_to}
use Rattle.fam_schedule.proofs.Finding.{get_zero, get_next}
use Rattle.fam_schedule.proofs.Follows.{Tells, Settled, Awaits, has_reply, replies_of}
use Rattle.fam_schedule.proofs.Told.{told_as}
use Rattle.fam_audit.specs.declared.turn.Turn.{Turn}
use Rattle.fam_audit.specs.Turns.{line_of, lines_of}
use Rattle.fam_audit.proofs.Turning.{enumerated_more, numbered_as}

second_true : (a b : Bool) → (a && b) ≡ true → b ≡ true
second_true true b e = e
second_true false b e = cc

-- calls that all have replies
replied_lines : (pe n : ℕ) (asked : List Asked) → list_all has_reply asked ≡ true → filter_map (numbered pe) (enumerate_from n asked) ≡ map (line_of pe) (enumerate_from n (replies_of asked))
replied_lines pe n [] h = refl
replied_lines pe n ((asked, None) ∷ rest) h = cc
replied_lines pe n ((asked, Some given) ∷ rest) h =
    let first : ReplyLine = line_of pe (numbered_as n given) in
    ap (λ ls. first ∷ ls) (replied_lines pe (n + 1) rest (second_true (has_reply (told_as asked (Some given))) (list_all has_reply rest) h))

-- the lines of a program in a history
settled_lines : (text : Text) (pe n : ℕ) (history : List Event) → Settled text pe n history → filter_map (numbered pe) (enumerate_from 0 (calls history pe)) ≡ lines_of pe (replies_to history pe)
settled_lines text pe n history s = replied_lines pe 0 (calls history pe) s.replied

awaits_lines : (text : Text) (pe n c : ℕ) (history : List Event) → Awaits text pe n c history → filter_map (numbered pe) (enumerate_from 0 (calls history pe)) ≡ lines_of pe (replies_to history pe)
awaits_lines text pe n c history a =
    let w = a.waits in
    let old = calls w.earlier pe in
    let unanswered : List Asked = told_as a.asked None ∷ [] in
    let same_replies : replies_of (calls history pe) ≡ replies_of old = ap replies_of w.told ∙ filter_map-append (λ (x : Asked). x.1) old unanswered ∙ append-nil (replies_of old) in
    ap (λ cs. filter_map (numbered pe) (enumerate_from 0 cs)) w.told
    ∙ ap (filter_map (numbered pe)) (enumerated_more 0 old unanswered)
    ∙ filter_map-append (numbered pe) (enumerate_from 0 old) (enumerate_from (0 + length old) unanswered)
    ∙ append-nil (filter_map (numbered pe) (enumerate_from 0 old))
    ∙ replied_lines pe 0 old a.settled.replied
    ∙ ap (lines_of pe) (sym same_replies)

pub told_lines : (text : Text) (pe n : ℕ) (s : Started) (history : List Event) → Tells text pe n s history → filter_map (numbered pe) (enumerate_from 0 (calls history pe)) ≡ lines_of pe (replies_to history pe)
told_lines text pe n begun.Nothing history t = settled_lines text pe n history t
told_lines text pe n (begun.Operation c) history t = awaits_lines text pe n c history t
told_lines text pe n (begun.Barrier c) history t = awaits_lines text pe n c history t

-- the lines of all programs, one after the other
lined_from : (f : ℕ → List ReplyLine) (k : ℕ) (turns : List Turn) → ((pe : ℕ) (turn : Turn) → slice_get turns pe ≡ Some turn → turn.lines.items ≡ f (k + pe)) →
    flat_map (λ turn. turn.lines.items) turns ≡ flat_map f (range_with_len k (length turns))
lined_from f k [] h = refl
lined_from f k (turn ∷ turns) h =
    let here : k + 0 ≡ k = omega arith in
    let first : turn.lines.items ≡ f k = h 0 turn (get_zero turn turns) ∙ ap f here in
    let rest = lined_from f (k + 1) turns (λ pe t at. let number : k + suc pe ≡ (k + 1) + pe = omega arith in h (suc pe) t (get_next turn turns pe t at) ∙ ap f number) in
    ap (λ ls. ls ++ flat_map (λ (t : Turn). t.lines.items) turns) first ∙ ap (λ ls. f k ++ ls) rest

pub lined : (f : ℕ → List ReplyLine) (turns : List Turn) → ((pe : ℕ) (turn : Turn) → slice_get turns pe ≡ Some turn → turn.lines.items ≡ f pe) →
    flat_map (λ turn. turn.lines.items) turns ≡ flat_map f (numbers_below (length turns))
lined f turns h = lined_from f 0 turns (λ pe turn at. let number : pe ≡ 0 + pe = omega arith in h pe turn at ∙ ap f number)
