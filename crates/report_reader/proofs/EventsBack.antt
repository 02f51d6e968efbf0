-- Each event is read back from its text.
use Rattle.std.proofs.Common.{◌≡◌, ℕ, suc, ◌<◌, Bool, true, false, not, cond, List, [], ◌∷◌, ◌++◌, length, take, drop, Option, Some, None, refl, sym, ap, ◌∙◌, arith, lit≤, lt_of_lt_of_le}
use Rattle.std.specs.Prelude.{◌==◌, ◌&&◌, ◌||◌, codes}
use Rattle.std.specs.List.{list_all}
use Rattle.std.specs.Str.{bytes_eq}
use Rattle.std.specs.Fmt.{decimal, digits}
use Rattle.std.proofs.lemmas.Bool.{ltb-true}
use Rattle.std.proofs.lemmas.Bool.Decides.{nat_tests}
use Rattle.std.proofs.lemmas.List.{take_at, drop_at}
use Rattle.fam_base.specs.declared.error.FamError.{FamError}
use Rattle.fam_base.specs.declared.error.FamError.TheVariants as error
use Rattle.fam_base.specs.declared.naming.PeId.{PeId}
use Rattle.fam_model.specs.declared.call.Call.{Call}
use Rattle.fam_model.specs.declared.call.Call.TheVariants as call
use Rattle.fam_model.specs.declared.event.Event.{Event}
use Rattle.fam_model.specs.declared.event.What.{What}
use Rattle.fam_model.specs.declared.event.What.TheVariants as what
use Rattle.fam_model.specs.declared.reply.Reply.{Reply}
use Rattle.fam_model.specs.declared.reply.Reply.TheVariants as reply
use Rattle.fam_model.specs.CallText.{call_words, meta_words}
use Rattle.fam_model.specs.EventText.{call_name, doubt_words, what_words, event_text}
use Rattle.fam_model.specs.Lists.{◌>>=◌, when}
use Rattle.fam_model.specs.ReplyText.{error_words, answer_words, reply_words}
use Rattle.fam_model.specs.Shape.{is_context}
use Rattle.fam_model.specs.Values.{is_u32, is_u64, error_fits, answer_fits, reply_fits}
use Rattle.fam_model.specs.Words.{context_text, words_text}
use Rattle.fam_script.specs.Reading.{Words, parts, slot_of, or_else, call_of}
use Rattle.fam_script.proofs.Splits.{lacks}
use Rattle.fam_script.proofs.Tests.{and_left, and_right, and_both, all_both, bind_some, when_some, when_true, same_bytes, bytes_same}
use Rattle.fam_script.proofs.WordsBack.{is_printed, byte_back, slot_of-cons, decimal_printed}
use Rattle.report_reader.specs.EventForm.{is_call_told, is_issue_reply, is_disk_fault, what_fits, event_fits}
use Rattle.report_reader.specs.Reading.{reply_of, Doubted, CallInFront, call_before, call_in_front, behind_colon, meta_from, issue_from, refused_from, doubted_of, refusal_of, piece_from, close_from, quiet_from, wait_from, bare_what, spoken_what, what_of, event_from, loose_event, event_of}
use Rattle.report_reader.proofs.Words.{both, all_printed, name_back, name_printed, words_back, words_lack_feed}
use Rattle.report_reader.proofs.RepliesBack.{HasWord, not_one, number_is, small_is, u64_printed, u32_printed, error_back, error_plain, answer_back, answer_plain, reply_back, reply_printed}
use Rattle.report_reader.proofs.CallWords.{call_printed, call_sized}
use Rattle.report_reader.proofs.CallsBack.{call_back}

-- contexts

context_low : (c : ℕ) → is_context c ≡ true → c < 8
context_low c e = ltb-true c 8 e

context_is : (c : ℕ) → is_context c ≡ true → slot_of (context_text c) ≡ Some c
context_is c e = slot_of-cons 99 (decimal c) ∙ byte_back c (lt_of_lt_of_le (context_low c e) (lit≤ tt))

context_printed : (c : ℕ) → is_context c ≡ true → is_printed (context_text c) ≡ true
context_printed c e = decimal_printed c (lt_of_lt_of_le (context_low c e) (lit≤ tt))

-- the words of a reply

reply_has_word : (r : Reply) → HasWord (reply_words r)
reply_has_word reply.Done = (_, _, refl)
reply_has_word reply.Issued = (_, _, refl)
reply_has_word (reply.Bytes bytes) = (_, _, refl)
reply_has_word (reply.Region region) = (_, _, refl)
reply_has_word (reply.Item d) = (_, _, refl)
reply_has_word (reply.RegionStat row) = (_, _, refl)
reply_has_word (reply.ItemStat row) = (_, _, refl)
reply_has_word (reply.Value z) = (_, _, refl)
reply_has_word (reply.Report results) = (_, _, refl)
reply_has_word reply.Passed = (_, _, refl)
reply_has_word reply.Left = (_, _, refl)
reply_has_word reply.Crashed = (_, _, refl)
reply_has_word (reply.Error e) = (_, _, refl)

issue_fits : (r : Reply) → is_issue_reply r ≡ true → reply_fits r ≡ true
issue_fits reply.Done h = absurd cc
issue_fits reply.Issued h = refl
issue_fits (reply.Bytes bytes) h = absurd cc
issue_fits (reply.Region region) h = absurd cc
issue_fits (reply.Item d) h = absurd cc
issue_fits (reply.RegionStat row) h = absurd cc
issue_fits (reply.ItemStat row) h = absurd cc
issue_fits (reply.Value z) h = absurd cc
issue_fits (reply.Report results) h = absurd cc
issue_fits reply.Passed h = absurd cc
issue_fits reply.Left h = absurd cc
issue_fits reply.Crashed h = absurd cc
issue_fits (reply.Error e) h = h

-- a call in front

not_empty : (words : Words) → HasWord words → (length words == 0) ≡ false
not_empty words h = ap (λ (ws : Words). length ws == 0) h.2 ∙ not_zero (length h.1)
  where
    not_zero : (n : ℕ) → (suc n == 0) ≡ false
    not_zero n = grind (arith, nat_tests)

abbrev front_of : ℕ → Words → Option CallInFront
front_of n words = cond (n == 0) None (call_before (call_of (words_text (take n words))) (behind_colon (drop n words)))

abbrev some_front : Call → Words → Option CallInFront
some_front c ws = Some (c, ws)

before_is : (o : Option Call) (given : Words) → HasWord given → call_before o given ≡ (o >>= λ c. Some (c, given))
before_is o given h =
    ap (call_before o) h.2 ∙ ap (λ (ws : Words). o >>= λ c. some_front c ws) (sym h.2)

pub front_back : (asked : Call) (given : Words) → is_call_told asked ≡ true → HasWord given →
    call_in_front (call_words asked ++ (codes ":" ∷ given)) ≡ Some (asked, given)
front_back asked given told h =
    let words = call_words asked in
    let all = words ++ (codes ":" ∷ given) in
    let sized = call_sized asked (codes ":" ∷ given) told in
    let front : take (length words) all ≡ words = take_at words (codes ":" ∷ given) (length words) refl in
    let rest : drop (length words) all ≡ codes ":" ∷ given = drop_at words (codes ":" ∷ given) (length words) refl in
    ap (λ (n : ℕ). front_of n all) sized.0
    ∙ ap (λ (t : Bool). cond t None (call_before (call_of (words_text (take (length words) all))) (behind_colon (drop (length words) all)))) (not_empty words sized.1)
    ∙ (λ i. call_before (call_of (words_text (front i))) (behind_colon (rest i)))
    ∙ before_is (call_of (words_text words)) given h
    ∙ ap (λ (o : Option Call). o >>= λ c. some_front c given) (call_back asked told)

-- a verb in front of words that there are is no event of one word
not_bare : (verb : List ℕ) (words : Words) → HasWord words → what_of (verb ∷ words) ≡ spoken_what (verb ∷ words)
not_bare verb words h = ap (λ (o : Option (List ℕ)). or_else (o >>= bare_what) (spoken_what (verb ∷ words))) (not_one verb words h)

grown : (words more : Words) → HasWord words → HasWord (words ++ more)
grown words more h = (h.0, h.1 ++ more, ap (λ (ws : Words). ws ++ more) h.2)

-- doubt

abbrev sure : FamError → Option Doubted
sure e = Some (e, false)

doubted_back : (e : FamError) (d : Bool) → error_fits e ≡ true → (is_disk_fault e || not d) ≡ true → doubted_of (error_words e ++ doubt_words e d) ≡ Some (e, d)
unfolding digits
doubted_back error.Memory false h k = refl
doubted_back error.Memory true h k = absurd cc
doubted_back error.Absent false h k = refl
doubted_back error.Absent true h k = absurd cc
doubted_back error.NoPermission false h k = refl
doubted_back error.NoPermission true h k = absurd cc
doubted_back error.Range false h k = refl
doubted_back error.Range true h k = absurd cc
doubted_back error.Unaligned false h k = refl
doubted_back error.Unaligned true h k = absurd cc
doubted_back error.Unsupported false h k = refl
doubted_back error.Unsupported true h k = absurd cc
doubted_back error.TooLarge false h k = refl
doubted_back error.TooLarge true h k = absurd cc
doubted_back error.NoSpace false h k = refl
doubted_back error.NoSpace true h k = absurd cc
doubted_back error.Exists false h k = refl
doubted_back error.Exists true h k = absurd cc
doubted_back error.BadName false h k = refl
doubted_back error.BadName true h k = absurd cc
doubted_back error.BadHandle false h k = refl
doubted_back error.BadHandle true h k = absurd cc
doubted_back error.InUse false h k = refl
doubted_back error.InUse true h k = absurd cc
doubted_back error.Budget false h k = refl
doubted_back error.Budget true h k = absurd cc
doubted_back (error.HistoryFull used need) false h k = ap (λ (o : Option FamError). o >>= λ found. sure found) (error_back (error.HistoryFull used need) h)
doubted_back (error.HistoryFull used need) true h k = absurd cc
doubted_back (error.JournalFull used need) false h k = ap (λ (o : Option FamError). o >>= λ found. sure found) (error_back (error.JournalFull used need) h)
doubted_back (error.JournalFull used need) true h k = absurd cc
doubted_back error.DiskFault false h k = refl
doubted_back error.DiskFault true h k = refl

doubt_printed : (e : FamError) (d : Bool) → list_all is_printed (doubt_words e d) ≡ true
unfolding digits
doubt_printed error.Memory d = refl
doubt_printed error.Absent d = refl
doubt_printed error.NoPermission d = refl
doubt_printed error.Range d = refl
doubt_printed error.Unaligned d = refl
doubt_printed error.Unsupported d = refl
doubt_printed error.TooLarge d = refl
doubt_printed error.NoSpace d = refl
doubt_printed error.Exists d = refl
doubt_printed error.BadName d = refl
doubt_printed error.BadHandle d = refl
doubt_printed error.InUse d = refl
doubt_printed error.Budget d = refl
doubt_printed (error.HistoryFull used need) d = refl
doubt_printed (error.JournalFull used need) d = refl
doubt_printed error.DiskFault false = refl
doubt_printed error.DiskFault true = refl

-- what happened

abbrev some_what : What → Option What
some_what w = Some w

what_back : (w : What) → what_fits w ≡ true → what_of (what_words w) ≡ Some w
what_back (what.Meta m given) h =
    let told = and_left (is_call_told (call.Meta m)) (reply_fits given) h in
    let fits = and_right (is_call_told (call.Meta m)) (reply_fits given) h in
    let words = meta_words m ++ (codes ":" ∷ reply_words given) in
    not_bare (codes "meta") words (grown (meta_words m) (codes ":" ∷ reply_words given) (call_sized (call.Meta m) [] told).1)
    ∙ ap (λ (o : Option CallInFront). or_else (o >>= λ c. meta_from c.0 (reply_of c.1)) None) (front_back (call.Meta m) (reply_words given) told (reply_has_word given))
    ∙ ap (λ (o : Option Reply). or_else (o >>= λ r. some_what (what.Meta m r)) None) (reply_back given fits)
what_back (what.Issue asked given) h =
    let told = and_left (is_call_told asked) (is_issue_reply given) h in
    let fits = issue_fits given (and_right (is_call_told asked) (is_issue_reply given) h) in
    let words = call_words asked ++ (codes ":" ∷ reply_words given) in
    not_bare (codes "issue") words (grown (call_words asked) (codes ":" ∷ reply_words given) (call_sized asked [] told).1)
    ∙ ap (λ (o : Option CallInFront). or_else (o >>= λ c. issue_from c.0 (reply_of c.1)) None) (front_back asked (reply_words given) told (reply_has_word given))
    ∙ ap (λ (o : Option Reply). or_else (o >>= λ r. some_what (what.Issue asked r)) None) (reply_back given fits)
what_back (what.Piece piece given) h =
    let p = small_is piece (and_left (is_u32 piece) (answer_fits given) h) in
    let a = answer_back given (and_right (is_u32 piece) (answer_fits given) h) in
    λ i. or_else (piece_from (a i) (p i)) None
what_back (what.Answer given) h = ap (λ (o : Option Reply). or_else (o >>= λ r. some_what (what.Answer r)) None) (reply_back given h)
what_back (what.OpenContext context) h = ap (λ (o : Option ℕ). o >>= λ c. some_what (what.OpenContext c)) (context_is context h)
what_back (what.CloseContext context given) h =
    let c = context_is context (and_left (is_context context) (reply_fits given) h) in
    let r = reply_back given (and_right (is_context context) (reply_fits given) h) in
    λ i. close_from (r i) (c i)
what_back (what.Fence context) h = ap (λ (o : Option ℕ). o >>= λ c. some_what (what.Fence c)) (context_is context h)
what_back (what.Quiet context given) h =
    let c = context_is context (and_left (is_context context) (reply_fits given) h) in
    let r = reply_back given (and_right (is_context context) (reply_fits given) h) in
    λ i. quiet_from (r i) (c i)
what_back (what.Wait context named given) h =
    let two = and_left (is_context context && is_u64 named) (reply_fits given) h in
    let c = context_is context (and_left (is_context context) (is_u64 named) two) in
    let n = number_is named (and_right (is_context context) (is_u64 named) two) in
    let r = reply_back given (and_right (is_context context && is_u64 named) (reply_fits given) h) in
    λ i. wait_from (r i) (c i) (n i)
what_back what.Arrive h = refl
what_back what.Leave h = refl
what_back what.Crash h = refl
what_back (what.Lose piece) h = ap (λ (o : Option ℕ). or_else (o >>= λ p. some_what (what.Lose p)) None) (small_is piece h)
what_back (what.Refused asked e d) h =
    let two = and_left (is_call_told asked && error_fits e) (is_disk_fault e || not d) h in
    let told = and_left (is_call_told asked) (error_fits e) two in
    let fits = and_right (is_call_told asked) (error_fits e) two in
    let sure = and_right (is_call_told asked && error_fits e) (is_disk_fault e || not d) h in
    let given = codes "error" ∷ (error_words e ++ doubt_words e d) in
    let words = call_words asked ++ (codes ":" ∷ given) in
    not_bare (codes "refused") words (grown (call_words asked) (codes ":" ∷ given) (call_sized asked [] told).1)
    ∙ ap (λ (o : Option CallInFront). or_else (o >>= λ c. refused_from c.0 (refusal_of c.1)) None) (front_back asked given told (codes "error", error_words e ++ doubt_words e d, refl))
    ∙ ap (λ (o : Option Doubted). or_else (o >>= λ w. some_what (what.Refused asked w.0 w.1)) None) (doubted_back e d fits sure)

answered_printed : (words answer : Words) → list_all is_printed words ≡ true → list_all is_printed answer ≡ true → list_all is_printed (words ++ (codes ":" ∷ answer)) ≡ true
answered_printed words answer p q = all_both is_printed words (codes ":" ∷ answer) p q

what_printed : (w : What) → what_fits w ≡ true → list_all is_printed (what_words w) ≡ true
what_printed (what.Meta m given) h =
    answered_printed (meta_words m) (reply_words given) (call_printed (call.Meta m) (and_left (is_call_told (call.Meta m)) (reply_fits given) h))
    (reply_printed given (and_right (is_call_told (call.Meta m)) (reply_fits given) h))
what_printed (what.Issue asked given) h =
    answered_printed (call_words asked) (reply_words given) (call_printed asked (and_left (is_call_told asked) (is_issue_reply given) h))
    (reply_printed given (issue_fits given (and_right (is_call_told asked) (is_issue_reply given) h)))
what_printed (what.Piece piece given) h =
    both (u32_printed piece (and_left (is_u32 piece) (answer_fits given) h)) (all_printed (answer_words given) (answer_plain given (and_right (is_u32 piece) (answer_fits given) h)))
what_printed (what.Answer given) h = reply_printed given h
what_printed (what.OpenContext context) h = both (context_printed context h) refl
what_printed (what.CloseContext context given) h =
    both (context_printed context (and_left (is_context context) (reply_fits given) h)) (reply_printed given (and_right (is_context context) (reply_fits given) h))
what_printed (what.Fence context) h = both (context_printed context h) refl
what_printed (what.Quiet context given) h =
    both (context_printed context (and_left (is_context context) (reply_fits given) h)) (reply_printed given (and_right (is_context context) (reply_fits given) h))
what_printed (what.Wait context named given) h =
    let two = and_left (is_context context && is_u64 named) (reply_fits given) h in
    both (context_printed context (and_left (is_context context) (is_u64 named) two)) (both (u64_printed named (and_right (is_context context) (is_u64 named) two))
    (reply_printed given (and_right (is_context context && is_u64 named) (reply_fits given) h)))
what_printed what.Arrive h = refl
what_printed what.Leave h = refl
what_printed what.Crash h = refl
what_printed (what.Lose piece) h = both (u32_printed piece h) refl
what_printed (what.Refused asked e d) h =
    let two = and_left (is_call_told asked && error_fits e) (is_disk_fault e || not d) h in
    answered_printed (call_words asked) (codes "error" ∷ (error_words e ++ doubt_words e d)) (call_printed asked (and_left (is_call_told asked) (error_fits e) two))
    (all_both is_printed (error_words e) (doubt_words e d) (all_printed (error_words e) (error_plain e (and_right (is_call_told asked) (error_fits e) two))) (doubt_printed e d))

-- events

module _ (event : Event) (h : event_fits event ≡ true) where
  numbers : (is_u32 event.pe.0 && is_u64 event.call) ≡ true
  numbers = and_left (is_u32 event.pe.0 && is_u64 event.call) (what_fits event.what) h

  pe-fits : is_u32 event.pe.0 ≡ true
  pe-fits = and_left (is_u32 event.pe.0) (is_u64 event.call) numbers

  call-fits : is_u64 event.call ≡ true
  call-fits = and_right (is_u32 event.pe.0) (is_u64 event.call) numbers

  happened-fits : what_fits event.what ≡ true
  happened-fits = and_right (is_u32 event.pe.0 && is_u64 event.call) (what_fits event.what) h

  event_printed : list_all is_printed (call_name event.pe event.call ∷ what_words event.what) ≡ true
  event_printed = both (name_printed event.pe event.call pe-fits call-fits) (what_printed event.what happened-fits)

  loose_back : loose_event (parts 32 (event_text event)) ≡ Some event
  loose_back =
      ap loose_event (words_back (call_name event.pe event.call) (what_words event.what) event_printed)
      ∙ ap (λ (o : Option (PeId × ℕ)). o >>= λ n. event_from n (what_of (what_words event.what))) (name_back event.pe event.call pe-fits call-fits)
      ∙ ap (event_from (event.pe, event.call)) (what_back event.what happened-fits)

  pub event_back : event_of (event_text event) ≡ Some event
  event_back =
      ap (λ (o : Option Event). o >>= λ found. when (event_fits found && bytes_eq (event_text found) (event_text event)) found) loose_back
      ∙ when_true (event_fits event && bytes_eq (event_text event) (event_text event)) event
      (and_both (event_fits event) (bytes_eq (event_text event) (event_text event)) h (bytes_same (event_text event) (event_text event) refl))

  pub event_lacks_feed : lacks 10 (event_text event) ≡ true
  event_lacks_feed = words_lack_feed (call_name event.pe event.call) (what_words event.what) event_printed

-- what is read of a line has that line as its text
pub event_takes : (text : List ℕ) (event : Event) → event_of text ≡ Some event → (event_fits event ≡ true) × (text ≡ event_text event)
event_takes text event e =
    let b = bind_some (loose_event (parts 32 text)) (λ found. when (event_fits found && bytes_eq (event_text found) text) found) event e in
    let w = when_some (event_fits b.0 && bytes_eq (event_text b.0) text) b.0 event b.2 in (
      ap event_fits (sym w.1) ∙ and_left (event_fits b.0) (bytes_eq (event_text b.0) text) w.0,
      sym (same_bytes (event_text b.0) text (and_right (event_fits b.0) (bytes_eq (event_text b.0) text) w.0)) ∙ ap event_text w.1,
    )
