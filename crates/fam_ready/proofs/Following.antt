-- The lists after an event are those of the pieces that may come then.
use Rattle.std.proofs.Common.{◌≡◌, ℕ, zero, suc, ◌+◌, ◌<◌, ◌≤◌, Bool, true, false, List, [], ◌∷◌, ◌++◌, refl, sym, ap, ◌∙◌, arith, subst, inl, inr, length, get_or, map}
use Rattle.std.specs.Prelude.{◌==◌, ◌%◌, ◌&&◌, ◌||◌, ◌⊎◌, ◌≢◌, not, nat_le, nat_lt, Option, Some, None, slice_get, slice_set}
use Rattle.std.specs.Option.{option_map}
use Rattle.std.proofs.lemmas.Bool.{eqb-true}
use Rattle.std.proofs.lemmas.Bool.Decides.{nat_tests}
use Rattle.std.proofs.lemmas.Option.{slice_get-map}
use Rattle.fam_context.specs.Order.{are_in_turn, reads_of}
use Rattle.fam_model.specs.declared.call.Call.{Call}
use Rattle.fam_model.specs.declared.event.Event.{Event}
use Rattle.fam_model.specs.declared.event.What.{What}
use Rattle.fam_model.specs.declared.event.What.TheVariants as what
use Rattle.fam_model.specs.declared.piece.MarkedPiece.{MarkedPiece}
use Rattle.fam_model.specs.declared.piece.Operation.{Operation}
use Rattle.fam_model.specs.declared.reply.Reply.{Reply}
use Rattle.fam_model.specs.declared.reply.Reply.TheVariants as reply
use Rattle.fam_model.specs.declared.state.Context.{Context}
use Rattle.fam_model.specs.declared.state.ProgramState.{ProgramState}
use Rattle.fam_model.specs.declared.state.State.{State}
use Rattle.fam_model.specs.Limits.{Limits}
use Rattle.fam_model.specs.Lists.{is_some_and, place_of}
use Rattle.fam_model.specs.Operations.{is_copy}
use Rattle.fam_model.specs.PieceStep.{is_read, is_copy_read}
use Rattle.fam_model.specs.Programs.{call_number, Placed, placed, program_of, is_running}
use Rattle.fam_model.specs.Shape.{is_shaped}
use Rattle.fam_model.specs.Step.{step}
use Rattle.fam_model.specs.Turn.{is_in_turn, is_next, is_idle}
use Rattle.fam_schedule.specs.Made.{StandsAt}
use Rattle.fam_schedule.specs.Schedule.{PieceName}
use Rattle.fam_schedule.proofs.Finding.{get_zero, get_next, get_behind}
use Rattle.fam_schedule.proofs.Issued.{odd_twice}
use Rattle.fam_schedule.proofs.Keeps.{becomes, get_both, with_both, becomes_kind}
use Rattle.fam_schedule.proofs.Places.{get_set_same}
use Rattle.fam_ready.specs.Ready.{AreReady, IsTidy, IsTidyProgram}
use Rattle.fam_ready.specs.Telling.{AsksAgain, Follows, FollowsIssue, FollowsPiece, FollowsReply, is_between, is_call, is_either, is_piece, lies_in}
use Rattle.fam_ready.proofs.Agreeing.{Agrees, ChangesProgram, agree_ready, agree_same, agree_told, ready_agree}
use Rattle.fam_ready.proofs.Coming.{same_some, first_true, second_true, ComesIn, named}
use Rattle.fam_ready.proofs.Events.{EventTurns, StepTurns, step_turns}
use Rattle.fam_ready.proofs.Freed.{AnsweredIn, IsElsewhere, ReadsInTurn, answered_same, place_at, stays_on}
use Rattle.fam_ready.proofs.Kept.{SameIn, issued_same}
use Rattle.fam_ready.proofs.Programs.{before_same, comes_lies, lies_from, now_there, stayed_same, turned_same}
use Rattle.fam_ready.proofs.Standing.{may_come_at, place_in, placed_at}
use Rattle.fam_ready.proofs.Tidy.{answer_tidy, before_tidy, issue_tidy, kept_tidy}
use Rattle.fam_ready.proofs.Turns.{IsAnswered, IsAsBefore, IsIssued, IssueTurns, Stays, Turns}

-- a copy reads at even places

turn_at : (rs : List Bool) (j : ℕ) → are_in_turn rs ≡ true → slice_get rs j ≡ Some true → (j % 2 == 1) ≡ false
turn_at rs zero turns there = refl
turn_at [] (suc j) turns there = cc
turn_at (first ∷ []) (suc j) turns there = cc
turn_at (first ∷ second ∷ others) (suc zero) turns there =
    let is : second ≡ true = same_some second true (sym (get_zero second others) ∙ get_behind first (second ∷ others) 0 true there) in
    let writes : not second ≡ true = first_true (not second) (are_in_turn others) (second_true first (not second && are_in_turn others) (regroup first (not second) (are_in_turn others) turns)) in
    let no : false ≡ true = ap not (sym is) ∙ writes in cc
  where
    regroup : (a b c : Bool) → (a && b && c) ≡ true → (a && (b && c)) ≡ true
    regroup true true c e = e
    regroup true false c e = e
    regroup false b c e = e
turn_at (first ∷ second ∷ others) (suc (suc j)) turns there =
    odd_twice j
    ∙ turn_at others j (last (first) (not second) (are_in_turn others) turns)
    (get_behind second others j true (get_behind first (second ∷ others) (suc j) true there))
  where
    last : (a b c : Bool) → (a && b && c) ≡ true → c ≡ true
    last true true c e = e
    last true false c e = cc
    last false b c e = cc

reads_turn : (v j : ℕ) (x y : Context) (a : IsAnswered v j x y) →
    (is_copy a.operation.kind ≡ true → are_in_turn (reads_of (with_both a.operation a.reads j a.first a.second).pieces) ≡ true) → ReadsInTurn a.reads j
reads_turn v j x y a turns reads =
    let is : (is_copy a.operation.kind && is_read a.left.piece.kind) ≡ true = sym a.reads_is ∙ reads in
    let copy : is_copy a.operation.kind ≡ true = first_true (is_copy a.operation.kind) (is_read a.left.piece.kind) is in
    let read : is_read a.left.piece.kind ≡ true = second_true (is_copy a.operation.kind) (is_read a.left.piece.kind) is in
    let now = becomes a.reads j a.first a.second j a.left in
    let piece : slice_get (with_both a.operation a.reads j a.first a.second).pieces j ≡ Some now = get_both a.reads j a.first a.second a.operation.pieces j a.left a.left_there in
    let kind : is_read now.piece.kind ≡ true = ap is_read (becomes_kind a.first a.second (j == j) (a.reads && (j == j + 1)) a.left a.changes) ∙ read in
    let there : slice_get (reads_of (with_both a.operation a.reads j a.first a.second).pieces) j ≡ Some true =
    slice_get-map (λ (p : MarkedPiece). is_read p.piece.kind) (with_both a.operation a.reads j a.first a.second).pieces j
    ∙ ap (option_map (λ (p : MarkedPiece). is_read p.piece.kind)) piece ∙ ap Some kind in
    turn_at (reads_of (with_both a.operation a.reads j a.first a.second).pieces) j (turns copy) there

-- tests

neither : (a b : Bool) → (a || b) ≡ false → (a ≡ false) × (b ≡ false)
neither false false e = (refl, refl)
neither false true e = cc
neither true b e = cc

not_both : (a b : Bool) → a ≡ true → b ≡ true → (a && b) ≡ false → ⊥
not_both a b e f h = let yes : (a && b) ≡ true = rw (e, f) refl in let no : true ≡ false = sym yes ∙ h in cc

between_is : (from to k : ℕ) → from ≤ k → k < to → (nat_le from k && nat_lt k to) ≡ true
between_is from to k h e = grind (arith, nat_tests)

-- a piece

abbrev asked_again : ℕ → ℕ → Context → ℕ → ℕ → ℕ → ℕ → Bool
asked_again v j y from to = is_either (is_either (is_piece v j) (is_piece v (j + 1))) (is_between y from to)

elsewhere : (v w j from to u i place : ℕ) (q : ProgramState) (y : Context) → IsTidyProgram q → slice_get q.contexts place ≡ Some y → v ≡ w → asked_again v j y from to u i ≡ false →
    IsElsewhere w j y from to u i
elsewhere v w j from to u i place q y tidy there same absent =
    let parts = neither (is_piece v j u i || is_piece v (j + 1) u i) (is_between y from to u i) absent in
    let pieces = neither (is_piece v j u i) (is_piece v (j + 1) u i) parts.0 in
    record {
      piece = λ e.
          let is : (u == v) ≡ true = named u v (e ∙ sym same) in (
            λ here. not_both (u == v) (i == j) is (named i j here) pieces.0,
            λ next. not_both (u == v) (i == j + 1) is (named i (j + 1) next) pieces.1,
          );
      operation = λ k o at call low high.
          let place_is : place_of call_number u y.operations ≡ Some k = subst (λ n. place_of call_number n y.operations ≡ Some k) call (place_in q place k y o tidy there at) in
          let yes : is_between y from to u i ≡ true = ap (λ o. is_some_and o (λ k. nat_le from k && nat_lt k to)) place_is ∙ between_is from to k low high in
          let bad : true ≡ false = sym yes ∙ parts.1 in cc;
    }

-- a piece that was asked for and does not lie on the stripe does not come there
off_stripe : (v j place stripe u i : ℕ) (q : ProgramState) (x y : Context) → IsTidyProgram q → slice_get q.contexts place ≡ Some y → IsAnswered v j x y → lies_in y stripe u i ≡ false →
    SameIn x y stripe u i
off_stripe v j place stripe u i q x y tidy there a off =
    record {
      to = λ c. let yes : lies_in y stripe u i ≡ true = lies_from q place y stripe u i tidy there (stays_on v j x y stripe u i a c) in let bad : true ≡ false = sym yes ∙ off in cc;
      from = λ c. let yes : lies_in y stripe u i ≡ true = lies_from q place y stripe u i tidy there (comes_lies y stripe u i c) in let bad : true ≡ false = sym yes ∙ off in cc;
    }

pub follows_piece : (state next : State) (pe : ℕ) (p q : ProgramState) (v j : ℕ) (lists new : List (List PieceName)) → ChangesProgram state next pe p q → IsTidyProgram p →
    Turns (IsAnswered v j) p q → FollowsPiece q pe v j lists new → Agrees state lists → Agrees next new
follows_piece state next pe p q v j lists new c tidy t follows agrees =
    let a = t.how in
    let now : Operation = with_both a.operation a.reads j a.first a.second in
    let q_tidy = answer_tidy v j p q t tidy in
    let there = now_there (IsAnswered v j) p q t in
    let at : Placed = record { number = t.place; context = t.now; operation = now } in
    let stands : StandsAt q t.place a.place now = record { context = t.now; there = there; at = place_at v j t.was t.now a } in
    let is_placed : placed q v ≡ Some at = subst (λ n. placed q n ≡ Some at) a.call (placed_at q t.place a.place now q_tidy stands) in
    let f = follows at is_placed in
    let ans : AnsweredIn v j t.was t.now f.from f.to = record { answer = a; turn = reads_turn v j t.was t.now a f.turns; covers = f.covers } in
    agree_told state next pe p q t.place t.now (asked_again now.call j t.now f.from f.to) lists new c q_tidy there f.tells
    (λ stripe u i h.
    turned_same (IsAnswered v j) p q stripe u i t tidy q_tidy
    (by_asked q_tidy there f.from f.to ans stripe u i (asked_again now.call j t.now f.from f.to u i) refl h)) agrees
  where
    by_asked : IsTidyProgram q → slice_get q.contexts t.place ≡ Some t.now → (from to : ℕ) → AnsweredIn v j t.was t.now from to → (stripe u i : ℕ) (b : Bool) →
        asked_again t.how.operation.call j t.now from to u i ≡ b → (asked_again t.how.operation.call j t.now from to u i && lies_in t.now stripe u i) ≡ false → SameIn t.was t.now stripe u i
    by_asked q_tidy there from to ans stripe u i false e h =
        answered_same v j t.was t.now from to stripe u i ans (elsewhere t.how.operation.call v j from to u i t.place q t.now q_tidy there t.how.call e)
    by_asked q_tidy there from to ans stripe u i true e h =
        off_stripe v j t.place stripe u i q t.was t.now q_tidy there t.how (ap (λ b. b && lies_in t.now stripe u i) (sym e) ∙ h)

-- an issue

get_seam : {A : Type 0} (xs : List A) (y : A) → slice_get (xs ++ y ∷ []) (length xs) ≡ Some y
get_seam [] y = get_zero y []
get_seam (x ∷ xs) y = get_next x (xs ++ y ∷ []) (length xs) y (get_seam xs y)

pub follows_issue : (state next : State) (pe : ℕ) (p q : ProgramState) (v : ℕ) (lists new : List (List PieceName)) → ChangesProgram state next pe p q → IsTidyProgram p →
    v ≡ p.next_call → Turns (IsIssued p.next_call q.next_call) p q → FollowsIssue q pe v lists new → Agrees state lists → Agrees next new
follows_issue state next pe p q v lists new c tidy number t follows agrees =
    let i = t.how in
    let q_tidy = issue_tidy p q t tidy in
    let there = now_there (IsIssued p.next_call q.next_call) p q t in
    let at : Placed = record { number = t.place; context = t.now; operation = i.new } in
    let last : slice_get t.now.operations (length t.was.operations) ≡ Some i.new = ap (λ os. slice_get os (length t.was.operations)) i.operations ∙ get_seam t.was.operations i.new in
    let stands : StandsAt q t.place (length t.was.operations) i.new = record { context = t.now; there = there; at = last } in
    let is_placed : placed q v ≡ Some at = subst (λ n. placed q n ≡ Some at) (i.call ∙ sym number) (placed_at q t.place (length t.was.operations) i.new q_tidy stands) in
    agree_told state next pe p q t.place t.now (is_call i.new.call) lists new c q_tidy there (follows at is_placed)
    (λ stripe u j h.
    turned_same (IsIssued p.next_call q.next_call) p q stripe u j t tidy q_tidy (by_call q_tidy there stripe u j (u == i.new.call) refl h)) agrees
  where
    by_call : IsTidyProgram q → slice_get q.contexts t.place ≡ Some t.now → (stripe u j : ℕ) (b : Bool) → (u == t.how.new.call) ≡ b →
        (is_call t.how.new.call u j && lies_in t.now stripe u j) ≡ false → SameIn t.was t.now stripe u j
    by_call q_tidy there stripe u j false e h =
        let call : t.how.new.call ≡ p.next_call = t.how.call in
        let apart : u ≢ p.next_call = grind arith in
        issued_same p.next_call q.next_call t.was t.now stripe u j (tidy.each t.place t.was t.there) t.how apart
    by_call q_tidy there stripe u j true e h =
        let no : lies_in t.now stripe u j ≡ false = ap (λ b. b && lies_in t.now stripe u j) (sym e) ∙ h in
        record {
          to = λ c.
              let low : c.operation.call < p.next_call = (tidy.each t.place t.was t.there).below c.place c.operation c.there in
              let call : c.operation.call ≡ u = c.call in
              let is : u ≡ t.how.new.call = eqb-true u t.how.new.call e in
              let last : t.how.new.call ≡ p.next_call = t.how.call in
              let bad : ⊥ = omega arith in absurd bad;
          from = λ c.
              let yes : lies_in t.now stripe u j ≡ true = lies_from q t.place t.now stripe u j q_tidy there (comes_lies t.now stripe u j c) in
              let bad : true ≡ false = sym yes ∙ no in cc;
        }

-- events

before_agree : (state next : State) (pe : ℕ) (p q : ProgramState) (lists new : List (List PieceName)) → ChangesProgram state next pe p q → IsTidyProgram p → IsAsBefore p q → new ≡ lists →
    Agrees state lists → Agrees next new
before_agree state next pe p q lists new c tidy before same agrees =
    subst (Agrees next) (sym same) (agree_same state next pe p q lists c (λ stripe u i. before_same p q stripe u i before tidy) agrees)

kept_agree : (state next : State) (pe : ℕ) (p q : ProgramState) (lists new : List (List PieceName)) → ChangesProgram state next pe p q → IsTidyProgram p → Stays p q → new ≡ lists →
    Agrees state lists → Agrees next new
kept_agree state next pe p q lists new c tidy stays same agrees =
    subst (Agrees next) (sym same) (agree_same state next pe p q lists c (λ stripe u i. stayed_same p q stripe u i stays tidy (kept_tidy p q stays tidy)) agrees)

reply_agree : (given : Reply) (state next : State) (pe : ℕ) (p q : ProgramState) (v : ℕ) (lists new : List (List PieceName)) → ChangesProgram state next pe p q → IsTidyProgram p →
    v ≡ p.next_call → IssueTurns given p q → FollowsReply given q pe v lists new → Agrees state lists → Agrees next new
reply_agree reply.Issued state next pe p q v lists new c tidy number t f a = follows_issue state next pe p q v lists new c tidy number t f a
reply_agree reply.Done state next pe p q v lists new c tidy number t f a = kept_agree state next pe p q lists new c tidy t f a
reply_agree (reply.Bytes b) state next pe p q v lists new c tidy number t f a = kept_agree state next pe p q lists new c tidy t f a
reply_agree (reply.Region r) state next pe p q v lists new c tidy number t f a = kept_agree state next pe p q lists new c tidy t f a
reply_agree (reply.Item d) state next pe p q v lists new c tidy number t f a = kept_agree state next pe p q lists new c tidy t f a
reply_agree (reply.RegionStat i) state next pe p q v lists new c tidy number t f a = kept_agree state next pe p q lists new c tidy t f a
reply_agree (reply.ItemStat i) state next pe p q v lists new c tidy number t f a = kept_agree state next pe p q lists new c tidy t f a
reply_agree (reply.Value x) state next pe p q v lists new c tidy number t f a = kept_agree state next pe p q lists new c tidy t f a
reply_agree (reply.Report r) state next pe p q v lists new c tidy number t f a = kept_agree state next pe p q lists new c tidy t f a
reply_agree reply.Passed state next pe p q v lists new c tidy number t f a = kept_agree state next pe p q lists new c tidy t f a
reply_agree reply.Left state next pe p q v lists new c tidy number t f a = kept_agree state next pe p q lists new c tidy t f a
reply_agree reply.Crashed state next pe p q v lists new c tidy number t f a = kept_agree state next pe p q lists new c tidy t f a
reply_agree (reply.Error e) state next pe p q v lists new c tidy number t f a = kept_agree state next pe p q lists new c tidy t f a

number_in : (p : ProgramState) (v : ℕ) (asked : Call) → (is_running p.standing && is_next p v && is_idle p.started && is_shaped asked) ≡ true → v ≡ p.next_call
number_in p v asked turn = eqb-true v p.next_call (second_of (is_running p.standing) (v == p.next_call) _ (is_idle p.started) (is_shaped asked) turn)
  where
    second_of : (a b c d e : Bool) → (a && (b && c) && d && e) ≡ true → b ≡ true
    second_of true true c d e h = refl
    second_of true false c d e h = cc
    second_of false b c d e h = cc

event_agree : (happens : What) (state next : State) (pe : ℕ) (p q : ProgramState) (v : ℕ) (lists new : List (List PieceName)) → ChangesProgram state next pe p q → IsTidyProgram p →
    is_in_turn p v happens ≡ true → EventTurns happens v p q → Follows happens q pe v lists new → Agrees state lists → Agrees next new
event_agree (what.Piece j given) state next pe p q v lists new c tidy turn t f a = follows_piece state next pe p q v j lists new c tidy t f a
event_agree (what.Lose j) state next pe p q v lists new c tidy turn t f a = follows_piece state next pe p q v j lists new c tidy t f a
event_agree (what.Issue asked given) state next pe p q v lists new c tidy turn t f a = reply_agree given state next pe p q v lists new c tidy (number_in p v asked turn) t f a
event_agree (what.Meta asked given) state next pe p q v lists new c tidy turn t f a = before_agree state next pe p q lists new c tidy t f a
event_agree (what.Answer given) state next pe p q v lists new c tidy turn t f a = before_agree state next pe p q lists new c tidy t f a
event_agree (what.OpenContext k) state next pe p q v lists new c tidy turn t f a = before_agree state next pe p q lists new c tidy t f a
event_agree (what.CloseContext k given) state next pe p q v lists new c tidy turn t f a = before_agree state next pe p q lists new c tidy t f a
event_agree (what.Fence k) state next pe p q v lists new c tidy turn t f a = before_agree state next pe p q lists new c tidy t f a
event_agree (what.Quiet k given) state next pe p q v lists new c tidy turn t f a = before_agree state next pe p q lists new c tidy t f a
event_agree (what.Wait k n given) state next pe p q v lists new c tidy turn t f a = before_agree state next pe p q lists new c tidy t f a
event_agree what.Arrive state next pe p q v lists new c tidy turn t f a = before_agree state next pe p q lists new c tidy t f a
event_agree what.Leave state next pe p q v lists new c tidy turn t f a = before_agree state next pe p q lists new c tidy t f a
event_agree what.Crash state next pe p q v lists new c tidy turn t f a = before_agree state next pe p q lists new c tidy t f a
event_agree (what.Refused asked error doubt) state next pe p q v lists new c tidy turn t f a = before_agree state next pe p q lists new c tidy t f a

-- lists that follow the event are those of the state after it
pub follows_ready : (limits : Limits) (state next : State) (event : Event) (q : ProgramState) (lists new : List (List PieceName)) → AreReady state lists → IsTidy state →
    step limits state event ≡ Some next → program_of next event.pe.0 ≡ Some q → Follows event.what q event.pe.0 event.call lists new → AreReady next new
follows_ready limits state next event q lists new ready tidy h there follows =
    let s = step_turns limits state next event h in
    let now : program_of next event.pe.0 ≡ Some s.after.now = ap (λ ps. slice_get ps event.pe.0) s.after.programs ∙ get_set_same state.programs event.pe.0 s.was s.after.now s.there in
    let is : q ≡ s.after.now = same_some q s.after.now (sym there ∙ now) in
    let f : Follows event.what s.after.now event.pe.0 event.call lists new = subst (λ r. Follows event.what r event.pe.0 event.call lists new) is follows in
    agree_ready next new
    (event_agree event.what state next event.pe.0 s.was s.after.now event.call lists new
    (record { there = s.there; programs = s.after.programs; service = s.after.service }) (tidy.each event.pe.0 s.was s.there) s.turn s.after.turns f (ready_agree state lists ready))
