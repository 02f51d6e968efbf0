-- From the step at a turn to the step of the definitions.
use Rattle.std.proofs.Common.{◌≡◌, ℕ, ◌+◌, ◌<◌, List, [], ◌∷◌, ◌++◌, length, map, take, get_or, Option, Some, None, true, false, Result, Ok, Err, sym, ap, subst, ◌∙◌, refl, arith}
use Rattle.std.specs.Prelude.{if◌then◌else◌, is_some, nat_lt, IsTrue}
use Rattle.std.specs.List.{enumerate_from}
use Rattle.std.specs.Option.{option_map, option_map_or, option_copied}
use denote.Bor.{Bor}
use Rattle.fam_model.specs.Opened.{new_program}
use Rattle.std.proofs.lemmas.Bool.{false≢true}
use Rattle.std.proofs.lemmas.Option.{none-some, slice_get_within}
use Rattle.std.proofs.lemmas.List.{length-map, length-take-le, take_more, map-append}
use Rattle.fam_base.specs.declared.naming.ItemId.{ItemId}
use Rattle.fam_base.specs.declared.naming.Who.{Who}
use Rattle.fam_model.specs.declared.event.Event.{Event}
use Rattle.fam_model.specs.declared.event.What.{What}
use Rattle.fam_model.specs.declared.rows.ItemRow.{ItemRow}
use Rattle.fam_model.specs.declared.state.ProgramState.{ProgramState}
use Rattle.fam_model.specs.declared.state.State.{State}
use Rattle.fam_model.specs.Limits.{service_limits}
use Rattle.fam_model.specs.Lists.{◌>>=◌, is_some_and, find_number}
use Rattle.fam_model.specs.PieceStep.{entry_number}
use Rattle.fam_model.specs.Programs.{program_of}
use Rattle.fam_model.specs.Rows.{item_of}
use Rattle.fam_model.specs.Rules.{rule_broken_by, broken_rule, rule_of}
use Rattle.fam_model.specs.Step.{effect, step}
use Rattle.fam_model.specs.Turn.{is_in_turn}
use Rattle.fam_program.specs.declared.tracked.TrackedProgram.{TrackedProgram}
use Rattle.fam_machine.specs.declared.error.StepError.{StepError}
use Rattle.fam_machine.specs.declared.error.StepError.TheVariants as error
use Rattle.fam_machine.specs.declared.parts.Parts.{Parts}
use Rattle.fam_machine.specs.Effects.{Takes}
use Rattle.fam_machine.specs.Sound.{IsSound, HasModes}
use Rattle.fam_machine.specs.Views.{state_of, states_of, turn_at, effect_at, rule_at, IsStep, bytes_of, new_programs}
use Rattle.fam_machine.proofs.Bytes.{entry_row, row_entry}
use Rattle.fam_machine.proofs.States.{sound_step}

-- the program of a turn is there
pub there : (parts : Parts) (pe call : ℕ) (made : What) → IsTrue (turn_at (state_of parts) pe call made) → pe < length parts.programs
there parts pe call made t = here (program_of (state_of parts) pe) refl t
  where
    here : (o : Option ProgramState) → program_of (state_of parts) pe ≡ o → is_some_and o (λ p. is_in_turn p call made) ≡ true → pe < length parts.programs
    here None e t = absurd (false≢true t)
    here (Some p) e t = subst (λ n. pe < n) (length-map parts.programs (λ (q : TrackedProgram). q.state)) (slice_get_within (states_of parts.programs) pe p e)

in_turn_step : (state : State) (event : Event) (o : Option ProgramState) → program_of state event.pe.0 ≡ o → is_some_and o (λ p. is_in_turn p event.call event.what) ≡ true → step service_limits state event ≡ effect_at state event.pe.0 event.call event.what
in_turn_step state event None e t = absurd (false≢true t)
in_turn_step state event (Some p) e t =
    ap (λ o. o >>= λ p. if is_in_turn p event.call event.what then effect service_limits state event.pe.0 p event.call event.what else None) e
    ∙ ap (λ b. if b then effect service_limits state event.pe.0 p event.call event.what else None) t
    ∙ ap (λ o. o >>= λ p. effect service_limits state event.pe.0 p event.call event.what) (sym e)

-- at its turn an event steps by its effect
pub step_at_turn : (state : State) (event : Event) → IsTrue (turn_at state event.pe.0 event.call event.what) → step service_limits state event ≡ effect_at state event.pe.0 event.call event.what
step_at_turn state event t = in_turn_step state event (program_of state event.pe.0) refl t

rule_with : (state : State) (event : Event) (o : Option ProgramState) → program_of state event.pe.0 ≡ o → is_some_and o (λ p. is_in_turn p event.call event.what) ≡ true → effect_at state event.pe.0 event.call event.what ≡ None → broken_rule service_limits state event ≡ Some (rule_at state event.pe.0 event.call event.what)
rule_with state event None e t none = absurd (false≢true t)
rule_with state event (Some p) e t none =
    let fails : effect service_limits state event.pe.0 p event.call event.what ≡ None =
    sym (ap (λ o. o >>= λ p. effect service_limits state event.pe.0 p event.call event.what) e) ∙ none
    in
    ap (λ o. rule_broken_by service_limits state o event) e
    ∙ (λ i. if t i then (if is_some (fails i) then None else Some (rule_of p event.call event.what)) else Some 1)
    ∙ ap (λ o. Some (option_map_or (λ p. rule_of p event.call event.what) o 1)) (sym e)

-- where it has none it breaks the rule of its kind
pub rule_at_turn : (state : State) (event : Event) → IsTrue (turn_at state event.pe.0 event.call event.what) → effect_at state event.pe.0 event.call event.what ≡ None → broken_rule service_limits state event ≡ Some (rule_at state event.pe.0 event.call event.what)
rule_at_turn state event t none = rule_with state event (program_of state event.pe.0) refl t none

no_turn_with : (state : State) (event : Event) (o : Option ProgramState) → is_some_and o (λ p. is_in_turn p event.call event.what) ≡ false → rule_broken_by service_limits state o event ≡ Some 1
no_turn_with state event None t = refl
no_turn_with state event (Some p) t =
    ap (λ b. if b then (if is_some (effect service_limits state event.pe.0 p event.call event.what) then None else Some (rule_of p event.call event.what)) else Some 1) t

-- out of turn it breaks rule 1
pub rule_out_of_turn : (state : State) (event : Event) → turn_at state event.pe.0 event.call event.what ≡ false → broken_rule service_limits state event ≡ Some 1
rule_out_of_turn state event t = no_turn_with state event (program_of state event.pe.0) t

-- the step of the machine
pub stepped : (old new : Parts) (event : Event) (result : Result Unit StepError) → IsTrue (turn_at (state_of old) event.pe.0 event.call event.what) → Takes (effect_at (state_of old) event.pe.0 event.call event.what) (rule_at (state_of old) event.pe.0 event.call event.what) old new result → IsStep (state_of old) event (state_of new) result
stepped old new event (Ok unit) t s = step_at_turn (state_of old) event t ∙ s
stepped old new event (Err (error.Illegal broken)) t s =
    (rule_at_turn (state_of old) event t s.0 ∙ ap (λ r. Some r) (sym s.1), ap state_of s.2)
stepped old new event (Err error.Memory) t s = ap state_of s

-- and what holds of each state holds after it
pub still_sound : (old new : State) (event : Event) (result : Result Unit StepError) → HasModes event.what → IsSound old → IsStep old event new result → IsSound new
still_sound old new event (Ok unit) modes sound s = sound_step service_limits old new event modes sound s
still_sound old new event (Err (error.Illegal broken)) modes sound s = subst IsSound (sym s.1) sound
still_sound old new event (Err error.Memory) modes sound s = subst IsSound (sym s) sound

-- items

some_map : {A B : Type 0} (f : A → B) (o : Option A) → is_some (option_map f o) ≡ is_some o
some_map f None = refl
some_map f (Some x) = refl

both_there : (state : State) (item : ℕ) (a : Option (ItemId × List ℕ)) (b : Option ItemRow) → find_number entry_number item state.memory ≡ a → item_of state.rows item ≡ b → IsSound state → is_some a ≡ is_some b
both_there state item None None e f sound = refl
both_there state item (Some entry) (Some row) e f sound = refl
both_there state item (Some entry) None e f sound =
    let row = entry_row state.rows state.memory item entry sound.filled e in absurd (none-some row.0 (sym f ∙ row.1))
both_there state item None (Some row) e f sound =
    let entry = row_entry state.rows state.memory item row sound.filled f in absurd (none-some entry.0 (sym e ∙ entry.1))

-- an item has bytes exactly where it is there
pub item_there : (state : State) (item : ℕ) → IsSound state → is_some (bytes_of state item) ≡ is_some (item_of state.rows item)
item_there state item sound =
    some_map (λ (entry : ItemId × List ℕ). entry.1) (find_number entry_number item state.memory)
    ∙ both_there state item (find_number entry_number item state.memory) (item_of state.rows item) refl refl sound

-- what is lent is there where it is copied
pub copied_some : {X : Type 0} (o : Option (Bor X)) → is_some o ≡ is_some (option_copied o)
copied_some None = refl
copied_some (Some x) = refl

-- programs

enumerate_more : {A : Type 0} (n : ℕ) (xs : List A) (x : A) → enumerate_from n (xs ++ x ∷ []) ≡ enumerate_from n xs ++ (n + length xs, x) ∷ []
enumerate_more n [] x = ap (λ k. (k, x) ∷ []) (omega arith)
enumerate_more {A} n (y ∷ xs) x =
    let later : enumerate_from (n + 1) (xs ++ x ∷ []) ≡ enumerate_from (n + 1) xs ++ (n + 1 + length xs, x) ∷ [] = enumerate_more (n + 1) xs x in
    let same : n + 1 + length xs ≡ n + length (y ∷ xs) = omega arith in
    ap (λ zs. (n, y) ∷ zs) (later ∙ ap (λ k. enumerate_from (n + 1) xs ++ (k, x) ∷ []) same)

-- one program more
pub one_more_program : (whos : List Who) (local pe : ℕ) (default : Who) (programs : List TrackedProgram) (p : TrackedProgram) → pe < length whos → states_of programs ≡ new_programs (take pe whos) local → p.state ≡ new_program (get_or whos pe default) (nat_lt pe local) → states_of (programs ++ p ∷ []) ≡ new_programs (take (pe + 1) whos) local
one_more_program whos local pe default programs p inside before new =
    let who = get_or whos pe default in
    let rest = take pe whos in
    let long : length rest ≡ pe = length-take-le pe whos (omega arith) in
    let place : 0 + length rest ≡ pe = omega arith in
    let whole : take (pe + 1) whos ≡ rest ++ who ∷ [] = take_more whos pe default inside in
    map-append (λ (q : TrackedProgram). q.state) programs (p ∷ [])
    ∙ (λ i. before i ++ new i ∷ [])
    ∙ ap (λ k. new_programs rest local ++ new_program who (nat_lt k local) ∷ []) (sym place)
    ∙ sym (map-append (λ (entry : ℕ × Who). new_program entry.1 (nat_lt entry.0 local)) (enumerate_from 0 rest) ((0 + length rest, who) ∷ []))
    ∙ ap (map (λ (entry : ℕ × Who). new_program entry.1 (nat_lt entry.0 local))) (sym (enumerate_more 0 rest who))
    ∙ ap (λ ws. new_programs ws local) (sym whole)
