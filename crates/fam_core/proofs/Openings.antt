-- A run before its first event.
use Rattle.std.proofs.Common.{◌≡◌, ℕ, ◌+◌, ◌<◌, ◌≤◌, Bool, true, false, List, [], ◌∷◌, ◌++◌, map, length, replicate, refl, sym, ap, ◌∙◌, subst, arith, ◌⊎◌, inl, inr, length-append}
use Rattle.std.specs.Prelude.{All, slice_get, nat_lt, Some, ◌&&◌}
use Rattle.std.specs.List.{enumerate_from, flat_map, list_all}
use Rattle.std.proofs.lemmas.Bool.{cases_lt}
use Rattle.std.proofs.lemmas.List.{length-map}
use Rattle.std.proofs.lemmas.List.Elements.{All-nil, All-cons, All-map, All-weaker}
use Rattle.std.proofs.lemmas.List.Folds.{list_all-append}
use Rattle.std.proofs.lemmas.Option.{slice_get_within}
use Rattle.fam_model.specs.declared.line.Line.TheVariants as line
use Rattle.fam_model.specs.Grammar.{IsLawfulScript, is_line}
use Rattle.fam_model.specs.Limits.{nobody}
use Rattle.fam_model.specs.ScriptText.{script_lines, program_lines, statement_lines}
use Rattle.fam_ready.proofs.Opening.{opened_empty}
use Rattle.std.proofs.lemmas.List.FromFn.{length-enumerate_from}
use Rattle.fam_base.specs.declared.naming.Who.{Who}
use Rattle.fam_model.specs.declared.rows.Rows.{Rows}
use Rattle.fam_model.specs.declared.script.Program.{Program as Text}
use Rattle.fam_model.specs.declared.script.Script.{Script}
use Rattle.fam_model.specs.Headline.{opening}
use Rattle.fam_model.specs.Opened.{new_program, opened}
use Rattle.fam_model.specs.Pieces.{stripe_count}
use Rattle.fam_ready.specs.Ready.{AreReady, IsTidy}
use Rattle.fam_schedule.proofs.Runs.{TellsAll}
use Rattle.fam_ready.proofs.States.{opening_tidy}
use Rattle.fam_schedule.specs.Schedule.{new_run}
use Rattle.fam_schedule.proofs.Issued.{get_last}
use Rattle.fam_schedule.proofs.Whole.{tells_new}
use Rattle.fam_core.specs.declared.playing.Player.{Player}
use Rattle.fam_core.specs.declared.turn.Turn.{Turn}
use Rattle.fam_core.specs.Turns.{StartsAs}
use Rattle.fam_core.specs.Playing.{HasFlags, IsOpened, StartAs, StartSoFar}
use Rattle.fam_core.proofs.Going.{tells_with}

-- as many programs as the script has
opened_count : (rows : Rows) (script : Script) → length (opening rows script).programs ≡ length script.programs
opened_count rows script =
    let whos : List Who = map (λ program. program.who) script.programs in
    length-map (enumerate_from 0 whos) (λ entry. new_program entry.1 (nat_lt entry.0 (length script.programs))) ∙ length-enumerate_from 0 whos
    ∙ length-map script.programs (λ program. program.who)

pub stands_new : (rows : Rows) (script : Script) (player : Player) → length script.programs ≤ 64 → player.service.state ≡ opening rows script → player.service.history ≡ [] → StartAs script.programs player.turns →
    AreReady (opening rows script) player.ready → HasFlags player → IsOpened rows script player
stands_new rows script player few same nothing start ready flags =
    let count = start.count in
    record {
      machine = same;
      stands = record {
        few = omega (arith, few, count);
        programs = ap (λ state. length state.programs) same ∙ opened_count rows script;
        count = count;
        turns = λ pe turn text at there. start.each pe turn at text there;
        ready = subst (λ state. AreReady state player.ready) (sym same) ready;
        flags = flags;
        tells = λ words. subst (λ state. TellsAll script (record { before = []; now = state; words = words })) (sym same)
            (tells_with script [] (opening rows script) (new_run rows script 0).words words (tells_new rows script 0));
        tidy = subst IsTidy (sym same) (opening_tidy rows script);
        made = nothing;
      };
    }

-- one program more

first_true : (a b : Bool) → (a && b) ≡ true → a ≡ true
first_true true b e = refl
first_true false b e = cc

second_true : (a b : Bool) → (a && b) ≡ true → b ≡ true
second_true true b e = e
second_true false b e = cc

pub one_more : (texts : List Text) (n : ℕ) (turns : List Turn) (new : Turn) → StartSoFar texts n turns → StartsAs texts n new → StartSoFar texts (n + 1) (turns ++ new ∷ [])
one_more texts n turns new so_far starts =
    let count = so_far.count in
    let longer : length (turns ++ new ∷ []) ≡ length turns + length (new ∷ []) = length-append turns (new ∷ []) in
    let one : length (new ∷ []) ≡ 1 = refl in
    record {
      count = omega arith;
      each = λ pe turn at. by_place pe turn (get_last turns new pe turn at (cases_lt pe (length turns)));
    }
  where
    by_place : (pe : ℕ) (turn : Turn) → (slice_get turns pe ≡ Some turn) ⊎ ((pe ≡ length turns) × (turn ≡ new)) → StartsAs texts pe turn
    by_place pe turn (inl old) = so_far.each pe turn old
    by_place pe turn (inr (here, same)) = subst (λ k. StartsAs texts k turn) (sym (here ∙ so_far.count)) (subst (StartsAs texts n) (sym same) starts)

pub none_so_far : (texts : List Text) → StartSoFar texts 0 []
none_so_far texts = record { count = refl; each = λ pe turn at. let low : pe < length {A = Turn} [] = slice_get_within [] pe turn at in let no : ⊥ = omega arith in absurd no }

-- users

flat_test : {A B : Type 0} (test : B → Bool) (f : A → List B) (P : A → Type 0) (xs : List A) → ((x : A) → list_all test (f x) ≡ true → P x) → list_all test (flat_map f xs) ≡ true → All P xs
flat_test test f P [] h e = All-nil P
flat_test test f P (x ∷ xs) h e =
    let both = sym (list_all-append test (f x) (flat_map f xs)) ∙ e in
    All-cons P x xs (h x (first_true (list_all test (f x)) (list_all test (flat_map f xs)) both)) (flat_test test f P xs h (second_true (list_all test (f x)) (list_all test (flat_map f xs)) both))

below : (n m : ℕ) → nat_lt n m ≡ true → n < m
below n m e = grind arith

lawful_who : (text : Text) → list_all is_line (program_lines text) ≡ true → (text.who.uid < nobody) × (text.who.gid < nobody)
lawful_who text e =
    let first = first_true (is_line (line.Pe text.who)) (list_all is_line (flat_map statement_lines text.statements ++ line.End ∷ [])) e in
    (below text.who.uid nobody (first_true (nat_lt text.who.uid nobody) (nat_lt text.who.gid nobody) first), below text.who.gid nobody (second_true (nat_lt text.who.uid nobody) (nat_lt text.who.gid nobody) first))

lawful_whos : (script : Script) → IsLawfulScript script → All (λ (text : Text). (text.who.uid < nobody) × (text.who.gid < nobody)) script.programs
lawful_whos script lawful =
    let lines : list_all is_line (script_lines script) ≡ true = lawful.but_count.lines in
    let rest = second_true (is_line (line.Service script.service)) (list_all is_line (flat_map program_lines script.programs ++ line.Stop ∷ [])) lines in
    let programs : list_all is_line (flat_map program_lines script.programs) ≡ true =
    first_true (list_all is_line (flat_map program_lines script.programs)) (list_all is_line (line.Stop ∷ []))
    (sym (list_all-append is_line (flat_map program_lines script.programs) (line.Stop ∷ [])) ∙ rest) in
    flat_test is_line program_lines (λ (text : Text). (text.who.uid < nobody) × (text.who.gid < nobody)) script.programs lawful_who programs

pub lawful_users : (script : Script) (whos : List Who) → IsLawfulScript script → whos ≡ map (λ program. program.who) script.programs → All (λ (w : Who). w.uid < nobody) whos
lawful_users script whos lawful same =
    subst (All (λ (w : Who). w.uid < nobody)) (sym same)
    (All-map (λ (w : Who). w.uid < nobody) (λ (program : Text). program.who) script.programs
    (All-weaker (λ (text : Text). (text.who.uid < nobody) × (text.who.gid < nobody)) (λ (text : Text). text.who.uid < nobody) (λ text both. both.0) script.programs (lawful_whos script lawful)))

pub lawful_groups : (script : Script) (whos : List Who) → IsLawfulScript script → whos ≡ map (λ program. program.who) script.programs → All (λ (w : Who). w.gid < nobody) whos
lawful_groups script whos lawful same =
    subst (All (λ (w : Who). w.gid < nobody)) (sym same)
    (All-map (λ (w : Who). w.gid < nobody) (λ (program : Text). program.who) script.programs
    (All-weaker (λ (text : Text). (text.who.uid < nobody) × (text.who.gid < nobody)) (λ (text : Text). text.who.gid < nobody) (λ text both. both.1) script.programs (lawful_whos script lawful)))

-- the machine as it is opened
pub opens : (rows : Rows) (script : Script) (player : Player) (whos : List Who) (local stripes : ℕ) → IsLawfulScript script → whos ≡ map (λ program. program.who) script.programs →
    local ≡ length whos → player.service.state ≡ opened rows script.service whos local → player.service.history ≡ [] → StartAs script.programs player.turns → stripes ≡ stripe_count script.service →
    player.ready ≡ replicate stripes [] → HasFlags player → IsOpened rows script player
opens rows script player whos local stripes lawful users count machine nothing start stripes_are ready flags =
    let longer : length whos ≡ length script.programs = ap length users ∙ length-map script.programs (λ program. program.who) in
    let at_opening : player.service.state ≡ opening rows script =
    machine ∙ ap (λ ws. opened rows script.service ws local) users
    ∙ ap (opened rows script.service (map (λ program. program.who) script.programs)) (count ∙ longer) in
    stands_new rows script player lawful.but_count.programs at_opening nothing start
    (subst (AreReady (opening rows script)) (sym (ready ∙ ap (λ n. replicate n []) stripes_are)) (opened_empty rows script)) flags
