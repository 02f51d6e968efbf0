-- An audit before its first event.
use Rattle.std.proofs.Common.{◌≡◌, ℕ, ◌+◌, ◌<◌, Bool, true, false, List, [], ◌∷◌, ◌++◌, map, length, refl, sym, ap, ◌∙◌, subst, arith, ◌⊎◌, inl, inr, length-append}
use Rattle.std.specs.Prelude.{All, slice_get, nat_lt, Some, ◌&&◌}
use Rattle.std.specs.List.{enumerate_from, flat_map, list_all}
use Rattle.std.proofs.lemmas.Bool.{cases_lt}
use Rattle.std.proofs.lemmas.List.{length-map}
use Rattle.std.proofs.lemmas.List.Elements.{All-nil, All-cons, All-map, All-weaker}
use Rattle.std.proofs.lemmas.List.Folds.{list_all-append}
use Rattle.std.proofs.lemmas.List.FromFn.{length-enumerate_from}
use Rattle.std.proofs.lemmas.Option.{slice_get_within}
use Rattle.fam_base.specs.declared.naming.Who.{Who}
use Rattle.fam_model.specs.declared.line.Line.TheVariants as line
use Rattle.fam_model.specs.declared.rows.Rows.{Rows}
use Rattle.fam_model.specs.declared.script.Program.{Program as Text}
use Rattle.fam_model.specs.declared.script.Script.{Script}
use Rattle.fam_model.specs.Grammar.{IsLawfulScript, is_line}
use Rattle.fam_model.specs.Headline.{opening}
use Rattle.fam_model.specs.Limits.{nobody}
use Rattle.fam_model.specs.Opened.{new_program, opened}
use Rattle.fam_model.specs.ScriptText.{script_lines, program_lines, statement_lines}
use Rattle.fam_schedule.proofs.Issued.{get_last}
use Rattle.fam_schedule.proofs.Whole.{opened_program, tells_new}
use Rattle.fam_audit.specs.declared.auditor.Auditor.{Auditor}
use Rattle.fam_audit.specs.declared.turn.Turn.{Turn}
use Rattle.fam_audit.specs.Auditing.{AreLocal, Follows, IsOpened, StartAs, StartSoFar}
use Rattle.fam_audit.specs.Turns.{StartsAs}
use Rattle.fam_audit.proofs.Going.{element}

some_same : {A : Type 0} (x y : A) → Some x ≡ Some y → x ≡ y
some_same x y e = cc

-- the opened machine

abbrev pub users : Script → List Who
users script = map (λ program. program.who) script.programs

length-users : (script : Script) → length (users script) ≡ length script.programs
length-users script = length-map script.programs (λ program. program.who)

-- as many programs as the script has
pub opened_count : (rows : Rows) (script : Script) → length (opening rows script).programs ≡ length script.programs
opened_count rows script =
    length-map (enumerate_from 0 (users script)) (λ entry. new_program entry.1 (nat_lt entry.0 (length script.programs))) ∙ length-enumerate_from 0 (users script)
    ∙ length-users script

low_true : (n m : ℕ) → n < m → nat_lt n m ≡ true
low_true n m h = grind arith

-- and all of them are local
opened_local : (rows : Rows) (script : Script) → AreLocal (opening rows script)
opened_local rows script pe p there =
    let low : pe < length (opening rows script).programs = slice_get_within (opening rows script).programs pe p there in
    let count : length (opening rows script).programs ≡ length script.programs = opened_count rows script in
    let same : length (users script) ≡ length script.programs = length-users script in
    let inside : pe < length script.programs = omega arith in
    let who = element (users script) pe (omega arith) in
    let is : p ≡ new_program who.0 (nat_lt pe (length script.programs)) =
    some_same p (new_program who.0 (nat_lt pe (length script.programs))) (sym there ∙ opened_program (length script.programs) (users script) pe who.0 who.1) in
    ap (λ q. q.is_local) is ∙ low_true pe (length script.programs) inside

-- nothing was told yet
pub follows_new : (rows : Rows) (script : Script) → Follows script [] (opening rows script)
follows_new rows script = record { programs = opened_count rows script; tells = tells_new rows script 0; local = opened_local rows script }

stands_new : (rows : Rows) (script : Script) (auditor : Auditor) → auditor.machine ≡ opening rows script → StartAs script.programs auditor.turns → IsOpened rows script auditor
stands_new rows script auditor same start =
    record {
      machine = same;
      stands = record {
        follows = subst (Follows script []) (sym same) (follows_new rows script);
        count = start.count;
        turns = λ pe turn text at there. start.each pe turn at text there;
      };
    }

-- one program more

first_true : (a b : Bool) → (a && b) ≡ true → a ≡ true
first_true true b e = refl
first_true false b e = cc

second_true : (a b : Bool) → (a && b) ≡ true → b ≡ true
second_true true b e = e
second_true false b e = cc

pub one_more : (texts : List Text) (n : ℕ) (turns : List Turn) (new : Turn) → StartSoFar texts n turns → StartsAs texts n new → StartSoFar texts (n + 1) (turns ++ new ∷ [])
one_more texts n turns new so_far starts =
    let count = so_far.count in
    let longer : length (turns ++ new ∷ []) ≡ length turns + length (new ∷ []) = length-append turns (new ∷ []) in
    let one : length (new ∷ []) ≡ 1 = refl in
    record {
      count = omega arith;
      each = λ pe turn at. by_place pe turn (get_last turns new pe turn at (cases_lt pe (length turns)));
    }
  where
    by_place : (pe : ℕ) (turn : Turn) → (slice_get turns pe ≡ Some turn) ⊎ ((pe ≡ length turns) × (turn ≡ new)) → StartsAs texts pe turn
    by_place pe turn (inl old) = so_far.each pe turn old
    by_place pe turn (inr (here, same)) = subst (λ k. StartsAs texts k turn) (sym (here ∙ so_far.count)) (subst (StartsAs texts n) (sym same) starts)

-- users

flat_test : {A B : Type 0} (test : B → Bool) (f : A → List B) (P : A → Type 0) (xs : List A) → ((x : A) → list_all test (f x) ≡ true → P x) → list_all test (flat_map f xs) ≡ true → All P xs
flat_test test f P [] h e = All-nil P
flat_test test f P (x ∷ xs) h e =
    let both = sym (list_all-append test (f x) (flat_map f xs)) ∙ e in
    All-cons P x xs (h x (first_true (list_all test (f x)) (list_all test (flat_map f xs)) both)) (flat_test test f P xs h (second_true (list_all test (f x)) (list_all test (flat_map f xs)) both))

below : (n m : ℕ) → nat_lt n m ≡ true → n < m
below n m e = grind arith

lawful_who : (text : Text) → list_all is_line (program_lines text) ≡ true → (text.who.uid < nobody) × (text.who.gid < nobody)
lawful_who text e =
    let first = first_true (is_line (line.Pe text.who)) (list_all is_line (flat_map statement_lines text.statements ++ line.End ∷ [])) e in
    (below text.who.uid nobody (first_true (nat_lt text.who.uid nobody) (nat_lt text.who.gid nobody) first), below text.who.gid nobody (second_true (nat_lt text.who.uid nobody) (nat_lt text.who.gid nobody) first))

lawful_whos : (script : Script) → IsLawfulScript script → All (λ (text : Text). (text.who.uid < nobody) × (text.who.gid < nobody)) script.programs
lawful_whos script lawful =
    let lines : list_all is_line (script_lines script) ≡ true = lawful.but_count.lines in
    let rest = second_true (is_line (line.Service script.service)) (list_all is_line (flat_map program_lines script.programs ++ line.Stop ∷ [])) lines in
    let programs : list_all is_line (flat_map program_lines script.programs) ≡ true =
    first_true (list_all is_line (flat_map program_lines script.programs)) (list_all is_line (line.Stop ∷ []))
    (sym (list_all-append is_line (flat_map program_lines script.programs) (line.Stop ∷ [])) ∙ rest) in
    flat_test is_line program_lines (λ (text : Text). (text.who.uid < nobody) × (text.who.gid < nobody)) script.programs lawful_who programs

pub lawful_users : (script : Script) (whos : List Who) → IsLawfulScript script → whos ≡ users script → All (λ (w : Who). w.uid < nobody) whos
lawful_users script whos lawful same =
    subst (All (λ (w : Who). w.uid < nobody)) (sym same)
    (All-map (λ (w : Who). w.uid < nobody) (λ (program : Text). program.who) script.programs
    (All-weaker (λ (text : Text). (text.who.uid < nobody) × (text.who.gid < nobody)) (λ (text : Text). text.who.uid < nobody) (λ text both. both.0) script.programs (lawful_whos script lawful)))

pub lawful_groups : (script : Script) (whos : List Who) → IsLawfulScript script → whos ≡ users script → All (λ (w : Who). w.gid < nobody) whos
lawful_groups script whos lawful same =
    subst (All (λ (w : Who). w.gid < nobody)) (sym same)
    (All-map (λ (w : Who). w.gid < nobody) (λ (program : Text). program.who) script.programs
    (All-weaker (λ (text : Text). (text.who.uid < nobody) × (text.who.gid < nobody)) (λ (text : Text). text.who.gid < nobody) (λ text both. both.1) script.programs (lawful_whos script lawful)))

-- the auditor as it is opened
pub opens : (rows : Rows) (script : Script) (auditor : Auditor) (whos : List Who) (local : ℕ) → whos ≡ users script → local ≡ length whos →
    auditor.machine ≡ opened rows script.service whos local → StartAs script.programs auditor.turns → IsOpened rows script auditor
opens rows script auditor whos local same count machine start =
    let longer : length whos ≡ length script.programs = ap length same ∙ length-users script in
    let at_opening : auditor.machine ≡ opening rows script =
    machine ∙ ap (λ ws. opened rows script.service ws local) same ∙ ap (opened rows script.service (users script)) (count ∙ longer) in
    stands_new rows script auditor at_opening start
