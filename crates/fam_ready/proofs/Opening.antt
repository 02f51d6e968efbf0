-- In the state in which a run begins no piece may come.
use Rattle.std.proofs.Common.{◌≡◌, ℕ, ◌<◌, Bool, true, false, List, [], ◌∷◌, refl, sym, ap, ◌∙◌, arith, subst, length, get_or}
use Rattle.std.specs.Prelude.{All, Option, Some, None, slice_get, replicate}
use Rattle.std.specs.Option.{option_map_or}
use Rattle.std.proofs.lemmas.List.{length-replicate, get_or-replicate}
use Rattle.std.proofs.lemmas.List.Elements.{All-from_get_or}
use Rattle.std.proofs.lemmas.Option.{slice_get-get_or, slice_get_within}
use Rattle.fam_model.specs.declared.rows.Rows.{Rows}
use Rattle.fam_model.specs.declared.script.Script.{Script}
use Rattle.fam_model.specs.declared.state.ProgramState.{ProgramState}
use Rattle.fam_model.specs.Headline.{opening}
use Rattle.fam_model.specs.Lists.{is_some_and}
use Rattle.fam_model.specs.Opened.{new_program}
use Rattle.fam_model.specs.Pieces.{stripe_count}
use Rattle.fam_model.specs.Programs.{program_of}
use Rattle.fam_schedule.specs.Schedule.{PieceName}
use Rattle.ready_lists.specs.Lists.{IsSorted, has_name, names_at, may_come_on}
use Rattle.fam_ready.specs.Ready.{AreReady}
use Rattle.fam_ready.proofs.Agreeing.{Agrees, agree_ready}
use Rattle.fam_ready.proofs.Standing.{may_come_at, comes_for}
use Rattle.fam_ready.proofs.States.{empty_at, opened_program}

not_true : (b : Bool) → (b ≡ true → ⊥) → b ≡ false
not_true false h = refl
not_true true h = absurd (h refl)

none_comes : (rows : Rows) (script : Script) (pe : ℕ) (p : ProgramState) (stripe u i : ℕ) → program_of (opening rows script) pe ≡ Some p → may_come_at p stripe u i ≡ true → ⊥
none_comes rows script pe p stripe u i there h =
    let o = opened_program rows script pe p there in
    let c = comes_for p stripe u i h in
    let none = empty_at c.place c.context (ap (λ (q : ProgramState). slice_get q.contexts c.place) o.2 ∙ c.there) in
    let low : c.comes.place < 0 = slice_get_within [] c.comes.place c.comes.operation (ap (λ os. slice_get os c.comes.place) (sym none) ∙ c.comes.there) in
    omega arith

nothing_ready : (rows : Rows) (script : Script) (stripe : ℕ) (name : PieceName) → may_come_on (opening rows script) stripe name ≡ false
nothing_ready rows script stripe name = by_program (program_of (opening rows script) name.pe) refl
  where
    by_program : (o : Option ProgramState) → program_of (opening rows script) name.pe ≡ o → is_some_and o (λ p. may_come_at p stripe name.call name.piece) ≡ false
    by_program None e = refl
    by_program (Some p) e = not_true (may_come_at p stripe name.call name.piece) (none_comes rows script name.pe p stripe name.call name.piece e)

pub opened_empty : (rows : Rows) (script : Script) → AreReady (opening rows script) (replicate (stripe_count script.service) [])
opened_empty rows script =
    let n = stripe_count script.service in
    let none : List (List PieceName) = replicate n [] in
    let long : length none ≡ n = length-replicate n [] in
    agree_ready (opening rows script) none
    (record {
      count = long;
      sorted = All-from_get_or IsSorted none [] (λ i low.
          subst IsSorted (sym (get_or-replicate n i [] [] (subst (λ k. i < k) long low))) tt);
      names = λ stripe name low.
          let there : slice_get none stripe ≡ Some (get_or none stripe []) = slice_get-get_or none stripe [] low in
          let empty : get_or none stripe [] ≡ [] = get_or-replicate n stripe [] [] (subst (λ k. stripe < k) long low) in
          ap (λ o. has_name name (option_map_or (λ names. names) o [])) (there ∙ ap Some empty) ∙ sym (nothing_ready rows script stripe name);
    })
