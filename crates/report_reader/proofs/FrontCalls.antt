-- A call in front of other words.
use Rattle.std.proofs.Common.{◌≡◌, ℕ, Bool, false, cond, List, take, drop, Option, Some, None, sym, ap, ◌∙◌}
use Rattle.std.specs.Prelude.{◌==◌}
use Rattle.std.proofs.lemmas.Bool.Decides.{nat_tests}
use Rattle.std.proofs.Common.{arith}
use Rattle.fam_model.specs.declared.call.Call.{Call}
use Rattle.fam_model.specs.Lists.{◌>>=◌}
use Rattle.fam_model.specs.Words.{words_text}
use Rattle.fam_script.specs.Reading.{Words, parts, call_of}
use Rattle.fam_script.proofs.Cuts.{first_part}
use Rattle.report_reader.specs.Reading.{CallInFront, call_size, call_before, call_in_front, behind_colon}

none_zero : (n : ℕ) → (n ≡ 0 → ⊥) → (n == 0) ≡ false
none_zero n h = grind (arith, nat_tests)

abbrev some_front : Call → Words → Option CallInFront
some_front c ws = Some (c, ws)

-- where the words of the call, and those behind the colon, were cut off
module _ (text behind given asked : List ℕ) (n : ℕ) (n-is : n ≡ call_size (parts 32 text)) (nonzero : n ≡ 0 → ⊥)
    (rest : parts 32 behind ≡ drop n (parts 32 text)) (front : asked ≡ words_text (take n (parts 32 text))) (colon : behind_colon (parts 32 behind) ≡ parts 32 given) where
  front_is : call_in_front (parts 32 text) ≡ (call_of asked >>= λ c. Some (c, parts 32 given))
  front_is =
      let words = parts 32 text in
      let more = first_part 32 given in
      ap (λ (m : ℕ). cond (m == 0) None (call_before (call_of (words_text (take m words))) (behind_colon (drop m words)))) (sym n-is)
      ∙ ap (λ (b : Bool). cond b None (call_before (call_of (words_text (take n words))) (behind_colon (drop n words)))) (none_zero n nonzero)
      ∙ (λ i. call_before (call_of (sym front i)) (behind_colon (sym rest i)))
      ∙ ap (call_before (call_of asked)) (colon ∙ more.2)
      ∙ ap (λ (ws : Words). call_of asked >>= λ c. some_front c ws) (sym more.2)

  pub front_found : (o : Option Call) (c : Call) → o ≡ call_of asked → o ≡ Some c → call_in_front (parts 32 text) ≡ Some (c, parts 32 given)
  front_found o c e is = front_is ∙ ap (λ (o : Option Call). o >>= λ c. some_front c (parts 32 given)) (sym e ∙ is)

  pub front_missing : (o : Option Call) → o ≡ call_of asked → o ≡ None → call_in_front (parts 32 text) ≡ None
  front_missing o e is = front_is ∙ ap (λ (o : Option Call). o >>= λ c. some_front c (parts 32 given)) (sym e ∙ is)
