-- Results that are read one after another.
use Rattle.std.proofs.Common.{◌≡◌, ℕ, List, [], ◌∷◌, ◌++◌, Option, Some, None, refl, sym, ap, ◌∙◌, append_assoc}
use Rattle.fam_model.specs.declared.reply.OpResult.{OpResult}
use Rattle.fam_model.specs.declared.reply.Reply.{Reply}
use Rattle.fam_model.specs.declared.reply.Reply.TheVariants as reply
use Rattle.fam_model.specs.Lists.{◌>>=◌}
use Rattle.fam_script.specs.Reading.{Words, parts}
use Rattle.fam_script.proofs.Cuts.{first_part}
use Rattle.report_reader.specs.Reading.{result_of, result_onto, results_of, some_results}

-- those that were found, and then others
abbrev pub joined : List OpResult → Option (List OpResult) → Option (List OpResult)
joined found None = None
joined found (Some others) = Some (found ++ others)

abbrev some_list : List OpResult → Option (List OpResult)
some_list l = Some l

abbrev some_report : List OpResult → Option Reply
some_report results = Some (reply.Report results)

joined_nothing : (o : Option (List OpResult)) → o ≡ joined [] o
joined_nothing None = refl
joined_nothing (Some others) = refl

-- none was found yet
pub begins : (text : List ℕ) → results_of (parts 32 text) ≡ joined [] (results_of (parts 32 text))
begins text = joined_nothing (results_of (parts 32 text))

joined_one : (found : List OpResult) (r : OpResult) (o : Option (List OpResult)) → joined found (result_onto (Some r) o) ≡ joined (found ++ r ∷ []) o
joined_one found r None = refl
joined_one found r (Some others) = ap (λ (l : List OpResult). some_list l) (sym (append_assoc found (r ∷ []) others))

module _ (found : List OpResult) (first rest others : List ℕ) (cut : parts 32 rest ≡ first ∷ parts 32 others) where
  read_first : (o : Option OpResult) → result_of first ≡ o → joined found (results_of (parts 32 rest)) ≡ joined found (result_onto o (results_of (parts 32 others)))
  read_first o e = ap (λ (ws : Words). joined found (results_of ws)) cut ∙ ap (λ (o : Option OpResult). joined found (result_onto o (results_of (parts 32 others)))) e

  -- one more
  pub goes_on : (r : OpResult) → result_of first ≡ Some r → joined found (results_of (parts 32 rest)) ≡ joined (found ++ r ∷ []) (results_of (parts 32 others))
  goes_on r e = read_first (Some r) e ∙ joined_one found r (results_of (parts 32 others))

  -- a word that is no result
  pub stops : result_of first ≡ None → joined found (results_of (parts 32 rest)) ≡ None
  stops e = read_first None e

-- the last one
module _ (found : List OpResult) (rest : List ℕ) (last : parts 32 rest ≡ rest ∷ []) where
  read_last : (o : Option OpResult) → result_of rest ≡ o → joined found (results_of (parts 32 rest)) ≡ joined found (result_onto o (Some []))
  read_last o e = ap (λ (ws : Words). joined found (results_of ws)) last ∙ ap (λ (o : Option OpResult). joined found (result_onto o (Some []))) e

  pub ends : (r : OpResult) → result_of rest ≡ Some r → joined found (results_of (parts 32 rest)) ≡ Some (found ++ r ∷ [])
  ends r e = read_last (Some r) e

  pub ends_badly : result_of rest ≡ None → joined found (results_of (parts 32 rest)) ≡ None
  ends_badly e = read_last None e

-- there is always a word
some_are : (text : List ℕ) → some_results (parts 32 text) ≡ (results_of (parts 32 text) >>= λ results. Some (reply.Report results))
some_are text =
    let more = first_part 32 text in
    ap some_results more.2 ∙ ap (λ (ws : Words). results_of ws >>= λ results. some_report results) (sym more.2)

pub some_from : (text : List ℕ) (o : Option (List OpResult)) (results : List OpResult) → o ≡ results_of (parts 32 text) → o ≡ Some results → some_report results ≡ some_results (parts 32 text)
some_from text o results e is = sym (some_are text ∙ ap (λ (o : Option (List OpResult)). o >>= λ rs. some_report rs) (sym e ∙ is))
