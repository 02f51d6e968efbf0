-- Comparing lists part by part.
use Rattle.std.proofs.Common.{◌≡◌, ℕ, ◌+◌, ◌<◌, Bool, true, false, ◌&&◌, List, [], ◌∷◌, ◌++◌, length, take, drop, get_or, nat_eq, suc, refl, ap, sym, ◌∙◌, add-one}
use Rattle.std.specs.Prelude.{slice_get}
use Rattle.std.specs.List.{flat_map}
use Rattle.std.specs.Option.{option_map_or}
use Rattle.std.proofs.Math.Seq.{drop-cons}
use Rattle.fam_base.specs.declared.error.FamError.{FamError}
use Rattle.fam_model.specs.declared.piece.Operation.{Operation}
use Rattle.fam_model.specs.declared.reply.Reply.TheVariants as reply
use Rattle.fam_model.specs.declared.reply.PieceAnswer.TheVariants as answer
use Rattle.std.proofs.Common.{map, if◌then◌else◌}
use Rattle.std.specs.Prelude.{filter}
use Rattle.std.proofs.lemmas.List.{map-append}
use Rattle.std.proofs.lemmas.List.Elements.{filter-append}
use Rattle.fam_model.specs.declared.reply.OpResult.{OpResult}
use Rattle.fam_model.specs.Lists.{when}
use Rattle.fam_model.specs.Operations.{result_with, served_result, outcome_with, served_outcome, is_unreported}
use Rattle.fam_context.specs.Results.{same_bytes, same_result, same_results, result_of, results_of, past}

and_assoc : (a b c : Bool) → (a && (b && c)) ≡ ((a && b) && c)
and_assoc true b c = refl
and_assoc false b c = refl

-- a list is a part and others where its front is the part and the rest the others
pub same_front : (rest part others : List ℕ) → same_bytes rest (part ++ others) ≡ (same_bytes (take (length part) rest) part && same_bytes (drop (length part) rest) others)
same_front rest [] others = refl
same_front [] (x ∷ part) others = refl
same_front (y ∷ rest) (x ∷ part) others =
    ap (λ b. nat_eq y x && b) (same_front rest part others)
    ∙ and_assoc (nat_eq y x) (same_bytes (take (length part) rest) part) (same_bytes (drop (length part) rest) others)

-- what is left of a list from an element on
pub drop_from : {A : Type 0} (xs : List A) (i : ℕ) (x : A) → i < length xs → x ≡ get_or xs i x → drop i xs ≡ x ∷ drop (i + 1) xs
drop_from xs i x h e = drop-cons xs i x h ∙ (ap (λ y. y ∷ drop (suc i) xs) (sym e) ∙ ap (λ k. x ∷ drop k xs) (sym (add-one i)))

-- the parts from one on, where the list has this part in front
pub same_part : {A : Type 0} (f : A → List ℕ) (xs : List A) (i : ℕ) (x : A) (rest : List ℕ) → i < length xs → x ≡ get_or xs i x →
    same_bytes (take (length (f x)) rest) (f x) ≡ true →
    same_bytes rest (flat_map f (drop i xs)) ≡ same_bytes (drop (length (f x)) rest) (flat_map f (drop (i + 1) xs))
same_part f xs i x rest h e front =
    ap (λ ys. same_bytes rest (flat_map f ys)) (drop_from xs i x h e)
    ∙ (same_front rest (f x) (flat_map f (drop (i + 1) xs))
    ∙ ap (λ b. b && same_bytes (drop (length (f x)) rest) (flat_map f (drop (i + 1) xs))) front)

-- the parts from one on, where the list has another front
pub other_part : {A : Type 0} (f : A → List ℕ) (xs : List A) (i : ℕ) (x : A) (rest : List ℕ) → i < length xs → x ≡ get_or xs i x →
    same_bytes (take (length (f x)) rest) (f x) ≡ false → same_bytes rest (flat_map f (drop i xs)) ≡ false
other_part f xs i x rest h e front =
    ap (λ ys. same_bytes rest (flat_map f ys)) (drop_from xs i x h e)
    ∙ (same_front rest (f x) (flat_map f (drop (i + 1) xs))
    ∙ ap (λ b. b && same_bytes (drop (length (f x)) rest) (flat_map f (drop (i + 1) xs))) front)

-- a result by the error of the lowest refused piece
pub result_by_first : (errors : List FamError) (operation : Operation) →
    result_with errors operation ≡ option_map_or reply.Error (slice_get errors 0) (served_result operation.kind operation)
result_by_first [] operation = refl
result_by_first (error ∷ errors) operation = refl

one_result : (b : Bool) (rest others : List OpResult) → (b && same_results rest others) ≡ option_map_or (λ ys. same_results ys others) (when b rest) false
one_result true rest others = refl
one_result false rest others = refl

-- results of operations, where a report passes the first one over or not
results_test : (b : Bool) (o : Operation) (os : List Operation) (rest : List OpResult) → is_unreported o ≡ b →
    same_results rest (results_of (o ∷ os)) ≡ option_map_or (λ others. same_results others (results_of os)) (past o rest) false
results_test true o os [] e = rw e refl
results_test true o os (r ∷ rest) e = rw e (one_result (same_result r (result_of o)) rest (results_of os))
results_test false o os rest e = rw e refl

-- the results of operations from one on
pub same_past : (xs : List Operation) (i : ℕ) (x : Operation) (rest : List OpResult) → i < length xs → x ≡ get_or xs i x →
    same_results rest (results_of (drop i xs))
    ≡ option_map_or (λ others. same_results others (results_of (drop (i + 1) xs))) (past x rest) false
same_past xs i x rest h e =
    ap (λ ys. same_results rest (results_of ys)) (drop_from xs i x h e)
    ∙ results_test (is_unreported x) x (drop (i + 1) xs) rest refl

-- an outcome by the error of the lowest refused piece
pub outcome_by_first : (errors : List FamError) (operation : Operation) →
    outcome_with errors operation ≡ option_map_or answer.Refused (slice_get errors 0) (served_outcome operation.kind operation)
outcome_by_first [] operation = refl
outcome_by_first (error ∷ errors) operation = refl

results_one : (b : Bool) (x : Operation) → is_unreported x ≡ b → map result_of (filter is_unreported (x ∷ [])) ≡ (if b then result_of x ∷ [] else [])
results_one true x e = rw e refl
results_one false x e = rw e refl

-- the results of a front and the next operation
results_next : (b : Bool) (xs : List Operation) (x : Operation) → is_unreported x ≡ b →
    results_of (xs ++ x ∷ []) ≡ results_of xs ++ (if b then result_of x ∷ [] else [])
results_next b xs x e =
    ap (map result_of) (filter-append is_unreported xs (x ∷ []))
    ∙ (map-append result_of (filter is_unreported xs) (filter is_unreported (x ∷ [])) ∙ ap (λ ys. results_of xs ++ ys) (results_one b x e))
