-- A program and its replies.
use Rattle.std.proofs.Common.{◌≡◌, ℕ, ◌+◌, List, [], ◌∷◌, ◌++◌, length, map, sym, ap, ◌∙◌, append-nil, arith, suc}
use Rattle.std.specs.List.{enumerate_from}
use Rattle.std.proofs.lemmas.List.{map-append, length-map}
use Rattle.std.proofs.lemmas.List.FromFn.{length-enumerate_from}
use Rattle.fam_model.specs.declared.report.ReplyLine.{ReplyLine}
use Rattle.fam_model.specs.declared.reply.Reply.{Reply}
use Rattle.fam_model.specs.declared.script.Program.{Program}
use Rattle.fam_model.specs.Text.{next_call}
use Rattle.pe_core.specs.Left.{Left, StandsFor, next_after}
use Rattle.fam_audit.specs.Turns.{line_of, lines_of}

-- the next call is the one that is due
pub due_of : (program : Program) (replies : List Reply) (l : Left) → StandsFor program replies l → next_after l [] ≡ next_call program replies
due_of program replies l s = sym (s.goes_on []) ∙ ap (next_call program) (append-nil replies)

-- an element with its number
abbrev pub numbered_as : {A : Type 0} → ℕ → A → ℕ × A
numbered_as n x = (n, x)

-- elements with their numbers, in two parts
pub enumerated_more : {A : Type 0} (n : ℕ) (xs ys : List A) → enumerate_from n (xs ++ ys) ≡ enumerate_from n xs ++ enumerate_from (n + length xs) ys
enumerated_more n [] ys = let same : n ≡ n + 0 = omega arith in ap (λ m. enumerate_from m ys) same
enumerated_more n (x ∷ xs) ys =
    let same : (n + 1) + length xs ≡ n + suc (length xs) = omega arith in
    ap (λ zs. numbered_as n x ∷ zs) (enumerated_more (n + 1) xs ys ∙ ap (λ m. enumerate_from (n + 1) xs ++ enumerate_from m ys) same)

-- the lines of one reply more
pub lines_more : (pe : ℕ) (replies : List Reply) (given : Reply) →
    lines_of pe (replies ++ given ∷ []) ≡ lines_of pe replies ++ record { pe = record { 0 = pe }; call = length replies; reply = given } ∷ []
lines_more pe replies given =
    let first : 0 + length replies ≡ length replies = omega arith in
    ap (map (line_of pe)) (enumerated_more 0 replies (given ∷ []) ∙ ap (λ m. enumerate_from 0 replies ++ enumerate_from m (given ∷ [])) first)
    ∙ map-append (line_of pe) (enumerate_from 0 replies) (enumerate_from (length replies) (given ∷ []))

-- the lines with that of one reply more
pub grown_lines : (pe n : ℕ) (replies : List Reply) (given : Reply) (old new : List ReplyLine) → old ≡ lines_of pe replies → n ≡ length old →
    new ≡ old ++ record { pe = record { 0 = pe }; call = n; reply = given } ∷ [] → new ≡ lines_of pe (replies ++ given ∷ [])
grown_lines pe n replies given old new same count grown =
    let long : n ≡ length replies = count ∙ ap length same ∙ length-map (enumerate_from 0 replies) (line_of pe) ∙ length-enumerate_from 0 replies in
    grown
    ∙ ap (λ ls. ls ++ line_of pe (numbered_as n given) ∷ []) same
    ∙ ap (λ k. lines_of pe replies ++ line_of pe (numbered_as k given) ∷ []) long
    ∙ sym (lines_more pe replies given)
