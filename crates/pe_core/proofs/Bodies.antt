-- The turns of a repeat by the list of its statements.
use Rattle.std.proofs.Common.{◌≡◌, ℕ, zero, suc, List, [], ◌∷◌, ◌++◌, refl, sym, ap, ◌∙◌, append_assoc}
use Rattle.std.specs.Prelude.{filter, ℤ}
use Rattle.std.specs.List.{flat_map, repeat}
use Rattle.std.proofs.lemmas.List.{append-nil}
use Rattle.std.proofs.lemmas.List.Elements.{filter-append}
use Rattle.std.proofs.lemmas.Grind.{flat_map-append}
use Rattle.fam_model.specs.declared.script.Statement.{Statement, Repeat, Repeat', Spin, Row_of-Statement, end_of-Statement, more_of-Statement, items-the_row-Statement, items_hidden-the_row-Statement-0}
use Rattle.fam_model.specs.declared.call.Width.{Width}
use Rattle.fam_model.specs.Text.{Turn, written_out, all_written_out}
use Rattle.pe_core.specs.Left.{makes_calls, turns_of}

-- a row of statements as a list
abbrev items : {n : _} → Row_of-Statement n → List Statement
items {n} row = items-the_row-Statement n row

all_written_out-items : (n : _) (body : Row_of-Statement n) → all_written_out body ≡ flat_map written_out (items body)
all_written_out-items n end_of-Statement = refl
all_written_out-items n (more_of-Statement s rest) = ap (λ (ts : List Turn). written_out s ++ ts) (all_written_out-items _ rest)

abbrev row_of : Statement → (n : _) × Row_of-Statement n
row_of (Repeat' times _ body) = (_, body)
row_of _ = (_, end_of-Statement)

written_out-Repeat : (times : ℕ) (body : List Statement) → written_out (Repeat times body) ≡ repeat times (flat_map written_out body)
written_out-Repeat times body =
    let row = row_of (Repeat times body) in
    let same = items_hidden-the_row-Statement-0 body in
    ap (λ (ts : List Turn). repeat times ts) (all_written_out-items row.0 row.1 ∙ ap (λ (xs : List Statement). flat_map written_out xs) same)

filter-repeat : (times : ℕ) (turns : List Turn) → filter makes_calls (repeat times turns) ≡ repeat times (filter makes_calls turns)
filter-repeat zero turns = refl
filter-repeat (suc times) turns =
    filter-append makes_calls turns (repeat times turns) ∙ ap (λ (ts : List Turn). filter makes_calls turns ++ ts) (filter-repeat times turns)

-- a repeat makes the calls of its body so many times
pub turns_of-Repeat : (times : ℕ) (body : List Statement) → turns_of (Repeat times body ∷ []) ≡ repeat times (turns_of body)
turns_of-Repeat times body =
    ap (filter makes_calls) (append-nil (written_out (Repeat times body)) ∙ written_out-Repeat times body)
    ∙ filter-repeat times (flat_map written_out body)

pub turns_of-append : (xs ys : List Statement) → turns_of (xs ++ ys) ≡ turns_of xs ++ turns_of ys
turns_of-append xs ys =
    ap (filter makes_calls) (flat_map-append written_out xs ys)
    ∙ filter-append makes_calls (flat_map written_out xs) (flat_map written_out ys)

pub repeat_nothing : {A : Type 0} (times : ℕ) → repeat {A = A} times [] ≡ []
repeat_nothing zero = refl
repeat_nothing (suc times) = repeat_nothing times

repeat_last : {A : Type 0} (times : ℕ) (xs : List A) → repeat times xs ++ xs ≡ xs ++ repeat times xs
repeat_last zero xs = sym (append-nil xs)
repeat_last {A} (suc times) xs =
    append_assoc xs (repeat times xs) xs ∙ ap (λ (l : List A). xs ++ l) (repeat_last times xs)

-- once more
pub repeat_more : {A : Type 0} (front : List A) (times : ℕ) (xs : List A) → (front ++ repeat times xs) ++ xs ≡ front ++ repeat (suc times) xs
repeat_more {A} front times xs = append_assoc front (repeat times xs) xs ∙ ap (λ (l : List A). front ++ l) (repeat_last times xs)

-- a spin of no tries
pub spin_nothing : (statement : Statement) (context item offset : ℕ) (width : Width) (value : ℤ) (tries : ℕ) → statement ≡ Spin context item offset width value tries → tries ≡ 0 → turns_of (statement ∷ []) ≡ []
spin_nothing statement context item offset width value tries e none =
    ap (λ (s : Statement). turns_of (s ∷ [])) e ∙ ap (λ (t : ℕ). turns_of (Spin context item offset width value t ∷ [])) none
