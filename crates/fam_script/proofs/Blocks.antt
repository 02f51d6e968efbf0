-- A repeat by the list of its statements.
use Rattle.std.proofs.Common.{◌≡◌, ℕ, ◌+◌, ◌*◌, List, [], ◌∷◌, ◌++◌, refl, sym, ap, ◌∙◌}
use Rattle.std.proofs.lemmas.List.Sums.{sum_by-cons}
use Rattle.std.specs.Prelude.{sum_by}
use Rattle.std.specs.List.{flat_map}
use Rattle.fam_model.specs.declared.script.Statement.{Statement, One, Repeat, Repeat', Spin, Row_of-Statement, end_of-Statement, more_of-Statement, items-the_row-Statement, items_hidden-the_row-Statement-0}
use Rattle.fam_model.specs.declared.script.Statement.TheOpen.{Statement-F}
use Rattle.fam_model.specs.declared.script.Statement.TheViews.{out-Statement, roll-Statement, roll-out-Statement}
use Rattle.fam_model.specs.declared.script.Statement.TheVariants.{rolls-One, rolls-Repeat, rolls-Spin}
use Rattle.fam_model.specs.declared.line.Line.{Line}
use Rattle.fam_model.specs.declared.line.Line.TheVariants as line
use Rattle.fam_model.specs.ScriptText.{statement_lines, block_lines, call_count, block_count}

-- a row of statements as a list
abbrev pub items : {n : _} → Row_of-Statement n → List Statement
items {n} row = items-the_row-Statement n row

abbrev times_of : Statement → ℕ
times_of (Repeat' times shape body) = times
times_of _ = 0

abbrev items_of : Statement → List Statement
items_of (Repeat' times shape body) = items body
items_of _ = []

items_of-Repeat : (times : ℕ) (body : List Statement) → items_of (Repeat times body) ≡ body
items_of-Repeat times body = items_hidden-the_row-Statement-0 body

abbrev IsRepeat : Statement → Type 0
IsRepeat s = Repeat (times_of s) (items_of s) ≡ s

repeat_is : (s : Statement) (times : ℕ) (body : List Statement) → s ≡ Repeat times body → IsRepeat s
repeat_is s times body e =
    let t : times_of s ≡ times = ap times_of e in
    let b : items_of s ≡ body = ap items_of e ∙ items_of-Repeat times body in
    rw (t, b) (sym e)

repeat_of_layer : (times : ℕ) (shape : _) (body : _) (x : Statement-F Statement) → out-Statement (Repeat' times shape body) ≡ x → IsRepeat (Repeat' times shape body)
repeat_of_layer times shape body (Statement-F.One asked) e =
    let other : Repeat' times shape body ≡ One asked = sym (roll-out-Statement (Repeat' times shape body)) ∙ ap roll-Statement e ∙ rolls-One asked in absurd cc
repeat_of_layer times shape body (Statement-F.Repeat t b) e =
    repeat_is _ t b (sym (roll-out-Statement (Repeat' times shape body)) ∙ ap roll-Statement e ∙ rolls-Repeat t b)
repeat_of_layer times shape body (Statement-F.Spin context item offset width value tries) e =
    let other : Repeat' times shape body ≡ Spin context item offset width value tries =
    sym (roll-out-Statement (Repeat' times shape body)) ∙ ap roll-Statement e ∙ rolls-Spin context item offset width value tries in absurd cc

-- the same repeat, made of its list and of its row
pub Repeat_items : (times : ℕ) (shape : _) (body : _) → Repeat times (items body) ≡ Repeat' times shape body
Repeat_items times shape body = repeat_of_layer times shape body (out-Statement (Repeat' times shape body)) refl

pub block_lines-items : (n : _) (body : Row_of-Statement n) → block_lines body ≡ flat_map statement_lines (items body)
block_lines-items n end_of-Statement = refl
block_lines-items n (more_of-Statement s rest) = ap (λ (ls : List Line). statement_lines s ++ ls) (block_lines-items _ rest)

pub block_count-items : (n : _) (body : Row_of-Statement n) → block_count body ≡ sum_by call_count (items body)
block_count-items n end_of-Statement = refl
block_count-items n (more_of-Statement s rest) = ap (λ (k : ℕ). call_count s + k) (block_count-items _ rest) ∙ sym (sum_by-cons call_count s (items rest))

abbrev pub row_of : Statement → (n : _) × Row_of-Statement n
row_of (Repeat' times _ body) = (_, body)
row_of _ = (_, end_of-Statement)

pub statement_lines-Repeat : (times : ℕ) (body : List Statement) → statement_lines (Repeat times body) ≡ line.Repeat times ∷ (flat_map statement_lines body ++ line.Done ∷ [])
statement_lines-Repeat times body =
    let row = row_of (Repeat times body) in
    let same = items_hidden-the_row-Statement-0 body in
    ap (λ (ls : List Line). line.Repeat times ∷ (ls ++ line.Done ∷ [])) (block_lines-items row.0 row.1 ∙ ap (λ (xs : List Statement). flat_map statement_lines xs) same)

pub call_count-Repeat : (times : ℕ) (body : List Statement) → call_count (Repeat times body) ≡ times * sum_by call_count body
call_count-Repeat times body =
    let row = row_of (Repeat times body) in
    let same = items_hidden-the_row-Statement-0 body in
    ap (λ (n : ℕ). times * n) (block_count-items row.0 row.1 ∙ ap (λ (xs : List Statement). sum_by call_count xs) same)
