-- Contexts that are opened and fenced.
use Rattle.std.proofs.Common.{◌≡◌, ℕ, ◌+◌, Bool, true, false, not, List, ap, sym, ◌∙◌}
use Rattle.std.specs.Prelude.{Option, Some, slice_get, slice_set}
use Rattle.fam_context.specs.declared.tracked.Tracked.{Tracked}
use Rattle.fam_context.specs.Effects.{fenced}
use Rattle.fam_model.specs.declared.state.Context.{Context}
use Rattle.fam_model.specs.declared.state.ProgramState.{ProgramState}
use Rattle.fam_model.specs.ContextStep.{new_context, open_step, fence_step}
use Rattle.fam_model.specs.Lists.{◌>>=◌, when}
use Rattle.fam_model.specs.Programs.{is_open, counted, with_context}
use Rattle.fam_program.specs.Held.{contexts_of}
use Rattle.fam_program.proofs.Contexts.{with_all, with_set, open_there}

pub opened_is : (old p : ProgramState) (ts : List Tracked) (c : ℕ) (t : Tracked) → p ≡ old → p.contexts ≡ contexts_of ts → is_open old c ≡ false → t.context ≡ new_context → open_step old c ≡ Some (with_all (counted p) (contexts_of (slice_set ts c t)))
opened_is old p ts c t same e closed new =
    let closed_too : is_open p c ≡ false = ap (λ (q : ProgramState). is_open q c) same ∙ closed in
    ap (λ (q : ProgramState). open_step q c) (sym same)
    ∙ ap (λ (b : Bool). when (not b) (with_context (counted p) c new_context)) closed_too
    ∙ ap (λ (context : Context). Some (with_context (counted p) c context)) (sym new)
    ∙ ap (λ (q : ProgramState). Some q) (with_set (counted p) ts c t e)

abbrev later : Context → Context
later context = record context { epoch = context.epoch + 1 }

pub fenced_is : (old p : ProgramState) (ts : List Tracked) (c : ℕ) (before after : Tracked) → p ≡ old → p.contexts ≡ contexts_of ts → slice_get ts c ≡ Some before → is_open old c ≡ true → after ≡ fenced before → fence_step old c ≡ Some (with_all (counted p) (contexts_of (slice_set ts c after)))
fenced_is old p ts c before after same e g open_too new =
    let is_open_here : is_open p c ≡ true = ap (λ (q : ProgramState). is_open q c) same ∙ open_too in
    ap (λ (q : ProgramState). fence_step q c) (sym same)
    ∙ ap (λ (o : Option Context). o >>= λ context. Some (with_context (counted p) c (later context))) (open_there p ts c before e g is_open_here)
    ∙ ap (λ (t : Tracked). Some (with_context (counted p) c t.context)) (sym new)
    ∙ ap (λ (q : ProgramState). Some q) (with_set (counted p) ts c after e)
