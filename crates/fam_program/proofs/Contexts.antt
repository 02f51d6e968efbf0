-- Contexts as they are kept, and the contexts of the definitions.
use Rattle.std.proofs.Common.{◌≡◌, ℕ, zero, suc, ◌+◌, Bool, true, false, not, ◌||◌, cond, List, [], ◌∷◌, length, map, refl, ap, sym, ◌∙◌}
use Rattle.std.specs.Prelude.{Option, Some, None, slice_get, slice_set, is_some, position}
use Rattle.std.specs.List.{list_any, prefix_len}
use Rattle.std.specs.Option.{option_map}
use Rattle.std.proofs.lemmas.List.{map-set, length-map}
use Rattle.std.proofs.lemmas.Option.{slice_get-map}
use Rattle.fam_context.specs.declared.tracked.Tracked.{Tracked}
use Rattle.fam_model.specs.declared.state.Context.{Context}
use Rattle.fam_model.specs.declared.state.ProgramState.{ProgramState}
use Rattle.fam_model.specs.Lists.{◌>>=◌, when}
use Rattle.fam_model.specs.Programs.{is_open, open_context, with_context}
use Rattle.fam_program.specs.Held.{contexts_of, outs_of}
use Rattle.fam_program.proofs.Options.{when_some}

-- a context at its place
pub context_at : (ts : List Tracked) (c : ℕ) → slice_get (contexts_of ts) c ≡ option_map (λ t. t.context) (slice_get ts c)
context_at ts c = slice_get-map (λ t. t.context) ts c

pub context_set : (ts : List Tracked) (c : ℕ) (t : Tracked) → contexts_of (slice_set ts c t) ≡ slice_set (contexts_of ts) c t.context
context_set ts c t = map-set (λ t. t.context) ts c t

pub out_set : (ts : List Tracked) (c : ℕ) (t : Tracked) → outs_of (slice_set ts c t) ≡ slice_set (outs_of ts) c t.out
out_set ts c t = map-set (λ t. t.out) ts c t

-- a context that is there
pub context_there : (ts : List Tracked) (c : ℕ) (t : Tracked) → slice_get ts c ≡ Some t → slice_get (contexts_of ts) c ≡ Some t.context
context_there ts c t g = context_at ts c ∙ ap (option_map (λ (s : Tracked). s.context)) g

pub out_there : (ts : List Tracked) (c : ℕ) (t : Tracked) → slice_get ts c ≡ Some t → slice_get (outs_of ts) c ≡ Some t.out
out_there ts c t g = slice_get-map (λ (s : Tracked). s.out) ts c ∙ ap (option_map (λ (s : Tracked). s.out)) g

-- what is out, once it is as before at one place
pub out_same : (ts : List Tracked) (c : ℕ) (t s : Tracked) → slice_get ts c ≡ Some t → s.out ≡ t.out → outs_of (slice_set ts c s) ≡ outs_of ts
out_same [] c t s g e = refl
out_same (x ∷ ts) zero t s g e = let same : x ≡ t = cc in ap (λ (o : List (List Bool)). o ∷ outs_of ts) (e ∙ sym (ap (λ (y : Tracked). y.out) same))
out_same (x ∷ ts) (suc c) t s g e = ap (λ (os : List (List (List Bool))). x.out ∷ os) (out_same ts c t s g e)

-- the first context that passes
first_passes : (p : Context → Bool) (ts : List Tracked) → prefix_len (λ context. not (p context)) (contexts_of ts) ≡ prefix_len (λ t. not (p t.context)) ts
first_passes p [] = refl
first_passes p (t ∷ ts) = ap (λ (n : ℕ). cond (not (p t.context)) (1 + n) 0) (first_passes p ts)

pub place_of_context : (p : Context → Bool) (ts : List Tracked) → position p (contexts_of ts) ≡ position (λ t. p t.context) ts
place_of_context p ts = rw (first_passes p ts, length-map ts (λ (t : Tracked). t.context)) refl

-- some context passes
pub any_of_contexts : (p : Context → Bool) (ts : List Tracked) → list_any p (contexts_of ts) ≡ list_any (λ t. p t.context) ts
any_of_contexts p [] = refl
any_of_contexts p (t ∷ ts) = ap (λ (b : Bool). p t.context || b) (any_of_contexts p ts)

-- a program with these contexts
abbrev pub with_all : ProgramState → List Context → ProgramState
with_all p contexts = record p { contexts = contexts }

-- a program in which one context is another
pub with_set : (p : ProgramState) (ts : List Tracked) (c : ℕ) (t : Tracked) → p.contexts ≡ contexts_of ts → with_context p c t.context ≡ with_all p (contexts_of (slice_set ts c t))
with_set p ts c t e =
    ap (with_all p) (ap (λ (cs : List Context). slice_set cs c t.context) e ∙ sym (context_set ts c t))

-- a context that is there and open
pub open_there : (p : ProgramState) (ts : List Tracked) (c : ℕ) (t : Tracked) → p.contexts ≡ contexts_of ts → slice_get ts c ≡ Some t → is_open p c ≡ true → open_context p c ≡ Some t.context
open_there p ts c t e g h =
    let there : slice_get p.contexts c ≡ Some t.context = ap (λ (cs : List Context). slice_get cs c) e ∙ context_there ts c t g in
    let opened : open_context p c ≡ when t.context.is_open t.context = ap (λ (o : Option Context). o >>= λ context. when context.is_open context) there in
    opened ∙ when_some t.context.is_open t.context (ap is_some (sym opened) ∙ h)
