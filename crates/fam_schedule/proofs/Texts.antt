-- A program's text gives its next call until it has left or crashed.
use Rattle.std.proofs.Common.{◌≡◌, ℕ, ◌+◌, ◌<◌, ◌≤◌, Bool, true, false, List, [], ◌∷◌, ◌++◌, refl, sym, ap, ◌∙◌, arith, zero, suc, length, inl, inr, ℤ}
use Rattle.std.specs.Prelude.{◌&&◌, ◌⊎◌, Option, Some, None, is_some, if◌then◌else◌}
use Rattle.std.specs.List.{list_all}
use Rattle.fam_model.specs.declared.call.Call.{Call}
use Rattle.fam_model.specs.declared.call.Call.TheVariants as call
use Rattle.fam_model.specs.declared.reply.Reply.{Reply}
use Rattle.fam_model.specs.Shape.{is_shaped}
use Rattle.fam_model.specs.Text.{Turn, Once, Until, next_of, after_spin, ends_spin, is_crash}

-- the calls that turns may make, spins counted by their tries
abbrev pub total : List Turn → ℕ
total [] = 0
total (Once asked ∷ turns) = 1 + total turns
total (Until asked value tries ∷ turns) = tries + total turns

-- the call of a turn
abbrev pub call_of : Turn → Call
call_of (Once asked) = asked
call_of (Until asked value tries) = asked

-- the call ends its program
abbrev pub ends : Call → Bool
ends call.Leave = true
ends call.Crash = true
ends _ = false

-- spins

spin_more : (tries : ℕ) (value : ℤ) (replies others : List Reply) (given : Reply) → after_spin tries value replies ≡ Some others →
    after_spin tries value (replies ++ given ∷ []) ≡ Some (others ++ given ∷ [])
spin_more zero value replies others given e = let same : replies ≡ others = cc in ap (λ rs. Some (rs ++ given ∷ [])) same
spin_more (suc tries) value [] others given e = cc
spin_more (suc tries) value (first ∷ replies) others given e = by_end (ends_spin value first) refl (λ h. spin_more tries value replies others given h)
  where
    by_end : (b : Bool) → ends_spin value first ≡ b → (after_spin tries value replies ≡ Some others → after_spin tries value (replies ++ given ∷ []) ≡ Some (others ++ given ∷ [])) →
        after_spin (suc tries) value (first ∷ (replies ++ given ∷ [])) ≡ Some (others ++ given ∷ [])
    by_end true f rest =
        let shown : after_spin (suc tries) value (first ∷ replies) ≡ Some replies = rw f refl in
        let some : Some replies ≡ Some others = sym shown ∙ e in
        let same : replies ≡ others = cc in
        rw f (ap (λ rs. Some (rs ++ given ∷ [])) same)
    by_end false f rest =
        let shown : after_spin (suc tries) value (first ∷ replies) ≡ after_spin tries value replies = rw f refl in
        rw f (rest (sym shown ∙ e))

spin_goes_on : (tries : ℕ) (value : ℤ) (replies : List Reply) (given : Reply) → after_spin tries value replies ≡ None →
    (after_spin tries value (replies ++ given ∷ []) ≡ None) ⊎ (after_spin tries value (replies ++ given ∷ []) ≡ Some [])
spin_goes_on zero value replies given e = cc
spin_goes_on (suc tries) value [] given e = by_end (ends_spin value given) refl tries
  where
    by_end : (b : Bool) → ends_spin value given ≡ b → (tries : ℕ) →
        (after_spin (suc tries) value (given ∷ []) ≡ None) ⊎ (after_spin (suc tries) value (given ∷ []) ≡ Some [])
    by_end true f tries = inr (rw f refl)
    by_end false f zero = inr (rw f refl)
    by_end false f (suc tries) = inl (rw f refl)
spin_goes_on (suc tries) value (first ∷ replies) given e = by_end (ends_spin value first) refl (λ h. spin_goes_on tries value replies given h)
  where
    by_end : (b : Bool) → ends_spin value first ≡ b →
        (after_spin tries value replies ≡ None → (after_spin tries value (replies ++ given ∷ []) ≡ None) ⊎ (after_spin tries value (replies ++ given ∷ []) ≡ Some [])) →
        (after_spin (suc tries) value (first ∷ (replies ++ given ∷ [])) ≡ None) ⊎ (after_spin (suc tries) value (first ∷ (replies ++ given ∷ [])) ≡ Some [])
    by_end true f rest = let shown : after_spin (suc tries) value (first ∷ replies) ≡ Some replies = rw f refl in let no : Some replies ≡ None = sym shown ∙ e in cc
    by_end false f rest =
        let shown : after_spin (suc tries) value (first ∷ replies) ≡ after_spin tries value replies = rw f refl in
        rw f (rest (sym shown ∙ e))

spin_length : (tries : ℕ) (value : ℤ) (replies others : List Reply) → after_spin tries value replies ≡ Some others → length replies ≤ tries + length others
spin_length zero value replies others e = let same : replies ≡ others = cc in let lengths : length replies ≡ length others = ap length same in omega arith
spin_length (suc tries) value [] others e = cc
spin_length (suc tries) value (first ∷ replies) others e = by_end (ends_spin value first) refl (λ h. spin_length tries value replies others h)
  where
    by_end : (b : Bool) → ends_spin value first ≡ b → (after_spin tries value replies ≡ Some others → length replies ≤ tries + length others) →
        length (first ∷ replies) ≤ suc tries + length others
    by_end true f rest =
        let shown : after_spin (suc tries) value (first ∷ replies) ≡ Some replies = rw f refl in
        let some : Some replies ≡ Some others = sym shown ∙ e in
        let same : replies ≡ others = cc in
        let lengths : length replies ≡ length others = ap length same in omega arith
    by_end false f rest =
        let shown : after_spin (suc tries) value (first ∷ replies) ≡ after_spin tries value replies = rw f refl in
        let low = rest (sym shown ∙ e) in omega arith

spin_short : (tries : ℕ) (value : ℤ) (replies : List Reply) → after_spin tries value replies ≡ None → length replies < tries
spin_short zero value replies e = cc
spin_short (suc tries) value [] e = omega arith
spin_short (suc tries) value (first ∷ replies) e = by_end (ends_spin value first) refl (λ h. spin_short tries value replies h)
  where
    by_end : (b : Bool) → ends_spin value first ≡ b → (after_spin tries value replies ≡ None → length replies < tries) → length (first ∷ replies) < suc tries
    by_end true f rest = let shown : after_spin (suc tries) value (first ∷ replies) ≡ Some replies = rw f refl in let no : Some replies ≡ None = sym shown ∙ e in cc
    by_end false f rest =
        let shown : after_spin (suc tries) value (first ∷ replies) ≡ after_spin tries value replies = rw f refl in
        let low = rest (sym shown ∙ e) in omega arith

-- texts

pub first_some : (turns : List Turn) → is_some (next_of turns []) ≡ true
first_some [] = refl
first_some (Once asked ∷ turns) = refl
first_some (Until asked value zero ∷ turns) = first_some turns
first_some (Until asked value (suc tries) ∷ turns) = refl

some_of : {A : Type 0} (o : Option A) (x : A) → o ≡ Some x → is_some o ≡ true
some_of o x e = rw e refl

not_crash : (asked : Call) (o : Option Call) (due : Call) → (if is_crash asked then None else o) ≡ Some due → (is_crash asked ≡ false) × (o ≡ Some due)
not_crash asked o due e = by_crash (is_crash asked) refl
  where
    by_crash : (b : Bool) → is_crash asked ≡ b → (is_crash asked ≡ false) × (o ≡ Some due)
    by_crash false f = (f, (let shown : (if is_crash asked then None else o) ≡ o = rw f refl in sym shown ∙ e))
    by_crash true f = let shown : (if is_crash asked then None else o) ≡ None = rw f refl in let no : None ≡ Some due = sym shown ∙ e in cc

goes_past : (asked : Call) → ends asked ≡ false → is_crash asked ≡ false
goes_past call.Crash e = cc
goes_past (call.Meta a) e = refl
goes_past (call.Data c op b) e = refl
goes_past (call.OpenContext c) e = refl
goes_past (call.CloseContext c) e = refl
goes_past (call.CopyWait c n) e = refl
goes_past (call.Fence c) e = refl
goes_past (call.Quiet c) e = refl
goes_past call.Barrier e = refl
goes_past call.Leave e = cc

-- behind a call that does not end the program comes another one
pub goes_on : (turns : List Turn) (replies : List Reply) (due : Call) (given : Reply) → next_of turns replies ≡ Some due → ends due ≡ false → is_some (next_of turns (replies ++ given ∷ [])) ≡ true
goes_on [] [] due given e h = let same : call.Leave ≡ due = cc in let no : true ≡ false = ap ends same ∙ h in cc
goes_on [] (first ∷ replies) due given e h = cc
goes_on (Once asked ∷ turns) [] due given e h =
    let same : asked ≡ due = cc in
    let past : is_crash asked ≡ false = goes_past asked (ap ends same ∙ h) in
    rw past (first_some turns)
goes_on (Once asked ∷ turns) (first ∷ replies) due given e h =
    let past = not_crash asked (next_of turns replies) due e in
    rw past.0 (goes_on turns replies due given past.1 h)
goes_on (Until asked value tries ∷ turns) replies due given e h = by_spin (after_spin tries value replies) refl (λ others f. goes_on turns others due given f h)
  where
    by_spin : (o : Option (List Reply)) → after_spin tries value replies ≡ o →
        ((others : List Reply) → next_of turns others ≡ Some due → is_some (next_of turns (others ++ given ∷ [])) ≡ true) → is_some (next_of (Until asked value tries ∷ turns) (replies ++ given ∷ [])) ≡ true
    by_spin (Some others) f rest =
        let shown : next_of (Until asked value tries ∷ turns) replies ≡ next_of turns others = rw f refl in
        rw (spin_more tries value replies others given f) (rest others (sym shown ∙ e))
    by_spin None f rest = by_end (spin_goes_on tries value replies given f)
      where
        by_end : (after_spin tries value (replies ++ given ∷ []) ≡ None) ⊎ (after_spin tries value (replies ++ given ∷ []) ≡ Some []) →
            is_some (next_of (Until asked value tries ∷ turns) (replies ++ given ∷ [])) ≡ true
        by_end (inl none) = rw none refl
        by_end (inr some) = rw some (first_some turns)

-- a text has a next call for no more replies than it may make calls
pub no_more : (turns : List Turn) (replies : List Reply) (due : Call) → next_of turns replies ≡ Some due → length replies ≤ total turns
no_more [] [] due e = omega arith
no_more [] (first ∷ replies) due e = cc
no_more (Once asked ∷ turns) [] due e = omega arith
no_more (Once asked ∷ turns) (first ∷ replies) due e =
    let rest = no_more turns replies due (not_crash asked (next_of turns replies) due e).1 in omega arith
no_more (Until asked value tries ∷ turns) replies due e = by_spin (after_spin tries value replies) refl (λ others f. no_more turns others due f)
  where
    by_spin : (o : Option (List Reply)) → after_spin tries value replies ≡ o → ((others : List Reply) → next_of turns others ≡ Some due → length others ≤ total turns) →
        length replies ≤ tries + total turns
    by_spin (Some others) f rest =
        let shown : next_of (Until asked value tries ∷ turns) replies ≡ next_of turns others = rw f refl in
        let low = rest others (sym shown ∙ e) in
        let taken = spin_length tries value replies others f in omega arith
    by_spin None f rest = let short = spin_short tries value replies f in omega arith

-- the next call is that of a turn, or leaving
pub next_shaped : (turns : List Turn) (replies : List Reply) (due : Call) → list_all (λ turn. is_shaped (call_of turn)) turns ≡ true → next_of turns replies ≡ Some due → is_shaped due ≡ true
next_shaped [] [] due all e = let same : call.Leave ≡ due = cc in ap is_shaped (sym same)
next_shaped [] (first ∷ replies) due all e = cc
next_shaped (Once asked ∷ turns) [] due all e = let same : asked ≡ due = cc in ap is_shaped (sym same) ∙ first_true (is_shaped asked) _ all
  where
    first_true : (a b : Bool) → (a && b) ≡ true → a ≡ true
    first_true true b e = refl
    first_true false b e = cc
next_shaped (Once asked ∷ turns) (first ∷ replies) due all e =
    next_shaped turns replies due (second_true (is_shaped asked) (list_all (λ turn. is_shaped (call_of turn)) turns) all) (not_crash asked (next_of turns replies) due e).1
  where
    second_true : (a b : Bool) → (a && b) ≡ true → b ≡ true
    second_true true b e = e
    second_true false b e = cc
next_shaped (Until asked value tries ∷ turns) replies due all e = by_spin (after_spin tries value replies) refl (λ others a f. next_shaped turns others due a f)
  where
    first_true : (a b : Bool) → (a && b) ≡ true → a ≡ true
    first_true true b e = refl
    first_true false b e = cc

    second_true : (a b : Bool) → (a && b) ≡ true → b ≡ true
    second_true true b e = e
    second_true false b e = cc

    by_spin : (o : Option (List Reply)) → after_spin tries value replies ≡ o →
        ((others : List Reply) → list_all (λ turn. is_shaped (call_of turn)) turns ≡ true → next_of turns others ≡ Some due → is_shaped due ≡ true) → is_shaped due ≡ true
    by_spin (Some others) f rest =
        let shown : next_of (Until asked value tries ∷ turns) replies ≡ next_of turns others = rw f refl in
        rest others (second_true (is_shaped asked) (list_all (λ turn. is_shaped (call_of turn)) turns) all) (sym shown ∙ e)
    by_spin None f rest =
        let shown : next_of (Until asked value tries ∷ turns) replies ≡ Some asked = rw f refl in
        let some : Some asked ≡ Some due = sym shown ∙ e in
        let same : asked ≡ due = cc in
        ap is_shaped (sym same) ∙ first_true (is_shaped asked) (list_all (λ turn. is_shaped (call_of turn)) turns) all
