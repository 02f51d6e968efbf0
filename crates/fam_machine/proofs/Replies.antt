-- What a reply to a request that changes nothing tells.
use Rattle.std.proofs.Common.{◌≡◌, Option, Some, None, Bool, true, false, sym, ap, ◌∙◌, refl, subst, inl, inr}
use Rattle.std.specs.Prelude.{◌&&◌, ◌⊎◌, is_none, is_some}
use Rattle.std.specs.Option.{option_map_or}
use Rattle.std.proofs.lemmas.Option.{none-some}
use Rattle.fam_base.specs.declared.naming.Who.{Who}
use Rattle.fam_base.specs.declared.error.FamError.{FamError}
use Rattle.fam_model.specs.declared.change.Change.{Change}
use Rattle.fam_model.specs.declared.reply.Reply.{Reply}
use Rattle.fam_model.specs.declared.reply.Reply.TheVariants as reply
use Rattle.fam_model.specs.declared.request.Request.{Request}
use Rattle.fam_model.specs.declared.request.Request.TheVariants as request
use Rattle.fam_model.specs.declared.rows.Rows.{Rows}
use Rattle.fam_model.specs.Directory.{answer, refusal, found, change_at, may_lie}
use Rattle.fam_model.specs.Lists.{◌>>=◌, when}
use Rattle.fam_model.specs.MetaStep.{unchanging_reply, told_base, told_change, may_reply}
use Rattle.fam_model.specs.Same.{same_reply}
use Rattle.fam_machine.specs.Effects.{Tells, told_if}
use Rattle.fam_machine.specs.declared.meta.Told.{Told}
use Rattle.fam_machine.specs.declared.meta.Told.TheVariants.{Right, Wrong}

-- a reply that changes nothing tells whether it is the one
told_so : (rows : Rows) (who : Who) (asked : Request) (given : Reply) (b : Bool) → may_reply rows who asked given ≡ b → told_change rows who asked given ≡ None → Tells rows who asked given (told_if b)
told_so rows who asked given true e none = (e, none)
told_so rows who asked given false e none = e

no_change : (o : Option Change) (tests : Change → Bool) → ((chosen : Change) → tests chosen ≡ false) → (o >>= λ chosen. when (tests chosen) chosen) ≡ None
no_change None tests fails = refl
no_change (Some chosen) tests fails = ap (λ b. when b chosen) (fails chosen)

-- a refused request has no change
pub refused_tells : (rows : Rows) (who : Who) (asked : Request) (given : Reply) (error : FamError) → refusal rows who asked ≡ Some error → Tells rows who asked given (told_if (same_reply given (reply.Error error)))
refused_tells rows who asked given error e =
    told_so rows who asked given (same_reply given (reply.Error error))
    (ap (λ o. option_map_or (same_reply given) (unchanging_reply o rows asked) (is_some (told_change rows who asked given))) e)
    (no_change (change_at rows who asked (told_base given)) (λ chosen. is_none (refusal rows who asked) && may_lie rows asked (told_base given) && same_reply given (answer chosen))
    (λ chosen. ap (λ o. is_none o && may_lie rows asked (told_base given) && same_reply given (answer chosen)) e))

found_nothing_changes : (rows : Rows) (who : Who) (asked : Request) (given told : Reply) → found rows asked ≡ Some told → told_change rows who asked given ≡ None
found_nothing_changes rows who (request.LookupRegion name) given told e = refl
found_nothing_changes rows who (request.StatRegion region) given told e = refl
found_nothing_changes rows who (request.Lookup name region) given told e = refl
found_nothing_changes rows who (request.Stat item) given told e = refl
found_nothing_changes rows who asked given told e = absurd (none-some told e)

-- nor has one that finds something
pub found_tells : (rows : Rows) (who : Who) (asked : Request) (given told : Reply) → refusal rows who asked ≡ None → found rows asked ≡ Some told → Tells rows who asked given (told_if (same_reply given told))
found_tells rows who asked given told none e =
    told_so rows who asked given (same_reply given told)
    (ap (λ o. option_map_or (same_reply given) (unchanging_reply o rows asked) (is_some (told_change rows who asked given))) none
    ∙ ap (λ o. option_map_or (same_reply given) o (is_some (told_change rows who asked given))) e)
    (found_nothing_changes rows who asked given told e)

-- a wrong reply tells no change
pub wrong_tells_nothing : (rows : Rows) (who : Who) (asked : Request) (given : Reply) → may_reply rows who asked given ≡ false → told_change rows who asked given ≡ None
wrong_tells_nothing rows who asked given wrong = by_refusal (refusal rows who asked) refl
  where
    none_of : (o : Option Change) → is_some o ≡ false → o ≡ None
    none_of None e = refl
    none_of (Some x) e = cc

    by_found : (o : Option Reply) → refusal rows who asked ≡ None → found rows asked ≡ o → told_change rows who asked given ≡ None
    by_found (Some told) none e = found_nothing_changes rows who asked given told e
    by_found None none e =
        none_of (told_change rows who asked given)
        (sym (ap (λ o. option_map_or (same_reply given) (unchanging_reply o rows asked) (is_some (told_change rows who asked given))) none
        ∙ ap (λ o. option_map_or (same_reply given) o (is_some (told_change rows who asked given))) e) ∙ wrong)

    by_refusal : (o : Option FamError) → refusal rows who asked ≡ o → told_change rows who asked given ≡ None
    by_refusal None e = by_found (found rows asked) e refl
    by_refusal (Some error) e =
        no_change (change_at rows who asked (told_base given)) (λ chosen. is_none (refusal rows who asked) && may_lie rows asked (told_base given) && same_reply given (answer chosen))
        (λ chosen. ap (λ o. is_none o && may_lie rows asked (told_base given) && same_reply given (answer chosen)) e)

pub right_or_wrong : (rows : Rows) (who : Who) (asked : Request) (given : Reply) (t : Told) → Tells rows who asked given t → (t ≡ Right) ⊎ (t ≡ Wrong) → told_change rows who asked given ≡ None
right_or_wrong rows who asked given t tells (inl right) = (subst (Tells rows who asked given) right tells).1
right_or_wrong rows who asked given t tells (inr wrong) = wrong_tells_nothing rows who asked given (subst (Tells rows who asked given) wrong tells)
