-- Operations that are told alike have the same pieces that may come.
use Rattle.std.proofs.Common.{◌≡◌, ℕ, Bool, true, false, List, map, refl, sym, ap, ◌∙◌}
use Rattle.std.specs.Prelude.{Option, Some, None, slice_get}
use Rattle.std.specs.Option.{option_map}
use Rattle.std.proofs.lemmas.Option.{slice_get-map}
use Rattle.fam_model.specs.declared.piece.Operation.{Operation}
use Rattle.fam_model.specs.declared.state.Context.{Context}
use Rattle.fam_model.specs.Lists.{is_some_and}
use Rattle.fam_model.specs.Operations.{is_left, has_left, has_its_bytes}
use Rattle.fam_ready.specs.Telling.{comes_after, lies_on}
use Rattle.fam_ready.proofs.Coming.{same_some, MayCome, ComesIn}

-- an operation but for whether its result was told
abbrev pub plain : Operation → Operation
plain operation = record operation { reported = false }

-- each of its operations stands there, but for what was told
abbrev pub AreAlike : List Operation → List Operation → Type 0
AreAlike xs ys = map plain ys ≡ map plain xs

pub mapped : {A B : Type 0} (f : A → B) (o : Option A) (y : B) → option_map f o ≡ Some y → (x : A) × (o ≡ Some x) × (f x ≡ y)
mapped f None y h = cc
mapped f (Some x) y h = (x, refl, cc)

-- what stands in the other list
pub alike_at : (xs ys : List Operation) (k : ℕ) (x : Operation) → AreAlike xs ys → slice_get xs k ≡ Some x →
    (y : Operation) × (slice_get ys k ≡ Some y) × (plain y ≡ plain x)
alike_at xs ys k x alike there =
    mapped plain (slice_get ys k) (plain x)
    (sym (slice_get-map plain ys k) ∙ ap (λ os. slice_get os k) alike ∙ slice_get-map plain xs k ∙ ap (option_map plain) there)

pub alike_comes : (x y : Context) (stripe u i : ℕ) → AreAlike x.operations y.operations → ComesIn x stripe u i → ComesIn y stripe u i
alike_comes x y stripe u i alike c =
    let b = alike_at x.operations y.operations c.place c.operation alike c.there in
    record {
      place = c.place;
      operation = b.0;
      there = b.1;
      call = ap (λ (o : Operation). o.call) b.2 ∙ c.call;
      comes = record {
        left = ap (λ (o : Operation). is_some_and (slice_get o.pieces i) is_left) b.2 ∙ c.comes.left;
        past = λ k earlier there.
            let a = alike_at y.operations x.operations k earlier (sym alike) there in
            ap (λ (o : Operation). comes_after o.epoch earlier) b.2
            ∙ ap (λ (e : Operation). comes_after c.operation.epoch e) (sym a.2)
            ∙ c.comes.past k a.0 a.1;
        bytes = ap (λ (o : Operation). has_its_bytes o i) b.2 ∙ c.comes.bytes;
      };
      lies = ap (λ (o : Operation). lies_on stripe o i) b.2 ∙ c.lies;
    }
