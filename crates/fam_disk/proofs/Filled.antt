-- An image that fills in what is not certain is one that a crash may leave.
use Rattle.std.proofs.Common.{◌≡◌, inl, inr, ℕ, ◌+◌, ◌-◌, ◌<◌, ◌≤◌, min, max, suc, List, [], ◌∷◌, ◌++◌, length, take, drop, map, replicate, refl, sym, ◌∙◌, ap, subst, arith, append_assoc, length-append, length-take, length-drop}
use Rattle.std.specs.Prelude.{◌⊎◌, Option, Some, None}
use Rattle.std.proofs.lemmas.List.{take-append-drop, drop-drop, nil_from_length, length-replicate, take_at, take_min, drop_at, drop_all}
use Rattle.std.proofs.lemmas.Bool.{cases_lt}
use Rattle.fam_disk.specs.Crash.{IsTorn}
use Rattle.fam_disk.specs.Known.{known_by, known_after, filled}
use Rattle.fam_disk.specs.Replay.{content_by, images_by, images_after}
use Rattle.fam_disk.specs.declared.call.DiskCall.{DiskCall}
use Rattle.fam_disk.specs.declared.call.DiskCall.TheVariants.{Asked, Wrote, Synced}

-- a byte that may stand where this is known
abbrev pub May : Option ℕ → ℕ → Type 0
May None byte = Unit {0}
May (Some known) byte = byte ≡ known

-- bytes that may stand where these are known
abbrev pub Fits : List (Option ℕ) → List ℕ → Type 0
Fits [] [] = Unit {0}
Fits [] (byte ∷ bytes) = ⊥
Fits (o ∷ known) [] = ⊥
Fits (o ∷ known) (byte ∷ bytes) = May o byte × Fits known bytes

pub fits_filled : (known : List (Option ℕ)) (fill : List ℕ) → Fits known (filled known fill)
fits_filled [] fill = tt
fits_filled (Some byte ∷ known) fill = (refl, fits_filled known fill)
fits_filled (None ∷ known) [] = (tt, fits_filled known [])
fits_filled (None ∷ known) (byte ∷ fill) = (tt, fits_filled known fill)

length_fits : (known : List (Option ℕ)) (bytes : List ℕ) → Fits known bytes → length bytes ≡ length known
length_fits [] [] fits = refl
length_fits [] (byte ∷ bytes) fits = absurd fits
length_fits (o ∷ known) [] fits = absurd fits
length_fits (o ∷ known) (byte ∷ bytes) fits = ap (λ (n : ℕ). suc n) (length_fits known bytes fits.1)

fits_append : (known later : List (Option ℕ)) (bytes more : List ℕ) → Fits known bytes → Fits later more → Fits (known ++ later) (bytes ++ more)
fits_append [] later [] more fits rest = rest
fits_append [] later (byte ∷ bytes) more fits rest = absurd fits
fits_append (o ∷ known) later [] more fits rest = absurd fits
fits_append (o ∷ known) later (byte ∷ bytes) more fits rest = (fits.0, fits_append known later bytes more fits.1 rest)

fits_front : (known later : List (Option ℕ)) (bytes : List ℕ) → Fits (known ++ later) bytes → Fits known (take (length known) bytes)
fits_front [] later bytes fits = tt
fits_front (o ∷ known) later [] fits = absurd fits
fits_front (o ∷ known) later (byte ∷ bytes) fits = (fits.0, fits_front known later bytes fits.1)

fits_back : (known later : List (Option ℕ)) (bytes : List ℕ) → Fits (known ++ later) bytes → Fits later (drop (length known) bytes)
fits_back [] later bytes fits = fits
fits_back (o ∷ known) later [] fits = absurd fits
fits_back (o ∷ known) later (byte ∷ bytes) fits = fits_back known later bytes fits.1

fits_certain : (bytes image : List ℕ) → Fits (map Some bytes) image → image ≡ bytes
fits_certain [] [] fits = refl
fits_certain [] (byte ∷ image) fits = absurd fits
fits_certain (b ∷ bytes) [] fits = absurd fits
fits_certain (b ∷ bytes) (byte ∷ image) fits = let first : byte ≡ b = fits.0 in let rest : image ≡ bytes = fits_certain bytes image fits.1 in cc

length_map_some : (bytes : List ℕ) → length (map Some bytes) ≡ length bytes
length_map_some [] = refl
length_map_some (byte ∷ bytes) = ap (λ (n : ℕ). suc n) (length_map_some bytes)

known_parts : (at n : ℕ) (known : List (Option ℕ)) → known ≡ take at known ++ (take n (drop at known) ++ drop (at + n) known)
known_parts at n known =
    sym (ap (λ (l : List (Option ℕ)). take at known ++ (take n (drop at known) ++ l)) (sym (drop-drop n at known))
    ∙ ap (λ (l : List (Option ℕ)). take at known ++ l) (take-append-drop n (drop at known))
    ∙ take-append-drop at known)

-- so many bytes that are not certain
abbrev unknown : ℕ → List (Option ℕ)
unknown n = replicate n None

length_unknown : (n : ℕ) → length (unknown n) ≡ n
length_unknown n = length-replicate n None

-- An image of the old bytes, the front and the end of an image after a write, and what the old bytes have in between.
record Parts (at n : ℕ) (known : List (Option ℕ)) (c : List ℕ) : Type 0 where
  first : List ℕ
  middle : List ℕ
  old_middle : List ℕ
  last : List ℕ
  old_fits : Fits known (first ++ (old_middle ++ last))
  is : c ≡ first ++ (middle ++ last)
  length_first : length first ≡ min at (length known)
  length_middle : length middle ≡ n
  length_old : length old_middle ≡ min n (length known - at)
  length_last : length last ≡ length known - (at + n)

parts_of : (at n : ℕ) (known : List (Option ℕ)) (c : List ℕ) → Fits (take at known ++ (unknown n ++ drop (at + n) known)) c → Parts at n known c
parts_of at n known c fits =
    let front : List (Option ℕ) = take at known in
    let within : List (Option ℕ) = take n (drop at known) in
    let back : List (Option ℕ) = drop (at + n) known in
    let rest : List ℕ = drop (length front) c in
    let rest_fits : Fits (unknown n ++ back) rest = fits_back front (unknown n ++ back) c fits in
    let first_fits : Fits front (take (length front) c) = fits_front front (unknown n ++ back) c fits in
    let last_fits : Fits back (drop (length (unknown n)) rest) = fits_back (unknown n) back rest rest_fits in
    let middle_fits : Fits (unknown n) (take (length (unknown n)) rest) = fits_front (unknown n) back rest rest_fits in
    record {
      first = take (length front) c;
      middle = take (length (unknown n)) rest;
      old_middle = filled within [];
      last = drop (length (unknown n)) rest;
      old_fits =
          subst (λ (k : List (Option ℕ)). Fits k (take (length front) c ++ (filled within [] ++ drop (length (unknown n)) rest))) (sym (known_parts at n known))
          (fits_append front (within ++ back) (take (length front) c) (filled within [] ++ drop (length (unknown n)) rest) first_fits
          (fits_append within back (filled within []) (drop (length (unknown n)) rest) (fits_filled within []) last_fits));
      is =
          sym (ap (λ (l : List ℕ). take (length front) c ++ l) (take-append-drop (length (unknown n)) rest)
          ∙ take-append-drop (length front) c);
      length_first = length_fits front (take (length front) c) first_fits ∙ length-take at known;
      length_middle = length_fits (unknown n) (take (length (unknown n)) rest) middle_fits ∙ length_unknown n;
      length_old = length_fits within (filled within []) (fits_filled within []) ∙ length-take n (drop at known) ∙ ap (λ (m : ℕ). min n m) (length-drop at known);
      length_last = length_fits back (drop (length (unknown n)) rest) last_fits ∙ length-drop (at + n) known;
    }

-- the end of bytes in three parts
end_of : (at n : ℕ) (first middle last : List ℕ) (size : ℕ) → (size < at + n) ⊎ (at + n ≤ size) → length first ≡ min at size → length last ≡ size - (at + n)
    → ((at + n ≤ size) → length middle ≡ n) → length (first ++ (middle ++ last)) ≤ max size (at + n) → drop (at + n) (first ++ (middle ++ last)) ≡ last
end_of at n first middle last size (inl past) front back within fits =
    drop_all (at + n) (first ++ (middle ++ last)) (omega arith) ∙ sym (nil_from_length last (omega arith))
end_of at n first middle last size (inr inside) front back within fits =
    ap (λ (l : List ℕ). drop (at + n) l) (sym (append_assoc first middle last))
    ∙ drop_at (first ++ middle) last (at + n) (omega (arith, within inside, length-append first middle))

torn_parts : (at n : ℕ) (known : List (Option ℕ)) (c : List ℕ) → Parts at n known c → (d : List ℕ) × Fits known d × IsTorn at n d c
torn_parts at n known c p =
    let old : List ℕ = p.first ++ (p.old_middle ++ p.last) in
    let new : List ℕ = p.first ++ (p.middle ++ p.last) in
    let size : length old ≡ length known = length_fits known old p.old_fits in
    let new_size : length new ≡ length p.first + (n + length p.last) = omega (arith, length-append p.first (p.middle ++ p.last), length-append p.middle p.last, p.length_middle) in
    let first_is : length p.first ≡ min at (length old) = omega (arith, p.length_first, size) in (
      old,
      p.old_fits,
      subst (λ (l : List ℕ). IsTorn at n old l) (sym p.is)
          (record {
            front =
                take_at p.first (p.middle ++ p.last) (min at (length old)) first_is
                ∙ sym (take_at p.first (p.old_middle ++ p.last) (min at (length old)) first_is)
                ∙ take_min at old;
            back =
                end_of at n p.first p.middle p.last (length known) (cases_lt (length known) (at + n)) p.length_first p.length_last (λ inside. p.length_middle)
                (omega (arith, new_size, p.length_first, p.length_last))
                ∙ sym (end_of at n p.first p.old_middle p.last (length known) (cases_lt (length known) (at + n)) p.length_first p.length_last
                (λ inside. omega (arith, p.length_old)) (omega (arith, size)));
            no_shorter = omega (arith, size, new_size, p.length_first, p.length_last);
            no_longer = omega (arith, size, new_size, p.length_first, p.length_last);
          }),
    )

-- Old bytes with these written over them fit what is certain after a write: each old part fits what was certain there.
pub torn_known : (at n : ℕ) (known : List (Option ℕ)) (c : List ℕ) → Fits (take at known ++ unknown n ++ drop (at + n) known) c → (d : List ℕ) × Fits known d × IsTorn at n d c
torn_known at n known c fits =
    torn_parts at n known c (parts_of at n known c (subst (λ (k : List (Option ℕ)). Fits k c) (append_assoc (take at known) (unknown n) (drop (at + n) known)) fits))

-- what fits what is certain after calls may be left after them
pub images_known : (calls : List DiskCall) (content : List ℕ) (images : List ℕ → Type 0) (known : List (Option ℕ)) → ((c : List ℕ) → Fits known c → images c)
    → (c : List ℕ) → Fits (known_after calls content known) c → images_after calls content images c
images_known [] content images known fit c fits = fit c fits
images_known (Asked ∷ calls) content images known fit c fits = images_known calls content images known fit c fits
images_known (Wrote at bytes served ∷ calls) content images known fit c fits =
    images_known calls (content_by (Wrote at bytes served) content) (images_by (Wrote at bytes served) content images) (known_by (Wrote at bytes served) content known)
    (λ e may. let old = torn_known at (length bytes) known e may in (old.0, fit old.0 old.1, old.2)) c fits
images_known (Synced ∷ calls) content images known fit c fits =
    images_known calls content (images_by Synced content images) (map Some content) (λ e may. fits_certain content e may) c fits

-- an image that fills in the bytes that are not certain
pub image_left : (calls : List DiskCall) (first fill image : List ℕ) → image ≡ filled (known_after calls first (map Some first)) fill
    → images_after calls first (λ c. c ≡ first) image
image_left calls first fill image is =
    images_known calls first (λ c. c ≡ first) (map Some first) (λ c fits. fits_certain first c fits) image
    (subst (λ (c : List ℕ). Fits (known_after calls first (map Some first)) c) (sym is) (fits_filled (known_after calls first (map Some first)) fill))
