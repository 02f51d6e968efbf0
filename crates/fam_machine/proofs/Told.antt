-- What a call on the directory keeps.
use Rattle.std.proofs.Common.{◌≡◌, ℕ, ◌+◌, ◌<◌, ◌≤◌, List, [], ◌∷◌, ◌++◌, map, get_or, Option, Some, None, Bool, true, false, sym, ap, subst, ◌∙◌, refl, arith}
use Rattle.std.specs.Prelude.{◌&&◌, ◌==◌, nat_le, cond, All, is_some, is_none, find}
use Rattle.std.specs.Option.{option_map_or, option_or}
use Rattle.std.specs.List.Sorted.{IsStrictlyIncreasing}
use Rattle.std.proofs.lemmas.Bool.{false≢true}
use Rattle.std.proofs.lemmas.Bool.Decides.{nat_tests}
use Rattle.std.proofs.lemmas.List.Elements.{All-cons, All-nil, All-weaker, All-set, All-filter}
use Rattle.std.proofs.lemmas.List.Folds.{find-append}
use Rattle.std.proofs.lemmas.Option.{same_Some}
use Rattle.fam_base.specs.declared.naming.Descriptor.{Descriptor}
use Rattle.fam_base.specs.declared.naming.Who.{Who}
use Rattle.fam_base.specs.declared.naming.RegionId.{RegionId}
use Rattle.fam_base.specs.declared.error.FamError.{FamError}
use Rattle.fam_model.specs.declared.call.MetaCall.{MetaCall}
use Rattle.fam_model.specs.declared.call.MetaCall.TheVariants as meta
use Rattle.fam_model.specs.declared.change.Change.{Change}
use Rattle.fam_model.specs.declared.change.Change.TheVariants as change
use Rattle.fam_model.specs.declared.reply.Reply.{Reply}
use Rattle.fam_model.specs.declared.reply.Reply.TheVariants as reply
use Rattle.fam_model.specs.declared.piece.Operation.{Operation}
use Rattle.fam_model.specs.declared.request.Request.{Request}
use Rattle.fam_model.specs.declared.request.Request.TheVariants as request
use Rattle.fam_model.specs.declared.rows.ItemRow.{ItemRow}
use Rattle.fam_model.specs.declared.rows.RegionRow.{RegionRow}
use Rattle.fam_model.specs.declared.rows.Rows.{Rows}
use Rattle.fam_model.specs.declared.state.ProgramState.{ProgramState}
use Rattle.fam_model.specs.Directory.{after, answer, refusal, found, may_lie}
use Rattle.fam_model.specs.Equals.{equal_replies}
use Rattle.fam_model.specs.Limits.{max_region_size}
use Rattle.fam_model.specs.Lists.{◌>>=◌, when, find_number, is_some_and}
use Rattle.fam_model.specs.MetaStep.{unchanging_reply, told_change, may_reply, served_change, meta_step}
use Rattle.fam_model.specs.Programs.{request_of, filled, fill_item, fill_region, counted, region_slot}
use Rattle.fam_model.specs.Rows.{IsLawful, IsLawfulRegion, IsLawfulItem, item_of, item_number, region_of, region_number, region_named, item_named, items_in, descriptor_of, room, fits}
use Rattle.fam_model.specs.Same.{same_reply}
use Rattle.fam_machine.specs.Sound.{IsKnown, IsSoundPiece, IsSoundOperation, IsSoundContext, IsSoundSlot, HoldsSound}
use Rattle.fam_machine.specs.Views.{rows_with}
use Rattle.fam_machine.proofs.Changes.{KeepsItems}
use Rattle.fam_machine.proofs.Lists.{bind_some, when_some, All-found, find_number-find, found_holds, found_passes, rise_behind, above_first}
use Rattle.fam_machine.proofs.Programs.{IsNext, counted_next}

-- what stays known where items are kept

known_kept : (old new : Rows) (d : Descriptor) → KeepsItems old new → IsKnown old d → IsKnown new d
known_kept old new d keeps known =
    record {
      number = let next = keeps.next in let number = known.number in omega arith;
      room = known.room;
      size = λ row e. let before = keeps.items d.item.0 row known.number e in before.2 ∙ known.size before.0 before.1;
    }

slot_kept : (old new : Rows) → KeepsItems old new → (held : Option Descriptor) → IsSoundSlot old held → IsSoundSlot new held
slot_kept old new keeps held sound d e = known_kept old new d keeps (sound d e)

operation_kept : (old new : Rows) → KeepsItems old new → (operation : Operation) → IsSoundOperation old operation → IsSoundOperation new operation
operation_kept old new keeps operation sound =
    record {
      inside = All-weaker (λ m. IsSoundPiece old m.piece) (λ m. IsSoundPiece new m.piece)
          (λ m s. record {
            number = let next = keeps.next in let number = s.number in omega arith;
            inside = λ row e.
                let before = keeps.items m.piece.item.0 row s.number e in let within = s.inside before.0 before.1 in let same = before.2 in omega arith;
            sound_kind = s.sound_kind;
            few = s.few;
          }) operation.pieces sound.inside;
      kinds = sound.kinds;
      paired = sound.paired;
    }

-- a program holds what it held where items are kept
pub holds_kept : (old new : Rows) (p : ProgramState) → KeepsItems old new → HoldsSound old p → HoldsSound new p
holds_kept old new p keeps holds =
    record {
      slots = All-weaker (IsSoundSlot old) (IsSoundSlot new) (slot_kept old new keeps) p.item_slots holds.slots;
      operations = All-weaker (IsSoundContext old) (IsSoundContext new)
          (λ context. All-weaker (IsSoundOperation old) (IsSoundOperation new) (operation_kept old new keeps) context.operations) p.contexts holds.operations;
    }

-- items that are there

-- the room of n bytes has them
room_enough : (n : ℕ) → n ≤ room n
room_enough n = omega arith

found_itself_tail : {A : Type 0} (number : A → ℕ) (x z : A) (xs : List A) → number x < number z → find (λ y. number y == number z) (x ∷ xs) ≡ find (λ y. number y == number z) xs
found_itself_tail number x z xs less =
    let other : (number x == number z) ≡ false = grind (arith, nat_tests) in ap (λ b. cond b (Some x) (find (λ y. number y == number z) xs)) other

-- an element of different numbers is found by its own
found_itself : {A : Type 0} (number : A → ℕ) (xs : List A) → IsStrictlyIncreasing (map number xs) → All (λ x. find (λ y. number y == number x) xs ≡ Some x) xs
found_itself number [] rise = All-nil _
found_itself number (x ∷ xs) rise =
    let same : (number x == number x) ≡ true = grind (arith, nat_tests) in
    let all = found_itself number xs (rise_behind number x xs rise) in
    let above = above_first number x xs rise in
    All-cons (λ z. find (λ y. number y == number z) (x ∷ xs) ≡ Some z) x xs
    (ap (λ b. cond b (Some x) (find (λ y. number y == number x) xs)) same)
    (λ k d lt. found_itself_tail number x (get_or xs k d) xs (above k d lt) ∙ all k d lt)

-- a row of lawful rows that is found by its own number
pub record IsThere (rows : Rows) (item : ItemRow) : Type 0 where
  pub found_there : item_of rows (item_number item) ≡ Some item
  pub lawful : IsLawfulItem rows item

pub all_there : (rows : Rows) → IsLawful rows → All (IsThere rows) rows.items
all_there rows lawful k d lt =
    record {
      found_there = find_number-find item_number (item_number (get_or rows.items k d)) rows.items ∙ found_itself item_number rows.items lawful.item_numbers_rise k d lt;
      lawful = lawful.items k d lt;
    }

region_small : (rows : Rows) (n : ℕ) (row : RegionRow) → IsLawful rows → region_of rows n ≡ Some row → row.size ≤ max_region_size
region_small rows n row lawful e = (All-found (IsLawfulRegion rows) region_number n rows.regions row lawful.regions e).size

-- the descriptor of a row is known
pub there_known : (rows : Rows) (item : ItemRow) → IsLawful rows → IsThere rows item → IsKnown rows (descriptor_of item)
there_known rows item lawful there =
    let inside = there.lawful.inside in
    let small = region_small rows item.region.0 inside.0 lawful inside.1 in
    let enough = room_enough item.size in
    record {
      number = there.lawful.number;
      room = omega (arith, inside.2);
      size = λ row e. ap (λ (x : ItemRow). x.size) (same_Some row item (sym e ∙ there.found_there));
    }

-- looking up an item

no_error : (d : Descriptor) (error : FamError) → same_reply (reply.Item d) (reply.Error error) ≡ true → ⊥
no_error d error e = let same : reply.Item d ≡ reply.Error error = equal_replies (reply.Item d) (reply.Error error) e in cc

same_item : (d f : Descriptor) → same_reply (reply.Item d) (reply.Item f) ≡ true → f ≡ d
same_item d f e = let same : reply.Item d ≡ reply.Item f = equal_replies (reply.Item d) (reply.Item f) e in cc

looked_up : (rows : Rows) (name region : List ℕ) (d : Descriptor) → IsLawful rows → (o : Option Reply) → found rows (request.Lookup name region) ≡ o → option_map_or (same_reply (reply.Item d)) o false ≡ true → IsKnown rows d
looked_up rows name region d lawful None f e = absurd (false≢true e)
looked_up rows name region d lawful (Some told) f e =
    let row = bind_some (region_named rows region) _ told f in
    let item = bind_some (item_named rows (region_number row.0) name) _ told row.2 in
    let there : IsThere rows item.0 = found_holds (IsThere rows) _ (items_in rows (region_number row.0)) item.0 item.1
    (All-filter _ (IsThere rows) rows.items (all_there rows lawful)) in
    let same : descriptor_of item.0 ≡ d = same_item d (descriptor_of item.0) (subst (λ r. same_reply (reply.Item d) r ≡ true) (sym (same_Some _ told item.2)) e) in
    subst (IsKnown rows) same (there_known rows item.0 lawful there)

lookup_known : (rows : Rows) (name region : List ℕ) (d : Descriptor) → IsLawful rows → (o : Option FamError) → option_map_or (same_reply (reply.Item d)) (unchanging_reply o rows (request.Lookup name region)) false ≡ true → IsKnown rows d
lookup_known rows name region d lawful (Some error) e = absurd (no_error d error e)
lookup_known rows name region d lawful None e = looked_up rows name region d lawful (found rows (request.Lookup name region)) refl e

-- a new item

some_and : {A : Type 0} (o : Option A) (test : A → Bool) → is_some_and o test ≡ true → (x : A) × (o ≡ Some x) × (test x ≡ true)
some_and None test e = absurd (false≢true e)
some_and (Some x) test e = (x, refl, e)

no_number : (n : ℕ) (items : List ItemRow) → All (λ x. item_number x < n) items → (o : Option ItemRow) → find (λ x. item_number x == n) items ≡ o → o ≡ None
no_number n items all None e = refl
no_number n items all (Some x) e =
    let pass : (item_number x == n) ≡ true = found_passes (λ x. item_number x == n) items x e in
    let less : item_number x < n = found_holds (λ x. item_number x < n) (λ x. item_number x == n) items x e all in
    absurd (grind (arith, nat_tests))

new_found : (items : List ItemRow) (added : ItemRow) → All (λ x. item_number x < item_number added) items → find_number item_number (item_number added) (items ++ added ∷ []) ≡ Some added
new_found items added all =
    let n = item_number added in
    let same : (n == n) ≡ true = grind (arith, nat_tests) in
    find_number-find item_number n (items ++ added ∷ []) ∙ find-append (λ x. item_number x == n) items (added ∷ [])
    ∙ ap (λ o. option_or o (find (λ x. item_number x == n) (added ∷ []))) (no_number n items all (find (λ x. item_number x == n) items) refl)
    ∙ ap (λ b. cond b (Some added) None) same

fits_end : (aligned within apart : Bool) → (aligned && within && apart) ≡ true → within ≡ true
fits_end true true apart e = refl
fits_end true false apart e = absurd (false≢true e)
fits_end false within apart e = absurd (false≢true e)

three_true : (a b c : Bool) → (a && b && c) ≡ true → (b ≡ true) × (c ≡ true)
three_true true true true e = (refl, refl)
three_true true true false e = absurd (false≢true e)
three_true true false c e = absurd (false≢true e)
three_true false b c e = absurd (false≢true e)

-- the change of an allocation
abbrev allocation : Rows → Who → List ℕ → ℕ → ℕ → RegionId → ℕ → Change
allocation rows who name size mode region base = change.Allocate (record { 0 = rows.next_item }) region base size who.uid who.gid mode name

new_known : (rows : Rows) (who : Who) (name : List ℕ) (size mode : ℕ) (region : RegionId) (base : ℕ) → IsLawful rows → may_lie rows (request.Allocate name size mode region) base ≡ true → IsKnown (after rows (allocation rows who name size mode region base)) (record { item = record { 0 = rows.next_item }; region = region; base = base; size = size })
new_known rows who name size mode region base lawful lies =
    let there = some_and (region_of rows region.0) (λ row. fits rows row size base) lies in
    let within : nat_le (base + room size) there.0.size ≡ true = fits_end _ (nat_le (base + room size) there.0.size) _ there.2 in
    let small = region_small rows region.0 there.0 lawful there.1 in
    let enough = room_enough size in
    let le : base + room size ≤ there.0.size = grind (arith, nat_tests) in
    record {
      number = omega arith;
      room = omega arith;
      size = λ row e. ap (λ (x : ItemRow). x.size) (same_Some row _ (sym e ∙ new_found rows.items _ (All-weaker (IsLawfulItem rows) (λ x. item_number x < rows.next_item) (λ x s. s.number) rows.items lawful.items)));
    }

allocated_with : (rows : Rows) (who : Who) (name : List ℕ) (size mode : ℕ) (region : RegionId) (base : ℕ) (d : Descriptor) (none lies : Bool) → IsLawful rows → may_lie rows (request.Allocate name size mode region) base ≡ lies → (same : Bool) → same_reply (reply.Item d) (answer (allocation rows who name size mode region base)) ≡ same → is_some (when (none && lies && same) (allocation rows who name size mode region base)) ≡ true → IsKnown (rows_with rows (when (none && lies && same) (allocation rows who name size mode region base))) d
allocated_with rows who name size mode region base d true true lawful l true s e =
    subst (IsKnown (after rows (allocation rows who name size mode region base))) (same_item d _ s) (new_known rows who name size mode region base lawful l)
allocated_with rows who name size mode region base d true true lawful l false s e = absurd (false≢true e)
allocated_with rows who name size mode region base d true false lawful l same s e = absurd (false≢true e)
allocated_with rows who name size mode region base d false lies lawful l same s e = absurd (false≢true e)

allocate_known : (rows : Rows) (who : Who) (name : List ℕ) (size mode : ℕ) (region : RegionId) (d : Descriptor) → IsLawful rows → (o : Option FamError) → option_map_or (same_reply (reply.Item d)) (unchanging_reply o rows (request.Allocate name size mode region)) (is_some (told_change rows who (request.Allocate name size mode region) (reply.Item d))) ≡ true → IsKnown (rows_with rows (told_change rows who (request.Allocate name size mode region) (reply.Item d))) d
allocate_known rows who name size mode region d lawful (Some error) e = absurd (no_error d error e)
allocate_known rows who name size mode region d lawful None e =
    allocated_with rows who name size mode region d.base d (is_none (refusal rows who (request.Allocate name size mode region)))
    (may_lie rows (request.Allocate name size mode region) d.base) lawful refl
    (same_reply (reply.Item d) (answer (allocation rows who name size mode region d.base))) refl e

-- steps

slot_with : (rows : Rows) (d : Descriptor) → IsKnown rows d → IsSoundSlot rows (Some d)
slot_with rows d known f e = subst (IsKnown rows) (same_Some d f e) known

-- a program with an item in a slot
with_item : (rows : Rows) (p : ProgramState) (slot : ℕ) (d : Descriptor) → HoldsSound rows p → IsKnown rows d → HoldsSound rows (fill_item p slot (reply.Item d))
with_item rows p slot d holds known =
    record { slots = All-set (IsSoundSlot rows) p.item_slots slot (Some d) (slot_with rows d known) holds.slots; operations = holds.operations }

region_next : (rows : Rows) (p : ProgramState) (slot : ℕ) (given : Reply) → HoldsSound rows p → IsNext rows 1 p (fill_region (counted p) slot given)
region_next rows p slot (reply.Region region) holds =
    record { who = refl; is_local = refl; standing = refl; arrived = refl; next = refl; holds = record { slots = holds.slots; operations = holds.operations } }
region_next rows p slot given holds = counted_next rows p holds

item_next : (rows : Rows) (p : ProgramState) (slot : ℕ) (given : Reply) → HoldsSound rows p → ((d : Descriptor) → given ≡ reply.Item d → IsKnown rows d) → IsNext rows 1 p (fill_item (counted p) slot given)
item_next rows p slot (reply.Item d) holds known =
    record {
      who = refl;
      is_local = refl;
      standing = refl;
      arrived = refl;
      next = refl;
      holds = with_item rows (counted p) slot d (counted_next rows p holds).holds (known d refl);
    }
item_next rows p slot given holds known = counted_next rows p holds

-- what is told of an item that is allocated or looked up
told_known : (rows : Rows) (who : Who) (asked : Request) (given : Reply) → IsLawful rows → may_reply rows who asked given ≡ true → (d : Descriptor) → given ≡ reply.Item d → ((name : List ℕ) (size mode : ℕ) (region : RegionId) → asked ≡ request.Allocate name size mode region → IsKnown (rows_with rows (told_change rows who asked given)) d) × ((name region : List ℕ) → asked ≡ request.Lookup name region → IsKnown (rows_with rows (told_change rows who asked given)) d)
told_known rows who asked given lawful may d e = (
  (λ name size mode region f.
      let now : may_reply rows who (request.Allocate name size mode region) (reply.Item d) ≡ true =
      subst (λ g. may_reply rows who (request.Allocate name size mode region) g ≡ true) e (subst (λ a. may_reply rows who a given ≡ true) f may)
      in
      subst (λ a. IsKnown (rows_with rows (told_change rows who a given)) d) (sym f)
      (subst (λ g. IsKnown (rows_with rows (told_change rows who (request.Allocate name size mode region) g)) d) (sym e)
      (allocate_known rows who name size mode region d lawful (refusal rows who (request.Allocate name size mode region)) now))),
  (λ name region f.
      let now : may_reply rows who (request.Lookup name region) (reply.Item d) ≡ true =
      subst (λ g. may_reply rows who (request.Lookup name region) g ≡ true) e (subst (λ a. may_reply rows who a given ≡ true) f may)
      in
      subst (λ a. IsKnown (rows_with rows (told_change rows who a given)) d) (sym f)
      (lookup_known rows name region d lawful (refusal rows who (request.Lookup name region)) now)),
)

-- the program after a call on the directory, by the request that it makes
asked_next : (rows now : Rows) (p : ProgramState) (asked : MetaCall) (made : Request) (given : Reply) → IsLawful rows → HoldsSound now p → request_of p asked ≡ Some made → may_reply rows p.who made given ≡ true → rows_with rows (told_change rows p.who made given) ≡ now → IsNext now 1 p (filled (counted p) asked given)
asked_next rows now p (meta.CreateRegion slot name size mode) made given lawful holds e may same = region_next now p slot given holds
asked_next rows now p (meta.LookupRegion slot name) made given lawful holds e may same = region_next now p slot given holds
asked_next rows now p (meta.Allocate slot name size mode from) made given lawful holds e may same =
    let region = bind_some (region_slot p from) _ made e in
    item_next now p slot given holds (λ d f. subst (λ rows. IsKnown rows d) same
    ((told_known rows p.who made given lawful may d f).0 name size mode region.0 (sym (same_Some _ made region.2))))
asked_next rows now p (meta.Lookup slot name region) made given lawful holds e may same =
    item_next now p slot given holds (λ d f. subst (λ rows. IsKnown rows d) same
    ((told_known rows p.who made given lawful may d f).1 name region (sym (same_Some _ made e))))
asked_next rows now p asked made given lawful holds e may same = counted_next now p holds

-- the change that a step of a call on the directory serves
pub step_change : (rows : Rows) (p q : ProgramState) (asked : MetaCall) (given : Reply) → meta_step rows p asked given ≡ Some q → (made : Request) × (request_of p asked ≡ Some made) × (served_change rows p asked given ≡ told_change rows p.who made given)
step_change rows p q asked given e =
    let made = bind_some (request_of p asked) _ q e in
    (made.0, made.1, ap (λ o. o >>= λ request. told_change rows p.who request given) made.1)

pub meta_next : (rows : Rows) (p q : ProgramState) (asked : MetaCall) (given : Reply) → IsLawful rows → KeepsItems rows (rows_with rows (served_change rows p asked given)) → HoldsSound rows p → meta_step rows p asked given ≡ Some q → IsNext (rows_with rows (served_change rows p asked given)) 1 p q
meta_next rows p q asked given lawful keeps holds e =
    let made = bind_some (request_of p asked) _ q e in
    let now = rows_with rows (served_change rows p asked given) in
    let served : served_change rows p asked given ≡ told_change rows p.who made.0 given = ap (λ o. o >>= λ request. told_change rows p.who request given) made.1 in
    let may = when_some (may_reply rows p.who made.0 given) (filled (counted p) asked given) q made.2 in
    subst (IsNext now 1 p) may.1
    (asked_next rows now p asked made.0 given lawful (holds_kept rows now p keeps holds) made.1 may.0 (ap (rows_with rows) (sym served)))
