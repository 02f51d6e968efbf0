-- The state in which a run begins is sound.
use Rattle.std.proofs.Common.{ℕ, ◌<◌, List, map, length, get_or, Some, None, Bool, sym, ap, subst, ◌∙◌, arith}
use Rattle.std.specs.Prelude.{All, IsTrue, nat_lt, replicate}
use Rattle.std.specs.List.{enumerate_from}
use Rattle.std.proofs.lemmas.Bool.{false≢true}
use Rattle.std.proofs.lemmas.List.{length-replicate}
use Rattle.std.proofs.lemmas.List.Elements.{All-cons, All-nil, All-map, All-replicate}
use Rattle.std.proofs.lemmas.List.FromFn.{get_or-enumerate_from, length-enumerate_from}
use Rattle.std.proofs.lemmas.Option.{none-some, same_Some}
use Rattle.fam_base.specs.declared.naming.Who.{Who}
use Rattle.fam_model.specs.declared.rows.ItemRow.{ItemRow}
use Rattle.fam_model.specs.declared.rows.Rows.{Rows}
use Rattle.fam_model.specs.declared.service.Service.{Service}
use Rattle.fam_model.specs.ContextStep.{new_context}
use Rattle.fam_model.specs.Limits.{nobody}
use Rattle.fam_model.specs.Opened.{zero_memory, closed_context, new_program, opened}
use Rattle.fam_model.specs.Rows.{IsLawful, common_item, descriptor_of}
use Rattle.fam_model.specs.Services.{is_service}
use Rattle.fam_machine.specs.Sound.{IsKnown, IsSoundSlot, IsSoundOperation, IsSoundContext, IsSoundProgram, IsSound, IsMemoryOf, entry_extent}
use Rattle.fam_machine.proofs.Bytes.{map-map}
use Rattle.fam_machine.proofs.Lists.{All-at}
use Rattle.fam_machine.proofs.Told.{IsThere, all_there, there_known}

-- zero bytes are as many as the items have
zero_extents : (items : List ItemRow) → IsMemoryOf items (zero_memory items)
zero_extents items =
    map-map entry_extent (λ (row : ItemRow). (row.number, replicate row.size 0)) items
    ∙ ap (λ f. map f items) (λ i row. (row.number.0, length-replicate {A = ℕ} row.size 0 i))

first_known : (rows : Rows) → IsLawful rows → IsKnown rows (descriptor_of common_item)
first_known rows lawful =
    there_known rows common_item lawful (All-at (IsThere rows) rows.items 0 common_item (all_there rows lawful) lawful.common_item_first)

-- a new program is sound
new_sound : (rows : Rows) (who : Who) (is_local : Bool) → IsLawful rows → who.uid < nobody → IsSoundProgram rows 0 (new_program who is_local)
new_sound rows who is_local lawful user =
    record {
      user = user;
      holds = record {
        slots = All-cons (IsSoundSlot rows) (Some (descriptor_of common_item)) (replicate 15 None)
            (λ d e. subst (IsKnown rows) (same_Some (descriptor_of common_item) d e) (first_known rows lawful))
            (All-replicate (IsSoundSlot rows) 15 None (λ d e. absurd (none-some d e)));
        operations = All-cons (IsSoundContext rows) new_context (replicate 7 closed_context) (All-nil (IsSoundOperation rows))
            (All-replicate (IsSoundContext rows) 7 closed_context (All-nil (IsSoundOperation rows)));
      };
      on_time = record {
        bound = omega arith;
        arrived = λ at e. absurd (none-some at e);
        passed = λ m. omega arith;
        here = λ m h. absurd (false≢true h);
      };
    }

-- the users of programs, with their places
with_places : (whos : List Who) → All (λ w. w.uid < nobody) whos → All (λ entry. entry.1.uid < nobody) (enumerate_from 0 whos)
with_places whos all k d lt =
    let inside : k < length whos = subst (λ n. k < n) (length-enumerate_from 0 whos) lt in
    subst (λ (entry : ℕ × Who). entry.1.uid < nobody) (sym (get_or-enumerate_from 0 whos k d inside)) (all k d.1 inside)

-- the state in which a run begins is sound
pub opened_sound : (rows : Rows) (service : Service) (whos : List Who) (local : ℕ) → IsLawful rows → IsTrue (is_service service.servers service.stripes service.unit) → All (λ w. w.uid < nobody) whos → IsSound (opened rows service whos local)
opened_sound rows service whos local lawful good users =
    record {
      lawful_service = good;
      lawful = lawful;
      filled = zero_extents rows.items;
      sound = All-map (IsSoundProgram rows 0) (λ entry. new_program entry.1 (nat_lt entry.0 local)) (enumerate_from 0 whos)
          (λ k d lt. new_sound rows (get_or (enumerate_from 0 whos) k d).1 (nat_lt (get_or (enumerate_from 0 whos) k d).0 local) lawful (with_places whos users k d lt));
    }
