-- What images read as.
use Rattle.std.proofs.Common.{◌≡◌, ℕ, ◌+◌, ◌-◌, ◌<◌, ◌≤◌, ◌≢◌, true, false, List, [], ◌∷◌, ◌++◌, length, take, drop, refl, sym, ◌∙◌, ap, arith, length-append, length-take, length-drop, take-append-drop}
use Rattle.std.specs.Prelude.{slice_index}
use Rattle.std.proofs.lemmas.List.{take-take, drop_more, get_or-take, get_or-drop}
use Rattle.std.proofs.lemmas.Bool.Decides.{nat_tests}
use Rattle.fam_model.specs.declared.change.Change.{Change}
use Rattle.fam_model.specs.Rows.{common_rows}
use Rattle.meta_journal.specs.declared.area.Area.{Area}
use Rattle.meta_journal.specs.declared.area.Area.TheVariants.{First, Second}
use Rattle.meta_journal.specs.Image.{HasHeader, HasChanges, AreLawful}
use Rattle.meta_journal.specs.Layout.{has_header, is_fresh, is_first_version, area_in_use, area_start, area_bytes, disk_place, records_end, records, record_bytes}
use Rattle.meta_journal.specs.Reading.{journal, area_contents, on_disk, is_missing, records_from}
use Rattle.meta_journal.proofs.Parts.{holds_front, byte_is}
use Rattle.meta_journal.proofs.Records.{contents, records_read}

pub count_fits : (changes : List Change) → length changes ≤ length (records changes)
count_fits [] = omega arith
count_fits (c ∷ cs) = omega (arith, count_fits cs, length-append (1 ∷ record_bytes c) (records cs))

pub start_place : (limit : ℕ) (area : Area) (n : ℕ) → disk_place limit area (16 + n) ≡ area_start limit area + n
start_place limit area n = omega arith

module _ (limit : ℕ) (changes : List Change) (fits : records_end changes < limit) (lawful : AreLawful common_rows changes) where
  long_enough : (area : Area) (image : List ℕ) → HasChanges limit area changes image → (17 ≤ length image) × (area_start limit area < length image)
  long_enough First image has = let inside = has.end.inside in (omega arith, omega arith)
  long_enough Second image has = let inside = has.end.inside in (omega arith, omega arith)

  area_reads : (area : Area) (image : List ℕ) → HasChanges limit area changes image → area_contents false (area_bytes limit area image) ≡ contents changes (records_end changes)
  area_reads area image has =
      let bytes = area_bytes limit area image in
      let n = length (records changes) in
      let start = area_start limit area in
      let long : n < length bytes = omega (arith, has.end.inside, start_place limit area n, length-take (limit - 16) (drop start image), length-drop start image) in
      let front : take n bytes ≡ records changes = take-take n (limit - 16) (drop start image) (omega arith) ∙ has.front in
      let gate = slice_index bytes n in
      let split : bytes ≡ records changes ++ gate ∷ drop (n + 1) bytes =
      sym (take-append-drop n bytes) ∙ ap (λ (l : List ℕ). l ++ drop n bytes) front ∙ ap (λ (l : List ℕ). records changes ++ l) (drop_more bytes n 0 long) in
      let same_gate : gate ≡ slice_index image (disk_place limit area (records_end changes)) =
      get_or-take (limit - 16) (drop start image) n 0 (omega arith) ∙ get_or-drop start image n 0 ∙ ap (λ (i : ℕ). slice_index image i) (sym (start_place limit area n)) in
      let shut : gate ≢ 1 = λ is_open. has.end.shut (sym same_gate ∙ is_open) in
      ap (λ (l : List ℕ). records_from (length bytes) false common_rows 16 l) split
      ∙ records_read changes (length bytes) common_rows 16 gate (drop (n + 1) bytes) shut lawful (omega (arith, count_fits changes))

  pub image_reads : (area : Area) (image : List ℕ) → HasHeader image → area_in_use image ≡ area → HasChanges limit area changes image
      → journal limit image ≡ contents changes (records_end changes)
  image_reads area image header used has =
      let long = long_enough area image has in
      let first_byte : slice_index image 0 ≡ 70 = byte_is 0 70 image (holds_front 0 (70 ∷ []) (65 ∷ 77 ∷ 74 ∷ []) image header.magic) in
      let fresh : is_fresh image ≡ false = grind (arith, nat_tests, first_byte, long.0) in
      let right : has_header image ≡ true = rw (header.magic, header.gap, header.rest) refl in
      let there : is_missing limit area image ≡ false = grind (arith, nat_tests, long.1) in
      let version : is_first_version image ≡ false = grind (arith, nat_tests, header.version) in
      rw (fresh, right, used, there, version) (ap (on_disk limit area) (area_reads area image has))
