use Rattle.std.specs.Prelude.{Ok}
use Rattle.fam_model.specs.declared.rows.Rows.{Rows}
use Rattle.std.proofs.Common.{◌≡◌, ℕ, List, refl, sym, ◌∙◌, ap, subst, arith}
use Rattle.meta_journal.specs.Layout.{area_bytes}
use Rattle.meta_journal.specs.Opened.{AreBytes}
use Rattle.meta_journal.specs.Opening.{read_from}
use Rattle.fam_model.specs.Rows.{common_rows}
use Rattle.meta_journal.proofs.AreaRead.{for_some, whole_area}
use Rattle.meta_journal.proofs.Opening.{if_told}
use Rattle.meta_journal.proofs.Switching.{if_some}
use Rattle.meta_journal.proofs.starting.read_area.Goals as goal

pub disk_place-requires-clause-from : goal.disk_place-requires-clause-from
disk_place-requires-clause-from g c = (c.in-Err-Damaged.ensures.damaged c.in-Err-Damaged.place c.in-Err-Damaged.field-0-is).0

pub disk_place-requires-clause-within : goal.disk_place-requires-clause-within
disk_place-requires-clause-within g c =
    let inside = (c.in-Err-Damaged.ensures.damaged c.in-Err-Damaged.place c.in-Err-Damaged.field-0-is).1 in
    omega (arith, inside, c.as_slice.ensures.len, c.in_ok-bytes.ensures.length, c.min.ensures, c.requires.low)

pub returns-in-Ok-rows-clause-found : goal.returns-in-Ok-rows-clause-found
returns-in-Ok-rows-clause-found g c =
    let content = (g.D.Disk.state c.args.disk.now).content in
    let header = c.args.header in
    if_told content _ (λ bytes told.
    let read = if_some content _ bytes told c.in_ok-bytes.ensures.bytes in
    let long = for_some content _ bytes told c.requires.len in
    let whole : c.as_slice.result.now ≡ area_bytes c.args.limit header.area bytes =
    c.as_slice.ensures.value ∙ whole_area c.args.limit header.area bytes c.args.len _ _ _ c.area_start-start.ensures c.min.ensures long read in (
      refl,
      subst AreBytes whole c.in-Ok.ensures.bytes,
      ap (λ (l : List ℕ). read_from header.is_first_version common_rows 16 l) (sym whole) ∙ c.in-Ok.ensures.read
          ∙ ap (λ (rows : Rows). Ok (record c.in-Ok.field-0 { rows = rows })) (sym c.in-Ok-rows.ensures.rows),
    ))

pub returns-in-Ok-rows-clause-room : goal.returns-in-Ok-rows-clause-room
returns-in-Ok-rows-clause-room g c =
    let begins = c.area_start-start.ensures in
    let size = c.as_slice.ensures.len in
    let count = c.in_ok-bytes.ensures.length in
    let inside = c.in-Ok.ensures.inside (omega (arith, size, count, c.min.ensures, c.requires.low, c.requires.inside, begins)) in
    (inside.0, omega (arith, inside.1, size, count, c.min.ensures, c.requires.low))
