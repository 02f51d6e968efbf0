use Rattle.std.proofs.Common.{◌+◌, ◌∷◌, ◌++◌, sym, subst, ◌∙◌, arith}
use Rattle.fam_model.specs.Limits.{max_region_size}
use Rattle.region_alloc.specs.Gaps.{Rise}
use Rattle.region_alloc.proofs.Lists.{gaps_rise}
use Rattle.region_alloc.proofs.Cutting.{room_stop}
use Rattle.region_alloc.proofs.Freeing.{around, first_cut, next_is, next_within, second_cut, freed_last, room_for_it, freed_between}
use Rattle.region_alloc.proofs.ranges.free_room.Goals as goal

pub overflow_add-stop : goal.overflow_add-stop
overflow_add-stop c =
    let stop = room_stop max_region_size c.requires.0 c.requires.1 c.args.room c.requires.2.lie in
    omega (arith, stop)

pub places_before-before-requires : goal.places_before-before-requires
places_before-before-requires c =
    subst (Rise 0) (sym (c.as_slice.ensures.value ∙ c.requires.2.are_gaps)) (gaps_rise 0 max_region_size (c.requires.0 ++ c.args.room ∷ c.requires.1) c.requires.2.lie)

pub places_before-place-requires : goal.places_before-place-requires
places_before-place-requires c =
    subst (Rise 0) (sym (c.as_slice-3.ensures.value ∙ c.requires.2.are_gaps)) (gaps_rise 0 max_region_size (c.requires.0 ++ c.args.room ∷ c.requires.1) c.requires.2.lie)

pub cut_gap-requires : goal.cut_gap-requires
cut_gap-requires c =
    let a = around max_region_size c.args.end c.places_before-before.result c.start_of-start.result c.places_before-place.result c.requires.0 c.requires.1 c.args.room c.args.gaps.now.items c.as_slice.result.now c.as_slice-2.result.now c.as_slice-3.result.now c.requires.2 c.as_slice.ensures.value c.places_before-before.ensures.value c.as_slice-2.ensures.value c.start_of-start.ensures c.as_slice-3.ensures.value c.places_before-place.ensures.value in
    let cut = first_cut c.requires.0 c.requires.1 c.args.room max_region_size c.args.end c.start_of-start.result c.places_before-place.result c.args.gaps.now.items a in
    omega (arith, cut, c.args.gaps.now.ok.0)

pub overflow_add-next : goal.overflow_add-next
overflow_add-next c =
    let a = around max_region_size c.args.end c.places_before-before.result c.start_of-start.result c.places_before-place.result c.requires.0 c.requires.1 c.args.room c.args.gaps.now.items c.as_slice.result.now c.as_slice-2.result.now c.as_slice-3.result.now c.requires.2 c.as_slice.ensures.value c.places_before-before.ensures.value c.as_slice-2.ensures.value c.start_of-start.ensures c.as_slice-3.ensures.value c.places_before-place.ensures.value in
    let next = next_is c.requires.0 c.requires.1 c.args.room max_region_size c.args.end c.start_of-start.result c.places_before-place.result c.length_at.result c.args.gaps.now.items c.cut_gap.new.gaps.items c.as_slice-4.result.now c.requires.2.lie a c.cut_gap.ensures.items c.as_slice-4.ensures.value c.length_at.ensures in
    let within = next_within max_region_size c.requires.0 c.requires.1 c.args.room c.requires.2.lie in
    omega (arith, next, within)

pub cut_gap-requires-2 : goal.cut_gap-requires-2
cut_gap-requires-2 c =
    let a = around max_region_size c.args.end c.places_before-before.result c.start_of-start.result c.places_before-place.result c.requires.0 c.requires.1 c.args.room c.args.gaps.now.items c.as_slice.result.now c.as_slice-2.result.now c.as_slice-3.result.now c.requires.2 c.as_slice.ensures.value c.places_before-before.ensures.value c.as_slice-2.ensures.value c.start_of-start.ensures c.as_slice-3.ensures.value c.places_before-place.ensures.value in
    let next = next_is c.requires.0 c.requires.1 c.args.room max_region_size c.args.end c.start_of-start.result c.places_before-place.result c.length_at.result c.args.gaps.now.items c.cut_gap.new.gaps.items c.as_slice-4.result.now c.requires.2.lie a c.cut_gap.ensures.items c.as_slice-4.ensures.value c.length_at.ensures in
    let cut = second_cut c.requires.0 c.requires.1 c.args.room max_region_size c.args.end c.start_of-start.result c.places_before-place.result (c.args.room.base + c.args.room.length + c.length_at.result) c.args.gaps.now.items c.cut_gap.new.gaps.items a c.cut_gap.ensures.items next in
    omega (arith, cut, c.cut_gap.new.gaps.ok.0)

pub returns-then-stop-end-clause-left : goal.returns-then-stop-end-clause-left
returns-then-stop-end-clause-left c size before behind left =
    let a = around size c.args.end c.places_before-before.result c.start_of-start.result c.places_before-place.result before behind c.args.room c.args.gaps.now.items c.as_slice.result.now c.as_slice-2.result.now c.as_slice-3.result.now left c.as_slice.ensures.value c.places_before-before.ensures.value c.as_slice-2.ensures.value c.start_of-start.ensures c.as_slice-3.ensures.value c.places_before-place.ensures.value in
    let next = next_is before behind c.args.room size c.args.end c.start_of-start.result c.places_before-place.result c.length_at.result c.args.gaps.now.items c.cut_gap.new.gaps.items c.as_slice-4.result.now left.lie a c.cut_gap.ensures.items c.as_slice-4.ensures.value c.length_at.ensures in
    freed_last before behind c.args.room size c.args.end c.start_of-start.result c.places_before-place.result (c.args.room.base + c.args.room.length + c.length_at.result) c.args.gaps.now.items c.cut_gap.new.gaps.items c.cut_gap-2.new.gaps.items left a c.cut_gap.ensures.items next c.cut_gap-2.ensures.items c.if-stop-end.true

pub put_gap-requires-clause-capacity : goal.put_gap-requires-clause-capacity
put_gap-requires-clause-capacity c =
    let a = around max_region_size c.args.end c.places_before-before.result c.start_of-start.result c.places_before-place.result c.requires.0 c.requires.1 c.args.room c.args.gaps.now.items c.as_slice.result.now c.as_slice-2.result.now c.as_slice-3.result.now c.requires.2 c.as_slice.ensures.value c.places_before-before.ensures.value c.as_slice-2.ensures.value c.start_of-start.ensures c.as_slice-3.ensures.value c.places_before-place.ensures.value in
    let next = next_is c.requires.0 c.requires.1 c.args.room max_region_size c.args.end c.start_of-start.result c.places_before-place.result c.length_at.result c.args.gaps.now.items c.cut_gap.new.gaps.items c.as_slice-4.result.now c.requires.2.lie a c.cut_gap.ensures.items c.as_slice-4.ensures.value c.length_at.ensures in
    let room = room_for_it c.requires.0 c.requires.1 c.args.room max_region_size c.args.end c.start_of-start.result c.places_before-place.result (c.args.room.base + c.args.room.length + c.length_at.result) _ c.args.gaps.now.items c.cut_gap.new.gaps.items c.cut_gap-2.new.gaps.items c.requires.2 a c.cut_gap.ensures.items next c.cut_gap-2.ensures.items c.if-stop-end.false c.requires.3 in
    omega (arith, room.1, c.cut_gap-2.new.gaps.ok.0, c.cut_gap.ensures.capacity, c.cut_gap-2.ensures.capacity)

pub returns-clause-left : goal.returns-clause-left
returns-clause-left c size before behind left =
    let a = around size c.args.end c.places_before-before.result c.start_of-start.result c.places_before-place.result before behind c.args.room c.args.gaps.now.items c.as_slice.result.now c.as_slice-2.result.now c.as_slice-3.result.now left c.as_slice.ensures.value c.places_before-before.ensures.value c.as_slice-2.ensures.value c.start_of-start.ensures c.as_slice-3.ensures.value c.places_before-place.ensures.value in
    let next = next_is before behind c.args.room size c.args.end c.start_of-start.result c.places_before-place.result c.length_at.result c.args.gaps.now.items c.cut_gap.new.gaps.items c.as_slice-4.result.now left.lie a c.cut_gap.ensures.items c.as_slice-4.ensures.value c.length_at.ensures in
    freed_between before behind c.args.room size c.args.end c.start_of-start.result c.places_before-place.result (c.args.room.base + c.args.room.length + c.length_at.result) c.args.gaps.now.items c.cut_gap.new.gaps.items c.cut_gap-2.new.gaps.items c.put_gap.new.gaps.items left a c.cut_gap.ensures.items next c.cut_gap-2.ensures.items c.put_gap.ensures.items c.if-stop-end.false
