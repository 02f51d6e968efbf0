use Rattle.std.proofs.Common.{◌++◌, take, drop, sym, ap, subst, ◌∙◌, arith}
use Rattle.fam_model.specs.Limits.{max_region_size}
use Rattle.region_alloc.specs.Gaps.{Rise, gap_of}
use Rattle.region_alloc.proofs.Lists.{gaps_rise}
use Rattle.region_alloc.proofs.Cutting.{inside, gap_within, gap_stop, room_stop, cut_last, cut_between}
use Rattle.region_alloc.proofs.ranges.cut_room.Goals as goal

pub overflow_add-stop : goal.overflow_add-stop
overflow_add-stop c =
    let stop = room_stop max_region_size c.requires.fits.0 c.requires.fits.1 c.args.room c.requires.fits.2 in
    omega (arith, stop)

pub returns-then-room-end-clause-left : goal.returns-then-room-end-clause-left
returns-then-room-end-clause-left c size before behind lie left =
    cut_last size c.args.end before behind c.args.room c.args.gaps.now.items c.put_gap.new.gaps.items lie left c.if-room-end.true
    (c.put_gap.ensures.items ∙ ap (λ n. take n c.args.gaps.now.items ++ (gap_of c.args.end c.args.room.base ++ drop n c.args.gaps.now.items)) (omega (arith, c.len-last.ensures, c.args.gaps.now.ok.0)))

pub places_before-place-requires : goal.places_before-place-requires
places_before-place-requires c =
    subst (Rise 0) (sym (c.as_slice.ensures.value ∙ c.requires.fits.3.are_gaps)) (gaps_rise 0 max_region_size (c.requires.fits.0 ++ c.requires.fits.1) c.requires.fits.3.lie)

pub overflow_sub-place : goal.overflow_sub-place
overflow_sub-place c =
    let i = inside max_region_size c.args.end c.places_before-place.result c.requires.fits.0 c.requires.fits.1 c.args.room c.args.gaps.now.items c.as_slice.result.now c.requires.fits.2 c.requires.fits.3 (omega (arith, c.if-room-end.false)) c.as_slice.ensures.value c.places_before-place.ensures.value in
    let some = i.some in
    omega (arith, some)

pub remove-gap-requires : goal.remove-gap-requires
remove-gap-requires c =
    let i = inside max_region_size c.args.end c.places_before-place.result c.requires.fits.0 c.requires.fits.1 c.args.room c.args.gaps.now.items c.as_slice.result.now c.requires.fits.2 c.requires.fits.3 (omega (arith, c.if-room-end.false)) c.as_slice.ensures.value c.places_before-place.ensures.value in
    let within = gap_within c.requires.fits.0 c.requires.fits.1 c.args.room max_region_size c.args.end c.places_before-place.result c.args.gaps.now.items i in
    omega (arith, within, c.args.gaps.now.ok.0)

pub overflow_add-gap : goal.overflow_add-gap
overflow_add-gap c =
    let i = inside max_region_size c.args.end c.places_before-place.result c.requires.fits.0 c.requires.fits.1 c.args.room c.args.gaps.now.items c.as_slice.result.now c.requires.fits.2 c.requires.fits.3 (omega (arith, c.if-room-end.false)) c.as_slice.ensures.value c.places_before-place.ensures.value in
    let stop = gap_stop c.requires.fits.0 c.requires.fits.1 c.args.room c.remove-gap.result max_region_size c.args.end c.places_before-place.result c.args.gaps.now.items i c.remove-gap.ensures.value in
    omega (arith, stop)

pub returns-clause-left : goal.returns-clause-left
returns-clause-left c size before behind lie left =
    let i = inside size c.args.end c.places_before-place.result before behind c.args.room c.args.gaps.now.items c.as_slice.result.now lie left (omega (arith, c.if-room-end.false)) c.as_slice.ensures.value c.places_before-place.ensures.value in
    cut_between before behind c.args.room c.remove-gap.result size c.args.end c.places_before-place.result c.args.gaps.now.items c.remove-gap.new.self.items c.put_gap-2.new.gaps.items c.put_gap-3.new.gaps.items lie i c.remove-gap.ensures.value c.remove-gap.ensures.items c.put_gap-2.ensures.items c.put_gap-3.ensures.items
