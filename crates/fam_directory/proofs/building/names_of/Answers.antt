use Rattle.fam_directory.proofs.TakenOver.{name_free, name_more, all_named}
use Rattle.fam_directory.proofs.building.names_of.Goals as goal

pub add_name-requires : goal.add_name-requires
add_name-requires c = name_free c.args.regions.now c.loop-row.row-index c.row-item.result c.loop-row.names c.requires c.loop-row-test.true c.row-item.is c.loop-row.invariant

pub loop-row-preserved : goal.loop-row-preserved
loop-row-preserved c = name_more c.args.regions.now c.loop-row.row-index c.row-item.result c.loop-row.names c.add_name.new.names c.requires c.loop-row-test.true c.row-item.is c.loop-row.invariant c.in_ok-add_name.ensures

pub returns : goal.returns
returns c = all_named c.args.regions.now c.loop-row.row-index c.loop-row.names c.loop-row-test.false c.loop-row.invariant
