use Rattle.std.proofs.Common.{rules}
use Rattle.std.proofs.lemmas.List.Sorted.{IsPartitionPoint-from_clause}
use Rattle.ready_lists.specs.Lists.{is_before}
use Rattle.ready_lists.specs.Views.{name_of}
use Rattle.ready_lists.proofs.Points.{partitioned, point_is_place}
use Rattle.ready_lists.proofs.names.place_of.Goals as goal

pub returns-clause-value : goal.returns-clause-value
returns-clause-value c =
    let name = name_of c.args.piece in
    point_is_place name_of name c.args.items.now c.partition_point.result c.args.piece c.partition_point.ensures.bound
    (IsPartitionPoint-from_clause (λ x. is_before (name_of x) name) c.args.items.now c.partition_point.result c.partition_point.ensures.partitioned (partitioned name_of name c.args.items.now c.requires) (λ a r q k. search rules))
