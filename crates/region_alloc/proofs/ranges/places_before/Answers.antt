use Rattle.std.proofs.Common.{ltb, rules}
use Rattle.std.proofs.lemmas.List.Sorted.{IsPartitionPoint-from_clause, IsPartitionedBy-ltb}
use Rattle.region_alloc.proofs.Lists.{in_order, point_is_count}
use Rattle.region_alloc.proofs.ranges.places_before.Goals as goal

pub returns-clause-value : goal.returns-clause-value
returns-clause-value c =
    point_is_count c.args.base c.args.extents.now c.partition_point.result c.partition_point.ensures.bound
    (IsPartitionPoint-from_clause (λ x. ltb x.base c.args.base) c.args.extents.now c.partition_point.result c.partition_point.ensures.partitioned (IsPartitionedBy-ltb (λ x. x.base) c.args.extents.now c.args.base (in_order 0 c.args.extents.now c.requires)) (λ a r q k. search rules))
