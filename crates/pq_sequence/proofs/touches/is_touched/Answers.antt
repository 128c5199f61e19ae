use Rattle.std.proofs.Common.{◌∙◌, rules, ltb}
use Rattle.std.proofs.lemmas.List.Sorted.{IsPartitionPoint-from_clause, IsPartitionedBy-ltb}
use Rattle.pq_sequence.proofs.TouchLemmas.{last_tells, none_tells}
use Rattle.pq_sequence.proofs.touches.is_touched.Goals as goal

-- the last reach that begins before the end of the span
pub returns-then-count-gt0 : goal.returns-then-count-gt0
returns-then-count-gt0 c events are =
    let reaches = c.args.reaches.now in
    let span = c.args.span in
    let rising = IsPartitionedBy-ltb (λ reach. reach.start) reaches span.end are.beginnings in
    let parted = IsPartitionPoint-from_clause (λ reach. ltb reach.start span.end) _ _
    c.partition_point-count.ensures.partitioned rising (λ a r q k. search rules) in
    last_tells reaches span.start span.end c.partition_point-count.result parted _
    c.partition_point-count.ensures.bound are.ends (search rules) ∙ are.tells span.start span.end

-- no reach begins before the end of the span
pub returns-else-count-gt0 : goal.returns-else-count-gt0
returns-else-count-gt0 c events are =
    let reaches = c.args.reaches.now in
    let span = c.args.span in
    let rising = IsPartitionedBy-ltb (λ reach. reach.start) reaches span.end are.beginnings in
    let parted = IsPartitionPoint-from_clause (λ reach. ltb reach.start span.end) _ _
    c.partition_point-count.ensures.partitioned rising (λ a r q k. search rules) in
    none_tells reaches span.start span.end c.partition_point-count.result parted c.if-count-gt0.false
    ∙ are.tells span.start span.end
