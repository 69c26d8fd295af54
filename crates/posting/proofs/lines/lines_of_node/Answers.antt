use Rattle.std.proofs.Common.{◌≡◌, ◌+◌, suc, nat_le, List, length, sym, ap, subst, true, false, arith, rules}
use Rattle.std.specs.List.Sorted.{IsPartitionedBy, IsPartitionPoint}
use Rattle.std.proofs.lemmas.List.Sorted.{IsPartitionPoint-from_clause, IsPartitionedBy-leb}
use Rattle.bag.specs.declared.lines.ChangeLine.{ChangeLine}
use Rattle.bag.specs.Bag.{Lines}
use Rattle.sheet.specs.Sheets.{flattened}
use Rattle.posting.proofs.NodeLines.{nodes_ascend, starts_ascend, begins_at, lines_between}
use Rattle.posting.proofs.lines.lines_of_node.Goals as goal

pub returns : goal.returns
returns c = λ (ds : List Lines) (are : c.args.lines.now ≡ flattened 0 ds).
    let k = c.args.node in
    let parted = λ (t : _). subst (IsPartitionedBy (λ (y : ChangeLine). nat_le (suc y.node) t)) (sym are) (IsPartitionedBy-leb (λ (y : ChangeLine). suc y.node) (flattened 0 ds) t (nodes_ascend ds)) in
    let from = IsPartitionPoint-from_clause (λ (y : ChangeLine). nat_le (suc y.node) k) _ _ c.partition_point-from.ensures.partitioned (parted k) (λ a r q h. search rules) in
    let to = IsPartitionPoint-from_clause (λ (y : ChangeLine). nat_le (suc y.node) (k + 1)) _ _ c.partition_point-to.ensures.partitioned (parted (k + 1)) (λ a r q h. search rules) in
    let low = c.partition_point-from.ensures.bound in
    let high = c.partition_point-to.ensures.bound in
    let a = begins_at ds k c.partition_point-from.result (omega (arith, low, ap length are)) (subst (λ xs. IsPartitionPoint (λ (y : ChangeLine). nat_le (suc y.node) k ≡ true) (λ y. nat_le (suc y.node) k ≡ false) xs c.partition_point-from.result) are from) in
    let b = begins_at ds (k + 1) c.partition_point-to.result (omega (arith, high, ap length are)) (subst (λ xs. IsPartitionPoint (λ (y : ChangeLine). nat_le (suc y.node) (k + 1) ≡ true) (λ y. nat_le (suc y.node) (k + 1) ≡ false) xs c.partition_point-to.result) are to) in
    let up = starts_ascend ds k in
    lines_between ds k _ _ c.args.lines.now are (omega (arith, a, b, up)) (omega (arith, a, b, up))
