use Rattle.std.proofs.Common.{◌≡◌, ◌-◌, ◌<◌, ◌++◌, length, take, drop, ap, sym, ◌∙◌, arith}
use Rattle.std.specs.List.{swap_remove}
use Rattle.ac_base.specs.Rows.{row}
use Rattle.std.proofs.lemmas.List.{take_at}
use Rattle.ac_buckets.specs.declared.linked.Node.{Node}
use Rattle.ac_buckets.specs.Linked.{name_of, marks_of, buckets_of, rows_of, blank_row, blank_node}
use Rattle.ac_buckets.proofs.Linking.{AreLinked-taken}
use Rattle.ac_buckets.proofs.Removing.{map-swap_remove}
use Rattle.ac_buckets.proofs.Walks.{node_at}
use Rattle.ac_buckets.proofs.placing.take_out.Goals as goal

pub relink-requires-clause-linked : goal.relink-requires-clause-linked
relink-requires-clause-linked c =
    let before = c.as_mut_slice.result.now in let nodes = c.unlink_both.new.nodes in let heads = c.unlink_both.new.heads in let after = c.as_mut_slice-2.result.now in let i = c.args.index in let size = length heads in
    let len = c.args.nodes.now.len in
    let long : length nodes ≡ len = omega (arith, c.unlink_both.auto.nodes, c.as_mut_slice.ensures.len) in
    let items : take len (nodes ++ drop (length nodes) c.args.nodes.now.items) ≡ nodes = take_at nodes (drop (length nodes) c.args.nodes.now.items) len long in
    let some : i < len = omega (arith, c.as_mut_slice.ensures.len, ap length c.as_mut_slice.ensures.value) in
    AreLinked-taken nodes after heads (marks_of size before) i (c.len-last.result - 1) (omega (arith, c.len-last.ensures)) (omega (arith, c.len-last.ensures)) c.unlink_both.ensures.linked
    (ap (buckets_of size) (sym c.unlink_both.ensures.rows)) (omega (arith, c.len-last.ensures, c.as_mut_slice-2.ensures.len, c.swap_remove-node.ensures.len))
    (λ k off less. ap (λ ns. node_at ns k) c.as_mut_slice-2.ensures.value ∙ c.swap_remove-node.ensures.by_index.1 k blank_node off (omega (arith, c.len-last.ensures)) ∙ ap (λ ns. node_at ns k) items)

pub returns-clause-rows : goal.returns-clause-rows
returns-clause-rows c =
    let before = c.as_mut_slice.result.now in let nodes = c.unlink_both.new.nodes in let after = c.as_mut_slice-2.result.now in let i = c.args.index in
    let len = c.args.nodes.now.len in
    let long : length nodes ≡ len = omega (arith, c.unlink_both.auto.nodes, c.as_mut_slice.ensures.len) in
    let items : take len (nodes ++ drop (length nodes) c.args.nodes.now.items) ≡ nodes = take_at nodes (drop (length nodes) c.args.nodes.now.items) len long in
    let some : i < len = omega (arith, c.as_mut_slice.ensures.len, ap length c.as_mut_slice.ensures.value) in
    let many : length c.relink.new.nodes ≡ c.swap_remove-node.new.self.len = omega (arith, c.relink.auto.nodes, c.as_mut_slice-2.ensures.len) in
    ap rows_of (take_at c.relink.new.nodes (drop (length c.relink.new.nodes) c.swap_remove-node.new.self.items) c.swap_remove-node.new.self.len many)
    ∙ c.relink.ensures.rows ∙ ap rows_of (c.as_mut_slice-2.ensures.value ∙ c.swap_remove-node.ensures.items ∙ ap (λ ns. swap_remove ns i c.swap_remove-node.result) items)
    ∙ map-swap_remove (λ (n : Node). row (name_of n) n.hash) nodes i c.swap_remove-node.result blank_row (omega arith)
    ∙ ap (λ rs. swap_remove rs i blank_row) (c.unlink_both.ensures.rows ∙ ap rows_of c.as_mut_slice.ensures.value)
