use Rattle.std.proofs.Common.{◌≡◌, Bool, subst, ◌∙◌}
use Rattle.std.specs.Prelude.{IfOk}
use Rattle.ac_snapshot.proofs.RowsTogether.{hashed_map_stands, ordered_map_stands, hashed_set_stands, ordered_set_stands, tree_stands}
use Rattle.ac_snapshot.proofs.row_test.stand_together.Goals as goal

pub returns-in-HashedMap : goal.returns-in-HashedMap
returns-in-HashedMap c =
    subst (λ (b : Bool). IfOk c.keys_differ.result (λ stand. stand ≡ b)) (hashed_map_stands c.args.def c.args.rows.now c.requires.typed c.requires.all c.in-HashedMap.is) c.keys_differ.ensures

pub returns-in-HashedSet : goal.returns-in-HashedSet
returns-in-HashedSet c =
    subst (λ (b : Bool). IfOk c.keys_differ-in-HashedSet.result (λ stand. stand ≡ b)) (hashed_set_stands c.args.def c.args.rows.now c.requires.typed c.requires.all c.in-HashedSet.is)
    c.keys_differ-in-HashedSet.ensures

pub returns-in-OrderedMap : goal.returns-in-OrderedMap
returns-in-OrderedMap c = c.each_in_turn.ensures ∙ ordered_map_stands c.args.def c.args.rows.now c.requires.typed c.requires.all c.in-OrderedMap.is

pub returns-in-OrderedSet : goal.returns-in-OrderedSet
returns-in-OrderedSet c = c.each_in_turn-in-OrderedSet.ensures ∙ ordered_set_stands c.args.def c.args.rows.now c.requires.typed c.requires.all c.in-OrderedSet.is

pub returns-in-Tree : goal.returns-in-Tree
returns-in-Tree c = c.is_outline.ensures ∙ tree_stands c.args.def c.args.rows.now c.in-Tree.is
