use Rattle.std.proofs.Common.{rules, subst, sym}
use Rattle.ac_model.specs.Objects.{plain}
use Rattle.ac_calls.specs.Arguments.{marked}
use Rattle.ac_calls.specs.Replied.{IsMade}
use Rattle.ac_calls.proofs.Made.{unchanged}
use Rattle.ac_keyed_calls.proofs.MapOperations.{in_words, walk_by, map_by, capacity_by, no_hashed_call}
use Rattle.ac_keyed_calls.proofs.map_operations.operate_hashed_alone.Goals as goal

pub returns-in-Walk : goal.returns-in-Walk
returns-in-Walk g c = λ source.
    let keys = g.K.ScriptElement.tools in let tools = g.V.ScriptElement.tools in let which = g.M.MapKind.which in
    let old = c.args.map.now in
    in_words (walk_by keys tools which (plain old.object) source (marked old.object c.args.args.now) c.args.operation c.in-Walk.call c.in-Walk.is)
    old _ _ c.walk_call.ensures.replied

pub returns-in-Map : goal.returns-in-Map
returns-in-Map g c = λ source.
    let keys = g.K.ScriptElement.tools in let tools = g.V.ScriptElement.tools in let which = g.M.MapKind.which in
    let old = c.args.map.now in
    in_words (map_by keys tools which (plain old.object) source (marked old.object c.args.args.now) c.args.operation c.in-Map.call c.in-Map.is)
    old _ _ c.map_call.ensures

pub returns-in-Capacity : goal.returns-in-Capacity
returns-in-Capacity g c = λ source.
    let keys = g.K.ScriptElement.tools in let tools = g.V.ScriptElement.tools in let which = g.M.MapKind.which in
    let old = c.args.map.now in
    in_words (capacity_by keys tools which (plain old.object) source (marked old.object c.args.args.now) c.args.operation c.in-Capacity.call c.in-Capacity.is g.met.M.HashedMapKind.is_hashed)
    old _ _ c.capacity_call.ensures

pub returns-in_default : goal.returns-in_default
returns-in_default g c = λ source.
    let keys = g.K.ScriptElement.tools in let tools = g.V.ScriptElement.tools in let which = g.M.MapKind.which in
    let old = c.args.map.now in let none = c.in_default in
    subst (λ r. IsMade r old old c.says.result)
    (sym (no_hashed_call keys tools which (plain old.object) source (marked old.object c.args.args.now) c.args.operation g.met.M.HashedMapKind.is_hashed
    c.requires none.not-Walk none.not-Map none.not-Capacity))
    (record {
      goes = search rules;
      reason = search rules;
      after = unchanged old.object;
      source = search rules;
      says = search (rules, c.says.ensures.said);
      variable = search (rules, c.says.ensures.variable);
    })
