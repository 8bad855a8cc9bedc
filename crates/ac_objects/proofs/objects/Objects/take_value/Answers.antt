use Rattle.std.proofs.Common.{sym, ap, ◌∙◌}
use Rattle.ac_meaning.specs.Environment.{value_in}
use Rattle.ac_objects.specs.World.{counted, state_of}
use Rattle.ac_objects.proofs.InScope.{held_value, last_value, taken_persists, taken_sound, taken_state}
use Rattle.ac_objects.proofs.objects.Objects.take_value.Goals as goal

pub value_held-requires : goal.value_held-requires
value_held-requires c =
    let s = c.self.inside in
    let v = c.requires.value in (
      v.value,
      last_value c.args.self.now s.bounds.items _ (counted s.mint s.blocks) c.args.place _ c.pop.result c.self.view_is c.requires.last s.bounds.ok.0
          c.pop.ensures.items c.pop.ensures.rest v.value v.there,
    )

pub invariant_of-self : goal.invariant_of-self
invariant_of-self c =
    let s = c.self.inside in
    taken_sound c.args.self.now s.bounds.items _ (counted s.mint s.blocks) c.args.place _ c.pop.result c.self.view_is c.requires.last s.bounds.ok.0
    c.pop.ensures.items c.pop.ensures.rest c.self.invariant

pub returns-clause-value : goal.returns-clause-value
returns-clause-value c =
    let s = c.self.inside in
    let v = c.requires.value in
    held_value (sym c.value_held.ensures
    ∙ last_value c.args.self.now s.bounds.items _ (counted s.mint s.blocks) c.args.place _ c.pop.result c.self.view_is c.requires.last s.bounds.ok.0
    c.pop.ensures.items c.pop.ensures.rest v.value v.there)
    ∙ sym (ap (value_in (state_of c.args.self.now)) v.there)

pub returns-clause-left : goal.returns-clause-left
returns-clause-left c =
    let s = c.self.inside in
    taken_state c.args.self.now s.bounds.items _ (counted s.mint s.blocks) c.args.place _ c.pop.result c.self.view_is c.requires.last s.bounds.ok.0
    c.pop.ensures.items c.pop.ensures.rest

pub returns-clause-persists : goal.returns-clause-persists
returns-clause-persists c =
    let s = c.self.inside in
    taken_persists c.args.self.now s.bounds.items _ (counted s.mint s.blocks) c.args.place _ c.pop.result c.self.view_is c.requires.last s.bounds.ok.0
    c.pop.ensures.items c.pop.ensures.rest
