use Rattle.std.proofs.Common.{sym, ◌∙◌, ap, is_some}
use Rattle.ac_vector.proofs.Arrays.{old_sound}
use Rattle.ac_vector.proofs.Slots.{name_stands, name_there_in}
use Rattle.ac_vector.proofs.array.Array.name_at.Goals as goal

pub unwrap-requires : goal.unwrap-requires
unwrap-requires g c = ap is_some c.name_in.ensures.name ∙ name_stands c.self.invariant c.self.view_is c.args.place c.index-slot.result.now c.requires c.index-slot.ensures

pub returns-clause-name : goal.returns-clause-name
returns-clause-name g c = sym c.unwrap.ensures ∙ c.name_in.ensures.name ∙ name_there_in c.self.invariant c.self.view_is c.args.place c.index-slot.result.now c.requires c.index-slot.ensures

pub returns-clause-sound : goal.returns-clause-sound
returns-clause-sound g c = old_sound c.self.invariant.array c.self.view_is
