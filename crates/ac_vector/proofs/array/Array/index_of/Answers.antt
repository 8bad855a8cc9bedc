use Rattle.std.proofs.Common.{sym, ap, ◌∙◌, is_some}
use Rattle.std.specs.Option.{option_copied}
use Rattle.ac_chain.proofs.Chains.{copied_some}
use Rattle.ac_vector.proofs.NamesAt.{same_number}
use Rattle.ac_vector.proofs.Arrays.{old_stands, old_sound, place_of, live_in}
use Rattle.ac_vector.proofs.array.Array.index_of.Goals as goal

pub unwrap-requires : goal.unwrap-requires
unwrap-requires g c = sym (copied_some c.get.result) ∙ ap is_some c.get.ensures ∙ live_in (old_stands c.self.invariant.array c.self.view_is) c.args.name c.requires

pub returns-clause-index : goal.returns-clause-index
returns-clause-index g c = same_number _ _ (sym (ap option_copied c.unwrap.ensures) ∙ c.get.ensures ∙ place_of (old_stands c.self.invariant.array c.self.view_is) c.args.name c.requires)

pub returns-clause-sound : goal.returns-clause-sound
returns-clause-sound g c = old_sound c.self.invariant.array c.self.view_is
