use Rattle.std.proofs.Common.{subst, sym, ◌∙◌, to_z-of_z, w64, rules, SFits}
use Rattle.ac_model.specs.Calls.{Same}
use Rattle.ac_model.specs.Forms.{Looks}
use Rattle.ac_model.specs.Vectors.{reverse_find_index_call}
use Rattle.ac_calls.specs.Arguments.{argument_of}
use Rattle.ac_sequence_calls.proofs.vector_calls.indexes.last_index_of.Goals as goal

pub returns : goal.returns
returns g c =
    let index = c.last_index.result in
    let fits : SFits w64 index = search rules in
    let vector = g.V.SequenceLike.seen c.args.vector.now in
    subst (λ same. Looks Same (λ o. reverse_find_index_call same o c.args.element.now (argument_of c.args.from.now).last_index) vector c.reverse_find_index.result)
    (sym g.met.V.Element.ScriptElement.same_is)
    (subst (λ n. Looks Same (λ o. reverse_find_index_call g.V.Element.Elem.is_same o c.args.element.now n) vector c.reverse_find_index.result)
    (to_z-of_z {w = w64} {z = index} fits ∙ c.last_index.ensures) c.reverse_find_index.ensures)
