use Rattle.std.proofs.Common.{subst, sym}
use Rattle.ac_model.specs.Objects.{plain}
use Rattle.ac_model.specs.Cursors.{mark}
use Rattle.ac_model.specs.Calls.{Looking, Marks}
use Rattle.ac_model.specs.Sequences.{reverse_find_call}
use Rattle.ac_calls.proofs.Own.{own_look, mark_for_own}
use Rattle.ac_sequence_calls.proofs.sequence_calls.own_cursors.reverse_find.Goals as goal

pub returns : goal.returns
returns g c =
    let o = (g.S.SequenceLike.seen c.args.sequence.now).object in
    own_look o _ _ (mark_for_own o.number _)
    (subst (λ same. Looking (Marks o) (reverse_find_call same (plain o) c.args.element.now (mark o c.args.from)) c.reverse_find.result)
    (sym g.met.S.Element.ScriptElement.same_is) c.reverse_find.ensures)
