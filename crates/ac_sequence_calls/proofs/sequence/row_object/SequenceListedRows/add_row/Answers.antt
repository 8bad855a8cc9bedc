use Rattle.std.proofs.Common.{◌≡◌, subst, Some}
use Rattle.ac_model.specs.Forms.{seen_by}
use Rattle.ac_model.specs.Objects.{plain}
use Rattle.ac_model.specs.Sequences.{element_call}
use Rattle.ac_sequence_calls.specs.declared.sequence.Sequence.{Sequence}
use Rattle.ac_sequence_calls.specs.Sequences.{by_kind}
use Rattle.ac_sequence_calls.proofs.sequence.row_object.SequenceListedRows.add_row.Goals as goal

pub returns-in-List-clause-adds : goal.returns-in-List-clause-adds
returns-in-List-clause-adds g c row is =
    c.add_row.ensures.adds row
    (subst (λ (s : Sequence _ _). let rows = by_kind g.L.SequenceLike.seen g.V.SequenceLike.seen s in
    (element_call (plain rows.object) (seen_by rows c.args.c)).answer ≡ Some row) c.in-List.is is)

pub returns-in-Vector-clause-adds : goal.returns-in-Vector-clause-adds
returns-in-Vector-clause-adds g c row is =
    c.add_row-in-Vector.ensures.adds row
    (subst (λ (s : Sequence _ _). let rows = by_kind g.L.SequenceLike.seen g.V.SequenceLike.seen s in
    (element_call (plain rows.object) (seen_by rows c.args.c)).answer ≡ Some row) c.in-Vector.is is)
