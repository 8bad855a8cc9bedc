use Rattle.std.proofs.Common.{◌≡◌, subst, sym, ◌∙◌}
use Rattle.ac_model.specs.Cursors.{may_cursor}
use Rattle.ac_chain.proofs.Marks.{may_by_name}
use Rattle.ac_chain.proofs.calls.looking.may.Goals as goal

pub returns-in-At : goal.returns-in-At
returns-in-At g c =
    let o = (g.S.Sequence.seen c.args.s.now).object in subst (λ q. c.judged.result ≡ may_cursor o q) (sym c.in-At.is) (c.judged.ensures ∙ sym (may_by_name o c.in-At.object c.in-At.name))
