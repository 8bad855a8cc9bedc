use Rattle.std.proofs.Common.{sym, ap, ◌∙◌, subst}
use Rattle.std.specs.Option.{ForSome}
use Rattle.ac_model.specs.Containers.{guards_of}
use Rattle.ac_model.specs.Cursors.{IsNamed, spot}
use Rattle.ac_chain.proofs.SequenceGrows.{insert_spot}
use Rattle.ac_chain.proofs.calls.putting.place_before.Goals as goal

pub returns-clause-named : goal.returns-clause-named
returns-clause-named g c =
    let o = (g.S.Sequence.seen c.args.s.now).object in let q = g.S.Sequence.seen c.args.s.now in let k = g.S.Rows.Walked.seen c.rows-rows.result.now in let r = c.rows-rows.ensures in
    subst (λ p. ForSome p (IsNamed o)) (sym c.place_in.ensures) (insert_spot (guards_of q) q.object.limit q.object.capacity k q.object r.object r.sequence.sound c.args.b c.requires).0

pub returns-clause-spot : goal.returns-clause-spot
returns-clause-spot g c =
    let o = (g.S.Sequence.seen c.args.s.now).object in let q = g.S.Sequence.seen c.args.s.now in let k = g.S.Rows.Walked.seen c.rows-rows.result.now in let r = c.rows-rows.ensures in
    ap (spot o) c.place_in.ensures ∙ (insert_spot (guards_of q) q.object.limit q.object.capacity k q.object r.object r.sequence.sound c.args.b c.requires).1
