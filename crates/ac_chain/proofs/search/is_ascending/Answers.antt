use Rattle.ac_chain.proofs.Compares.{ascending_start, before_live, ascending_end}
use Rattle.ac_chain.proofs.Compares.{name_live, ascending_falls, ascending_more, ascending_less}
use Rattle.ac_chain.proofs.search.is_ascending.Goals as goal

pub loop-name-init : goal.loop-name-init
loop-name-init g c = ascending_start g.T.Rank.is_less (g.C.Walked.seen c.args.rows.now) c.args.first c.requires.first

pub next-requires : goal.next-requires
next-requires g c = before_live g.T.Rank.is_less (g.C.Walked.seen c.args.rows.now) c.requires.sound c.loop-name.before c.loop-name.invariant

pub at-requires : goal.at-requires
at-requires g c = name_live g.T.Rank.is_less (g.C.Walked.seen c.args.rows.now) c.requires.sound c.loop-name.before c.loop-name.invariant c.in-Some.name c.in-Some.ensures.name

pub at-requires-in-Some : goal.at-requires-in-Some
at-requires-in-Some g c = before_live g.T.Rank.is_less (g.C.Walked.seen c.args.rows.now) c.requires.sound c.loop-name.before c.loop-name.invariant

pub returns-then-precedes : goal.returns-then-precedes
returns-then-precedes g c =
    ascending_falls g.T.Rank.is_less (g.C.Walked.seen c.args.rows.now) c.requires.sound c.loop-name.before c.loop-name.invariant c.in-Some.name c.in-Some.ensures.name
    c.at-in-Some.result.now c.at.result.now c.precedes.result c.at.ensures.value c.at-in-Some.ensures.value c.precedes.ensures c.if-precedes.true

pub loop-name-smaller : goal.loop-name-smaller
loop-name-smaller g c = ascending_less g.T.Rank.is_less (g.C.Walked.seen c.args.rows.now) c.requires.sound c.loop-name.before c.loop-name.invariant c.in-Some.name c.in-Some.ensures.name

pub loop-name-preserved : goal.loop-name-preserved
loop-name-preserved g c =
    ascending_more g.T.Rank.is_less (g.C.Walked.seen c.args.rows.now) c.requires.sound c.loop-name.before c.loop-name.invariant c.in-Some.name c.in-Some.ensures.name
    c.at-in-Some.result.now c.at.result.now c.precedes.result c.at.ensures.value c.at-in-Some.ensures.value c.precedes.ensures c.if-precedes.false

pub returns : goal.returns
returns g c = ascending_end g.T.Rank.is_less (g.C.Walked.seen c.args.rows.now) c.requires.sound c.loop-name.before c.loop-name.invariant c.in_default.ensures.name
