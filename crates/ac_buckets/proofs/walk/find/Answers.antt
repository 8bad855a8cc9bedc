use Rattle.std.proofs.Common.{◌-◌, ◌%◌, length, get_or, arith, subst, ◌∙◌, sym}
use Rattle.ac_buckets.proofs.Walks.{IsLastNode, IsPassed-first, IsPassed-more, IsLastNode-first, IsLastNode-next, names_apart, node_at}
use Rattle.ac_buckets.proofs.walk.find.Goals as goal

pub loop-link-init : goal.loop-link-init
loop-link-init c =
    let a = c.args in let size = length a.heads.now in
    IsPassed-first a.nodes.now size (a.hash % size) a.name _
    (subst (λ b. IsLastNode size a.nodes.now b (length a.nodes.now) (get_or a.heads.now c.bucket_of.result 0)) c.bucket_of.ensures.bucket (IsLastNode-first size a.nodes.now a.heads.now c.bucket_of.result c.requires.linked c.bucket_of.ensures.within))

pub loop-link-smaller : goal.loop-link-smaller
loop-link-smaller c =
    let a = c.args in let h = c.loop-link.invariant in
    let next = IsLastNode-next a.nodes.now a.heads.now (c.loop-link.link - 1) c.requires.linked c.requires.heads (omega (arith, h.within, c.loop-link-test.true)) in
    omega (arith, next.within, c.loop-link-test.true)

pub loop-link-preserved : goal.loop-link-preserved
loop-link-preserved c =
    let a = c.args in let h = c.loop-link.invariant in
    IsPassed-more a.nodes.now (length a.heads.now) (a.hash % length a.heads.now) a.name c.loop-link.link _ (omega (arith, c.loop-link-test.true))
    (λ same. names_apart c.name.result a.name (sym c.if-eq.false ∙ c.eq.ensures) (c.name.ensures ∙ same))
    (IsLastNode-next a.nodes.now a.heads.now (c.loop-link.link - 1) c.requires.linked c.requires.heads (omega (arith, h.within, c.loop-link-test.true))) h
