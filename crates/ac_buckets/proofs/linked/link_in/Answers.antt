use Rattle.std.proofs.Common.{◌∙◌}
use Rattle.ac_buckets.proofs.Links.{AreLinked-linked_in, rows_relinked}
use Rattle.ac_buckets.proofs.linked.link_in.Goals as goal

pub returns-clause-linked : goal.returns-clause-linked
returns-clause-linked c =
    let to = c.set_link_below in
    AreLinked-linked_in c.args.nodes.now to.new.nodes c.args.heads.now to.new.heads c.args.index c.bucket_of-bucket.result c.above-above.result c.requires.index.0 c.bucket_of-bucket.ensures.bucket
    c.bucket_of-bucket.ensures.within c.above-above.ensures.above to.ensures.heads (rw (← c.link_below.ensures) to.ensures.links)

pub returns-clause-rows : goal.returns-clause-rows
returns-clause-rows c = c.set_link_below.ensures.rows ∙ rows_relinked c.args.nodes.now c.args.index _
