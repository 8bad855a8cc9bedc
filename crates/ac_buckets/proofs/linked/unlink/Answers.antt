use Rattle.ac_buckets.proofs.Links.{AreLinked-unlinked}
use Rattle.ac_buckets.proofs.linked.unlink.Goals as goal

pub returns-clause-linked : goal.returns-clause-linked
returns-clause-linked c =
    let to = c.set_link_below in
    AreLinked-unlinked c.args.nodes.now to.new.nodes c.args.heads.now to.new.heads c.args.index c.bucket_of-bucket.result c.above-above.result c.requires.index c.bucket_of-bucket.ensures.bucket
    c.bucket_of-bucket.ensures.within c.above-above.ensures.above to.ensures.heads to.ensures.links
