use Rattle.ac_model.specs.Calls.{Marks}
use Rattle.ac_model.specs.Cursors.{mark}
use Rattle.ac_model.specs.Objects.{plain}
use Rattle.ac_model.specs.Vectors as vectors
use Rattle.ac_model.proofs.Changes.{unanswered}
use Rattle.ac_vector.proofs.vector.Vector.insert_vector.Goals as goal

pub returns-clause-changed : goal.returns-clause-changed
returns-clause-changed g c =
    let o = c.args.self.now.object in let put = c.insert_vector_pos in
    unanswered (λ _ m. Marks put.new.self.object put.new.p m) (vectors.insert_vector_pos_call (plain o) (mark o c.args.b) (plain c.args.source.now.object)) o put.new.self.object put.result put.ensures.changed.0
