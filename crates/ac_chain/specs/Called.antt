-- What the rows of a list or a vector are to its container.
use Rattle.std.specs.Prelude.{◌≡◌}
use Rattle.ac_chain.specs.Rows.{Chained}
use Rattle.ac_chain.specs.Sequence.{object_of, IsSequence}
use Rattle.ac_model.specs.Containers.{Container, guards_of}

pub record HasRows {T : Type 0} (o : Container T) (c : Chained T) : Type 0 where
  pub object : object_of (guards_of o) o.object.limit o.object.capacity c ≡ o.object
  pub spare : c.spare ≡ o.spare
  pub sequence : IsSequence o.object.limit c
