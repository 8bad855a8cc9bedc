use Rattle.ac_aggregate.proofs.Complete.{all_read}
use Rattle.ac_aggregate.proofs.Sound.{whole_sound}
use Rattle.ac_aggregate.proofs.law.readings.Goals as goal

pub returns-clause-sound : goal.returns-clause-sound
returns-clause-sound c = whole_sound

pub returns-clause-complete : goal.returns-clause-complete
returns-clause-complete c = all_read
