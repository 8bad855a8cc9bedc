use Rattle.ac_snapshot.proofs.KeySets.{text_new, text_added}
use Rattle.ac_snapshot.proofs.key_set.is_new_text.Goals as goal

pub returns-clause-new : goal.returns-clause-new
returns-clause-new c = text_new (c.number_of-number.result, c.args.key) c.args.seen.now.keys c.in_ok-new.new c.number_of-number.ensures c.in_ok-new.ensures.added

pub returns-clause-seen : goal.returns-clause-seen
returns-clause-seen c is own =
    text_added (c.number_of-number.result, c.args.key) c.args.seen.now.keys c.insert.new.self.keys c.in_ok-new.new c.number_of-number.ensures c.in_ok-new.ensures.added c.in_ok-new.ensures.keys is own
