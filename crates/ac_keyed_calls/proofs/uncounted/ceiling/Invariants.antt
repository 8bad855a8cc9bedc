use Rattle.ac_keyed_calls.proofs.uncounted.ceiling.Given as goal

abbrev pub ghosts-ceiling_counted : goal.ghosts-ceiling_counted
ghosts-ceiling_counted g a = record { name = a.blank.name; parts = a.blank.parts }
