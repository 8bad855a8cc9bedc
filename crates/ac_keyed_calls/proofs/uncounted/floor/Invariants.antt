use Rattle.ac_keyed_calls.proofs.uncounted.floor.Given as goal

abbrev pub ghosts-floor_counted : goal.ghosts-floor_counted
ghosts-floor_counted g a = record { name = a.blank.name; parts = a.blank.parts }
