use Rattle.ac_keyed_parts.proofs.balance.found.Given as goal

abbrev pub ghosts-found_with : goal.ghosts-found_with
ghosts-found_with a = record { name = a.blank.name; parts = a.blank.parts }
