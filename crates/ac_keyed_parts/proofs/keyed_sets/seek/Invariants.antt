use Rattle.ac_keyed_parts.proofs.keyed_sets.seek.Given as goal

abbrev pub ghosts-sought : goal.ghosts-sought
ghosts-sought g a = record { name = a.blank.name; parts = a.blank.parts }
