use Rattle.ac_ordered.proofs.ascending.AscendingIndex.look.Given as goal

abbrev pub ghosts-sought : goal.ghosts-sought
ghosts-sought g a = record { name = a.blank.name; parts = a.blank.parts }
