use Rattle.ac_balance.proofs.search.place_for.Given as goal

abbrev pub ghosts-sought : goal.ghosts-sought
ghosts-sought g a = record { name = a.blank.name; parts = a.blank.parts }
