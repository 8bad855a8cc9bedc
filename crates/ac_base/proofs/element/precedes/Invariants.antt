use Rattle.ac_base.proofs.element.precedes.Given as goal

abbrev pub ghosts-precedes_counted : goal.ghosts-precedes_counted
ghosts-precedes_counted g a = record { name = a.blank.name; parts = a.blank.parts }
