use Rattle.ac_script.specs.Views.{command_view}
use Rattle.ac_script.proofs.build.Building.add.Goals as goal

pub returns-in-Declares : goal.returns-in-Declares
returns-in-Declares c = rw c.in-Declares.is c.declare.ensures

pub returns-in_ok-command-in-Commands : goal.returns-in_ok-command-in-Commands
returns-in_ok-command-in-Commands c = rw c.in-Commands.is (c.run.ensures (command_view c.in-Commands.simple) c.in_ok-command-in-Commands.ensures)

pub returns-in-Opens : goal.returns-in-Opens
returns-in-Opens c = rw c.in-Opens.is c.open.ensures

pub returns-in-Begins : goal.returns-in-Begins
returns-in-Begins c = rw c.in-Begins.is c.begin.ensures

pub returns-in-Closes : goal.returns-in-Closes
returns-in-Closes c = rw c.in-Closes.is (c.leave.ensures c.in-Closes.field-0)

pub returns-in-Propagates : goal.returns-in-Propagates
returns-in-Propagates c = rw c.in-Propagates.is c.propagate.ensures

pub returns-in-Tries : goal.returns-in-Tries
returns-in-Tries c = rw c.in-Tries.is c.attempt.ensures

pub returns-in-Catches : goal.returns-in-Catches
returns-in-Catches c = rw c.in-Catches.is c.catch.ensures
