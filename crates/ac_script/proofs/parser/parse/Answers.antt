use Rattle.ac_script.proofs.Refusals.{answers_found, answers_only, answers_refused, answers_spelled, answers_faulty}
use Rattle.ac_script.proofs.parser.parse.Goals as goal

pub returns-clause-found : goal.returns-clause-found
returns-clause-found c = answers_found c.answer.result c.args.bytes.now c.answer.ensures

pub returns-clause-only : goal.returns-clause-only
returns-clause-only c = answers_only c.answer.result c.args.bytes.now c.answer.ensures

pub returns-clause-refused : goal.returns-clause-refused
returns-clause-refused c = answers_refused c.answer.result c.args.bytes.now c.answer.ensures

pub returns-clause-spelled : goal.returns-clause-spelled
returns-clause-spelled c = answers_spelled c.answer.result c.args.bytes.now c.answer.ensures

pub returns-clause-faulty : goal.returns-clause-faulty
returns-clause-faulty c = answers_faulty c.answer.result c.args.bytes.now c.answer.ensures
