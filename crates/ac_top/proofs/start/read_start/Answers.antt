use Rattle.std.proofs.Common.{rules}
use Rattle.ac_top.proofs.Parts.{start_read, start_refused, whole_split}
use Rattle.ac_top.proofs.start.read_start.Goals as goal

pub returns-clause-read : goal.returns-clause-read
returns-clause-read c =
    start_read c.args.input.now c.args.input.now c.from_vec.result c.args.resumes
    (whole_split c.args.input.now c.args.resumes c.from_vec.result c.if-resumes.false (search rules)) c.start_on.result c.start_on.ensures.read

pub returns-clause-refused : goal.returns-clause-refused
returns-clause-refused c =
    start_refused c.args.input.now c.args.input.now c.from_vec.result c.args.resumes
    (whole_split c.args.input.now c.args.resumes c.from_vec.result c.if-resumes.false (search rules)) c.start_on.result c.start_on.ensures.refused
