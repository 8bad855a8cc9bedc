use Rattle.std.proofs.lemmas.Result.{IfOk-weaker}
use Rattle.ac_host.proofs.ByWorkers.{run_by_workers}
use Rattle.ac_host.proofs.workers.run_in_threads.Goals as goal

pub returns : goal.returns
returns g c new = IfOk-weaker c.run_block.result _ _ (λ done run. run_by_workers c.args.book done new run) c.run_block.ensures
