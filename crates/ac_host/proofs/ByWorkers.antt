-- What workers leave goes by an order.
use Rattle.std.proofs.Common.{◌≡◌, [], ◌++◌, sym, ap, subst, ◌∙◌}
use Rattle.std.specs.Prelude.{⊤}
use Rattle.ac_history.specs.Blocks.{Block, IsComplete, opening, present, with_entries}
use Rattle.ac_history.specs.Histories.{IsLegal, replay}
use Rattle.ac_history.specs.Orders.{order_of}
use Rattle.ac_history.proofs.Runs.{histories_have_orders}
use Rattle.ac_tasks.specs.Ends.{IsRunOf}
use Rattle.ac_host.specs.Runners.{IsRunBy}

-- the block with the history of the other, which began alike
with_its_history : (start done : Block) → start.history ≡ [] → IsRunOf start done → with_entries start done.history ≡ done
with_its_history start done new run =
    λ i. record {
      queues = sym run.begins.queues i;
      code = sym run.begins.code i;
      history = ap (λ h. h ++ done.history) new i;
    }

pub run_by_workers : (start done : Block) → start.history ≡ [] → IsRunOf start done → IsRunBy (λ order. ⊤) start done
run_by_workers start done new run =
    let same = with_its_history start done new run in
    let legal : IsLegal (present start) done.history =
    subst (λ s. IsLegal s done.history) (sym (ap (replay (opening start)) new)) run.legal in
    record {
      order = order_of done.history;
      allowed = tt;
      is = sym (histories_have_orders start done.history legal (subst IsComplete (sym same) run.complete) ∙ same);
    }
