use Rattle.std.proofs.Common.{◌≡◌, sym, ap, subst, Some, Err}
use Rattle.ac_model.proofs.Reasons.{on_err}
use Rattle.ac_meaning.specs.Environment.{mark_at}
use Rattle.ac_meaning.specs.Execution.{head_reason}
use Rattle.ac_objects.specs.World.{state_of}
use Rattle.ac_objects.proofs.ByHeads.{no_key, fault_is}
use Rattle.ac_objects.proofs.objects.Objects.enter_element.Goals as goal

pub returns-in_err-open_update-in-UpdateKey-clause-refused : goal.returns-in_err-open_update-in-UpdateKey-clause-refused
returns-in_err-open_update-in-UpdateKey-clause-refused c h reason there is =
    let here = c.in_err-open_update-in-UpdateKey in
    let same = fault_is c.from_residual.result here.field-0.0 reason c.from_residual.ensures.1 is in
    subst (λ kind. head_reason kind h (mark_at (state_of c.args.self.now) c.args.at) ≡ Some reason) (sym c.in-UpdateKey.is)
    (here.ensures.refused h reason there (ap Err same))

pub returns-in_err-open_view-in_default : goal.returns-in_err-open_view-in_default
returns-in_err-open_view-in_default c =
    let here = c.in_err-open_view-in_default in
    let exit = c.from_residual-in_err-open_view-in_default in
    record {
      key = no_key _ _ exit.result exit.ensures.1;
      sort = no_key _ _ exit.result exit.ensures.1;
      opened = λ h there. no_key _ _ exit.result exit.ensures.1;
      refused = λ h reason there is. here.ensures.refused h reason there (ap Err (fault_is exit.result here.field-0.0 reason exit.ensures.1 is));
      persists = here.ensures.persists;
      fault = on_err exit.result here.ensures.fault;
    }
