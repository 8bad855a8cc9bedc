use Rattle.std.proofs.Common.{◌≡◌, false, sym, subst, ◌∙◌}
use Rattle.ac_rules.specs.Faults.{is_in_scope}
use Rattle.ac_rules.proofs.Kept.{undeclared}
use Rattle.ac_check.proofs.walk.Walk.walk_decl.Goals as goal

pub declare-requires : goal.declare-requires
declare-requires c =
    subst (λ n. is_in_scope c.args.self.now.scope n ≡ false) (sym c.decl_name.ensures)
    (undeclared c.args.self.now.room c.args.self.now.scope c.args.decl.now (sym c.decl_fault.ensures ∙ c.in_ok-refuse.ensures.ok))
