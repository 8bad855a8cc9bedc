use Rattle.std.proofs.Common.{ap, sym, ◌∙◌, arith}
use Rattle.ac_base.specs.Guards.{one_more}
use Rattle.ac_model.specs.Containers.{guards_of, with_guards}
use Rattle.ac_model.specs.Forms.{seen_by}
use Rattle.ac_model.specs.Objects.{plain}
use Rattle.ac_model.proofs.Reasons.{passed}
use Rattle.ac_setwork.proofs.Updates.{none_held, started, update_stands}
use Rattle.ac_setwork.proofs.table.Table.start_update_key.Goals as goal

pub copy_at-requires : goal.copy_at-requires
copy_at-requires g c = update_stands c.args.self.now.object c.args.c (sym (passed _ _ c.in_ok-allowed.ensures c.refuses_update.ensures))

pub hold-key-requires : goal.hold-key-requires
hold-key-requires g c =
    let old = c.args.self.now in
    let free = none_held (plain old.object) (seen_by old c.args.c) (sym (passed _ _ c.in_ok-allowed.ensures c.refuses_update.ensures)) in omega (arith, free)

pub returns-in-Ok-clause-changed : goal.returns-in-Ok-clause-changed
returns-in-Ok-clause-changed g c =
    let old = c.args.self.now in
    started old c.hold-key.new.self (seen_by old c.args.c) c.in-Ok.copy c.hold-key.result (sym (passed _ _ c.in_ok-allowed.ensures c.refuses_update.ensures)) c.in-Ok.ensures c.hold-key.ensures.object c.hold-key.ensures.kind c.hold-key.ensures.held

pub returns-in-Ok-clause-rest : goal.returns-in-Ok-clause-rest
returns-in-Ok-clause-rest g c = c.hold-key.ensures.held ∙ ap (λ k. with_guards c.args.self.now (one_more k (guards_of c.args.self.now))) c.hold-key.ensures.kind
