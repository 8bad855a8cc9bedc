use Rattle.std.proofs.Common.{◌≡◌, IfSome, refl, sym, ap, ◌∙◌, subst}
use Rattle.ac_pool.specs.Contents.{value_of, reserved}
use Rattle.ac_pool.proofs.ContentsLaws.{value_of-added_same}
use Rattle.ac_parts.proofs.laws.passed_through.Goals as goal

pub returns-in-Ok : goal.returns-in-Ok
returns-in-Ok c =
    let back = c.take.ensures.value ∙ ap (λ p. value_of p c.in-Ok.name) c.in-Ok.ensures.ok
    ∙ value_of-added_same (reserved c.args.pool.now 1) c.in-Ok.name c.args.value in
    subst (λ r. IfSome r (λ taken. taken ≡ c.args.value)) (sym back) refl
