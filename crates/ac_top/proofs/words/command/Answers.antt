use Rattle.std.proofs.Common.{◌≡◌, ap, ap₂, codes, true, ◌∙◌}
use Rattle.std.proofs.lemmas.Result.{IfOk-weaker}
use Rattle.clap.specs.Simple.{app_of_fields, on_top}
use Rattle.clap.specs.Words.{app_of, new_app, with_rule}
use Rattle.ac_top.specs.Words.{adacont}
use Rattle.ac_top.proofs.words.command.Goals as goal

pub returns : goal.returns
unfolding adacont
returns c =
    let bare : app_of c.no_binary_name-bare.result ≡ on_top (λ s. record s { no_binary_name = true }) (new_app (codes "adacont")) =
    ap app_of_fields c.no_binary_name-bare.ensures ∙ ap (on_top (λ s. record s { no_binary_name = true })) c.new.ensures.app in
    let checking = c.in_ok-checking.ensures.shape c.flag.ensures.local ∙ ap₂ with_rule bare c.flag.ensures.rule in
    let auditing = c.in_ok-auditing.ensures.shape c.flag-2.ensures.local ∙ ap₂ with_rule checking c.flag-2.ensures.rule in
    let generating = c.in_ok-generating.ensures.shape c.generate.ensures.local ∙ ap₂ with_rule auditing c.generate.ensures.rule in
    let asking = c.in_ok-asking.ensures.shape c.ask.ensures.local ∙ ap₂ with_rule generating c.ask.ensures.rule in
    let saving = c.in_ok-saving.ensures.shape c.flag-3.ensures.local ∙ ap₂ with_rule asking c.flag-3.ensures.rule in
    IfOk-weaker c.arg-6.result _ _ (λ made added. added.shape c.flag-4.ensures.local ∙ ap₂ with_rule saving c.flag-4.ensures.rule) c.arg-6.ensures
