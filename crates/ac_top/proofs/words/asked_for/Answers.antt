use Rattle.std.proofs.Common.{Some, sym, ap, inl, inr, ◌∙◌}
use Rattle.std.proofs.lemmas.Result.{IfOk-weaker}
use Rattle.ac_top.proofs.Asked.{asked, not_asked, if_err_weaker}
use Rattle.ac_top.proofs.words.asked_for.Goals as goal

pub returns-in-Ok-clause-asked : goal.returns-in-Ok-clause-asked
returns-in-Ok-clause-asked c =
    IfOk-weaker c.mode_found.result _ _ (λ mode is. asked _ _ c.in-Ok.ensures.taken.0 c.in-Ok.ensures.taken.1 ∙ ap Some (sym is)) c.mode_found.ensures.asked

pub returns-in-Ok-clause-refused : goal.returns-in-Ok-clause-refused
returns-in-Ok-clause-refused c = if_err_weaker c.mode_found.result _ _ (λ status none. inl none) c.mode_found.ensures.failed

pub returns-in-Err-clause-refused : goal.returns-in-Err-clause-refused
returns-in-Err-clause-refused c = elim c.refusal.ensures [
  | inl memory ↦ inl memory
  | inr usage ↦ inr (usage.0, not_asked _ c.in-Err.error c.in-Err.ensures.refused usage.1)
]
