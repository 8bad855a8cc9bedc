use Rattle.std.proofs.Common.{◌∙◌}
use Rattle.ac_top.proofs.Summed.{told_whole}
use Rattle.ac_top.proofs.generating.run_generated.Goals as goal

pub returns-in-Done : goal.returns-in-Done
returns-in-Done c =
    told_whole _ c.args.size _ _ _ _ c.in-Done.is (c.deref.ensures.value ∙ c.in_ok-script.ensures.text) (λ i. (c.new-told.ensures i).held) c.run_input.ensures
