use Rattle.std.proofs.Common.{decimal, arith}
use Rattle.ac_top.specs.Generator.{script_with}
use Rattle.ac_top.proofs.Sized.{put_together, is_short}
use Rattle.ac_top.proofs.generator.generated.Goals as goal

pub returns-clause-text : goal.returns-clause-text
unfolding script_with
returns-clause-text c =
    put_together _ _ _ _ _ (decimal c.args.number) _ _ _ _ c.new-text.ensures.items c.in_ok-append_with.ensures c.in_ok-append_with-2.ensures c.in_ok-append_with-3.ensures c.in_ok-append.ensures

pub returns-clause-short : goal.returns-clause-short
returns-clause-short c =
    is_short _ _ _ _ _ c.args.number _ _ _ _ c.new-text.ensures.items c.in_ok-append_with.ensures c.in_ok-append_with-2.ensures c.in_ok-append_with-3.ensures c.in_ok-append.ensures
    c.ranges.number.fits (omega arith)
