use Rattle.std.proofs.Common.{◌≡◌, sym, ap, ◌∙◌}
use Rattle.ac_pool.specs.Contents.{IsLive, swapped}
use Rattle.ac_pool.proofs.ContentsLaws.{swapped_itself}
use Rattle.ac_pool.proofs.pool.Pool.swap.Goals as goal

pub returns-else-a-b-clause-swapped : goal.returns-else-a-b-clause-swapped
returns-else-a-b-clause-swapped g c =
    let now = c.args.self.now in let a = c.args.a in let b = c.args.b in
    let la : IsLive now a = c.is_live.ensures.live.0 c.if-not-is_live.false in let lb : IsLive now b = c.is_live-else-not-is_live.ensures.live.0 c.if-not-is_live-2.false in
    let same : a ≡ b = c.is_live.ensures.sound.slots a b la lb c.if-a-b.false in
    sym (ap (swapped now a) (sym same) ∙ swapped_itself now a)
