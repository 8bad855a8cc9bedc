use Rattle.std.proofs.Common.{◌≡◌, length, ◌+◌, ap, sym, ◌∙◌, to_z-of_z, w64}
use Rattle.ac_base.specs.FirstReason.{first_reason, earlier}
use Rattle.ac_base.proofs.Earlier.{with_none_later}
use Rattle.ac_model.specs.Letters.{count_of, in_range, room}
use Rattle.ac_model.specs.Objects.{plain}
use Rattle.ac_model.proofs.Plains.{length-plains}
use Rattle.ac_chain.proofs.calls.refusing.refuses_copies.Goals as goal

pub returns : goal.returns
returns g c =
    let o = plain (g.S.Sequence.seen c.args.s.now).object in
    let same = to_z-of_z {w = w64} {z = c.args.n} c.ranges.n in
    let more = c.count_of-more.ensures ∙ ap count_of same in
    let all : c.length.result + c.count_of-more.result ≡ length o.rows + count_of c.args.n = (λ i. (c.length.ensures.count ∙ sym (length-plains (g.S.Sequence.seen c.args.s.now).object.rows)) i + more i) in
    c.first_reason.ensures ∙ (λ i. earlier (c.forbids.ensures i) (earlier c.args.place (earlier ((c.in_range.ensures ∙ ap in_range same) i)
    ((with_none_later c.fits.result ∙ c.fits.ensures ∙ (λ j. first_reason (room o (all j) (more j)))) i))))
