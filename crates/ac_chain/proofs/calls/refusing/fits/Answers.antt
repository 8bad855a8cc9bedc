use Rattle.std.proofs.Common.{ap, ◌∙◌}
use Rattle.ac_base.specs.FirstReason.{first_reason}
use Rattle.ac_base.specs.declared.name.Name.{Name}
use Rattle.ac_model.specs.Letters.{room_in}
use Rattle.ac_model.specs.Objects.{Object}
use Rattle.ac_chain.proofs.calls.refusing.fits.Goals as goal

pub returns : goal.returns
returns g c =
    c.room.ensures ∙ ap (λ l. first_reason (room_in l c.next_serial.result c.args.length c.args.more)) c.limit.ensures
    ∙ ap (λ n. first_reason (room_in (g.S.Sequence.seen c.args.s.now).object.limit n c.args.length c.args.more)) (c.next_serial.ensures.serial ∙ ap (λ (p : Object Name _). p.next) c.rows.ensures.object)
