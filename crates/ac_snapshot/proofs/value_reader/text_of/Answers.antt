use Rattle.std.proofs.Common.{ap, ◌∙◌, Err}
use Rattle.ac_snapshot.proofs.Texts.{not_bad, not_long}
use Rattle.ac_snapshot.proofs.value_reader.text_of.Goals as goal

pub unreachable-requires : goal.unreachable-requires
unreachable-requires c =
    let here = c.in-Err-BadByte in
    not_bad c.args.bytes.now _ c.requires ((c.new.ensures.bad_byte _).0 (here.is ∙ ap Err here.field-0-is))

pub unreachable-requires-in-Err-TooLong : goal.unreachable-requires-in-Err-TooLong
unreachable-requires-in-Err-TooLong c =
    let here = c.in-Err-TooLong in
    not_long c.args.bytes.now c.requires (c.new.ensures.too_long.0 (here.is ∙ ap Err here.field-0-is)).1
