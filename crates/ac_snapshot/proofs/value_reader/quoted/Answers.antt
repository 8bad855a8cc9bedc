use Rattle.std.proofs.Common.{◌≡◌, true, sym, subst}
use Rattle.ac_snapshot.specs.RowValidity.{is_text}
use Rattle.ac_snapshot.proofs.Texts.{read_text}
use Rattle.ac_snapshot.proofs.value_reader.quoted.Goals as goal

pub text_of-requires : goal.text_of-requires
text_of-requires c =
    let here = c.in-Some-2 in
    subst (λ bytes. is_text bytes ≡ true) (sym c.deref.ensures.value) (read_text c.in-Some.rest.now here.bytes.items here.rest.now (rw here.is at c.in_ok-bytes.ensures))
