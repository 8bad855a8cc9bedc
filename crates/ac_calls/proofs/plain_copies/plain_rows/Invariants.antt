use Rattle.std.proofs.Common.{◌≡◌, take, map, vec_len}
use Rattle.std.specs.Vec.{vec_capacity}
use Rattle.ac_model.specs.Objects.{plain, contents, length_of}
use Rattle.ac_model.specs.Letters.{mark_in}
use Rattle.ac_model.specs.Calls.{Marks}
use Rattle.ac_calls.proofs.plain_copies.plain_rows.Given as goal

abbrev pub invariant-loop-place : goal.invariant-loop-place
invariant-loop-place g l =
    let o = (g.C.RowObject.rows l.object).object in
    record {
      at : Marks o l.c (mark_in (plain o) l.place);
      made : l.rows.items ≡ map g.C.ListedRows.plain_of (take l.place (contents (plain o)));
      count : vec_len l.rows ≡ l.place;
      room : vec_capacity l.rows ≡ length_of o;
    }
