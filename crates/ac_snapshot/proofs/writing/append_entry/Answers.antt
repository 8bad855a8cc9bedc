use Rattle.ac_snapshot.proofs.ObjectLines.{object_written}
use Rattle.ac_snapshot.proofs.writing.append_entry.Goals as goal

pub returns-in_ok-push-in-Object-2 : goal.returns-in_ok-push-in-Object-2
returns-in_ok-push-in-Object-2 c =
    let o = c.in-Object in
    rw o.is
    (object_written _ o.name o.def o.limit o.capacity o.peak o.rows _ c.in_ok-append_head-in-Object.ensures c.in_ok-append_type-in-Object.ensures
    c.in_ok-append_numbers-in-Object.ensures c.in_ok-push-in-Object.ensures.items c.in_ok-append_rows-in-Object.ensures c.items.ensures
    c.in_ok-push-in-Object-2.ensures.items)
