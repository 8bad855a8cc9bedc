use Rattle.ac_objects.specs.World.{state_of}
use Rattle.ac_plains.proofs.FillingPeaks.{peak_fits, is_filled}
use Rattle.ac_plains.proofs.FillingReserved.{to_reserve, to_fill, filled_over}
use Rattle.ac_plains.proofs.filling.fill_object.Goals as goal

pub put_entries-requires : goal.put_entries-requires
put_entries-requires c = to_fill c.requires (state_of c.reserve.new.objects) (c.in_ok-reserve.ensures (to_reserve c.requires))

pub restore_peak-requires : goal.restore_peak-requires
restore_peak-requires c =
    let s = state_of c.reserve.new.objects in
    let is = c.in_ok-reserve.ensures (to_reserve c.requires) in
    peak_fits c.requires (state_of c.put_entries.new.objects)
    (filled_over c.requires s (state_of c.put_entries.new.objects) is (c.in_ok-put_entries.ensures (to_fill c.requires s is)))

pub returns : goal.returns
returns c =
    let s = state_of c.reserve.new.objects in
    let is = c.in_ok-reserve.ensures (to_reserve c.requires) in
    is_filled c.requires (state_of c.put_entries.new.objects) (state_of c.restore_peak.new.objects)
    (filled_over c.requires s (state_of c.put_entries.new.objects) is (c.in_ok-put_entries.ensures (to_fill c.requires s is))) c.restore_peak.ensures
