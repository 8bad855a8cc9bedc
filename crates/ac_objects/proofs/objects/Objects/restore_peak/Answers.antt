use Rattle.ac_objects.specs.World.{counted}
use Rattle.ac_objects.proofs.PeaksSet.{peak_advances, peak_state, peak_fits}
use Rattle.ac_objects.proofs.objects.Objects.restore_peak.Goals as goal

pub put_peak-requires : goal.put_peak-requires
put_peak-requires c =
    let s = c.self.inside in
    peak_fits c.args.self.now s.bounds.items s.bounds.items (counted s.mint s.blocks) c.self.view_is c.args.place c.args.peak c.requires

pub invariant_of-self : goal.invariant_of-self
invariant_of-self c =
    let s = c.self.inside in
    (peak_advances c.args.self.now s.bounds.items c.put_peak.new.bounds.items (counted s.mint s.blocks) c.self.view_is c.args.place c.args.peak c.self.invariant
    c.put_peak.ensures).sound

pub returns-clause-set : goal.returns-clause-set
returns-clause-set c =
    let s = c.self.inside in
    peak_state c.args.self.now s.bounds.items c.put_peak.new.bounds.items (counted s.mint s.blocks) c.self.view_is c.args.place c.args.peak c.put_peak.ensures

pub returns-clause-persists : goal.returns-clause-persists
returns-clause-persists c =
    let s = c.self.inside in
    (peak_advances c.args.self.now s.bounds.items c.put_peak.new.bounds.items (counted s.mint s.blocks) c.self.view_is c.args.place c.args.peak c.self.invariant
    c.put_peak.ensures).persists

pub returns-clause-counts : goal.returns-clause-counts
returns-clause-counts c =
    let s = c.self.inside in
    (peak_advances c.args.self.now s.bounds.items c.put_peak.new.bounds.items (counted s.mint s.blocks) c.self.view_is c.args.place c.args.peak c.self.invariant
    c.put_peak.ensures).counts
