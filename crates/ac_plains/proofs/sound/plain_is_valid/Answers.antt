use Rattle.std.proofs.Common.{sym, ap, subst, ◌∙◌, true, ◌≡◌}
use Rattle.std.specs.List.{list_all}
use Rattle.ac_objects.specs.World.{state_of}
use Rattle.ac_snapshot.specs.Representable.{is_entry_representable}
use Rattle.ac_snapshot.specs.Validity.{is_valid}
use Rattle.ac_plains.proofs.SoundStates.{saves_valid}
use Rattle.ac_plains.proofs.sound.plain_is_valid.Goals as goal

pub returns : goal.returns
returns c =
    let script = c.args.script.now in
    ap is_valid c.requires.state
    ∙ saves_valid.valid script c.requires.spelled.0 (state_of c.args.objects.now) c.requires.spelled.1 c.script-script.ensures.valid c.requires.declared c.sound_objects.ensures
    (sym (ap (list_all is_entry_representable) c.requires.state) ∙ c.values_in_memory.ensures)
