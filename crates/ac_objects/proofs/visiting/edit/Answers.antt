use Rattle.std.proofs.Common.{sym, ap, ◌∙◌}
use Rattle.ac_syntax.specs.declared.kind.ElemKind.TheVariants.{Integer, Str}
use Rattle.ac_calls.specs.Holdings.{a_sequence, a_map, a_set, a_keyed_set, a_tree}
use Rattle.ac_keyed_calls.specs.KeyedSets.{keyed_items, keyed_kind}
use Rattle.ac_keyed_calls.specs.Maps.{entries_of, map_kind_of}
use Rattle.ac_keyed_calls.specs.Sets.{items_of, set_kind_of}
use Rattle.ac_objects.specs.declared.object.Object.TheVariants.{Integers, Texts, IntegerSet, TextSet, KeyedSet, IntegersByInteger, IntegersByText, TextsByInteger, TextsByText, IntegerTree, TextTree, IntegerHolder, TextHolder, Queue}
use Rattle.ac_objects.specs.Sequences.{rows_of, kind_of}
use Rattle.ac_objects.specs.World.{memory_of}
use Rattle.ac_objects.proofs.Families.{sequence_now, sequence_same, set_now, set_same, keyed_set_now, keyed_set_same, map_now, map_same, integers, texts, integer_set, text_set, keyed_set, integers_by_integer, integers_by_text, texts_by_integer, texts_by_text, integer_tree, text_tree}
use Rattle.ac_objects.proofs.CalledHolders.{integer_holder, text_holder}
use Rattle.ac_objects.proofs.CalledQueues.{queue_memory}
use Rattle.ac_objects.proofs.Edited.{edits_rows, edits_holder, edits_queue}
use Rattle.ac_objects.proofs.visiting.edit.Goals as goal

pub returns-in-Integers : goal.returns-in-Integers
returns-in-Integers g c =
    let call = c.edit_rows in
    let old = c.in-Integers.sequence in
    edits_rows (g.E.Editor.tells c.args.editor c.args.state.now call.new.state call.result) c.args.object.now (Integers call.new.object) (a_sequence (kind_of old) Integer) (rows_of old) (rows_of call.new.object)
    (ap memory_of c.in-Integers.is ∙ integers old) (sequence_now Integer Integers integers old call.new.object call.ensures.kind)
    (λ rows. sequence_same Integer Integers integers old call.new.object call.ensures.kind rows ∙ sym c.in-Integers.is) call.ensures.valid call.ensures.edited

pub returns-in-Texts : goal.returns-in-Texts
returns-in-Texts g c =
    let call = c.edit_apart in
    let old = c.in-Texts.sequence in
    edits_rows (g.E.Editor.tells c.args.editor c.args.state.now call.new.state call.result) c.args.object.now (Texts call.new.object) (a_sequence (kind_of old) Str) (rows_of old) (rows_of call.new.object)
    (ap memory_of c.in-Texts.is ∙ texts old) (sequence_now Str Texts texts old call.new.object call.ensures.kind)
    (λ rows. sequence_same Str Texts texts old call.new.object call.ensures.kind rows ∙ sym c.in-Texts.is) call.ensures.valid call.ensures.edited

pub returns-in-IntegerSet : goal.returns-in-IntegerSet
returns-in-IntegerSet g c =
    let call = c.edit_rows-in-IntegerSet in
    let old = c.in-IntegerSet.set in
    edits_rows (g.E.Editor.tells c.args.editor c.args.state.now call.new.state call.result) c.args.object.now (IntegerSet call.new.object) (a_set (set_kind_of old) Integer) (items_of old) (items_of call.new.object)
    (ap memory_of c.in-IntegerSet.is ∙ integer_set old) (set_now Integer IntegerSet integer_set old call.new.object call.ensures.kind)
    (λ rows. set_same Integer IntegerSet integer_set old call.new.object call.ensures.kind rows ∙ sym c.in-IntegerSet.is) call.ensures.valid call.ensures.edited

pub returns-in-TextSet : goal.returns-in-TextSet
returns-in-TextSet g c =
    let call = c.edit_rows-in-TextSet in
    let old = c.in-TextSet.set in
    edits_rows (g.E.Editor.tells c.args.editor c.args.state.now call.new.state call.result) c.args.object.now (TextSet call.new.object) (a_set (set_kind_of old) Str) (items_of old) (items_of call.new.object)
    (ap memory_of c.in-TextSet.is ∙ text_set old) (set_now Str TextSet text_set old call.new.object call.ensures.kind)
    (λ rows. set_same Str TextSet text_set old call.new.object call.ensures.kind rows ∙ sym c.in-TextSet.is) call.ensures.valid call.ensures.edited

pub returns-in-KeyedSet : goal.returns-in-KeyedSet
returns-in-KeyedSet g c =
    let call = c.edit_rows-in-KeyedSet in
    let old = c.in-KeyedSet.set in
    edits_rows (g.E.Editor.tells c.args.editor c.args.state.now call.new.state call.result) c.args.object.now (KeyedSet call.new.object) (a_keyed_set (keyed_kind old)) (keyed_items old) (keyed_items call.new.object)
    (ap memory_of c.in-KeyedSet.is ∙ keyed_set old) (keyed_set_now old call.new.object call.ensures.kind)
    (λ rows. keyed_set_same old call.new.object call.ensures.kind rows ∙ sym c.in-KeyedSet.is) call.ensures.valid call.ensures.edited

pub returns-in-IntegersByInteger : goal.returns-in-IntegersByInteger
returns-in-IntegersByInteger g c =
    let call = c.edit_rows-in-IntegersByInteger in
    let old = c.in-IntegersByInteger.map in
    edits_rows (g.E.Editor.tells c.args.editor c.args.state.now call.new.state call.result) c.args.object.now (IntegersByInteger call.new.object) (a_map (map_kind_of old) Integer Integer) (entries_of old) (entries_of call.new.object)
    (ap memory_of c.in-IntegersByInteger.is ∙ integers_by_integer old) (map_now Integer Integer IntegersByInteger integers_by_integer old call.new.object call.ensures.kind)
    (λ rows. map_same Integer Integer IntegersByInteger integers_by_integer old call.new.object call.ensures.kind rows ∙ sym c.in-IntegersByInteger.is) call.ensures.valid call.ensures.edited

pub returns-in-IntegersByText : goal.returns-in-IntegersByText
returns-in-IntegersByText g c =
    let call = c.edit_rows-in-IntegersByText in
    let old = c.in-IntegersByText.map in
    edits_rows (g.E.Editor.tells c.args.editor c.args.state.now call.new.state call.result) c.args.object.now (IntegersByText call.new.object) (a_map (map_kind_of old) Str Integer) (entries_of old) (entries_of call.new.object)
    (ap memory_of c.in-IntegersByText.is ∙ integers_by_text old) (map_now Str Integer IntegersByText integers_by_text old call.new.object call.ensures.kind)
    (λ rows. map_same Str Integer IntegersByText integers_by_text old call.new.object call.ensures.kind rows ∙ sym c.in-IntegersByText.is) call.ensures.valid call.ensures.edited

pub returns-in-TextsByInteger : goal.returns-in-TextsByInteger
returns-in-TextsByInteger g c =
    let call = c.edit_rows-in-TextsByInteger in
    let old = c.in-TextsByInteger.map in
    edits_rows (g.E.Editor.tells c.args.editor c.args.state.now call.new.state call.result) c.args.object.now (TextsByInteger call.new.object) (a_map (map_kind_of old) Integer Str) (entries_of old) (entries_of call.new.object)
    (ap memory_of c.in-TextsByInteger.is ∙ texts_by_integer old) (map_now Integer Str TextsByInteger texts_by_integer old call.new.object call.ensures.kind)
    (λ rows. map_same Integer Str TextsByInteger texts_by_integer old call.new.object call.ensures.kind rows ∙ sym c.in-TextsByInteger.is) call.ensures.valid call.ensures.edited

pub returns-in-TextsByText : goal.returns-in-TextsByText
returns-in-TextsByText g c =
    let call = c.edit_rows-in-TextsByText in
    let old = c.in-TextsByText.map in
    edits_rows (g.E.Editor.tells c.args.editor c.args.state.now call.new.state call.result) c.args.object.now (TextsByText call.new.object) (a_map (map_kind_of old) Str Str) (entries_of old) (entries_of call.new.object)
    (ap memory_of c.in-TextsByText.is ∙ texts_by_text old) (map_now Str Str TextsByText texts_by_text old call.new.object call.ensures.kind)
    (λ rows. map_same Str Str TextsByText texts_by_text old call.new.object call.ensures.kind rows ∙ sym c.in-TextsByText.is) call.ensures.valid call.ensures.edited

pub returns-in-IntegerTree : goal.returns-in-IntegerTree
returns-in-IntegerTree g c =
    let call = c.edit_rows-in-IntegerTree in
    let old = c.in-IntegerTree.tree in
    edits_rows (g.E.Editor.tells c.args.editor c.args.state.now call.new.state call.result) c.args.object.now (IntegerTree call.new.object) (a_tree Integer) old call.new.object
    (ap memory_of c.in-IntegerTree.is ∙ integer_tree old) (integer_tree call.new.object)
    (λ rows. ap IntegerTree rows ∙ sym c.in-IntegerTree.is) call.ensures.valid call.ensures.edited

pub returns-in-TextTree : goal.returns-in-TextTree
returns-in-TextTree g c =
    let call = c.edit_rows-in-TextTree in
    let old = c.in-TextTree.tree in
    edits_rows (g.E.Editor.tells c.args.editor c.args.state.now call.new.state call.result) c.args.object.now (TextTree call.new.object) (a_tree Str) old call.new.object
    (ap memory_of c.in-TextTree.is ∙ text_tree old) (text_tree call.new.object)
    (λ rows. ap TextTree rows ∙ sym c.in-TextTree.is) call.ensures.valid call.ensures.edited

pub returns-in-IntegerHolder : goal.returns-in-IntegerHolder
returns-in-IntegerHolder g c =
    let call = c.edit_holder in
    let old = c.in-IntegerHolder.holder in
    edits_holder (g.E.Editor.tells c.args.editor c.args.state.now call.new.state call.result) c.args.object.now (IntegerHolder call.new.holder) Integer old call.new.holder (ap memory_of c.in-IntegerHolder.is ∙ integer_holder old) (integer_holder call.new.holder)
    (λ same. ap IntegerHolder same ∙ sym c.in-IntegerHolder.is) call.ensures

pub returns-in-TextHolder : goal.returns-in-TextHolder
returns-in-TextHolder g c =
    let call = c.edit_holder-in-TextHolder in
    let old = c.in-TextHolder.holder in
    edits_holder (g.E.Editor.tells c.args.editor c.args.state.now call.new.state call.result) c.args.object.now (TextHolder call.new.holder) Str old call.new.holder (ap memory_of c.in-TextHolder.is ∙ text_holder old) (text_holder call.new.holder)
    (λ same. ap TextHolder same ∙ sym c.in-TextHolder.is) call.ensures

pub returns-in-Queue : goal.returns-in-Queue
returns-in-Queue g c =
    let call = c.edit_queue in
    let old = c.in-Queue.queue in
    edits_queue (g.E.Editor.tells c.args.editor c.args.state.now call.new.state call.result) c.args.object.now (Queue (record old { queue = call.new.queue })) old.tag old.queue call.new.queue
    (ap memory_of c.in-Queue.is ∙ queue_memory old) (queue_memory (record old { queue = call.new.queue }))
    (λ same. ap (λ q. Queue (record old { queue = q })) same ∙ sym c.in-Queue.is) call.ensures
