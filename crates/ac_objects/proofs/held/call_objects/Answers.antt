use Rattle.std.proofs.Common.{refl, sym, ap, ◌∙◌}
use Rattle.ac_syntax.specs.declared.kind.ElemKind.TheVariants.{Integer, Str}
use Rattle.ac_calls.specs.Holdings.{a_sequence, a_map, a_set, a_keyed_set, a_tree}
use Rattle.ac_keyed_calls.specs.KeyedSets.{keyed_items, keyed_kind}
use Rattle.ac_keyed_calls.specs.Maps.{entries_of, map_kind_of}
use Rattle.ac_keyed_calls.specs.Sets.{items_of, set_kind_of}
use Rattle.ac_calls.specs.Arguments.{arguments_of}
use Rattle.ac_calls.specs.Replied.{told}
use Rattle.ac_model.specs.Objects.{plain}
use Rattle.ac_queue.specs.Shared.{shared}
use Rattle.ac_objects.specs.declared.object.Object.TheVariants.{Integers, Texts, IntegerSet, TextSet, KeyedSet, IntegersByInteger, IntegersByText, TextsByInteger, TextsByText, IntegerTree, TextTree, IntegerHolder, TextHolder, Queue}
use Rattle.ac_objects.specs.Sequences.{rows_of, kind_of}
use Rattle.ac_objects.specs.World.{memory_of, held_in, held_of}
use Rattle.ac_objects.proofs.Families.{sequence_now, sequence_same, set_now, set_same, keyed_set_now, keyed_set_same, map_now, map_same, integers, texts, integer_set, text_set, keyed_set, integers_by_integer, integers_by_text, texts_by_integer, texts_by_text, integer_tree, text_tree}
use Rattle.ac_objects.proofs.Apart.{no_integers, no_texts, no_integer_set, no_text_set, no_keyed_set, no_integers_by_integer, no_integers_by_text, no_texts_by_integer, no_texts_by_text, no_integer_tree, no_text_tree, no_integer_holder, no_text_holder}
use Rattle.ac_objects.proofs.CalledRows.{called_as, lasts_as, unlike_alone, two}
use Rattle.ac_objects.proofs.CalledHolders as holders
use Rattle.ac_objects.proofs.CalledHolders.{integer_holder, text_holder}
use Rattle.ac_objects.proofs.CalledQueues as queues
use Rattle.ac_objects.proofs.CalledQueues.{queue_memory}
use Rattle.ac_objects.proofs.held.call_objects.Goals as goal

pub returns-in-Integers-source : goal.returns-in-Integers-source
returns-in-Integers-source c =
    let call = c.call_two in
    let old = c.in-Integers.sequence in
    let source = c.in-Integers-source.other in
    let made = two (a_sequence (kind_of old) Integer) (a_sequence (kind_of source) Integer) (plain (rows_of source).object) (rows_of old) (rows_of call.new.object) (rows_of source) (rows_of call.new.source)
    c.args.object.now (Integers call.new.object) c.args.source.now (Integers call.new.source) c.args.operation (arguments_of c.args.frame.now.arguments) (told call.new.frame.reply call.result)
    (ap memory_of c.in-Integers.is ∙ integers old) (sequence_now Integer Integers integers old call.new.object call.ensures.kind) (ap held_of c.in-Integers-source.is ∙ ap held_in (integers source))
    (λ like. ap memory_of c.in-Integers-source.is ∙ (sequence_now Integer Integers integers old source like))
    (λ like. (sequence_now Integer Integers integers old call.new.source (call.ensures.source_kind ∙ like))) call.ensures.valid call.ensures.alike
    (λ differ. let u = call.ensures.unlike differ in (u.0, ap Integers u.1 ∙ sym c.in-Integers-source.is))
    (λ rows. sequence_same Integer Integers integers old call.new.object call.ensures.kind rows ∙ sym c.in-Integers.is)
    (λ rows. sequence_same Integer Integers integers source call.new.source call.ensures.source_kind rows ∙ sym c.in-Integers-source.is) c.requires.apart call.ensures.source_valid in
    record { called = made.0; lasts = made.1; source_lasts = made.2 }

pub returns-in_default : goal.returns-in_default
returns-in_default c =
    let call = c.call_object in
    let old = c.in-Integers.sequence in
    record {
      called = called_as (Integers old) c.args.object.now call.new.object c.args.source.now c.args.operation (arguments_of c.args.frame.now.arguments) (told call.new.frame.reply call.result) c.in-Integers.is
          (unlike_alone (a_sequence (kind_of old) Integer) (rows_of old) (Integers old) call.new.object c.args.source.now c.args.operation (arguments_of c.args.frame.now.arguments) (told call.new.frame.reply call.result)
          (integers old) (no_integers (kind_of old) c.args.source.now c.in_default.not-Integers) call.ensures.called);
      lasts = lasts_as (Integers old) c.args.object.now call.new.object c.in-Integers.is call.ensures.lasts;
      source_lasts = record { cursors = λ at agrees. agrees; counts = refl };
    }

pub returns-in-Texts-source : goal.returns-in-Texts-source
returns-in-Texts-source c =
    let call = c.call_two-in-Texts-source in
    let old = c.in-Texts.sequence in
    let source = c.in-Texts-source.other in
    let made = two (a_sequence (kind_of old) Str) (a_sequence (kind_of source) Str) (plain (rows_of source).object) (rows_of old) (rows_of call.new.object) (rows_of source) (rows_of call.new.source)
    c.args.object.now (Texts call.new.object) c.args.source.now (Texts call.new.source) c.args.operation (arguments_of c.args.frame.now.arguments) (told call.new.frame.reply call.result)
    (ap memory_of c.in-Texts.is ∙ texts old) (sequence_now Str Texts texts old call.new.object call.ensures.kind) (ap held_of c.in-Texts-source.is ∙ ap held_in (texts source))
    (λ like. ap memory_of c.in-Texts-source.is ∙ (sequence_now Str Texts texts old source like))
    (λ like. (sequence_now Str Texts texts old call.new.source (call.ensures.source_kind ∙ like))) call.ensures.valid call.ensures.alike
    (λ differ. let u = call.ensures.unlike differ in (u.0, ap Texts u.1 ∙ sym c.in-Texts-source.is))
    (λ rows. sequence_same Str Texts texts old call.new.object call.ensures.kind rows ∙ sym c.in-Texts.is)
    (λ rows. sequence_same Str Texts texts source call.new.source call.ensures.source_kind rows ∙ sym c.in-Texts-source.is) c.requires.apart call.ensures.source_valid in
    record { called = made.0; lasts = made.1; source_lasts = made.2 }

pub returns-in_default-source : goal.returns-in_default-source
returns-in_default-source c =
    let call = c.call_object-in_default-source in
    let old = c.in-Texts.sequence in
    record {
      called = called_as (Texts old) c.args.object.now call.new.object c.args.source.now c.args.operation (arguments_of c.args.frame.now.arguments) (told call.new.frame.reply call.result) c.in-Texts.is
          (unlike_alone (a_sequence (kind_of old) Str) (rows_of old) (Texts old) call.new.object c.args.source.now c.args.operation (arguments_of c.args.frame.now.arguments) (told call.new.frame.reply call.result)
          (texts old) (no_texts (kind_of old) c.args.source.now c.in_default-source.not-Texts) call.ensures.called);
      lasts = lasts_as (Texts old) c.args.object.now call.new.object c.in-Texts.is call.ensures.lasts;
      source_lasts = record { cursors = λ at agrees. agrees; counts = refl };
    }

pub returns-in-IntegerSet-source : goal.returns-in-IntegerSet-source
returns-in-IntegerSet-source c =
    let call = c.call_two-in-IntegerSet-source in
    let old = c.in-IntegerSet.set in
    let source = c.in-IntegerSet-source.other in
    let made = two (a_set (set_kind_of old) Integer) (a_set (set_kind_of source) Integer) (plain (items_of source).object) (items_of old) (items_of call.new.object) (items_of source) (items_of call.new.source)
    c.args.object.now (IntegerSet call.new.object) c.args.source.now (IntegerSet call.new.source) c.args.operation (arguments_of c.args.frame.now.arguments) (told call.new.frame.reply call.result)
    (ap memory_of c.in-IntegerSet.is ∙ integer_set old) (set_now Integer IntegerSet integer_set old call.new.object call.ensures.kind) (ap held_of c.in-IntegerSet-source.is ∙ ap held_in (integer_set source))
    (λ like. ap memory_of c.in-IntegerSet-source.is ∙ (set_now Integer IntegerSet integer_set old source like))
    (λ like. (set_now Integer IntegerSet integer_set old call.new.source (call.ensures.source_kind ∙ like))) call.ensures.valid call.ensures.alike
    (λ differ. let u = call.ensures.unlike differ in (u.0, ap IntegerSet u.1 ∙ sym c.in-IntegerSet-source.is))
    (λ rows. set_same Integer IntegerSet integer_set old call.new.object call.ensures.kind rows ∙ sym c.in-IntegerSet.is)
    (λ rows. set_same Integer IntegerSet integer_set source call.new.source call.ensures.source_kind rows ∙ sym c.in-IntegerSet-source.is) c.requires.apart call.ensures.source_valid in
    record { called = made.0; lasts = made.1; source_lasts = made.2 }

pub returns-in_default-source-2 : goal.returns-in_default-source-2
returns-in_default-source-2 c =
    let call = c.call_object-in_default-source-2 in
    let old = c.in-IntegerSet.set in
    record {
      called = called_as (IntegerSet old) c.args.object.now call.new.object c.args.source.now c.args.operation (arguments_of c.args.frame.now.arguments) (told call.new.frame.reply call.result) c.in-IntegerSet.is
          (unlike_alone (a_set (set_kind_of old) Integer) (items_of old) (IntegerSet old) call.new.object c.args.source.now c.args.operation (arguments_of c.args.frame.now.arguments) (told call.new.frame.reply call.result)
          (integer_set old) (no_integer_set (set_kind_of old) c.args.source.now c.in_default-source-2.not-IntegerSet) call.ensures.called);
      lasts = lasts_as (IntegerSet old) c.args.object.now call.new.object c.in-IntegerSet.is call.ensures.lasts;
      source_lasts = record { cursors = λ at agrees. agrees; counts = refl };
    }

pub returns-in-TextSet-source : goal.returns-in-TextSet-source
returns-in-TextSet-source c =
    let call = c.call_two-in-TextSet-source in
    let old = c.in-TextSet.set in
    let source = c.in-TextSet-source.other in
    let made = two (a_set (set_kind_of old) Str) (a_set (set_kind_of source) Str) (plain (items_of source).object) (items_of old) (items_of call.new.object) (items_of source) (items_of call.new.source)
    c.args.object.now (TextSet call.new.object) c.args.source.now (TextSet call.new.source) c.args.operation (arguments_of c.args.frame.now.arguments) (told call.new.frame.reply call.result)
    (ap memory_of c.in-TextSet.is ∙ text_set old) (set_now Str TextSet text_set old call.new.object call.ensures.kind) (ap held_of c.in-TextSet-source.is ∙ ap held_in (text_set source))
    (λ like. ap memory_of c.in-TextSet-source.is ∙ (set_now Str TextSet text_set old source like))
    (λ like. (set_now Str TextSet text_set old call.new.source (call.ensures.source_kind ∙ like))) call.ensures.valid call.ensures.alike
    (λ differ. let u = call.ensures.unlike differ in (u.0, ap TextSet u.1 ∙ sym c.in-TextSet-source.is))
    (λ rows. set_same Str TextSet text_set old call.new.object call.ensures.kind rows ∙ sym c.in-TextSet.is)
    (λ rows. set_same Str TextSet text_set source call.new.source call.ensures.source_kind rows ∙ sym c.in-TextSet-source.is) c.requires.apart call.ensures.source_valid in
    record { called = made.0; lasts = made.1; source_lasts = made.2 }

pub returns-in_default-source-3 : goal.returns-in_default-source-3
returns-in_default-source-3 c =
    let call = c.call_object-in_default-source-3 in
    let old = c.in-TextSet.set in
    record {
      called = called_as (TextSet old) c.args.object.now call.new.object c.args.source.now c.args.operation (arguments_of c.args.frame.now.arguments) (told call.new.frame.reply call.result) c.in-TextSet.is
          (unlike_alone (a_set (set_kind_of old) Str) (items_of old) (TextSet old) call.new.object c.args.source.now c.args.operation (arguments_of c.args.frame.now.arguments) (told call.new.frame.reply call.result)
          (text_set old) (no_text_set (set_kind_of old) c.args.source.now c.in_default-source-3.not-TextSet) call.ensures.called);
      lasts = lasts_as (TextSet old) c.args.object.now call.new.object c.in-TextSet.is call.ensures.lasts;
      source_lasts = record { cursors = λ at agrees. agrees; counts = refl };
    }

pub returns-in-KeyedSet-source : goal.returns-in-KeyedSet-source
returns-in-KeyedSet-source c =
    let call = c.call_two-in-KeyedSet-source in
    let old = c.in-KeyedSet.set in
    let source = c.in-KeyedSet-source.other in
    let made = two (a_keyed_set (keyed_kind old)) (a_keyed_set (keyed_kind source)) (plain (keyed_items source).object) (keyed_items old) (keyed_items call.new.object) (keyed_items source) (keyed_items call.new.source)
    c.args.object.now (KeyedSet call.new.object) c.args.source.now (KeyedSet call.new.source) c.args.operation (arguments_of c.args.frame.now.arguments) (told call.new.frame.reply call.result)
    (ap memory_of c.in-KeyedSet.is ∙ keyed_set old) (keyed_set_now old call.new.object call.ensures.kind) (ap held_of c.in-KeyedSet-source.is ∙ ap held_in (keyed_set source))
    (λ like. ap memory_of c.in-KeyedSet-source.is ∙ (keyed_set_now old source like))
    (λ like. (keyed_set_now old call.new.source (call.ensures.source_kind ∙ like))) call.ensures.valid call.ensures.alike
    (λ differ. let u = call.ensures.unlike differ in (u.0, ap KeyedSet u.1 ∙ sym c.in-KeyedSet-source.is))
    (λ rows. keyed_set_same old call.new.object call.ensures.kind rows ∙ sym c.in-KeyedSet.is)
    (λ rows. keyed_set_same source call.new.source call.ensures.source_kind rows ∙ sym c.in-KeyedSet-source.is) c.requires.apart call.ensures.source_valid in
    record { called = made.0; lasts = made.1; source_lasts = made.2 }

pub returns-in_default-source-4 : goal.returns-in_default-source-4
returns-in_default-source-4 c =
    let call = c.call_object-in_default-source-4 in
    let old = c.in-KeyedSet.set in
    record {
      called = called_as (KeyedSet old) c.args.object.now call.new.object c.args.source.now c.args.operation (arguments_of c.args.frame.now.arguments) (told call.new.frame.reply call.result) c.in-KeyedSet.is
          (unlike_alone (a_keyed_set (keyed_kind old)) (keyed_items old) (KeyedSet old) call.new.object c.args.source.now c.args.operation (arguments_of c.args.frame.now.arguments) (told call.new.frame.reply call.result)
          (keyed_set old) (no_keyed_set (keyed_kind old) c.args.source.now c.in_default-source-4.not-KeyedSet) call.ensures.called);
      lasts = lasts_as (KeyedSet old) c.args.object.now call.new.object c.in-KeyedSet.is call.ensures.lasts;
      source_lasts = record { cursors = λ at agrees. agrees; counts = refl };
    }

pub returns-in-IntegersByInteger-source : goal.returns-in-IntegersByInteger-source
returns-in-IntegersByInteger-source c =
    let call = c.call_two-in-IntegersByInteger-source in
    let old = c.in-IntegersByInteger.map in
    let source = c.in-IntegersByInteger-source.other in
    let made = two (a_map (map_kind_of old) Integer Integer) (a_map (map_kind_of source) Integer Integer) (plain (entries_of source).object) (entries_of old) (entries_of call.new.object) (entries_of source) (entries_of call.new.source)
    c.args.object.now (IntegersByInteger call.new.object) c.args.source.now (IntegersByInteger call.new.source) c.args.operation (arguments_of c.args.frame.now.arguments) (told call.new.frame.reply call.result)
    (ap memory_of c.in-IntegersByInteger.is ∙ integers_by_integer old) (map_now Integer Integer IntegersByInteger integers_by_integer old call.new.object call.ensures.kind) (ap held_of c.in-IntegersByInteger-source.is ∙ ap held_in (integers_by_integer source))
    (λ like. ap memory_of c.in-IntegersByInteger-source.is ∙ (map_now Integer Integer IntegersByInteger integers_by_integer old source like))
    (λ like. (map_now Integer Integer IntegersByInteger integers_by_integer old call.new.source (call.ensures.source_kind ∙ like))) call.ensures.valid call.ensures.alike
    (λ differ. let u = call.ensures.unlike differ in (u.0, ap IntegersByInteger u.1 ∙ sym c.in-IntegersByInteger-source.is))
    (λ rows. map_same Integer Integer IntegersByInteger integers_by_integer old call.new.object call.ensures.kind rows ∙ sym c.in-IntegersByInteger.is)
    (λ rows. map_same Integer Integer IntegersByInteger integers_by_integer source call.new.source call.ensures.source_kind rows ∙ sym c.in-IntegersByInteger-source.is) c.requires.apart call.ensures.source_valid in
    record { called = made.0; lasts = made.1; source_lasts = made.2 }

pub returns-in_default-source-5 : goal.returns-in_default-source-5
returns-in_default-source-5 c =
    let call = c.call_object-in_default-source-5 in
    let old = c.in-IntegersByInteger.map in
    record {
      called = called_as (IntegersByInteger old) c.args.object.now call.new.object c.args.source.now c.args.operation (arguments_of c.args.frame.now.arguments) (told call.new.frame.reply call.result) c.in-IntegersByInteger.is
          (unlike_alone (a_map (map_kind_of old) Integer Integer) (entries_of old) (IntegersByInteger old) call.new.object c.args.source.now c.args.operation (arguments_of c.args.frame.now.arguments) (told call.new.frame.reply call.result)
          (integers_by_integer old) (no_integers_by_integer (map_kind_of old) c.args.source.now c.in_default-source-5.not-IntegersByInteger) call.ensures.called);
      lasts = lasts_as (IntegersByInteger old) c.args.object.now call.new.object c.in-IntegersByInteger.is call.ensures.lasts;
      source_lasts = record { cursors = λ at agrees. agrees; counts = refl };
    }

pub returns-in-IntegersByText-source : goal.returns-in-IntegersByText-source
returns-in-IntegersByText-source c =
    let call = c.call_two-in-IntegersByText-source in
    let old = c.in-IntegersByText.map in
    let source = c.in-IntegersByText-source.other in
    let made = two (a_map (map_kind_of old) Str Integer) (a_map (map_kind_of source) Str Integer) (plain (entries_of source).object) (entries_of old) (entries_of call.new.object) (entries_of source) (entries_of call.new.source)
    c.args.object.now (IntegersByText call.new.object) c.args.source.now (IntegersByText call.new.source) c.args.operation (arguments_of c.args.frame.now.arguments) (told call.new.frame.reply call.result)
    (ap memory_of c.in-IntegersByText.is ∙ integers_by_text old) (map_now Str Integer IntegersByText integers_by_text old call.new.object call.ensures.kind) (ap held_of c.in-IntegersByText-source.is ∙ ap held_in (integers_by_text source))
    (λ like. ap memory_of c.in-IntegersByText-source.is ∙ (map_now Str Integer IntegersByText integers_by_text old source like))
    (λ like. (map_now Str Integer IntegersByText integers_by_text old call.new.source (call.ensures.source_kind ∙ like))) call.ensures.valid call.ensures.alike
    (λ differ. let u = call.ensures.unlike differ in (u.0, ap IntegersByText u.1 ∙ sym c.in-IntegersByText-source.is))
    (λ rows. map_same Str Integer IntegersByText integers_by_text old call.new.object call.ensures.kind rows ∙ sym c.in-IntegersByText.is)
    (λ rows. map_same Str Integer IntegersByText integers_by_text source call.new.source call.ensures.source_kind rows ∙ sym c.in-IntegersByText-source.is) c.requires.apart call.ensures.source_valid in
    record { called = made.0; lasts = made.1; source_lasts = made.2 }

pub returns-in_default-source-6 : goal.returns-in_default-source-6
returns-in_default-source-6 c =
    let call = c.call_object-in_default-source-6 in
    let old = c.in-IntegersByText.map in
    record {
      called = called_as (IntegersByText old) c.args.object.now call.new.object c.args.source.now c.args.operation (arguments_of c.args.frame.now.arguments) (told call.new.frame.reply call.result) c.in-IntegersByText.is
          (unlike_alone (a_map (map_kind_of old) Str Integer) (entries_of old) (IntegersByText old) call.new.object c.args.source.now c.args.operation (arguments_of c.args.frame.now.arguments) (told call.new.frame.reply call.result)
          (integers_by_text old) (no_integers_by_text (map_kind_of old) c.args.source.now c.in_default-source-6.not-IntegersByText) call.ensures.called);
      lasts = lasts_as (IntegersByText old) c.args.object.now call.new.object c.in-IntegersByText.is call.ensures.lasts;
      source_lasts = record { cursors = λ at agrees. agrees; counts = refl };
    }

pub returns-in-TextsByInteger-source : goal.returns-in-TextsByInteger-source
returns-in-TextsByInteger-source c =
    let call = c.call_two-in-TextsByInteger-source in
    let old = c.in-TextsByInteger.map in
    let source = c.in-TextsByInteger-source.other in
    let made = two (a_map (map_kind_of old) Integer Str) (a_map (map_kind_of source) Integer Str) (plain (entries_of source).object) (entries_of old) (entries_of call.new.object) (entries_of source) (entries_of call.new.source)
    c.args.object.now (TextsByInteger call.new.object) c.args.source.now (TextsByInteger call.new.source) c.args.operation (arguments_of c.args.frame.now.arguments) (told call.new.frame.reply call.result)
    (ap memory_of c.in-TextsByInteger.is ∙ texts_by_integer old) (map_now Integer Str TextsByInteger texts_by_integer old call.new.object call.ensures.kind) (ap held_of c.in-TextsByInteger-source.is ∙ ap held_in (texts_by_integer source))
    (λ like. ap memory_of c.in-TextsByInteger-source.is ∙ (map_now Integer Str TextsByInteger texts_by_integer old source like))
    (λ like. (map_now Integer Str TextsByInteger texts_by_integer old call.new.source (call.ensures.source_kind ∙ like))) call.ensures.valid call.ensures.alike
    (λ differ. let u = call.ensures.unlike differ in (u.0, ap TextsByInteger u.1 ∙ sym c.in-TextsByInteger-source.is))
    (λ rows. map_same Integer Str TextsByInteger texts_by_integer old call.new.object call.ensures.kind rows ∙ sym c.in-TextsByInteger.is)
    (λ rows. map_same Integer Str TextsByInteger texts_by_integer source call.new.source call.ensures.source_kind rows ∙ sym c.in-TextsByInteger-source.is) c.requires.apart call.ensures.source_valid in
    record { called = made.0; lasts = made.1; source_lasts = made.2 }

pub returns-in_default-source-7 : goal.returns-in_default-source-7
returns-in_default-source-7 c =
    let call = c.call_object-in_default-source-7 in
    let old = c.in-TextsByInteger.map in
    record {
      called = called_as (TextsByInteger old) c.args.object.now call.new.object c.args.source.now c.args.operation (arguments_of c.args.frame.now.arguments) (told call.new.frame.reply call.result) c.in-TextsByInteger.is
          (unlike_alone (a_map (map_kind_of old) Integer Str) (entries_of old) (TextsByInteger old) call.new.object c.args.source.now c.args.operation (arguments_of c.args.frame.now.arguments) (told call.new.frame.reply call.result)
          (texts_by_integer old) (no_texts_by_integer (map_kind_of old) c.args.source.now c.in_default-source-7.not-TextsByInteger) call.ensures.called);
      lasts = lasts_as (TextsByInteger old) c.args.object.now call.new.object c.in-TextsByInteger.is call.ensures.lasts;
      source_lasts = record { cursors = λ at agrees. agrees; counts = refl };
    }

pub returns-in-TextsByText-source : goal.returns-in-TextsByText-source
returns-in-TextsByText-source c =
    let call = c.call_two-in-TextsByText-source in
    let old = c.in-TextsByText.map in
    let source = c.in-TextsByText-source.other in
    let made = two (a_map (map_kind_of old) Str Str) (a_map (map_kind_of source) Str Str) (plain (entries_of source).object) (entries_of old) (entries_of call.new.object) (entries_of source) (entries_of call.new.source)
    c.args.object.now (TextsByText call.new.object) c.args.source.now (TextsByText call.new.source) c.args.operation (arguments_of c.args.frame.now.arguments) (told call.new.frame.reply call.result)
    (ap memory_of c.in-TextsByText.is ∙ texts_by_text old) (map_now Str Str TextsByText texts_by_text old call.new.object call.ensures.kind) (ap held_of c.in-TextsByText-source.is ∙ ap held_in (texts_by_text source))
    (λ like. ap memory_of c.in-TextsByText-source.is ∙ (map_now Str Str TextsByText texts_by_text old source like))
    (λ like. (map_now Str Str TextsByText texts_by_text old call.new.source (call.ensures.source_kind ∙ like))) call.ensures.valid call.ensures.alike
    (λ differ. let u = call.ensures.unlike differ in (u.0, ap TextsByText u.1 ∙ sym c.in-TextsByText-source.is))
    (λ rows. map_same Str Str TextsByText texts_by_text old call.new.object call.ensures.kind rows ∙ sym c.in-TextsByText.is)
    (λ rows. map_same Str Str TextsByText texts_by_text source call.new.source call.ensures.source_kind rows ∙ sym c.in-TextsByText-source.is) c.requires.apart call.ensures.source_valid in
    record { called = made.0; lasts = made.1; source_lasts = made.2 }

pub returns-in_default-source-8 : goal.returns-in_default-source-8
returns-in_default-source-8 c =
    let call = c.call_object-in_default-source-8 in
    let old = c.in-TextsByText.map in
    record {
      called = called_as (TextsByText old) c.args.object.now call.new.object c.args.source.now c.args.operation (arguments_of c.args.frame.now.arguments) (told call.new.frame.reply call.result) c.in-TextsByText.is
          (unlike_alone (a_map (map_kind_of old) Str Str) (entries_of old) (TextsByText old) call.new.object c.args.source.now c.args.operation (arguments_of c.args.frame.now.arguments) (told call.new.frame.reply call.result)
          (texts_by_text old) (no_texts_by_text (map_kind_of old) c.args.source.now c.in_default-source-8.not-TextsByText) call.ensures.called);
      lasts = lasts_as (TextsByText old) c.args.object.now call.new.object c.in-TextsByText.is call.ensures.lasts;
      source_lasts = record { cursors = λ at agrees. agrees; counts = refl };
    }

pub returns-in-IntegerTree-source : goal.returns-in-IntegerTree-source
returns-in-IntegerTree-source c =
    let call = c.call_two-in-IntegerTree-source in
    let old = c.in-IntegerTree.tree in
    let source = c.in-IntegerTree-source.other in
    let made = two (a_tree Integer) (a_tree Integer) (plain source.object) old call.new.object source call.new.source
    c.args.object.now (IntegerTree call.new.object) c.args.source.now (IntegerTree call.new.source) c.args.operation (arguments_of c.args.frame.now.arguments) (told call.new.frame.reply call.result)
    (ap memory_of c.in-IntegerTree.is ∙ integer_tree old) (integer_tree call.new.object) (ap held_of c.in-IntegerTree-source.is ∙ ap held_in (integer_tree source))
    (λ like. ap memory_of c.in-IntegerTree-source.is ∙ integer_tree source)
    (λ like. integer_tree call.new.source) call.ensures.valid call.ensures.alike
    (λ differ. let u = call.ensures.unlike differ in (u.0, ap IntegerTree u.1 ∙ sym c.in-IntegerTree-source.is))
    (λ rows. ap IntegerTree rows ∙ sym c.in-IntegerTree.is)
    (λ rows. ap IntegerTree rows ∙ sym c.in-IntegerTree-source.is) c.requires.apart call.ensures.source_valid in
    record { called = made.0; lasts = made.1; source_lasts = made.2 }

pub returns-in_default-source-9 : goal.returns-in_default-source-9
returns-in_default-source-9 c =
    let call = c.call_object-in_default-source-9 in
    let old = c.in-IntegerTree.tree in
    record {
      called = called_as (IntegerTree old) c.args.object.now call.new.object c.args.source.now c.args.operation (arguments_of c.args.frame.now.arguments) (told call.new.frame.reply call.result) c.in-IntegerTree.is
          (unlike_alone (a_tree Integer) old (IntegerTree old) call.new.object c.args.source.now c.args.operation (arguments_of c.args.frame.now.arguments) (told call.new.frame.reply call.result)
          (integer_tree old) (no_integer_tree c.args.source.now c.in_default-source-9.not-IntegerTree) call.ensures.called);
      lasts = lasts_as (IntegerTree old) c.args.object.now call.new.object c.in-IntegerTree.is call.ensures.lasts;
      source_lasts = record { cursors = λ at agrees. agrees; counts = refl };
    }

pub returns-in-TextTree-source : goal.returns-in-TextTree-source
returns-in-TextTree-source c =
    let call = c.call_two-in-TextTree-source in
    let old = c.in-TextTree.tree in
    let source = c.in-TextTree-source.other in
    let made = two (a_tree Str) (a_tree Str) (plain source.object) old call.new.object source call.new.source
    c.args.object.now (TextTree call.new.object) c.args.source.now (TextTree call.new.source) c.args.operation (arguments_of c.args.frame.now.arguments) (told call.new.frame.reply call.result)
    (ap memory_of c.in-TextTree.is ∙ text_tree old) (text_tree call.new.object) (ap held_of c.in-TextTree-source.is ∙ ap held_in (text_tree source))
    (λ like. ap memory_of c.in-TextTree-source.is ∙ text_tree source)
    (λ like. text_tree call.new.source) call.ensures.valid call.ensures.alike
    (λ differ. let u = call.ensures.unlike differ in (u.0, ap TextTree u.1 ∙ sym c.in-TextTree-source.is))
    (λ rows. ap TextTree rows ∙ sym c.in-TextTree.is)
    (λ rows. ap TextTree rows ∙ sym c.in-TextTree-source.is) c.requires.apart call.ensures.source_valid in
    record { called = made.0; lasts = made.1; source_lasts = made.2 }

pub returns-in_default-source-10 : goal.returns-in_default-source-10
returns-in_default-source-10 c =
    let call = c.call_object-in_default-source-10 in
    let old = c.in-TextTree.tree in
    record {
      called = called_as (TextTree old) c.args.object.now call.new.object c.args.source.now c.args.operation (arguments_of c.args.frame.now.arguments) (told call.new.frame.reply call.result) c.in-TextTree.is
          (unlike_alone (a_tree Str) old (TextTree old) call.new.object c.args.source.now c.args.operation (arguments_of c.args.frame.now.arguments) (told call.new.frame.reply call.result)
          (text_tree old) (no_text_tree c.args.source.now c.in_default-source-10.not-TextTree) call.ensures.called);
      lasts = lasts_as (TextTree old) c.args.object.now call.new.object c.in-TextTree.is call.ensures.lasts;
      source_lasts = record { cursors = λ at agrees. agrees; counts = refl };
    }

pub returns-in-IntegerHolder-source : goal.returns-in-IntegerHolder-source
returns-in-IntegerHolder-source c =
    let call = c.call_holders in
    let old = c.in-IntegerHolder.holder in
    let source = c.in-IntegerHolder-source.other in
    let is = ap memory_of c.in-IntegerHolder.is ∙ integer_holder old in
    let source_is = ap memory_of c.in-IntegerHolder-source.is ∙ integer_holder source in
    let last = holders.pair_lasts Integer old call.new.holder source call.new.source c.args.object.now (IntegerHolder call.new.holder) c.args.source.now (IntegerHolder call.new.source)
    c.args.operation (arguments_of c.args.frame.now.arguments) (told call.new.frame.reply call.result)
    is (integer_holder call.new.holder) source_is (integer_holder call.new.source) call.ensures in
    record {
      called = holders.pair_called Integer old call.new.holder source call.new.source c.args.object.now (IntegerHolder call.new.holder) c.args.source.now (IntegerHolder call.new.source)
          c.args.operation (arguments_of c.args.frame.now.arguments) (told call.new.frame.reply call.result)
          is (integer_holder call.new.holder) (λ same. ap IntegerHolder same ∙ sym c.in-IntegerHolder.is) source_is (integer_holder call.new.source) (λ same. ap IntegerHolder same ∙ sym c.in-IntegerHolder-source.is)
          c.requires.apart call.ensures;
      lasts = last.0;
      source_lasts = last.1;
    }

pub returns-in_default-source-11 : goal.returns-in_default-source-11
returns-in_default-source-11 c =
    let call = c.call_object-in_default-source-11 in
    let old = c.in-IntegerHolder.holder in
    record {
      called = called_as (IntegerHolder old) c.args.object.now call.new.object c.args.source.now c.args.operation (arguments_of c.args.frame.now.arguments) (told call.new.frame.reply call.result) c.in-IntegerHolder.is
          (holders.unlike_alone Integer old (IntegerHolder old) call.new.object c.args.source.now c.args.operation (arguments_of c.args.frame.now.arguments) (told call.new.frame.reply call.result)
          (integer_holder old) (no_integer_holder c.args.source.now c.in_default-source-11.not-IntegerHolder) call.ensures.called);
      lasts = lasts_as (IntegerHolder old) c.args.object.now call.new.object c.in-IntegerHolder.is call.ensures.lasts;
      source_lasts = record { cursors = λ at agrees. agrees; counts = refl };
    }

pub returns-in-TextHolder-source : goal.returns-in-TextHolder-source
returns-in-TextHolder-source c =
    let call = c.call_holders-in-TextHolder-source in
    let old = c.in-TextHolder.holder in
    let source = c.in-TextHolder-source.other in
    let is = ap memory_of c.in-TextHolder.is ∙ text_holder old in
    let source_is = ap memory_of c.in-TextHolder-source.is ∙ text_holder source in
    let last = holders.pair_lasts Str old call.new.holder source call.new.source c.args.object.now (TextHolder call.new.holder) c.args.source.now (TextHolder call.new.source)
    c.args.operation (arguments_of c.args.frame.now.arguments) (told call.new.frame.reply call.result)
    is (text_holder call.new.holder) source_is (text_holder call.new.source) call.ensures in
    record {
      called = holders.pair_called Str old call.new.holder source call.new.source c.args.object.now (TextHolder call.new.holder) c.args.source.now (TextHolder call.new.source)
          c.args.operation (arguments_of c.args.frame.now.arguments) (told call.new.frame.reply call.result)
          is (text_holder call.new.holder) (λ same. ap TextHolder same ∙ sym c.in-TextHolder.is) source_is (text_holder call.new.source) (λ same. ap TextHolder same ∙ sym c.in-TextHolder-source.is)
          c.requires.apart call.ensures;
      lasts = last.0;
      source_lasts = last.1;
    }

pub returns-in_default-source-12 : goal.returns-in_default-source-12
returns-in_default-source-12 c =
    let call = c.call_object-in_default-source-12 in
    let old = c.in-TextHolder.holder in
    record {
      called = called_as (TextHolder old) c.args.object.now call.new.object c.args.source.now c.args.operation (arguments_of c.args.frame.now.arguments) (told call.new.frame.reply call.result) c.in-TextHolder.is
          (holders.unlike_alone Str old (TextHolder old) call.new.object c.args.source.now c.args.operation (arguments_of c.args.frame.now.arguments) (told call.new.frame.reply call.result)
          (text_holder old) (no_text_holder c.args.source.now c.in_default-source-12.not-TextHolder) call.ensures.called);
      lasts = lasts_as (TextHolder old) c.args.object.now call.new.object c.in-TextHolder.is call.ensures.lasts;
      source_lasts = record { cursors = λ at agrees. agrees; counts = refl };
    }

pub returns-in-Queue : goal.returns-in-Queue
returns-in-Queue c =
    let call = c.call_object-in-Queue in
    let old = c.in-Queue.field-0 in
    record {
      called = queues.any_called old.tag (shared old.queue) c.args.object.now call.new.object c.args.source.now c.args.operation (arguments_of c.args.frame.now.arguments) (told call.new.frame.reply call.result)
          (ap memory_of c.in-Queue.is ∙ queue_memory old) call.ensures.called;
      lasts = call.ensures.lasts;
      source_lasts = record { cursors = λ at agrees. agrees; counts = refl };
    }
