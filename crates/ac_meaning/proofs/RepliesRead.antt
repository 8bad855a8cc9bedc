-- What a reply reads of the arguments is what their letters in the table say.
use Rattle.std.proofs.Common.{◌≡◌, ℕ, Bool, true, false, refl, sym, ap, ◌∙◌, Option, None, if◌then◌else◌}
use Rattle.std.specs.List.{list_any}
use Rattle.ac_model.specs.Letters.{Mark}
use Rattle.ac_model.specs.Objects.{Object}
use Rattle.ac_syntax.specs.declared.operation.Operation.{Operation}
use Rattle.ac_calls.specs.Elements.{tools_of}
use Rattle.ac_calls.specs.Holdings.{RowKind, a_sequence, a_map, a_set, a_keyed_set, a_tree, RowOf, Held, of_rows, of_holder, of_queue, rows_in, holder_in, rows_reply, seen_in, reply_of}
use Rattle.ac_calls.specs.HolderReplies.{holder_source, holder_reply}
use Rattle.ac_calls.specs.Replies.{Arguments, arguments_seen, source_in, carried}
use Rattle.ac_meaning.specs.HoldsTypes.{shape_of}
use Rattle.ac_meaning.specs.ReadsByLetter.{arguments_read, is_object, source_read, ReadsByLetter}
use Rattle.ac_meaning.proofs.AnswersTold.{row_elements, row_keys, elements_in, keys_in, type_elements}
use Rattle.ac_meaning.proofs.KeyedReads.{map_reads, set_reads, keyed_set_reads}
use Rattle.ac_meaning.proofs.OtherReads.{tree_reads, holder_reads, queue_reads}
use Rattle.ac_meaning.proofs.ReadParts.{Reads, reads_same}
use Rattle.ac_meaning.proofs.SequenceReads.{sequences_read}
use Rattle.ac_meaning.proofs.TableLetters.{letters_of, row_letters}

rows_read : (k : RowKind) (see : Object ℕ (RowOf k) → Mark → Mark) (o : Object ℕ (RowOf k)) (given : Option (Object ℕ (RowOf k))) (args : Arguments)
    (op : Operation) → Reads (row_keys k) (row_elements k) (letters_of op) see o given args (λ source a. rows_reply k o source a op)
rows_read (a_sequence which e) see o given args op = sequences_read e see o given args which op
rows_read (a_map which k e) see o given args op = map_reads k e which see o given args op
rows_read (a_set which e) see o given args op = set_reads e (tools_of e) (reads_same e) see o given args which op
rows_read (a_keyed_set which) see o given args op = keyed_set_reads see o given args which op
rows_read (a_tree e) see o given args op = tree_reads e see o given args op

-- the source as one of the object's kind
source_by : {S : Type 0} (asks : Bool) (as_kind : Option Held → Option S) (source : Option Held) → as_kind None ≡ None →
    (if asks then as_kind source else None) ≡ as_kind (if asks then source else None)
source_by true as_kind source none = refl
source_by false as_kind source none = sym none

held_reads : (h : Held) (source : Option Held) (op : Operation) (args : Arguments) →
    reply_of h source op args
    ≡ reply_of h (source_read (letters_of op) source) op (arguments_read (keys_in (shape_of h)) (elements_in (shape_of h)) (letters_of op) args)
held_reads (of_rows k o) source op args =
    let read = arguments_read (row_keys k) (row_elements k) (letters_of op) args in
    ap (carried (of_rows k))
    (rows_read k (seen_in k) o (rows_in k source) args op
    ∙ ap (λ given. rows_reply k o (source_in (seen_in k) o given read) (arguments_seen (seen_in k o) read) op)
    (source_by (list_any is_object (letters_of op)) (rows_in k) source refl))
held_reads (of_holder e h) source op args =
    let read = arguments_read e e (letters_of op) args in
    ap (carried (of_holder e))
    (holder_reads e h (holder_in e source) args op
    ∙ ap (λ given. holder_reply (tools_of e) h (holder_source h given read) read op)
    (source_by (list_any is_object (letters_of op)) (holder_in e) source refl))
held_reads (of_queue number q) source op args = ap (carried (of_queue number)) (queue_reads q args op)

pub reads_by_letter : ReadsByLetter
reads_by_letter def h source row args typed shape there =
    let types = type_elements def typed in
    let letters = row_letters def row there in
    let key = ap keys_in shape ∙ types.0 in
    let element = ap elements_in shape ∙ types.1 in
    held_reads h source row.operation args
    ∙ (λ i. reply_of h (source_read (letters i) source) row.operation (arguments_read (key i) (element i) (letters i) args))
