-- What a call of the table answers, on an object of its type, is what the table says.
use Rattle.std.proofs.Common.{◌≡◌, ℕ, Bool, true, false, refl, sym, ap, subst, ◌∙◌, Option, Some, None}
use Rattle.std.specs.Prelude.{IsTrue}
use Rattle.ac_model.specs.Objects.{Object}
use Rattle.ac_syntax.specs.declared.kind.ElemKind.{ElemKind}
use Rattle.ac_syntax.specs.declared.kind.ElemKind.TheVariants.{Integer, Str}
use Rattle.ac_syntax.specs.declared.kind.Kind.{Kind}
use Rattle.ac_syntax.specs.declared.kind.Kind.TheVariants as kind
use Rattle.ac_syntax.specs.declared.operation.Operation.{Operation}
use Rattle.ac_syntax.specs.declared.type_def.TypeDef.{TypeDef}
use Rattle.ac_rules.specs.declared.rows.Answer.{Answer as Told}
use Rattle.ac_rules.specs.Rules.{is_type}
use Rattle.ac_rules.specs.Scopes.{element_by, element_of}
use Rattle.ac_rules.proofs.Apart.{neither}
use Rattle.ac_calls.specs.Elements.{tools_of}
use Rattle.ac_calls.specs.Holdings.{RowKind, a_sequence, a_map, a_set, a_keyed_set, a_tree, RowOf, Held, of_rows, of_holder, of_queue, rows_in, holder_in, rows_reply, seen_in, reply_of}
use Rattle.ac_calls.specs.HolderReplies.{holder_source}
use Rattle.ac_calls.specs.Replies.{Arguments, Source, source_in, arguments_seen, Reply, carried}
use Rattle.ac_meaning.specs.HoldsTypes.{Shape, has_rows, has_place, has_line, shape_of, shape_by, shape_of_type}
use Rattle.ac_meaning.specs.Suits.{is_own, is_own_of_rows}
use Rattle.ac_meaning.specs.ValueTypes.{RepliesAs, AnswersAreTold}
use Rattle.ac_meaning.proofs.AnswerParts.{tools_make}
use Rattle.ac_meaning.proofs.SequenceAnswers.{sequences_as}
use Rattle.ac_meaning.proofs.KeyedAnswers.{map_as, set_as, keyed_set_as}
use Rattle.ac_meaning.proofs.OtherAnswers.{tree_as, holder_as, queue_as}
use Rattle.ac_meaning.proofs.OwnOperations.{row_own}
use Rattle.ac_meaning.proofs.TableAnswers.{told_of, row_told}
use Rattle.ac_meaning.proofs.TypeShapes.{def_by}

-- The types of a shape's keys and elements: where there are no keys, that of the elements stands for both

abbrev pub row_elements : RowKind → ElemKind
row_elements (a_sequence _ e) = e
row_elements (a_map _ k e) = e
row_elements (a_set _ e) = e
row_elements (a_keyed_set _) = Str
row_elements (a_tree e) = e

abbrev pub row_keys : RowKind → ElemKind
row_keys (a_sequence _ e) = e
row_keys (a_map _ k e) = k
row_keys (a_set _ e) = e
row_keys (a_keyed_set _) = Str
row_keys (a_tree e) = e

abbrev pub elements_in : Shape → ElemKind
elements_in (has_rows kind) = row_elements kind
elements_in (has_place e) = e
elements_in (has_line d) = Integer

abbrev pub keys_in : Shape → ElemKind
keys_in (has_rows kind) = row_keys kind
keys_in (has_place e) = e
keys_in (has_line d) = Integer

-- those of a type that keeps the rules
shape_elements : (bounded : Bool) (k : Kind) (first : ElemKind) (second : Option ElemKind) (keyed : Bool) →
    is_type (def_by bounded k first second keyed) ≡ true →
    (keys_in (shape_by k first (element_by first second) keyed) ≡ first)
    × (elements_in (shape_by k first (element_by first second) keyed) ≡ element_by first second)
shape_elements bounded kind.Vector first None keyed h = (refl, refl)
shape_elements bounded kind.List first None keyed h = (refl, refl)
shape_elements bounded kind.HashedMap first None keyed h = (refl, refl)
shape_elements bounded kind.OrderedMap first None keyed h = (refl, refl)
shape_elements bounded kind.HashedMap first (Some second) keyed h = (refl, refl)
shape_elements bounded kind.OrderedMap first (Some second) keyed h = (refl, refl)
shape_elements bounded kind.HashedSet first None false h = (refl, refl)
shape_elements bounded kind.OrderedSet first None false h = (refl, refl)
shape_elements bounded kind.HashedSet Str None true h = (refl, refl)
shape_elements bounded kind.OrderedSet Str None true h = (refl, refl)
shape_elements bounded kind.HashedSet Integer None true h = neither h
shape_elements bounded kind.OrderedSet Integer None true h = neither h
shape_elements bounded kind.Tree first None keyed h = (refl, refl)
shape_elements bounded kind.Holder first None keyed h = (refl, refl)
shape_elements bounded kind.Queue Integer None keyed h = (refl, refl)
shape_elements bounded kind.PriorityQueue Integer None keyed h = (refl, refl)
shape_elements bounded kind.Queue Str None keyed h = neither h
shape_elements bounded kind.PriorityQueue Str None keyed h = neither h
shape_elements bounded kind.Vector first (Some second) keyed h = neither h
shape_elements bounded kind.List first (Some second) keyed h = neither h
shape_elements bounded kind.HashedSet first (Some second) keyed h = neither h
shape_elements bounded kind.OrderedSet first (Some second) keyed h = neither h
shape_elements bounded kind.Tree first (Some second) keyed h = neither h
shape_elements bounded kind.Holder first (Some second) keyed h = neither h
shape_elements bounded kind.Queue first (Some second) keyed h = neither h
shape_elements bounded kind.PriorityQueue first (Some second) keyed h = neither h

pub type_elements : (def : TypeDef) → IsTrue (is_type def) →
    (keys_in (shape_of_type def) ≡ def.first) × (elements_in (shape_of_type def) ≡ element_of def)
type_elements def h = shape_elements def.bounded def.kind def.first def.second def.keyed h

-- Replies

carried_as : {S R : Type 0} (key element : ElemKind) (says : Told) (f : S → R) (r : Reply S) → RepliesAs key element says r →
    RepliesAs key element says (carried f r)
carried_as key element says f r h = record { answer = λ none. h.answer none }

rows_as : (k : RowKind) (o : Object ℕ (RowOf k)) (source : Source (Object ℕ (RowOf k))) (args : Arguments) (op : Operation) →
    is_own_of_rows k op ≡ true → RepliesAs (row_keys k) (row_elements k) (told_of op) (rows_reply k o source args op)
rows_as (a_sequence which e) o source args op own = sequences_as e e (tools_of e) (tools_make e) o source args which op own
rows_as (a_map which k e) o source args op own = map_as k e (tools_of k) (tools_of e) (tools_make k) (tools_make e) o source args which op own
rows_as (a_set which e) o source args op own = set_as e e (tools_of e) (tools_make e) o source args which op own
rows_as (a_keyed_set which) o source args op own = keyed_set_as o source args which op own
rows_as (a_tree e) o source args op own = tree_as e e (tools_of e) (tools_make e) o source args op own

held_as : (h : Held) (source : Option Held) (op : Operation) (args : Arguments) → is_own (shape_of h) op ≡ true →
    RepliesAs (keys_in (shape_of h)) (elements_in (shape_of h)) (told_of op) (reply_of h source op args)
held_as (of_rows k o) source op args own =
    carried_as (row_keys k) (row_elements k) (told_of op) (of_rows k) _
    (rows_as k o (source_in (seen_in k) o (rows_in k source) args) (arguments_seen (seen_in k o) args) op own)
held_as (of_holder e h) source op args own =
    carried_as e e (told_of op) (of_holder e) _ (holder_as e e (tools_of e) (tools_make e) h (holder_source h (holder_in e source) args) args op own)
held_as (of_queue number q) source op args own = carried_as Integer Integer (told_of op) (of_queue number) _ (queue_as Integer Integer q args op own)

pub answers_are_told : AnswersAreTold
answers_are_told def h source row args typed shape there =
    let types = type_elements def typed in
    let reply = held_as h source row.operation args (subst (λ s. is_own s row.operation ≡ true) (sym shape) (row_own def row there)) in
    subst (λ says. RepliesAs def.first (element_of def) says (reply_of h source row.operation args)) (row_told def row there)
    (subst (λ e. RepliesAs def.first e (told_of row.operation) (reply_of h source row.operation args)) (ap elements_in shape ∙ types.1)
    (subst (λ k. RepliesAs k (elements_in (shape_of h)) (told_of row.operation) (reply_of h source row.operation args)) (ap keys_in shape ∙ types.0)
    reply))
