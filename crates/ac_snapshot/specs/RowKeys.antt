-- How rows stand to each other, told by their plain values.
use Rattle.std.specs.Prelude.{ℕ, ℤ, ◌+◌, ◌&&◌, nat_le, Bool, true, false, not, List, [], ◌∷◌, map, unwrap_or}
use Rattle.std.specs.Ordering.{int_eq, on}
use Rattle.std.specs.Str.{bytes_eq}
use Rattle.ac_base.specs.declared.value.Value.{Value}
use Rattle.ac_base.specs.Key.{key_of_text}
use Rattle.ac_base.specs.Order.{integer_less, text_less}
use Rattle.ac_model.specs.Queues.{comes_before}
use Rattle.ac_syntax.specs.declared.kind.ElemKind.{ElemKind}
use Rattle.ac_syntax.specs.declared.kind.ElemKind.TheVariants.{Integer, Str}
use Rattle.ac_calls.specs.Elements.{integer_in, text_in}
use Rattle.ac_calls.specs.declared.plains.PlainRow.{PlainRow}
use Rattle.ac_snapshot.specs.declared.row_test.Turn.{Turn}
use Rattle.ac_snapshot.specs.declared.row_test.Turn.TheVariants as turn
use Rattle.ac_snapshot.specs.RowValidity.{all_differ}

-- a row's key: an element of a set is its own
abbrev pub key_of : PlainRow → Value
key_of r = unwrap_or r.key r.value

-- an integer, or a text or the part of it before the first `=`: what a key is told apart by

abbrev pub key_integer : PlainRow → ℤ
key_integer r = integer_in (key_of r)

abbrev pub key_text : (keyed : Bool) → PlainRow → List ℕ
key_text true r = key_of_text (text_in (key_of r))
key_text false r = text_in (key_of r)

-- no two keys are equivalent
abbrev pub keys_differ : (keyed : Bool) → ElemKind → List PlainRow → Bool
keys_differ true e rows = all_differ bytes_eq (map (key_text true) rows)
keys_differ false Integer rows = all_differ int_eq (map key_integer rows)
keys_differ false Str rows = all_differ bytes_eq (map (key_text false) rows)

-- by the key parts of two texts, or by the whole values

abbrev pub part_less : Value → Value → Bool
part_less v w = on key_of_text text_less (text_in v) (text_in w)

abbrev pub whole_less : ElemKind → Value → Value → Bool
whole_less Integer v w = integer_less (integer_in v) (integer_in w)
whole_less Str v w = text_less (text_in v) (text_in w)

abbrev pub key_less : (keyed : Bool) → ElemKind → PlainRow → PlainRow → Bool
key_less true e x y = part_less (key_of x) (key_of y)
key_less false e x y = whole_less e (key_of x) (key_of y)

-- each passes the test with the next
abbrev pub each_next : {A : Type 0} → (A → A → Bool) → List A → Bool
each_next test [] = true
each_next test (x ∷ []) = true
each_next test (x ∷ y ∷ xs) = test x y && each_next test (y ∷ xs)

-- what two rows that follow each other are tested for
abbrev pub in_turn : Turn → PlainRow → PlainRow → Bool
in_turn (turn.Ascends keyed e) x y = key_less keyed e x y
in_turn turn.Nests x y = nat_le 2 y.depth && nat_le y.depth (x.depth + 1)
in_turn turn.LinesUp x y = not (comes_before (integer_in y.value) (integer_in x.value))
