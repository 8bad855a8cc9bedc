-- What a reply reads of the arguments of a call: of each what its letter in the table says, and nothing else. So a cursor is read as one only where the table asks for a cursor, and a value as an element, a key or an integer only where it asks for that.
use Rattle.std.specs.Prelude.{◌≡◌, ℤ, Bool, true, false, List, ◌++◌, slice_get, IsTrue, Contains, Option, Some, None, option_to_list, if◌then◌else◌}
use Rattle.std.specs.List.{list_any}
use Rattle.ac_base.specs.declared.value.Value.{Value}
use Rattle.ac_model.specs.Letters.{count_left_out}
use Rattle.ac_syntax.specs.declared.kind.ElemKind.{ElemKind}
use Rattle.ac_syntax.specs.declared.type_def.TypeDef.{TypeDef}
use Rattle.ac_rules.specs.declared.rows.Letter.{Letter}
use Rattle.ac_rules.specs.declared.rows.Letter.TheVariants as letter
use Rattle.ac_rules.specs.Rules.{is_type}
use Rattle.ac_rules.specs.Scopes.{element_of}
use Rattle.ac_rules.specs.Table.{Row, rows_of}
use Rattle.ac_calls.specs.Elements.{tools_of}
use Rattle.ac_calls.specs.Holdings.{Held, reply_of}
use Rattle.ac_calls.specs.Replies.{Argument, no_argument, Arguments}
use Rattle.ac_meaning.specs.HoldsTypes.{shape_of, shape_of_type}

-- a value as one of the type
abbrev pub value_read : ElemKind → Value → Value
value_read element v = (tools_of element).to_value ((tools_of element).from_value v)

-- an argument as its letter reads it: all else is as where it is left out. What isn't among the letters isn't read, nor is an object, which is the call's source
abbrev pub argument_read : (key element : ElemKind) → Option Letter → Argument → Argument
argument_read key element None a = no_argument
argument_read key element (Some letter.Cursor) a = record no_argument { cursor = a.cursor }
argument_read key element (Some letter.CursorVariable) a = record no_argument { cursor = a.cursor }
argument_read key element (Some letter.Integer) a = record no_argument { count = a.count; last_index = a.last_index }
argument_read key element (Some letter.Element) a = record no_argument { value = value_read element a.value }
argument_read key element (Some letter.Key) a = record no_argument { value = value_read key a.value }
argument_read key element (Some letter.Object) a = no_argument

-- a fifth, of which there is a count alone
abbrev pub count_read : Option Letter → ℤ → ℤ
count_read (Some letter.Integer) n = n
count_read _ n = count_left_out

abbrev pub arguments_read : (key element : ElemKind) → List Letter → Arguments → Arguments
arguments_read key element letters args = record {
  first = argument_read key element (slice_get letters 0) args.first;
  second = argument_read key element (slice_get letters 1) args.second;
  third = argument_read key element (slice_get letters 2) args.third;
  fourth = argument_read key element (slice_get letters 3) args.fourth;
  fifth = count_read (slice_get letters 4) args.fifth;
}

abbrev pub is_object : Letter → Bool
is_object letter.Object = true
is_object _ = false

-- the object among the arguments is read where a letter asks for one
abbrev pub source_read : {A : Type 0} → List Letter → Option A → Option A
source_read letters source = if list_any is_object letters then source else None

-- the letters of a row, with that of the argument that may be left out
abbrev pub letters_in : Row → List Letter
letters_in row = row.letters ++ option_to_list row.optional

-- for each row of the table, on each object of its type: the reply is that on what the letters read, whatever else the arguments are
abbrev pub ReadsByLetter : Type 0
ReadsByLetter =
    (def : TypeDef) (h : Held) (source : Option Held) (row : Row) (args : Arguments) → IsTrue (is_type def) → shape_of h ≡ shape_of_type def →
    Contains (rows_of def) row → let letters = letters_in row in
    reply_of h source row.operation args
    ≡ reply_of h (source_read letters source) row.operation (arguments_read def.first (element_of def) letters args)
