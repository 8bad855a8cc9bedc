-- The names of a question, and of which sort its parts are.
use Rattle.std.specs.Prelude.{ℕ, ◌&&◌, ◌||◌, Bool, true, false, not, List, [], ◌∷◌, Option, Some, None, is_some, option_map, option_and_then, if◌then◌else◌}
use Rattle.std.specs.List.{list_any}
use Rattle.std.specs.Str.{bytes_eq}
use Rattle.ac_syntax.specs.Kinds.{has_cursors}
use Rattle.ac_syntax.specs.declared.kind.ElemKind.{ElemKind}
use Rattle.ac_syntax.specs.declared.kind.ElemKind.TheVariants.{Integer, Str}
use Rattle.ac_rules.specs.Scopes.{Scope, Meaning, a_type, an_object, a_cursor, a_value, a_task, meaning_in, element_of}
use Rattle.ac_rules.specs.Rules.{is_elem}
use Rattle.ac_rules.specs.Faults.{is_in_scope}
use Rattle.ac_aggregate.specs.Asked.{Asked, literal, text, name, group, product, sum, all_of, each, reduced, always, compares, both, negated}
use Rattle.ac_aggregate.specs.declared.sort.Sort.{Sort}
use Rattle.ac_aggregate.specs.declared.sort.Sort.TheVariants as sort
use Rattle.ac_aggregate.specs.Generators.{Generator, generator, innermost}

-- the name is an outermost one, or that of a generator
abbrev pub is_named : Scope → (generators : List (List ℕ)) → List ℕ → Bool
is_named scope gs word = list_any (bytes_eq word) gs || is_in_scope scope word

-- each name that is used is known where it stands: that of a generator in its aggregate's condition, and in what the aggregate gives
abbrev pub is_known : Scope → Asked → (generators : List (List ℕ)) → Bool
is_known scope (literal minus n) gs = true
is_known scope (text bytes) gs = true
is_known scope (name word) gs = is_named scope gs word
is_known scope (group e) gs = is_known scope e gs
is_known scope (product l r) gs = is_known scope l gs && is_known scope r gs
is_known scope (sum l minus r) gs = is_known scope l gs && is_known scope r gs
is_known scope (all_of word) gs = is_named scope gs word
is_known scope (each own object c e) gs = is_named scope gs object && (is_known scope c (own ∷ gs) && is_known scope e (own ∷ gs))
is_known scope (reduced source by minus n) gs = is_known scope source gs
is_known scope always gs = true
is_known scope (compares l by r) gs = is_known scope l gs && is_known scope r gs
is_known scope (both l r) gs = is_known scope l gs && is_known scope r gs
is_known scope (negated c) gs = is_known scope c gs

-- no generator has an outermost name, or that of a generator round it
abbrev pub names_differ : Scope → Asked → (generators : List (List ℕ)) → Bool
names_differ scope (literal minus n) gs = true
names_differ scope (text bytes) gs = true
names_differ scope (name word) gs = true
names_differ scope (group e) gs = names_differ scope e gs
names_differ scope (product l r) gs = names_differ scope l gs && names_differ scope r gs
names_differ scope (sum l minus r) gs = names_differ scope l gs && names_differ scope r gs
names_differ scope (all_of word) gs = true
names_differ scope (each own object c e) gs =
    not (is_named scope gs own) && (names_differ scope c (own ∷ gs) && names_differ scope e (own ∷ gs))
names_differ scope (reduced source by minus n) gs = names_differ scope source gs
names_differ scope always gs = true
names_differ scope (compares l by r) gs = names_differ scope l gs && names_differ scope r gs
names_differ scope (both l r) gs = names_differ scope l gs && names_differ scope r gs
names_differ scope (negated c) gs = names_differ scope c gs

-- an integer or string variable
abbrev pub variable_kind : Meaning → Option ElemKind
variable_kind (a_type _) = None
variable_kind (an_object _ _) = None
variable_kind (a_cursor _ _) = None
variable_kind (a_value kind _) = Some kind
variable_kind a_task = None

-- the elements of a vector, list, map, set or tree
abbrev pub elements_kind : Meaning → Option ElemKind
elements_kind (a_type _) = None
elements_kind (an_object _ def) = if has_cursors def.kind then Some (element_of def) else None
elements_kind (a_cursor _ _) = None
elements_kind (a_value _ _) = None
elements_kind a_task = None

abbrev pub variable_in : Scope → List ℕ → Option ElemKind
variable_in scope word = option_and_then variable_kind (meaning_in scope word)

abbrev pub elements_in : Scope → List ℕ → Option ElemKind
elements_in scope word = option_and_then elements_kind (meaning_in scope word)

-- what a name in an expression stands for: a generator before a variable
abbrev pub name_kind : Scope → (generator : Option ElemKind) → List ℕ → Option ElemKind
name_kind scope (Some kind) word = Some kind
name_kind scope None word = variable_in scope word

-- the elements of what the name of an object stands for, which is none where it is a generator's
abbrev pub object_kind : Scope → (generator : Option ElemKind) → List ℕ → Option ElemKind
object_kind scope (Some _) word = None
object_kind scope None word = elements_in scope word

abbrev pub is_integer : Option Sort → Bool
is_integer (Some (sort.One kind)) = is_elem Integer kind
is_integer (Some (sort.Many _)) = false
is_integer (Some sort.Truth) = false
is_integer None = false

abbrev pub are_integers : Option Sort → Bool
are_integers (Some (sort.One _)) = false
are_integers (Some (sort.Many kind)) = is_elem Integer kind
are_integers (Some sort.Truth) = false
are_integers None = false

abbrev pub is_truth : Option Sort → Bool
is_truth (Some (sort.One _)) = false
is_truth (Some (sort.Many _)) = false
is_truth (Some sort.Truth) = true
is_truth None = false

-- both sides are values of one type
abbrev pub is_comparable : Option Sort → Option Sort → Bool
is_comparable (Some (sort.One kind)) (Some (sort.One other)) = is_elem kind other
is_comparable _ _ = false

abbrev pub sort_where : Bool → Sort → Option Sort
sort_where is found = if is then Some found else None

abbrev pub one_of : Option ElemKind → Option Sort
one_of kind = option_map sort.One kind

abbrev pub many_of : Option ElemKind → Option Sort
many_of kind = option_map sort.Many kind

-- of two operands of a sum or a product
abbrev pub number_sort : Option Sort → Option Sort → Option Sort
number_sort left right = sort_where (is_integer left && is_integer right) (sort.One Integer)

-- what an aggregate gives, by its condition and by one element of it
abbrev pub given_sort : (condition gives : Option Sort) → Option Sort
given_sort condition (Some (sort.One kind)) = sort_where (is_truth condition) (sort.Many kind)
given_sort condition _ = None

-- nothing where a type is wrong
abbrev pub sort_of : Scope → Asked → List (Generator ElemKind) → Option Sort
sort_of scope (literal minus n) gs = Some (sort.One Integer)
sort_of scope (text bytes) gs = Some (sort.One Str)
sort_of scope (name word) gs = one_of (name_kind scope (innermost gs word) word)
sort_of scope (group e) gs = sort_of scope e gs
sort_of scope (product l r) gs = number_sort (sort_of scope l gs) (sort_of scope r gs)
sort_of scope (sum l minus r) gs = number_sort (sort_of scope l gs) (sort_of scope r gs)
sort_of scope (all_of word) gs = many_of (object_kind scope (innermost gs word) word)
sort_of scope (each own object c e) gs =
    option_and_then (λ kind. given_sort (sort_of scope c (generator own kind ∷ gs)) (sort_of scope e (generator own kind ∷ gs)))
    (object_kind scope (innermost gs object) object)
sort_of scope (reduced source by minus n) gs = sort_where (are_integers (sort_of scope source gs)) (sort.One Integer)
sort_of scope always gs = Some sort.Truth
sort_of scope (compares l by r) gs = sort_where (is_comparable (sort_of scope l gs) (sort_of scope r gs)) sort.Truth
sort_of scope (both l r) gs = sort_where (is_truth (sort_of scope l gs) && is_truth (sort_of scope r gs)) sort.Truth
sort_of scope (negated c) gs = sort_where (is_truth (sort_of scope c gs)) sort.Truth

abbrev pub is_typed : Scope → Asked → Bool
is_typed scope q = is_some (sort_of scope q [])
