-- Rows of one kind with the same word ask for other arguments, so a call is one of them at most.
use Rattle.std.proofs.Common.{◌≡◌, ◌&&◌, ◌||◌, ℕ, Bool, true, false, not, List, [], ◌∷◌, option_and_then, Option, Some, None, refl, sym, ap, ◌∙◌, true≢false}
use Rattle.std.specs.List.{list_all}
use Rattle.std.specs.Str.{bytes_eq}
use Rattle.std.proofs.lemmas.Slice.Eq.{bytes_eq-Decides}
use Rattle.ac_syntax.specs.declared.arg.Arg.{Arg}
use Rattle.ac_syntax.specs.declared.arg.Arg.TheVariants.{Lit, NoElement, Var}
use Rattle.ac_syntax.specs.declared.kind.ElemKind.{ElemKind}
use Rattle.ac_syntax.specs.declared.kind.ElemKind.TheVariants.{Integer}
use Rattle.ac_rules.specs.declared.rows.Letter.{Letter}
use Rattle.ac_rules.specs.declared.rows.Letter.TheVariants as letter
use Rattle.ac_rules.specs.Table.{Row}
use Rattle.ac_rules.specs.Scopes.{Meaning, a_type, an_object, a_cursor, a_value, a_task, Scope, meaning_in, object_in, Typed, element_of}
use Rattle.ac_rules.specs.Rules.{Given, gives_value, gives_cursor, gives_no_element, gives_nothing, given_in, given, is_value, is_cursor, is_variable_of, is_typed, fits, fits_optional, all_fit, answered, takes_answer, is_row}

pub neither : {X : Type 0} → false ≡ true → X
neither h = absurd (true≢false (sym h))

pub and_parts : (a b : Bool) → (a && b) ≡ true → (a ≡ true) × (b ≡ true)
and_parts true b h = (refl, h)
and_parts false b h = neither h

-- what an argument can be: a cursor, a value, or what can't be assigned, as an object
pub data Sort : Type 0 where
  cursors : Sort
  values : Sort
  objects : Sort

abbrev sort_of : Letter → Sort
sort_of letter.Cursor = cursors
sort_of letter.CursorVariable = cursors
sort_of letter.Integer = values
sort_of letter.Element = values
sort_of letter.Key = values
sort_of letter.Object = objects

abbrev sort_given : Given → Sort
sort_given (gives_value _) = values
sort_given (gives_cursor _) = cursors
sort_given gives_no_element = cursors
sort_given gives_nothing = objects

cursor_sort : (type : List ℕ) (g : Given) → is_cursor type g ≡ true → sort_given g ≡ cursors
cursor_sort type (gives_value _) h = neither h
cursor_sort type (gives_cursor _) h = refl
cursor_sort type gives_no_element h = refl
cursor_sort type gives_nothing h = neither h

value_sort : (elem : ElemKind) (g : Given) → is_value elem g ≡ true → sort_given g ≡ values
value_sort elem (gives_value _) h = refl
value_sort elem (gives_cursor _) h = neither h
value_sort elem gives_no_element h = neither h
value_sort elem gives_nothing h = neither h

variable_sort : (type : List ℕ) (m : Option Meaning) → is_variable_of type m ≡ true → sort_given (given_in m) ≡ cursors
variable_sort type None h = neither h
variable_sort type (Some (a_type _)) h = neither h
variable_sort type (Some (an_object _ _)) h = neither h
variable_sort type (Some (a_cursor _ _)) h = refl
variable_sort type (Some (a_value _ _)) h = neither h
variable_sort type (Some a_task) h = neither h

object_sort : (type : List ℕ) (m : Option Meaning) → is_typed type (option_and_then object_in m) ≡ true → sort_given (given_in m) ≡ objects
object_sort type None h = neither h
object_sort type (Some (a_type _)) h = neither h
object_sort type (Some (an_object _ _)) h = refl
object_sort type (Some (a_cursor _ _)) h = neither h
object_sort type (Some (a_value _ _)) h = neither h
object_sort type (Some a_task) h = neither h

abbrev same_sort : Sort → Sort → Bool
same_sort cursors cursors = true
same_sort cursors values = false
same_sort cursors objects = false
same_sort values cursors = false
same_sort values values = true
same_sort values objects = false
same_sort objects cursors = false
same_sort objects values = false
same_sort objects objects = true

-- no argument is what both letters ask
abbrev never_both : Letter → Letter → Bool
never_both a b = not (same_sort (sort_of a) (sort_of b))

abbrev is_empty : List Letter → Bool
is_empty [] = true
is_empty (_ ∷ _) = false

-- the same of letters, of which one list has but this one more, which may be left out
abbrev one_apart : Option Letter → Letter → List Letter → Bool
one_apart None b others = true
one_apart (Some a) b others = never_both a b || not (is_empty others)

-- no arguments are what both lists of letters ask
abbrev letters_apart : List Letter → Option Letter → List Letter → Option Letter → Bool
letters_apart [] last [] other = false
letters_apart [] last (b ∷ others) other = one_apart last b others
letters_apart (a ∷ more) last [] other = one_apart other a more
letters_apart (a ∷ more) last (b ∷ others) other = never_both a b || letters_apart more last others other

-- one call is never both rows
abbrev pub row_apart : Row → Row → Bool
row_apart row other = not (bytes_eq row.word other.word) || letters_apart row.letters row.optional other.letters other.optional

abbrev pub rows_apart : List Row → Bool
rows_apart [] = true
rows_apart (row ∷ rows) = list_all (row_apart row) rows && rows_apart rows

same_self : (a : Sort) → same_sort a a ≡ true
same_self cursors = refl
same_self values = refl
same_self objects = refl

module _ (scope : Scope) (typed : Typed) where
  fits_sort : (l : Letter) (arg : Arg) → fits scope typed l arg ≡ true → sort_given (given scope arg) ≡ sort_of l
  fits_sort letter.Cursor arg h = cursor_sort typed.type (given scope arg) h
  fits_sort letter.CursorVariable (Lit _) h = neither h
  fits_sort letter.CursorVariable NoElement h = neither h
  fits_sort letter.CursorVariable (Var name) h = variable_sort typed.type (meaning_in scope name) h
  fits_sort letter.Integer arg h = value_sort Integer (given scope arg) h
  fits_sort letter.Element arg h = value_sort (element_of typed.def) (given scope arg) h
  fits_sort letter.Key arg h = value_sort typed.def.first (given scope arg) h
  fits_sort letter.Object (Lit _) h = neither h
  fits_sort letter.Object NoElement h = neither h
  fits_sort letter.Object (Var name) h = object_sort typed.type (meaning_in scope name) h

  both_fit : {X : Type 0} (a b : Letter) (arg : Arg) → never_both a b ≡ true → fits scope typed a arg ≡ true → fits scope typed b arg ≡ true → X
  both_fit a b arg apart f g =
      let same : sort_of a ≡ sort_of b = sym (fits_sort a arg f) ∙ fits_sort b arg g in
      neither (ap not (sym (ap (λ s. same_sort (sort_of a) s) (sym same) ∙ same_self (sort_of a))) ∙ apart)

  either_apart : {X : Type 0} (a b : Letter) (arg : Arg) (further : Bool) → (never_both a b || further) ≡ true
      → fits scope typed a arg ≡ true → fits scope typed b arg ≡ true → (further ≡ true → X) → X
  either_apart {X} a b arg further apart f g then = by (never_both a b) refl apart
    where
      by : (t : Bool) → never_both a b ≡ t → (t || further) ≡ true → X
      by true e h = both_fit a b arg e f g
      by false e h = then h

  one_both : {X : Type 0} (last : Option Letter) (b : Letter) (others : List Letter) (other : Option Letter) (args : List Arg) → one_apart last b others ≡ true
      → fits_optional scope typed last args ≡ true → all_fit scope typed (b ∷ others) other args ≡ true → X
  one_both last b others other [] apart f g = neither g
  one_both None b others other (arg ∷ args) apart f g = neither f
  one_both (Some a) b others other (arg ∷ next ∷ args) apart f g = neither f
  one_both (Some a) b [] other (arg ∷ []) apart f g =
      either_apart a b arg false apart f (and_parts (fits scope typed b arg) true g).0 neither
  one_both (Some a) b (c ∷ others) other (arg ∷ []) apart f g = neither (and_parts (fits scope typed b arg) false g).1

  letters_both : {X : Type 0} (letters : List Letter) (last : Option Letter) (others : List Letter) (other : Option Letter) (args : List Arg)
      → letters_apart letters last others other ≡ true
      → all_fit scope typed letters last args ≡ true → all_fit scope typed others other args ≡ true → X
  letters_both [] last [] other args apart f g = neither apart
  letters_both [] last (b ∷ others) other args apart f g = one_both last b others other args apart f g
  letters_both (a ∷ more) last [] other args apart f g = one_both other a more last args apart g f
  letters_both (a ∷ more) last (b ∷ others) other [] apart f g = neither f
  letters_both (a ∷ more) last (b ∷ others) other (arg ∷ args) apart f g =
      let first = and_parts (fits scope typed a arg) (all_fit scope typed more last args) f in
      let second = and_parts (fits scope typed b arg) (all_fit scope typed others other args) g in
      either_apart a b arg (letters_apart more last others other) apart first.0 second.0
      (λ rest. letters_both more last others other args rest first.1 second.1)

  module _ (target : Option (List ℕ)) (word : List ℕ) (args : List Arg) where
    -- what a call's row has
    pub row_parts : (row : Row) → is_row scope typed target word args row ≡ true
        → (row.word ≡ word) × (all_fit scope typed row.letters row.optional args ≡ true) × (takes_answer scope target (answered typed row.answer) ≡ true)
    row_parts row h =
        let fit = all_fit scope typed row.letters row.optional args in
        let taken = takes_answer scope target (answered typed row.answer) in
        let parts = and_parts (bytes_eq row.word word) (fit && taken) h in
        let more = and_parts fit taken parts.1 in
        ((bytes_eq-Decides row.word word).0 parts.0, more.0, more.1)

    pub rows_both : {X : Type 0} (row other : Row) → row_apart row other ≡ true
        → is_row scope typed target word args row ≡ true → is_row scope typed target word args other ≡ true → X
    rows_both {X} row other apart f g = by (bytes_eq row.word other.word) ((bytes_eq-Decides row.word other.word).1 (first.0 ∙ sym second.0)) apart
      where
        first : (row.word ≡ word) × (all_fit scope typed row.letters row.optional args ≡ true) × (takes_answer scope target (answered typed row.answer) ≡ true)
        first = row_parts row f

        second : (other.word ≡ word) × (all_fit scope typed other.letters other.optional args ≡ true) × (takes_answer scope target (answered typed other.answer) ≡ true)
        second = row_parts other g

        by : (same : Bool) → same ≡ true → (not same || letters_apart row.letters row.optional other.letters other.optional) ≡ true → X
        by true e h = letters_both row.letters row.optional other.letters other.optional args h first.1 second.1
        by false e h = neither e
