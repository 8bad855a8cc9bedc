-- What a command that keeps the rules takes as a value is one of the type that it asks.
use Rattle.std.proofs.Common.{◌≡◌, Bool, true, List, [], ◌∷◌, refl, ap, subst, ◌∙◌, option_map, Option, Some, None}
use Rattle.ac_syntax.specs.declared.arg.Arg.{Arg}
use Rattle.ac_syntax.specs.declared.arg.Arg.TheVariants.{Lit, NoElement, Var}
use Rattle.ac_syntax.specs.declared.kind.ElemKind.{ElemKind}
use Rattle.ac_syntax.specs.declared.kind.ElemKind.TheVariants.{Integer}
use Rattle.ac_rules.specs.declared.rows.Letter.{Letter}
use Rattle.ac_rules.specs.declared.rows.Letter.TheVariants as letter
use Rattle.ac_rules.specs.Operations.{operation_of}
use Rattle.ac_rules.specs.Resolved.{place_of, resolve_arg}
use Rattle.ac_rules.specs.Rules.{gives_value, given, is_value, takes, fits, fits_optional, all_fit, kind_of}
use Rattle.ac_rules.specs.Scopes.{a_value, Scope, Typed, meaning_in, object_of, element_of}
use Rattle.ac_rules.specs.Table.{Row}
use Rattle.ac_rules.proofs.Apart.{neither, and_parts}
use Rattle.ac_rules.proofs.Found.{call_kept}
use Rattle.ac_calls.specs.Holdings.{Guards}
use Rattle.ac_calls.specs.Replies.{value_argument}
use Rattle.ac_meaning.specs.Commands.{argument_in, argument}
use Rattle.ac_meaning.specs.Environment.{Bound, binds_value, binds_element, State, bound_at, element_in, value_in, value_at}
use Rattle.ac_meaning.specs.HoldsTypes.{Holds}
use Rattle.ac_meaning.specs.ValueTypes.{HoldsValues, ValuesFound, GivesValue, SuitsValue, LastSuitsValue, AllSuitValues, ValuesTaken}
use Rattle.ac_meaning.proofs.CommandsKeepTypes.{elem_same, named_value, named_is, from_is}
use Rattle.ac_meaning.proofs.HoldsLists.{types_found}
use Rattle.ac_meaning.proofs.StandingElements.{element_found}
use Rattle.ac_meaning.proofs.TaskIntegers.{tasks_take_integers}
use Rattle.ac_meaning.proofs.ValueHeads.{values_under}

module _ (scope : Scope) (guards : Guards) (e : State) (holds : HoldsValues scope guards e) where
  bound_gives : (element : ElemKind) (w : Bool) (b : Bound) → Holds scope (a_value element w) b → argument_in e b ≡ value_argument (value_in e b)
  bound_gives element w (binds_value v) h = refl
  bound_gives element w (binds_element p m) h = refl
  bound_gives element w _ h = absurd h

  value_given : (element : ElemKind) (arg : Arg) → is_value element (given scope arg) ≡ true → GivesValue element (argument e (resolve_arg scope arg))
  value_given element (Lit v) h = record { value = v; is = refl; type = elem_same element (kind_of v) h }
  value_given element NoElement h = neither h
  value_given element (Var name) h =
      let meant = named_value element (meaning_in scope name) h in
      let b = bound_at e (place_of scope name) in
      record {
        value = value_at e (place_of scope name);
        is = bound_gives element meant.0 b (types_found.names scope e name (a_value element meant.0) holds.types meant.1);
        type = named_is scope guards e holds name element meant.0 meant.1;
      }

  one_given : (typed : Typed) (l : Letter) (arg : Arg) → fits scope typed l arg ≡ true → SuitsValue scope e typed l arg
  one_given typed letter.Cursor arg h = tt
  one_given typed letter.CursorVariable arg h = tt
  one_given typed letter.Integer arg h = value_given Integer arg h
  one_given typed letter.Element arg h = value_given (element_of typed.def) arg h
  one_given typed letter.Key arg h = value_given typed.def.first arg h
  one_given typed letter.Object arg h = tt

  last_given : (typed : Typed) (optional : Option Letter) (args : List Arg) → fits_optional scope typed optional args ≡ true →
      LastSuitsValue scope e typed optional args
  last_given typed optional [] h = tt
  last_given typed None (arg ∷ args) h = neither h
  last_given typed (Some last) (arg ∷ []) h = one_given typed last arg h
  last_given typed (Some last) (arg ∷ next ∷ args) h = neither h

  all_given : (typed : Typed) (letters : List Letter) (optional : Option Letter) (args : List Arg) → all_fit scope typed letters optional args ≡ true →
      AllSuitValues scope e typed letters optional args
  all_given typed [] optional args h = last_given typed optional args h
  all_given typed (l ∷ letters) optional [] h = neither h
  all_given typed (l ∷ letters) optional (arg ∷ args) h =
      let here = and_parts (fits scope typed l arg) _ h in (one_given typed l arg here.0, all_given typed letters optional args here.1)

pub values_taken : ValuesTaken
values_taken = record {
  calls = λ scope guards e line target object word args holds kept.
      let call = call_kept scope (object_of scope object) target word args kept.typed in record {
        typed = call.object;
        row = call.row;
        means = ap (λ o. operation_of scope o target word args) call.is ∙ ap (option_map (λ (r : Row). r.operation)) call.found;
        arguments = all_given scope guards e holds call.object call.row.letters call.row.optional args call.fits;
      };
  sums = λ scope guards e line target from minus number holds kept.
      let meant = named_value Integer (meaning_in scope from) (and_parts (takes (meaning_in scope target) (gives_value Integer)) _ kept.typed).1 in
      named_is scope guards e holds from Integer meant.0 meant.1;
  sets = λ scope guards e line target from v element w holds kept said meant.
      from_is scope guards e holds from element v
      (and_parts w (is_value element (given scope from)) (subst (λ m. takes m (given scope from) ≡ true) meant kept.typed)).1 said;
  tasks = tasks_take_integers;
}

pub values_found : ValuesFound
values_found = record {
  values = λ scope guards e name element w holds meant. named_is scope guards e holds name element w meant;
  elements = λ scope guards e place object at holds is.
      let s = holds.elements place object at is in
      let v = element_found s.held at s.stands in
      (v.0, ap (λ o. element_in o at) s.there ∙ v.1);
  guarded = values_under;
}
