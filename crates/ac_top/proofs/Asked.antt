-- What clap finds in the words, and what its refusals say.
use Rattle.std.proofs.Common.{◌≡◌, ◌≢◌, ℕ, Bool, true, false, List, [], ◌∷◌, Option, Some, None, Result, Ok, Err, refl, sym, ap, codes, inl, inr, cond, ◌∙◌, IfOk, IfErr, ◌^◌, ◌-◌, arith}
use Rattle.std.specs.Prelude.{option_and_then}
use Rattle.std.specs.Option.{option_eq}
use Rattle.std.specs.Str.{bytes_eq}
use Rattle.std.specs.Str.Parse.{ParsesBool, ParsesUnsigned, digits_value, without_leading_plus}
use Rattle.std.proofs.lemmas.Slice.Eq.{bytes_eq-Decides}
use mathlib.Core.Bool.{beq}
use Rattle.clap.specs.Faults.{fault_of, is_simple_and_free}
use Rattle.clap.specs.Kinds.{Kinds, IsAmong, HasKind, FailsBy}
use Rattle.clap.specs.Matches.{ReadsOne}
use Rattle.clap.specs.ValueTests.{accepts}
use Rattle.clap.specs.Words.{App, Row, Text, HasMatchesOf, found_of, matches_of, rows_of, kind_of}
use Rattle.clap.specs.declared.builder.value_parser.ValueParser.TheVariants.{Unsigned}
use Rattle.clap.specs.declared.error.Error.{Error}
use Rattle.clap.specs.declared.error.kind.ErrorKind.{ErrorKind}
use Rattle.clap.specs.declared.error.kind.ErrorKind.TheVariants.{OutOfMemory}
use Rattle.clap.specs.declared.parser.matches.ArgMatches.{ArgMatches}
use Rattle.clap.proofs.OnLiterals.{clap_on_literals}
use Rattle.clap.proofs.ValueTestLemmas.{accepts-Accepts, Accepts-accepts}
use Rattle.clap.proofs.WalkLemmas.{both}
use Rattle.ac_top.specs.Words.{adacont, is_accepted, is_true, number_of_text, mode_by, asked_by}

pub adacont_is_simple : is_simple_and_free adacont ≡ true
unfolding adacont clap_on_literals
adacont_is_simple = refl

pub found_by : (app : App) (words : List Text) (r : Result ArgMatches Error) → app ≡ adacont
    → (is_simple_and_free app ≡ true → FailsBy (fault_of app words) r) → IfOk r (HasMatchesOf app words)
    → IfOk r (λ m. (fault_of adacont words ≡ []) × (rows_of (found_of m) ≡ matches_of adacont words))
found_by app words (Err e) is fails found = tt
found_by app words (Ok m) is fails found =
    let simple = ap is_simple_and_free is ∙ adacont_is_simple in
    (ap (λ a. fault_of a words) (sym is) ∙ fails simple, (found (both _ _ simple).0).0 ∙ ap (λ a. matches_of a words) is)

pub refused_by : (app : App) (words : List Text) (r : Result ArgMatches Error) → app ≡ adacont
    → (is_simple_and_free app ≡ true → FailsBy (fault_of app words) r) → IfErr r (HasKind (fault_of adacont words))
refused_by app words (Ok m) is fails = tt
refused_by app words (Err e) is fails = rw (sym is) (fails (ap is_simple_and_free is ∙ adacont_is_simple))

pub asked : (words : List Text) (rows : List Row) → fault_of adacont words ≡ [] → rows ≡ matches_of adacont words → asked_by words ≡ Some (mode_by rows)
unfolding asked_by
asked words rows none is = rw (none, is) refl

not_accepted : (kind : ErrorKind) (kinds : Kinds) → IsAmong kind kinds → is_accepted kinds ≡ false
not_accepted kind [] among = absurd among
not_accepted kind (k ∷ ks) among = refl

pub not_asked : (words : List Text) (e : Error) → HasKind (fault_of adacont words) e → kind_of e ≢ OutOfMemory → asked_by words ≡ None
unfolding asked_by
not_asked words e (inl memory) other = absurd (other memory)
not_asked words e (inr among) other = rw (not_accepted (kind_of e) (fault_of adacont words) among) refl

pub if_err_weaker : {T E : Type 0} (r : Result T E) (P Q : E → Type 0) → ((e : E) → P e → Q e) → IfErr r P → IfErr r Q
if_err_weaker (Ok x) P Q then h = tt
if_err_weaker (Err e) P Q then h = then e h

module _ (E : Type 0) where
  flag_of : (t : Text) (o : Option Bool) → ReadsOne (ParsesBool {E = E}) t o → option_eq beq o (Some true) ≡ bytes_eq t (codes "true")
  flag_of t (Some true) is = rw is refl
  flag_of t (Some false) is = rw is refl
  flag_of t None (e, other) = go (bytes_eq t (codes "true")) refl
    where
      go : (b : Bool) → bytes_eq t (codes "true") ≡ b → false ≡ b
      go true same = absurd (other.0 ((bytes_eq-Decides t (codes "true")).0 same))
      go false same = refl

  -- a flag, by the text that was found for it
  pub flag_read : (text : Option Text) (o : Option Bool) → (text ≡ None → o ≡ None) → ((t : Text) → text ≡ Some t → ReadsOne (ParsesBool {E = E}) t o)
      → option_eq beq o (Some true) ≡ is_true text
  flag_read None o none some = rw (none refl) refl
  flag_read (Some t) o none some = flag_of t o (some t refl)

module _ {E : Type 0} (Gives : Text → Result ℕ E → Type 0) (only : (t : Text) (r : Result ℕ E) → Gives t r → ParsesUnsigned 64 10 t r) where
  number_of : (t : Text) (o : Option ℕ) → ReadsOne Gives t o → o ≡ number_of_text t
  number_of t (Some n) given =
      let is = only t (Ok n) given in
      let taken = Accepts-accepts false (Unsigned 0 (2 ^ 64 - 1)) t (is.0.0, is.0.1, omega arith, omega (arith, is.0.1)) in
      rw (taken, is.1) refl
  number_of t None (e, given) = go (accepts false (Unsigned 0 (2 ^ 64 - 1)) t) refl
    where
      go : (b : Bool) → accepts false (Unsigned 0 (2 ^ 64 - 1)) t ≡ b → None ≡ cond b (Some (digits_value 10 (without_leading_plus t))) None
      go true same =
          let is = accepts-Accepts false (Unsigned 0 (2 ^ 64 - 1)) t same in
          absurd (only t (Err e) given (is.0, is.1))
      go false same = refl

  -- a number, by the text that was found for it
  pub number_read : (text : Option Text) (o : Option ℕ) → (text ≡ None → o ≡ None) → ((t : Text) → text ≡ Some t → ReadsOne Gives t o) → o ≡ option_and_then number_of_text text
  number_read None o none some = none refl
  number_read (Some t) o none some = number_of t o (some t refl)
