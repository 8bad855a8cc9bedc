-- What a reply reads by the letters of its call: the parts.
use Rattle.std.proofs.Common.{◌≡◌, ◌==◌, ℕ, Bool, true, false, List, refl, ap, Option, Some, None, if◌then◌else◌}
use Rattle.ac_base.specs.declared.value.Value.{Value}
use Rattle.ac_model.specs.Letters.{Mark}
use Rattle.ac_model.specs.Objects.{Object}
use Rattle.ac_syntax.specs.declared.kind.ElemKind.{ElemKind}
use Rattle.ac_syntax.specs.declared.kind.ElemKind.TheVariants.{Integer, Str}
use Rattle.ac_rules.specs.declared.rows.Letter.{Letter}
use Rattle.ac_calls.specs.Elements.{Tools, ElementOf, tools_of}
use Rattle.ac_calls.specs.Replies.{Arguments, arguments_seen, Source, itself, another, by_source, source_in}
use Rattle.ac_meaning.specs.ReadsByLetter.{value_read, arguments_read, source_read}

-- a reply, as a function of the source and of the arguments as its object sees them, is that on what the letters read
abbrev pub Reads : {V R : Type 0} (key element : ElemKind) (letters : List Letter) (see : Object ℕ V → Mark → Mark) (o : Object ℕ V)
    (given : Option (Object ℕ V)) (args : Arguments) → (Source (Object ℕ V) → Arguments → R) → Type 0
Reads key element letters see o given args reply =
    let read = arguments_read key element letters args in
    reply (source_in see o given args) (arguments_seen (see o) args)
    ≡ reply (source_in see o (source_read letters given) read) (arguments_seen (see o) read)

-- these tools find the same element in what is read of a value
abbrev pub ReadsSame : (e : ElemKind) → Tools (ElementOf e) → Type 0
ReadsSame e tools = (v : Value) → tools.from_value v ≡ tools.from_value (value_read e v)

pub reads_same : (e : ElemKind) → ReadsSame e (tools_of e)
reads_same Integer v = refl
reads_same Str v = refl

by_test : {S R : Type 0} (is_own : Bool) (s : S) (a b : Arguments) (own : R) (two other : S → Arguments → R) → two s a ≡ other s b →
    by_source (if is_own then itself else another s a) own two ≡ by_source (if is_own then itself else another s b) own other
by_test true s a b own two other h = refl
by_test false s a b own two other h = h

-- with an object of its kind among the arguments
pub source_reads : {V R : Type 0} (see : Object ℕ V → Mark → Mark) (o : Object ℕ V) (given : Option (Object ℕ V)) (a b : Arguments) (own : R)
    (two other : Object ℕ V → Arguments → R) → ((s : Object ℕ V) → two s (arguments_seen (see s) a) ≡ other s (arguments_seen (see s) b)) →
    by_source (source_in see o given a) own two ≡ by_source (source_in see o given b) own other
source_reads see o None a b own two other h = refl
source_reads see o (Some s) a b own two other h =
    by_test (o.number == s.number) s (arguments_seen (see s) a) (arguments_seen (see s) b) own two other (h s)

-- and where it is only looked at
pub other_reads : {V R : Type 0} (see : Object ℕ V → Mark → Mark) (o : Object ℕ V) (given : Option (Object ℕ V)) (a b : Arguments)
    (reply : Object ℕ V → R) →
    reply (by_source (source_in see o given a) o (λ s _. s)) ≡ reply (by_source (source_in see o given b) o (λ s _. s))
other_reads see o given a b reply = ap reply (source_reads see o given a b o (λ s _. s) (λ s _. s) (λ s. refl))
