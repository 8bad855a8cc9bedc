-- A type's text is its words.
use Rattle.std.proofs.Common.{◌≡◌, ℕ, Bool, true, false, List, ◌++◌, Option, Some, None, refl}
use Rattle.std.specs.Prelude.{codes}
use Rattle.ac_syntax.specs.declared.kind.ElemKind.{ElemKind}
use Rattle.ac_syntax.specs.declared.kind.Kind.{Kind}
use Rattle.ac_syntax.specs.declared.type_def.TypeDef.{TypeDef}
use Rattle.ac_syntax.specs.Parts.{kind_word, elem_word}
use Rattle.ac_snapshot.specs.StateTexts.{type_text}
use Rattle.ac_snapshot.specs.TypeWords.{word_if, second_text}

abbrev pub type_words : TypeDef → List ℕ
type_words def =
    word_if def.bounded (codes "bounded ")
    ++ (kind_word def.kind ++ (codes " (" ++ (elem_word def.first ++ (second_text def.second ++ (codes ")" ++ word_if def.keyed (codes " keyed"))))))

told : (bounded : Bool) (kind : Kind) (first : ElemKind) (second : Option ElemKind) (keyed : Bool) →
    let def : TypeDef = record { bounded = bounded; kind = kind; first = first; second = second; keyed = keyed } in type_words def ≡ type_text def
told false kind first None false = refl
told false kind first None true = refl
told false kind first (Some second) false = refl
told false kind first (Some second) true = refl
told true kind first None false = refl
told true kind first None true = refl
told true kind first (Some second) false = refl
told true kind first (Some second) true = refl

pub word_by_word : (def : TypeDef) → type_words def ≡ type_text def
word_by_word def = told def.bounded def.kind def.first def.second def.keyed
