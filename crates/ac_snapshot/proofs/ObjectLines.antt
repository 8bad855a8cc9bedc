-- The line of an object is written part by part.
use Rattle.std.proofs.Common.{◌≡◌, ℕ, List, [], ◌∷◌, ◌++◌, Option, sym, ap, ◌∙◌, append_assoc}
use Rattle.std.specs.Prelude.{codes}
use Rattle.ac_syntax.specs.declared.type_def.TypeDef.{TypeDef}
use Rattle.ac_calls.specs.declared.plains.Plain.TheVariants as plain
use Rattle.ac_calls.specs.declared.plains.PlainRow.{PlainRow}
use Rattle.ac_snapshot.specs.StateTexts.{line_text, number_text, type_text, rows_text, entry_text}

then_more : (before one more : List ℕ) {now later : List ℕ} → now ≡ before ++ one → later ≡ now ++ more → later ≡ before ++ (one ++ more)
then_more before one more first second = second ∙ ap (λ text. text ++ more) first ∙ append_assoc before one more

module _ (name types first second third rows : List ℕ) where
  abbrev numbers : List ℕ
  numbers = first ++ (second ++ third)

  -- all behind the numbers
  abbrev end : List ℕ
  end = 32 ∷ (rows ++ 10 ∷ [])

  abbrev held : List ℕ
  held = types ++ (first ++ (second ++ (third ++ 32 ∷ rows)))

  held_ends : types ++ (numbers ++ end) ≡ held ++ 10 ∷ []
  held_ends =
      ap (λ more. types ++ more) (append_assoc first (second ++ third) end ∙ ap (λ more. first ++ more) (append_assoc second third end))
      ∙ sym (
      append_assoc types (first ++ (second ++ (third ++ 32 ∷ rows))) (10 ∷ [])
      ∙ ap (λ more. types ++ more) (
      append_assoc first (second ++ (third ++ 32 ∷ rows)) (10 ∷ [])
      ∙ ap (λ more. first ++ more) (
      append_assoc second (third ++ 32 ∷ rows) (10 ∷ [])
      ∙ ap (λ more. second ++ more) (append_assoc third (32 ∷ rows) (10 ∷ []))
      )
      )
      )

  line_whole : (word : List ℕ) →
      (((((word ++ 32 ∷ (name ++ 32 ∷ [])) ++ types) ++ numbers) ++ 32 ∷ []) ++ rows) ++ 10 ∷ [] ≡ line_text word name held
  line_whole word =
      let head = word ++ 32 ∷ (name ++ 32 ∷ []) in
      append_assoc (((head ++ types) ++ numbers) ++ 32 ∷ []) rows (10 ∷ [])
      ∙ append_assoc ((head ++ types) ++ numbers) (32 ∷ []) (rows ++ 10 ∷ [])
      ∙ append_assoc (head ++ types) numbers end
      ∙ append_assoc head types (numbers ++ end)
      ∙ ap (λ more. head ++ more) held_ends
      ∙ append_assoc word (32 ∷ (name ++ 32 ∷ [])) (held ++ 10 ∷ [])
      ∙ ap (λ more. word ++ 32 ∷ more) (append_assoc name (32 ∷ []) (held ++ 10 ∷ []))

pub object_written : (before : List ℕ) {named typed counted spaced listed ended : List ℕ} (name : List ℕ) (def : TypeDef) (limit capacity peak : Option ℕ) (rows made : List PlainRow) →
    named ≡ before ++ (codes "object" ++ 32 ∷ (name ++ 32 ∷ [])) → typed ≡ named ++ type_text def →
    counted ≡ typed ++ (number_text (codes "limit") limit ++ (number_text (codes "capacity") capacity ++ number_text (codes "peak") peak)) →
    spaced ≡ counted ++ 32 ∷ [] → listed ≡ spaced ++ rows_text def.kind made → made ≡ rows → ended ≡ listed ++ 10 ∷ [] →
    ended ≡ before ++ entry_text (plain.Object name def limit capacity peak rows)
object_written before {spaced = spaced} name def limit capacity peak rows made n t c s l is e =
    then_more before _ _ (then_more before _ _ (then_more before _ _ (then_more before _ _ (then_more before _ _ n t) c) s) (l ∙ ap (λ items. spaced ++ rows_text def.kind items) is)) e
    ∙ ap (λ text. before ++ text)
    (line_whole name (type_text def) (number_text (codes "limit") limit) (number_text (codes "capacity") capacity) (number_text (codes "peak") peak)
    (rows_text def.kind rows) (codes "object"))
