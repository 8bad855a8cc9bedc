-- What texts of valid states are read as, and texts that end within a line.
use Rattle.std.proofs.Common.{ℕ, List, [], ◌∷◌, ◌++◌, refl, sym, subst}
use Rattle.std.specs.Prelude.{codes}
use Rattle.std.specs.List.{Contains}
use Rattle.std.proofs.lemmas.List.Elements.{Contains-push, Contains-append_left, Contains-append_right}
use Rattle.ac_base.specs.declared.value.Value.TheVariants as value
use Rattle.ac_syntax.specs.Canonical.{literal_text}
use Rattle.ac_calls.specs.declared.plains.Plain.{Plain}
use Rattle.ac_calls.specs.declared.plains.Plain.TheVariants as plain
use Rattle.ac_snapshot.specs.StateReading.{GoesOn, whole, refused}
use Rattle.ac_snapshot.specs.StateTexts.{line_text, object_text, entry_text}
use Rattle.ac_snapshot.specs.ReadingLaws.{ReadsWritten, RefusesUnended}

-- an entry's text has an LF

line_ends : (word name held : List ℕ) → Contains (line_text word name held) 10
line_ends word name held =
    Contains-append_right word (32 ∷ (name ++ 32 ∷ (held ++ 10 ∷ []))) 10
    (Contains-append_right (32 ∷ []) (name ++ 32 ∷ (held ++ 10 ∷ [])) 10
    (Contains-append_right name (32 ∷ (held ++ 10 ∷ [])) 10
    (Contains-append_right (32 ∷ []) (held ++ 10 ∷ []) 10 (Contains-push held 10))))

pub entry_ends : (e : Plain) → Contains (entry_text e) 10
entry_ends (plain.Int name z) = line_ends (codes "integer") name (literal_text (value.Int z))
entry_ends (plain.Str name bytes) = line_ends (codes "string") name (literal_text (value.Text bytes))
entry_ends (plain.Object name def limit capacity peak rows) = line_ends (codes "object") name (object_text def limit capacity peak rows)

pub unended : (s : List Plain) (rest : List ℕ) → (Contains rest 10 → ⊥) → GoesOn s rest → ⊥
unended s rest none on =
    none (subst (λ bytes. Contains bytes 10) (sym on.is) (Contains-append_left (entry_text on.next) on.later 10 (entry_ends on.next)))

pub reads_written : ReadsWritten
reads_written s valid = whole s valid refl

pub refuses_unended : RefusesUnended
refuses_unended s rest valid some none = refused s rest valid refl some (unended s rest none)
