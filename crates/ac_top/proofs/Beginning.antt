-- Each script begins in one way on a state: all entries are matched, or one is the first that isn't.
use Rattle.std.proofs.Common.{◌≡◌, ◌⊎◌, ◌<◌, ◌≤◌, ◌+◌, inl, inr, ℕ, List, [], ◌∷◌, ◌++◌, length, get_or, refl, sym, ap, subst, ◌∙◌, arith, All}
use Rattle.std.proofs.Math.Seq.{get_or-append_seam}
use Rattle.std.proofs.lemmas.Bool.{cases_lt}
use Rattle.std.proofs.lemmas.List.{length-append, get_or_append_left}
use Rattle.ac_syntax.specs.declared.refusal.RefusalKind.{RefusalKind}
use Rattle.ac_syntax.specs.declared.script.Script.{Script}
use Rattle.ac_syntax.specs.Refusals.{Spells, IsFirstRefusal}
use Rattle.ac_syntax.proofs.OneRefusal.{spelled_or_refused}
use Rattle.ac_script.proofs.EachText.{each_text}
use Rattle.ac_script.proofs.Refusals.{spelled_once}
use Rattle.ac_calls.specs.declared.plains.Plain.{Plain}
use Rattle.ac_host.specs.Start.{start_of}
use Rattle.ac_meaning.specs.Environment.{State}
use Rattle.ac_plains.specs.Resumed.{IsMatched, IsMismatch}
use Rattle.ac_plains.proofs.Matching.{each_matched, unmatched_there}
use Rattle.ac_top.specs.Beginnings.{Beginning, begins, stops_at, BeginsAs, BeginsOf}

told : (s : List Plain) (script : Script) → All (IsMatched script (start_of script)) s ⊎ ((line : ℕ) × IsMismatch script (start_of script) s line) →
    (b : Beginning) × BeginsAs s script b
told s script (inl all) = (begins, all)
told s script (inr (line, m)) = (stops_at line, m)

pub each_of_script : (s : List Plain) (script : Script) → (b : Beginning) × BeginsAs s script b
each_of_script s script = told s script (each_matched script (start_of script) s)

-- of two places where the first unmatched entry may stand, neither is before the other
module _ (script : Script) (e : State) (s : List Plain) where
  not_before : (line other : ℕ) (m : IsMismatch script e s line) (n : IsMismatch script e s other) → length m.before < length n.before → ⊥
  not_before line other m n less =
      let at = length m.before in
      let here : get_or n.before at m.entry ≡ m.entry =
      sym (get_or_append_left n.before (n.entry ∷ n.later) m.entry at less) ∙ ap (λ xs. get_or xs at m.entry) (sym n.is ∙ m.is) ∙ get_or-append_seam m.before m.entry m.later m.entry in
      m.unmatched (subst (IsMatched script e) here (n.matched at m.entry less))

  same_place : (line other : ℕ) (m : IsMismatch script e s line) (n : IsMismatch script e s other) →
      (length m.before < length n.before) ⊎ (length n.before ≤ length m.before) → (length n.before < length m.before) ⊎ (length m.before ≤ length n.before) → line ≡ other
  same_place line other m n (inl less) k = absurd (not_before line other m n less)
  same_place line other m n (inr h) (inl less) = absurd (not_before other line n m less)
  same_place line other m n (inr h) (inr k) = omega (arith, h, k, m.counted, n.counted)

  one_line : (line other : ℕ) → IsMismatch script e s line → IsMismatch script e s other → line ≡ other
  one_line line other m n =
      same_place line other m n (cases_lt (length m.before) (length n.before)) (cases_lt (length n.before) (length m.before))

one_of_script : (s : List Plain) (script : Script) (a b : Beginning) → BeginsAs s script a → BeginsAs s script b → a ≡ b
one_of_script s script begins begins h k = refl
one_of_script s script begins (stops_at line) h k = absurd (k.unmatched (unmatched_there script (start_of script) s k.before k.entry k.later k.is h))
one_of_script s script (stops_at line) begins h k = absurd (h.unmatched (unmatched_there script (start_of script) s h.before h.entry h.later h.is k))
one_of_script s script (stops_at line) (stops_at other) h k = ap stops_at (one_line script (start_of script) s line other h k)

pub one_beginning : (s : List Plain) (script : Script) (a b : Beginning) → BeginsAs s script a → BeginsAs s script b → a ≡ b
one_beginning = one_of_script

-- the script that a text spells
pub begins_of : (s : List Plain) (text : List ℕ) (script : Script) (b : Beginning) → Spells script text → BeginsAs s script b → BeginsOf s text b
begins_of s text script b spells h =
    λ other spelled checked. subst (λ t. BeginsAs s t b) (sym (spelled_once text script other spells spelled)) h

by_text : (s : List Plain) (text : List ℕ) → ((script : Script) × Spells script text) ⊎ ((line : ℕ) × (kind : RefusalKind) × IsFirstRefusal text line kind)
    → (b : Beginning) × BeginsOf s text b
by_text s text (inl (script, spells)) = let b = each_of_script s script in (b.0, begins_of s text script b.0 spells b.1)
by_text s text (inr (line, kind, refused)) = (begins, λ script spells checked. absurd (spelled_or_refused script text line kind spells refused))

pub each_beginning : (s : List Plain) (text : List ℕ) → (b : Beginning) × BeginsOf s text b
each_beginning s text = by_text s text (each_text text)
