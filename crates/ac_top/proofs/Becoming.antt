-- What becomes of a question's text: one thing at each script's outermost scope.
use Rattle.std.proofs.Common.{◌≡◌, ◌⊎◌, inl, inr, ℕ, List, Option, Some, None, refl, sym, ap, subst, ◌∙◌}
use Rattle.ac_syntax.specs.declared.refusal.RefusalKind.{RefusalKind}
use Rattle.ac_syntax.specs.declared.script.Script.{Script}
use Rattle.ac_syntax.specs.Refusals.{Spells, IsFirstRefusal}
use Rattle.ac_syntax.proofs.OneRefusal.{spelled_or_refused}
use Rattle.ac_script.proofs.EachText.{each_text}
use Rattle.ac_script.proofs.Refusals.{spelled_once}
use Rattle.ac_aggregate.specs.Asked.{Asked}
use Rattle.ac_aggregate.specs.Refusals.{IsRefused, IsTaken, outermost}
use Rattle.ac_aggregate.proofs.Asking.{not_both, one_kind}
use Rattle.ac_aggregate.proofs.EachText.{each_word}
use Rattle.ac_aggregate.proofs.OneQuestion.{asks_one}
use Rattle.ac_top.specs.Asks.{Asking, unasked, refuses, asks, Becomes, BecomesOf}

judged : (word : List ℕ) (script : Script) →
    ((kind : RefusalKind) × IsRefused (outermost script.decls) word kind) ⊎ ((q : Asked) × IsTaken (outermost script.decls) word q) →
    (asking : Asking) × Becomes (Some word) script asking
judged word script (inl refused) = (refuses refused.0, refused.1)
judged word script (inr taken) = (asks taken.0, taken.1)

pub each_becoming : (word : Option (List ℕ)) (script : Script) → (asking : Asking) × Becomes word script asking
each_becoming None script = (unasked, refl)
each_becoming (Some word) script = judged word script (each_word (outermost script.decls) word)

one_of_text : (word : List ℕ) (script : Script) (asking other : Asking) → Becomes (Some word) script asking → Becomes (Some word) script other → asking ≡ other
one_of_text word script unasked other h k = absurd h
one_of_text word script (refuses kind) unasked h k = absurd k
one_of_text word script (refuses kind) (refuses another) h k = ap refuses (one_kind (outermost script.decls) word kind another h k)
one_of_text word script (refuses kind) (asks q) h k = absurd (not_both (outermost script.decls) word q kind k h)
one_of_text word script (asks q) unasked h k = absurd k
one_of_text word script (asks q) (refuses kind) h k = absurd (not_both (outermost script.decls) word q kind h k)
one_of_text word script (asks q) (asks p) h k = ap asks (asks_one word q p h.asks k.asks)

pub one_becoming : (word : Option (List ℕ)) (script : Script) (asking other : Asking) → Becomes word script asking → Becomes word script other → asking ≡ other
one_becoming None script asking other h k = h ∙ sym k
one_becoming (Some word) script asking other h k = one_of_text word script asking other h k

-- at the outermost scope of the script that an input spells
pub becomes_of : (word : Option (List ℕ)) (input : List ℕ) (script : Script) (asking : Asking) → Spells script input → Becomes word script asking → BecomesOf word input asking
becomes_of word input script asking spells h =
    λ other spelled checked. subst (λ s. Becomes word s asking) (sym (spelled_once input script other spells spelled)) h

by_text : (word : Option (List ℕ)) (input : List ℕ) → ((script : Script) × Spells script input) ⊎ ((line : ℕ) × (kind : RefusalKind) × IsFirstRefusal input line kind)
    → (asking : Asking) × BecomesOf word input asking
by_text word input (inl (script, spells)) =
    let a = each_becoming word script in
    (a.0, becomes_of word input script a.0 spells a.1)
by_text word input (inr (line, kind, refused)) = (unasked, λ script spells checked. absurd (spelled_or_refused script input line kind spells refused))

pub each_asking : (word : Option (List ℕ)) (input : List ℕ) → (asking : Asking) × BecomesOf word input asking
each_asking word input = by_text word input (each_text input)
