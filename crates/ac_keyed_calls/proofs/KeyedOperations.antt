-- What an operation comes to on a keyed set, and why an update is refused.
use Rattle.std.proofs.Common.{◌≡◌, ℕ, [], ◌∷◌, Option, refl, ap, ◌∙◌}
use Rattle.ac_base.specs.FirstReason.{first_reason, earlier}
use Rattle.ac_base.specs.declared.reason.Reason.{Reason}
use Rattle.ac_base.proofs.Earlier.{with_none_later}
use Rattle.ac_model.specs.Objects.{Object}
use Rattle.ac_syntax.specs.declared.operation.KeyedCall.{KeyedCall}
use Rattle.ac_syntax.specs.declared.operation.Operation.{Operation}
use Rattle.ac_syntax.specs.declared.operation.Operation.TheVariants as operation
use Rattle.ac_calls.specs.Elements.{Text, keyed_texts}
use Rattle.ac_calls.specs.Holdings.{RowKind, a_sequence, a_map, a_set, a_keyed_set, a_tree}
use Rattle.ac_calls.specs.KeyedReplies.{KeyedKind, of_hashed}
use Rattle.ac_calls.specs.KeyedSetReplies.{keyed_set_reply}
use Rattle.ac_calls.specs.Replies.{Arguments, Source}
use Rattle.ac_calls.specs.SetReplies.{set_reply}

-- but for the calls by key it is what it comes to on a set
pub not_by_key : (o : Object ℕ Text) (source : Source (Object ℕ Text)) (args : Arguments) (which : KeyedKind) (op : Operation)
    → ((c : KeyedCall) → op ≡ operation.Keyed c → ⊥) → keyed_set_reply o source args which op ≡ set_reply keyed_texts o source args which op
not_by_key o source args which (operation.Keyed c) none = absurd (none c refl)
not_by_key o source args which _ none = refl

-- which of its two a kind of maps or sets is
abbrev pub keyed_in : RowKind → KeyedKind
keyed_in (a_sequence which e) = of_hashed
keyed_in (a_map which k e) = which
keyed_in (a_set which e) = which
keyed_in (a_keyed_set which) = which
keyed_in (a_tree e) = of_hashed

-- the first of two reasons, of which the second is looked for alone
pub looked_for_alone : (tampers missing : Option Reason) {result tampering refused : Option Reason} → result ≡ first_reason (tampering ∷ refused ∷ [])
    → tampering ≡ tampers → refused ≡ first_reason (missing ∷ []) → result ≡ first_reason (tampers ∷ missing ∷ [])
looked_for_alone tampers missing is tampering_is refused_is =
    is ∙ ((λ i. first_reason (tampering_is i ∷ refused_is i ∷ [])) ∙ ap (earlier tampers) (with_none_later (first_reason (missing ∷ []))))
