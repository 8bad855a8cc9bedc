use Rattle.std.proofs.Common.{◌≡◌, ◌+◌, ◌∷◌, [], Contains, get_or, length, ap, ◌∙◌, subst, inl, inr, arith}
use Rattle.std.proofs.lemmas.Bool.{cases_eq}
use Rattle.std.proofs.lemmas.List.Elements.{Contains-append_cases}
use Rattle.ac_base.specs.declared.name.Name.{Name}
use Rattle.ac_base.specs.Rows.{names}
use Rattle.ac_buckets.proofs.tests.fill.Goals as goal

pub add-requires-clause-absent : goal.add-requires-clause-absent
add-requires-clause-absent c = λ there. absurd (omega (arith, c.loop-slot.invariant.earlier _ there))

only_one : (n a : Name) → Contains (n ∷ []) a → n ≡ a
only_one n a h = elim (cases_eq h.0 0) [
  | inl at ↦ subst (λ k. get_or (n ∷ []) k a ≡ a) at h.2
  | inr off ↦ absurd (omega (arith, h.1))
]

pub loop-slot-preserved : goal.loop-slot-preserved
loop-slot-preserved c =
    let h = c.loop-slot.invariant in let e = c.add.ensures.added in let old = c.loop-slot.buckets in
    let n : Name = record { slot = c.loop-slot.slot; serial = c.from-number.result + 1 } in
    record {
      room = omega (arith, ap (λ b. b.spare) e, h.room, c.loop-slot-test.true);
      many = ap (λ b. length b.pairs) e ∙ omega (arith, h.many);
      earlier = λ a there. elim (Contains-append_cases (n ∷ []) (names old.pairs) a (subst (λ b. Contains (names b.pairs) a) e there)) [
        | inl one ↦ omega (arith, ap (λ (x : Name). x.slot) (only_one n a one))
        | inr before ↦ omega (arith, h.earlier a before)
      ];
    }
