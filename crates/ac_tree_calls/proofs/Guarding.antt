-- A guard that is held on a tree or released is one of the container that the tree is seen as.
use Rattle.std.proofs.Common.{◌≡◌, ◌<◌, ◌∙◌, ℕ, Bool, false, sym, ap, subst}
use Rattle.ac_base.specs.Guards.{GuardCounts, count_of, raised_kind}
use Rattle.ac_base.specs.declared.guard.GuardKind.{GuardKind}
use Rattle.ac_model.specs.Containers.{Container, guards_of, with_guards}

module _ {X V : Type 0} (seen : X → Container V) (guards : X → GuardCounts) (guards_seen : (x : X) → guards x ≡ guards_of (seen x)) where
  pub same_counts : (x : X) (o : Container V) → seen x ≡ o → guards x ≡ guards_of o
  same_counts x o is = guards_seen x ∙ ap guards_of is

  -- and so they are once they changed
  pub counts_changed : (given : X → GuardCounts → X) → ((x : X) (counts : GuardCounts) → seen (given x counts) ≡ with_guards (seen x) counts)
      → (change : GuardCounts → GuardCounts) (x now : X) (o : Container V) → seen x ≡ o → now ≡ given x (change (guards x))
      → seen now ≡ with_guards o (change (guards_of o))
  counts_changed given given_seen change x now o is h =
      ap seen h
      ∙ (given_seen x (change (guards x))
      ∙ (ap (λ (counts : GuardCounts). with_guards (seen x) (change counts)) (same_counts x o is)
      ∙ ap (λ (y : Container V). with_guards y (change (guards_of o))) is))

-- a tree is no set, so that a guard is of the kind that was asked for
pub may_hold : {most : ℕ} (kind : GuardKind) (is_set : Bool) (counts mine : GuardCounts) → is_set ≡ false → counts ≡ mine
    → count_of kind mine < most → count_of (raised_kind is_set kind) counts < most
may_hold {most} kind is_set counts mine no_set same h =
    subst (λ (b : Bool). count_of (raised_kind b kind) counts < most) (sym no_set) (subst (λ (k : GuardCounts). count_of kind k < most) (sym same) h)
