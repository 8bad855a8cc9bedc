-- How resolved statements are told apart: each is kept as a tree of numbers that gives it back.
use Rattle.std.specs.Prelude.{◌≡◌, ℕ, ◌-◌, zero, suc, refl}
use Rattle.std.specs.Coded.{Coded, codes}
use Rattle.std.proofs.Common.{ap, sym}
use Rattle.std.proofs.Math.Nat.{suc-ne-zero}
use base.Stored.{Gv, gnil, gnum, gcons}
use Rattle.ac_rules.specs.Resolved.{ResolvedSimple, ResolvedHead, ResolvedCode, no_statement, a_command, a_block}

pub coded_command : Coded ResolvedSimple
coded_command = hlevel codes

pub coded_head : Coded ResolvedHead
coded_head = hlevel codes

abbrev code_to : ResolvedCode → Gv
code_to no_statement = gnil
code_to (a_command simple rest) = gcons (gnum 0) (gcons (coded_command.code simple) (code_to rest))
code_to (a_block head body rest) = gcons (gnum 1) (gcons (coded_head.code head) (gcons (code_to body) (code_to rest)))

abbrev first : Gv → Gv
first gnil = gnil
first (gnum n) = gnil
first (gcons a b) = a

abbrev second : Gv → Gv
second gnil = gnil
second (gnum n) = gnil
second (gcons a b) = b

-- 0 for the end, 1 for a command, 2 for a block
abbrev tag : Gv → ℕ
tag gnil = 0
tag (gnum n) = 0
tag (gcons gnil b) = 0
tag (gcons (gnum zero) b) = 1
tag (gcons (gnum (suc n)) b) = 2
tag (gcons (gcons a c) b) = 0

code_to_inj : (a b : ResolvedCode) → code_to a ≡ code_to b → a ≡ b
code_to_inj no_statement no_statement p = refl
code_to_inj no_statement (a_command _ _) p = absurd (suc-ne-zero 0 (sym (ap tag p)))
code_to_inj no_statement (a_block _ _ _) p = absurd (suc-ne-zero 1 (sym (ap tag p)))
code_to_inj (a_command _ _) no_statement p = absurd (suc-ne-zero 0 (ap tag p))
code_to_inj (a_command s rest) (a_command t others) p =
    λ i. a_command (coded_command.inj s t (ap (λ g. first (second g)) p) i) (code_to_inj rest others (ap (λ g. second (second g)) p) i)
code_to_inj (a_command _ _) (a_block _ _ _) p = absurd (suc-ne-zero 0 (sym (ap (λ g. tag g - 1) p)))
code_to_inj (a_block _ _ _) no_statement p = absurd (suc-ne-zero 1 (ap tag p))
code_to_inj (a_block _ _ _) (a_command _ _) p = absurd (suc-ne-zero 0 (ap (λ g. tag g - 1) p))
code_to_inj (a_block h body rest) (a_block k inner others) p =
    λ i. a_block (coded_head.inj h k (ap (λ g. first (second g)) p) i) (code_to_inj body inner (ap (λ g. first (second (second g))) p) i) (code_to_inj rest others (ap (λ g. second (second (second g))) p) i)

pub coded_resolved : Coded ResolvedCode
coded_resolved = record { code = code_to; inj = code_to_inj }
