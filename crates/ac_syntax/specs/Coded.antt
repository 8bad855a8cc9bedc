-- How statements are told apart: each is kept as a tree of numbers that gives it back.
use Rattle.std.specs.Prelude.{◌≡◌, ℕ, ◌-◌, suc, Option, refl}
use Rattle.std.specs.Coded.{Coded, codes}
use Rattle.std.proofs.Common.{ap, sym}
use Rattle.std.proofs.Math.Nat.{suc-ne-zero}
use base.Stored.{Gv, gnil, gnum, gcons}
use Rattle.ac_base.specs.declared.reason.Exception.{Exception}
use Rattle.ac_syntax.specs.Code.{Simple, Head, Code, stop, one, block, handled, HandlerCode, no_handler, handler}

pub coded_simple : Coded Simple
coded_simple = hlevel codes

pub coded_head : Coded Head
coded_head = hlevel codes

coded_catches : Coded (Option Exception)
coded_catches = hlevel codes

coded_line : Coded ℕ
coded_line = hlevel codes

abbrev mutual
  code_to : Code → Gv
  code_to stop = gnil
  code_to (one simple rest) = gcons (gnum 0) (gcons (coded_simple.code simple) (code_to rest))
  code_to (block head body rest) = gcons (gnum 1) (gcons (coded_head.code head) (gcons (code_to body) (code_to rest)))
  code_to (handled line body handlers rest) = gcons (gnum 2) (gcons (coded_line.code line) (gcons (code_to body) (gcons (handlers_to handlers) (code_to rest))))

  handlers_to : HandlerCode → Gv
  handlers_to no_handler = gnil
  handlers_to (handler line catches body more) = gcons (coded_line.code line) (gcons (coded_catches.code catches) (gcons (code_to body) (handlers_to more)))

abbrev first : Gv → Gv
first gnil = gnil
first (gnum n) = gnil
first (gcons a b) = a

abbrev second : Gv → Gv
second gnil = gnil
second (gnum n) = gnil
second (gcons a b) = b

-- 0 for the end, and for anything else one more than the number in front
abbrev tag : Gv → ℕ
tag gnil = 0
tag (gnum n) = 0
tag (gcons gnil b) = 0
tag (gcons (gnum n) b) = suc n
tag (gcons (gcons a c) b) = 0

-- 0 for no handler
abbrev some_tag : Gv → ℕ
some_tag gnil = 0
some_tag (gnum n) = 0
some_tag (gcons a b) = 1

mutual
  code_to_inj : (a b : Code) → code_to a ≡ code_to b → a ≡ b
  code_to_inj stop stop p = refl
  code_to_inj stop (one _ _) p = absurd (suc-ne-zero 0 (sym (ap tag p)))
  code_to_inj stop (block _ _ _) p = absurd (suc-ne-zero 1 (sym (ap tag p)))
  code_to_inj stop (handled _ _ _ _) p = absurd (suc-ne-zero 2 (sym (ap tag p)))
  code_to_inj (one _ _) stop p = absurd (suc-ne-zero 0 (ap tag p))
  code_to_inj (one s rest) (one t others) p =
      λ i. one (coded_simple.inj s t (ap (λ g. first (second g)) p) i) (code_to_inj rest others (ap (λ g. second (second g)) p) i)
  code_to_inj (one _ _) (block _ _ _) p = absurd (suc-ne-zero 0 (sym (ap (λ g. tag g - 1) p)))
  code_to_inj (one _ _) (handled _ _ _ _) p = absurd (suc-ne-zero 1 (sym (ap (λ g. tag g - 1) p)))
  code_to_inj (block _ _ _) stop p = absurd (suc-ne-zero 1 (ap tag p))
  code_to_inj (block _ _ _) (one _ _) p = absurd (suc-ne-zero 0 (ap (λ g. tag g - 1) p))
  code_to_inj (block h body rest) (block k inner others) p =
      λ i. block (coded_head.inj h k (ap (λ g. first (second g)) p) i) (code_to_inj body inner (ap (λ g. first (second (second g))) p) i) (code_to_inj rest others (ap (λ g. second (second (second g))) p) i)
  code_to_inj (block _ _ _) (handled _ _ _ _) p = absurd (suc-ne-zero 0 (sym (ap (λ g. tag g - 2) p)))
  code_to_inj (handled _ _ _ _) stop p = absurd (suc-ne-zero 2 (ap tag p))
  code_to_inj (handled _ _ _ _) (one _ _) p = absurd (suc-ne-zero 1 (ap (λ g. tag g - 1) p))
  code_to_inj (handled _ _ _ _) (block _ _ _) p = absurd (suc-ne-zero 0 (ap (λ g. tag g - 2) p))
  code_to_inj (handled line body hs rest) (handled place inner ks others) p =
      λ i. handled (coded_line.inj line place (ap (λ g. first (second g)) p) i) (code_to_inj body inner (ap (λ g. first (second (second g))) p) i)
      (handlers_to_inj hs ks (ap (λ g. first (second (second (second g)))) p) i) (code_to_inj rest others (ap (λ g. second (second (second (second g)))) p) i)

  handlers_to_inj : (a b : HandlerCode) → handlers_to a ≡ handlers_to b → a ≡ b
  handlers_to_inj no_handler no_handler p = refl
  handlers_to_inj no_handler (handler _ _ _ _) p = absurd (suc-ne-zero 0 (sym (ap some_tag p)))
  handlers_to_inj (handler _ _ _ _) no_handler p = absurd (suc-ne-zero 0 (ap some_tag p))
  handlers_to_inj (handler line catches body more) (handler place taken inner others) p =
      λ i. handler (coded_line.inj line place (ap first p) i) (coded_catches.inj catches taken (ap (λ g. first (second g)) p) i)
      (code_to_inj body inner (ap (λ g. first (second (second g))) p) i) (handlers_to_inj more others (ap (λ g. second (second (second g))) p) i)

pub coded_code : Coded Code
coded_code = record { code = code_to; inj = code_to_inj }

pub coded_handlers : Coded HandlerCode
coded_handlers = record { code = handlers_to; inj = handlers_to_inj }
