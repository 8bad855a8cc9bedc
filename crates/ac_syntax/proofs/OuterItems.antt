-- Items of a script without the pragma, outside all blocks.
use Rattle.std.proofs.Common.{◌≡◌, ℕ, true, false, List, [], ◌∷◌, ◌++◌, refl, subst, Option, Some}
use Rattle.std.proofs.lemmas.Option.{none-some}
use Rattle.std.specs.Prelude.{codes}
use Rattle.ac_base.specs.declared.reason.Exception.{Exception}
use Rattle.ac_syntax.specs.declared.closing.Closing.{Closing}
use Rattle.ac_syntax.specs.declared.decl.Decl.{Decl}
use Rattle.ac_syntax.specs.declared.token.Keyword.TheVariants as keyword
use Rattle.ac_syntax.specs.declared.token.Token.TheVariants as token
use Rattle.ac_syntax.specs.declared.token.Placed.{Placed}
use Rattle.ac_syntax.specs.Code.{Simple}
use Rattle.ac_syntax.specs.Items.{Item, declares, commands, opens, begins, closes, propagates, tries, catches}
use Rattle.ac_syntax.specs.Parts.{decl_parts, simple_parts, item_parts}
use Rattle.ac_syntax.specs.Grammar.{reserved, is_reserved, AreParts}
use Rattle.ac_syntax.specs.Limits.{is_word_of}
use Rattle.ac_syntax.specs.Order.{Stage, fronting, listing, running, Context, next_after}
use Rattle.ac_syntax.specs.Canonical.{on_line}
use Rattle.ac_syntax.specs.Tokens.{tokens}
use Rattle.ac_syntax.proofs.Leading.{is_keyword, head_words, leads}
use Rattle.ac_syntax.proofs.Orders.{at}
use Rattle.ac_syntax.proofs.Refusing.{Stuck, IsStep, step, unled}
use Rattle.ac_syntax.proofs.Semicolons.{behind_semicolon, decl_ended, simple_ended, AreTwoWords, no_decl, no_simple}

same_context : {c d : Context} → Some c ≡ Some d → c ≡ d
same_context e = cc e

-- a stage outside all blocks: declarations may come, or none, and commands
record IsOuter (stage : Stage) : Type 0 where
  declared : (d : Decl) (next : Context) → next_after false [] stage (declares d) ≡ Some next → at false [] listing ≡ next
  commanded : (s : Simple) (next : Context) → next_after false [] stage (commands s) ≡ Some next → at false [] running ≡ next
  begun : (next : Context) → next_after false [] stage begins ≡ Some next → ⊥
  closed : (l : Closing) (next : Context) → next_after false [] stage (closes l) ≡ Some next → ⊥
  tried : (line : ℕ) (next : Context) → next_after false [] stage (tries line) ≡ Some next → ⊥
  caught : (line : ℕ) (own : Option Exception) (next : Context) → next_after false [] stage (catches line own) ≡ Some next → ⊥

front_outer : IsOuter fronting
front_outer =
    record {
      declared = λ d next e. same_context e;
      commanded = λ s next e. same_context e;
      begun = λ next e. none-some next e;
      closed = λ l next e. none-some next e;
      tried = λ line next e. none-some next e;
      caught = λ line own next e. none-some next e;
    }

list_outer : IsOuter listing
list_outer =
    record {
      declared = λ d next e. same_context e;
      commanded = λ s next e. same_context e;
      begun = λ next e. none-some next e;
      closed = λ l next e. none-some next e;
      tried = λ line next e. none-some next e;
      caught = λ line own next e. none-some next e;
    }

run_outer : IsOuter running
run_outer =
    record {
      declared = λ d next e. absurd (none-some next e);
      commanded = λ s next e. same_context e;
      begun = λ next e. none-some next e;
      closed = λ l next e. none-some next e;
      tried = λ line next e. none-some next e;
      caught = λ line own next e. none-some next e;
    }

-- no block and no pragma begins with this token
pub record IsInner (p : Placed) : Type 0 where
  pub no_head : is_word_of head_words p.token ≡ false
  pub no_pragma : is_keyword keyword.Pragma p.token ≡ false

-- what is to be shown of a declaration at the front, and of a command
record AreStuck (stage : Stage) (p : Placed) (placed : List Placed) : Type 0 where
  decls : (d : Decl) (front rest : List Placed) → leads (declares d) p.token ≡ true → AreParts (decl_parts d) (tokens front) → p ∷ placed ≡ front ++ rest → Stuck (at false [] listing) rest
  simples : (s : Simple) (front rest : List Placed) → leads (commands s) p.token ≡ true → AreParts (simple_parts s) (tokens front) → p ∷ placed ≡ front ++ rest → Stuck (at false [] running) rest

outer_item : (stage : Stage) → IsOuter stage → (p : Placed) (placed : List Placed) → IsInner p → AreStuck stage p placed
    → (item : Item) (next : Context) (front rest : List Placed) → IsStep (at false [] stage) p placed item next front rest → Stuck next rest
unfolding item_parts
outer_item stage outer p placed inner stuck (declares d) next front rest s = subst (λ c. Stuck c rest) (outer.declared d next s.may) (stuck.decls d front rest s.led s.spelled s.whole)
outer_item stage outer p placed inner stuck (commands c) next front rest s = subst (λ c. Stuck c rest) (outer.commanded c next s.may) (stuck.simples c front rest s.led s.spelled s.whole)
outer_item stage outer p placed inner stuck (opens head) next front rest s = unled s.led inner.no_head
outer_item stage outer p placed inner stuck begins next front rest s = absurd (outer.begun next s.may)
outer_item stage outer p placed inner stuck (closes l) next front rest s = absurd (outer.closed l next s.may)
outer_item stage outer p placed inner stuck (propagates line) next front rest s = unled s.led inner.no_pragma
outer_item stage outer p placed inner stuck (tries line) next front rest s = absurd (outer.tried line next s.may)
outer_item stage outer p placed inner stuck (catches line own) next front rest s = absurd (outer.caught line own next s.may)

outer_step : (stage : Stage) → IsOuter stage → (p : Placed) (placed : List Placed) → IsInner p → AreStuck stage p placed → Stuck (at false [] stage) (p ∷ placed)
outer_step stage outer p placed inner stuck = step (at false [] stage) p placed (outer_item stage outer p placed inner stuck)

-- an item that ends with its first semicolon, where what stands behind that is to be refused
past_semicolon : (stage : Stage) → IsOuter stage → (p : Placed) (placed : List Placed) → IsInner p
    → Stuck (at false [] listing) (behind_semicolon (p ∷ placed)) → Stuck (at false [] running) (behind_semicolon (p ∷ placed)) → Stuck (at false [] stage) (p ∷ placed)
past_semicolon stage outer p placed inner listed run =
    outer_step stage outer p placed inner (record {
      decls = λ d front rest led h e. subst (Stuck (at false [] listing)) (decl_ended d front rest (p ∷ placed) h e) listed;
      simples = λ s front rest led h e. subst (Stuck (at false [] running)) (simple_ended s front rest (p ∷ placed) h e) run;
    })

-- no items go on so, behind the declarations or among the statements
pub record IsOuterStuck (placed : List Placed) : Type 0 where
  pub listed : Stuck (at false [] listing) placed
  pub run : Stuck (at false [] running) placed

pub front_past : (p : Placed) (placed : List Placed) → IsInner p → IsOuterStuck (behind_semicolon (p ∷ placed)) → Stuck (at false [] fronting) (p ∷ placed)
front_past p placed inner stuck = past_semicolon fronting front_outer p placed inner stuck.listed stuck.run

pub outer_past : (p : Placed) (placed : List Placed) → IsInner p → IsOuterStuck (behind_semicolon (p ∷ placed)) → IsOuterStuck (p ∷ placed)
outer_past p placed inner stuck =
    record { listed = past_semicolon listing list_outer p placed inner stuck.listed stuck.run; run = past_semicolon running run_outer p placed inner stuck.listed stuck.run }

-- where two words come, of which the first is a name
two_stuck : (stage : Stage) (p q : Placed) (placed : List Placed) → AreTwoWords p q → AreStuck stage p (q ∷ placed)
two_stuck stage p q placed two =
    record {
      decls = λ d front rest led h e. absurd (no_decl d front rest p q placed h e two);
      simples = λ s front rest led h e. absurd (no_simple s front rest p q placed h e two);
    }

pub two_words : (p q : Placed) (placed : List Placed) → IsInner p → AreTwoWords p q → IsOuterStuck (p ∷ q ∷ placed)
two_words p q placed inner two =
    record {
      listed = outer_step listing list_outer p (q ∷ placed) inner (two_stuck listing p q placed two);
      run = outer_step running run_outer p (q ∷ placed) inner (two_stuck running p q placed two);
    }

-- where `begin` comes
begin_stuck : (stage : Stage) (line : ℕ) (placed : List Placed) → AreStuck stage (on_line line (token.Word (codes "begin"))) placed
unfolding reserved is_reserved
begin_stuck stage line placed =
    record {
      decls = λ d front rest led h e. unled led refl;
      simples = λ s front rest led h e. unled led refl;
    }

pub begin_no : (line : ℕ) (placed : List Placed) → IsOuterStuck (on_line line (token.Word (codes "begin")) ∷ placed)
begin_no line placed =
    let p = on_line line (token.Word (codes "begin")) in
    let inner : IsInner p = record { no_head = refl; no_pragma = refl } in
    record {
      listed = outer_step listing list_outer p placed inner (begin_stuck listing line placed);
      run = outer_step running run_outer p placed inner (begin_stuck running line placed);
    }
