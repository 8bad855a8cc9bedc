-- That no script begins with some tokens: the items that may come are looked at one after another.
use Rattle.std.proofs.Common.{◌≡◌, Bool, true, false, List, [], ◌∷◌, ◌++◌, length, refl, sym, ap, subst, ◌∙◌, Some, arith}
use Rattle.std.proofs.lemmas.Bool.{and_parts}
use Rattle.std.proofs.Math.Bool.{true≢false}
use Rattle.std.specs.List.{list_all}
use Rattle.ac_syntax.specs.declared.token.Placed.{Placed}
use Rattle.ac_syntax.specs.Items.{Item, script_items}
use Rattle.ac_syntax.specs.Parts.{Part, item_parts}
use Rattle.ac_syntax.specs.Grammar.{AreParts, AreItems, BeginsScript}
use Rattle.ac_syntax.specs.Order.{Context, next_after, context_after, at_front}
use Rattle.ac_syntax.specs.Tokens.{tokens}
use Rattle.ac_syntax.proofs.Leading.{is_single, begins_so, leads, led_by}
use Rattle.ac_syntax.proofs.Orders.{then_some}

-- no items that may come from here are these tokens
abbrev pub Stuck : Context → List Placed → Type 0
Stuck context placed = (items : List Item) (last : Context) → context_after context items ≡ Some last → AreItems items placed → ⊥

-- nor begin with them
abbrev pub Refused : List Placed → Type 0
Refused placed = (more : List Placed) → Stuck at_front (placed ++ more)

pub begins_no : (placed : List Placed) → Refused placed → BeginsScript placed → ⊥
begins_no placed refused begun = refused begun.0 (script_items begun.1) begun.2.ordered.last begun.2.ordered.leads begun.2.are

-- an item that may come first, and what stands behind it
pub record IsStep (context : Context) (p : Placed) (placed : List Placed) (item : Item) (next : Context) (front rest : List Placed) : Type 0 where
  pub may : next_after context.propagating context.blocks context.stage item ≡ Some next
  pub led : leads item p.token ≡ true
  pub spelled : AreParts (item_parts item) (tokens front)
  pub whole : p ∷ placed ≡ front ++ rest

pub step : (context : Context) (p : Placed) (placed : List Placed)
    → ((item : Item) (next : Context) (front rest : List Placed) → IsStep context p placed item next front rest → Stuck next rest) → Stuck context (p ∷ placed)
step context p placed f [] last e h = omega (arith, ap length h)
step context p placed f (item ∷ items) last e h =
    let s = then_some (next_after context.propagating context.blocks context.stage item) items last e in
    f item s.0 h.0 h.1 (record { may = s.1; led = led_by item items p placed h; spelled = h.3.spelled; whole = h.2 }) items last s.2 h.4

-- no token begins an item of this sort
pub unled : {P : Type 0} {b : Bool} → b ≡ true → b ≡ false → P
unled {P} {b} is not = absurd (true≢false (sym is ∙ not))

-- ---- items of tokens that are known

-- as many tokens as there are parts
abbrev pub behind : List Part → List Placed → List Placed
behind [] placed = placed
behind (_ ∷ parts) [] = []
behind (_ ∷ parts) (_ ∷ placed) = behind parts placed

pub none_there : (front : List Placed) → tokens front ≡ [] → front ≡ []
none_there [] e = refl
none_there (p ∷ front) e = absurd (omega (arith, ap length e))

pub rest_behind : (parts : List Part) (front rest all : List Placed) → list_all is_single parts ≡ true → AreParts parts (tokens front) → all ≡ front ++ rest → behind parts all ≡ rest
rest_behind [] front rest all single h e = e ∙ ap (λ xs. xs ++ rest) (none_there front h)
rest_behind (part ∷ parts) front rest all single h e =
    let both : (is_single part ≡ true) × (list_all is_single parts ≡ true) = and_parts _ _ single in
    let b = begins_so part parts front both.0 h in
    let whole : all ≡ b.first ∷ (b.rest ++ rest) = e ∙ ap (λ xs. xs ++ rest) b.whole in
    ap (behind (part ∷ parts)) whole ∙ rest_behind parts b.rest rest (b.rest ++ rest) both.1 b.others refl

same_next : {c d : Context} → Some c ≡ Some d → c ≡ d
same_next e = cc e

-- where an item of known tokens leads here, what stands behind it is to be refused there
pub follow : (context : Context) (p : Placed) (placed : List Placed) (item : Item) (next : Context) (front rest : List Placed) → IsStep context p placed item next front rest
    → (to : Context) → next_after context.propagating context.blocks context.stage item ≡ Some to → list_all is_single (item_parts item) ≡ true
    → Stuck to (behind (item_parts item) (p ∷ placed)) → Stuck next rest
follow context p placed item next front rest s to leads single h =
    subst (λ c. Stuck c rest) (same_next (sym leads ∙ s.may))
    (subst (Stuck to) (rest_behind (item_parts item) front rest (p ∷ placed) single s.spelled s.whole) h)
