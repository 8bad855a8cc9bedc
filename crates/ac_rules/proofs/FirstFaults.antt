-- The walk over all items ends at the first faulty one.
use Rattle.std.proofs.Common.{◌≡◌, ◌+◌, ℕ, Bool, true, false, List, [], ◌∷◌, ◌++◌, fold, Option, Some, None, unwrap_or, is_some, refl, sym, ap, ◌∙◌, true≢false}
use Rattle.std.proofs.lemmas.List.{append_assoc, append-nil}
use Rattle.std.proofs.lemmas.List.Sums.{fold-append}
use Rattle.ac_syntax.specs.Items.{item_line}
use Rattle.ac_syntax.specs.declared.decl.Decl.{Decl}
use Rattle.ac_syntax.specs.declared.refusal.RefusalKind.{RefusalKind}
use Rattle.ac_syntax.specs.declared.script.Script.{Script}
use Rattle.ac_rules.specs.Scopes.{Scope, Standing, with_decls, standing_decls, standings_from, standings}
use Rattle.ac_rules.specs.Faults.{capacity, room_of, fault, AreFaultless, IsFirstFault, IsChecked}
use Rattle.ac_rules.specs.Walks.{Outcome, goes_on, refused, step, outcome, behind, fault_with}
use Rattle.ac_rules.proofs.Outcomes.{outcome-append, gone_on, stopped}

abbrev is_on : Outcome → Bool
is_on (goes_on _) = true
is_on (refused _ _) = false

abbrev room_in : Outcome → ℕ
room_in (goes_on room) = room
room_in (refused _ _) = 0

abbrev line_in : Outcome → Option ℕ
line_in (goes_on _) = None
line_in (refused line _) = line

abbrev kind_in : RefusalKind → Outcome → RefusalKind
kind_in other (goes_on _) = other
kind_in other (refused _ kind) = kind

on-refused : {X : Type 0} (room : ℕ) (line : Option ℕ) (kind : RefusalKind) → goes_on room ≡ refused line kind → X
on-refused room line kind h = absurd (true≢false (ap is_on h))

same_refusal : (line place : Option ℕ) (kind other : RefusalKind) → refused line kind ≡ refused place other → (line ≡ place) × (kind ≡ other)
same_refusal line place kind other h = (ap line_in h, ap (kind_in kind) h)

step_goes : (f : Option RefusalKind) (line : Option ℕ) (o : Outcome) (after : ℕ) → step f line o ≡ goes_on after → (f ≡ None) × (o ≡ goes_on after)
step_goes None line o after h = (refl, h)
step_goes (Some kind) line o after h = on-refused after line kind (sym h)

-- what room is behind items without faults
gone_room : (room after : ℕ) (part : List Standing) → outcome room part ≡ goes_on after → after ≡ fold (λ a (s : Standing). a + capacity s.item) room part
gone_room room after [] h = sym (ap room_in h)
gone_room room after (s ∷ part) h =
    gone_room (room + capacity s.item) after part
    (step_goes (fault_with room s) (item_line s.item) (outcome (room + capacity s.item) part) after h).1

-- a walk that goes past all items finds none faulty
pub faultless : (all : List Standing) (after : ℕ) → outcome 0 all ≡ goes_on after → AreFaultless all
faultless all after h earlier later s split =
    by (outcome 0 earlier) refl (sym (outcome-append 0 earlier (s ∷ later)) ∙ ap (outcome 0) (sym split) ∙ h)
  where
    by : (o : Outcome) → outcome 0 earlier ≡ o → behind o (λ r. outcome r (s ∷ later)) ≡ goes_on after → fault earlier s ≡ None
    by (goes_on r) e w =
        ap (λ n. fault_with n s) (sym (gone_room 0 r earlier e))
        ∙ (step_goes (fault_with r s) (item_line s.item) (outcome (r + capacity s.item) later) after w).0
    by (refused line kind) e w = on-refused after line kind (sym w)

-- where a walk stops
record Stop (room : ℕ) (all : List Standing) (line : Option ℕ) (kind : RefusalKind) : Type 0 where
  earlier : List Standing
  later : List Standing
  faulty : Standing
  after : ℕ
  split : all ≡ earlier ++ faulty ∷ later
  on : outcome room earlier ≡ goes_on after
  is : fault_with after faulty ≡ Some kind
  stands : item_line faulty.item ≡ line

stop_here : (room : ℕ) (s : Standing) (all : List Standing) (line : Option ℕ) (kind : RefusalKind)
    → (outcome (room + capacity s.item) all ≡ refused line kind → Stop (room + capacity s.item) all line kind)
    → (f : Option RefusalKind) → fault_with room s ≡ f → step f (item_line s.item) (outcome (room + capacity s.item) all) ≡ refused line kind
    → Stop room (s ∷ all) line kind
stop_here room s all line kind further None e w =
    let rest = further w in
    record {
      earlier = s ∷ rest.earlier;
      later = rest.later;
      faulty = rest.faulty;
      after = rest.after;
      split = ap (λ (l : List Standing). s ∷ l) rest.split;
      on = ap (λ f. step f (item_line s.item) (outcome (room + capacity s.item) rest.earlier)) e ∙ rest.on;
      is = rest.is;
      stands = rest.stands;
    }
stop_here room s all line kind further (Some found) e w =
    let same = same_refusal (item_line s.item) line found kind w in
    record { earlier = []; later = all; faulty = s; after = room; split = refl; on = refl; is = e ∙ ap Some same.1; stands = same.0 }

stop_at : (room : ℕ) (all : List Standing) (line : Option ℕ) (kind : RefusalKind) → outcome room all ≡ refused line kind → Stop room all line kind
stop_at room [] line kind h = on-refused room line kind h
stop_at room (s ∷ all) line kind h = stop_here room s all line kind (stop_at (room + capacity s.item) all line kind) (fault_with room s) refl h

-- a walk that stops has found the first fault
pub first_fault : (script : Script) (line : ℕ) (kind : RefusalKind) → outcome 0 (standings script) ≡ refused (Some line) kind → IsFirstFault script line kind
first_fault script line kind h =
    let s = stop_at 0 (standings script) (Some line) kind h in
    record {
      earlier = s.earlier;
      later = s.later;
      faulty = s.faulty;
      split = s.split;
      first = faultless s.earlier s.after s.on;
      is = ap (λ r. fault_with r s.faulty) (sym (gone_room 0 s.after s.earlier s.on)) ∙ s.is;
      stands = s.stands;
    }

-- a walk over the declarations of a script, and then over its statements
module _ (script : Script) (room : ℕ) (scope : Scope) (decls : List Decl) (empty : room ≡ 0) (none : scope ≡ []) (are : decls ≡ script.decls) where
  from_decls : outcome room (standing_decls scope decls) ≡ outcome 0 (standing_decls [] script.decls)
  from_decls =
      ap (λ r. outcome r (standing_decls scope decls)) empty
      ∙ ap (λ (s : Scope). outcome 0 (standing_decls s decls)) none
      ∙ ap (λ (l : List Decl). outcome 0 (standing_decls [] l)) are

  pub decls_stopped : (line : ℕ) (kind : RefusalKind) → outcome room (standing_decls scope decls) ≡ refused (Some line) kind → IsFirstFault script line kind
  unfolding standings
  decls_stopped line kind h =
      first_fault script line kind
      (stopped 0 (Some line) kind (standing_decls [] script.decls) (standings_from (with_decls [] script.decls) script.stmts) (sym from_decls ∙ h))

  pub behind_decls : (after : ℕ) (now : Scope) → outcome room (standing_decls scope decls) ≡ goes_on after → now ≡ with_decls scope decls
      → outcome 0 (standings script) ≡ outcome after (standings_from now script.stmts)
  unfolding standings
  behind_decls after now h same =
      gone_on 0 after (standing_decls [] script.decls) (standings_from (with_decls [] script.decls) script.stmts) (sym from_decls ∙ h)
      ∙ ap (λ (s : Scope). outcome after (standings_from s script.stmts))
      (ap (λ (l : List Decl). with_decls [] l) (sym are) ∙ ap (λ (s : Scope). with_decls s decls) (sym none) ∙ sym same)

-- no item of the part is faulty behind the items before
abbrev AreFaultlessBehind : List Standing → List Standing → Type 0
AreFaultlessBehind before part = (earlier later : List Standing) (s : Standing) → part ≡ earlier ++ s ∷ later → fault (before ++ earlier) s ≡ None

goes_past : (before part : List Standing) → AreFaultlessBehind before part → outcome (room_of before) part ≡ goes_on (room_of (before ++ part))
goes_past before [] h = ap (λ (l : List Standing). goes_on (room_of l)) (sym (append-nil before))
goes_past before (s ∷ part) h =
    let first : fault_with (room_of before) s ≡ None = ap (λ (l : List Standing). fault l s) (sym (append-nil before)) ∙ h [] part s refl in
    let more : room_of before + capacity s.item ≡ room_of (before ++ s ∷ []) = sym (fold-append (λ a (x : Standing). a + capacity x.item) 0 before (s ∷ [])) in
    ap (λ f. step f (item_line s.item) (outcome (room_of before + capacity s.item) part)) first
    ∙ ap (λ r. outcome r part) more
    ∙ goes_past (before ++ s ∷ []) part (λ earlier later x split.
    ap (λ (l : List Standing). fault l x) (append_assoc before (s ∷ []) earlier) ∙ h (s ∷ earlier) later x (ap (λ (l : List Standing). s ∷ l) split))
    ∙ ap (λ (l : List Standing). goes_on (room_of l)) (append_assoc before (s ∷ []) part)

-- the walk stops at the first fault
stops : (script : Script) (line : ℕ) (kind : RefusalKind) → IsFirstFault script line kind → outcome 0 (standings script) ≡ refused (Some line) kind
stops script line kind f =
    ap (outcome 0) f.split
    ∙ gone_on 0 (room_of f.earlier) f.earlier (f.faulty ∷ f.later) (goes_past [] f.earlier f.first)
    ∙ ap (λ x. step x (item_line f.faulty.item) (outcome (room_of f.earlier + capacity f.faulty.item) f.later)) f.is
    ∙ ap (λ l. refused l kind) f.stands

-- there is one first fault at most
pub one_fault : (script : Script) (line place : ℕ) (kind other : RefusalKind)
    → IsFirstFault script line kind → IsFirstFault script place other → (line ≡ place) × (kind ≡ other)
one_fault script line place kind other f g =
    let same = same_refusal (Some line) (Some place) kind other (sym (stops script line kind f) ∙ stops script place other g) in
    (ap (λ l. unwrap_or l line) same.0, same.1)

-- and none in a script that can run
pub no_fault : (script : Script) (line : ℕ) (kind : RefusalKind) → IsChecked script → IsFirstFault script line kind → ⊥
no_fault script line kind checked f = some-none kind (sym f.is ∙ checked f.earlier f.later f.faulty f.split)
  where
    some-none : (k : RefusalKind) → Some k ≡ None → ⊥
    some-none k h = absurd (true≢false (ap is_some h))
