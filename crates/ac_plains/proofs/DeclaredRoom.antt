-- In a script that can run the limits of its objects together are within the room of a text.
use Rattle.std.proofs.Common.{◌≡◌, ◌+◌, ◌≤◌, ℕ, Bool, true, false, not, ◌||◌, List, [], ◌∷◌, ◌++◌, fold, is_some, nat_lt, refl, sym, ap, subst, ◌∙◌, append_assoc, arith, true≢false}
use Rattle.std.specs.Prelude.{Some, None, if◌then◌else◌}
use Rattle.std.specs.List.{list_any, sum_by}
use Rattle.std.proofs.lemmas.Bool.{or_parts, ltb-false}
use Rattle.std.proofs.lemmas.List.{append-nil}
use Rattle.std.proofs.lemmas.List.Sums.{fold-append}
use Rattle.ac_syntax.specs.declared.decl.Decl.{Decl}
use Rattle.ac_syntax.specs.declared.refusal.RefusalKind.{RefusalKind}
use Rattle.ac_syntax.specs.declared.refusal.RefusalKind.TheVariants.{Limit, UnknownName, WrongType, Twice}
use Rattle.ac_syntax.specs.declared.script.Script.{Script}
use Rattle.ac_rules.specs.declared.limits.TheConstants.{MOST_ROOM}
use Rattle.ac_rules.specs.Faults.{used, declared, caught, capacity, decl_capacity, is_in_scope, is_twice, is_named, is_crowded, room_of, fault, IsChecked}
use Rattle.ac_rules.specs.Rules.{is_well_typed}
use Rattle.ac_rules.specs.Scopes.{Scope, Standing, decl_entry, standing_decls, standings, standings_from, with_decls, with_entry}

none_known : {X : Type 0} (kind : RefusalKind) → Some kind ≡ None → X
none_known kind h = absurd (true≢false (ap is_some h))

-- none of these tests found a fault, so the last didn't
within_by : (unknown typed twice limit : Bool) →
    (if unknown then Some UnknownName else if not typed then Some WrongType else if twice then Some Twice else if limit then Some Limit else None) ≡ None →
    limit ≡ false
within_by true typed twice limit h = none_known UnknownName h
within_by false false twice limit h = none_known WrongType h
within_by false true true limit h = none_known Twice h
within_by false true false true h = none_known Limit h
within_by false true false false h = refl

-- an item that isn't faulty leaves the room within its bound
room_left : (earlier : List Standing) (s : Standing) → fault earlier s ≡ None → room_of earlier + capacity s.item ≤ MOST_ROOM
room_left earlier s h =
    let limit = within_by (list_any (λ name. not (is_in_scope s.scope name)) (used s.item)) (is_well_typed s)
    (is_named s.named (caught s.item) || is_twice s.scope (declared s.item))
    (is_crowded s.scope (declared s.item) || nat_lt MOST_ROOM (room_of earlier + capacity s.item)) h in
    ltb-false MOST_ROOM (room_of earlier + capacity s.item)
    (or_parts (is_crowded s.scope (declared s.item)) (nat_lt MOST_ROOM (room_of earlier + capacity s.item)) limit).1

-- no item of the part is faulty behind the items before
abbrev AreFaultlessBehind : List Standing → List Standing → Type 0
AreFaultlessBehind before part = (earlier later : List Standing) (s : Standing) → part ≡ earlier ++ s ∷ later → fault (before ++ earlier) s ≡ None

room_kept : (before part : List Standing) → room_of before ≤ MOST_ROOM → AreFaultlessBehind before part → room_of (before ++ part) ≤ MOST_ROOM
room_kept before [] within h = subst (λ (l : List Standing). room_of l ≤ MOST_ROOM) (sym (append-nil before)) within
room_kept before (s ∷ part) within h =
    let first : fault before s ≡ None = ap (λ (l : List Standing). fault l s) (sym (append-nil before)) ∙ h [] part s refl in
    let more : room_of before + capacity s.item ≡ room_of (before ++ s ∷ []) = sym (fold-append (λ a (x : Standing). a + capacity x.item) 0 before (s ∷ [])) in
    subst (λ (l : List Standing). room_of l ≤ MOST_ROOM) (append_assoc before (s ∷ []) part)
    (room_kept (before ++ s ∷ []) part (subst (λ n. n ≤ MOST_ROOM) more (room_left before s first)) (λ earlier later x split.
    ap (λ (l : List Standing). fault l x) (append_assoc before (s ∷ []) earlier) ∙ h (s ∷ earlier) later x (ap (λ (l : List Standing). s ∷ l) split)))

-- the room of declarations is that of their limits
room_declared : (scope : Scope) (decls : List Decl) (room : ℕ) →
    fold (λ a (s : Standing). a + capacity s.item) room (standing_decls scope decls) ≡ fold (λ a (d : Decl). a + decl_capacity d) room decls
room_declared scope [] room = refl
room_declared scope (d ∷ decls) room = room_declared (with_entry scope (decl_entry scope d)) decls (room + decl_capacity d)

pub declared_room : (script : Script) → IsChecked script → sum_by decl_capacity script.decls ≤ MOST_ROOM
unfolding standings
declared_room script checked =
    let part = standing_decls [] script.decls in
    let rest = standings_from (with_decls [] script.decls) script.stmts in
    let kept = room_kept [] part (omega arith) (λ earlier later s split.
    checked earlier (later ++ rest) s (ap (λ (l : List Standing). l ++ rest) split ∙ append_assoc earlier (s ∷ later) rest)) in
    subst (λ n. n ≤ MOST_ROOM) (room_declared [] script.decls 0) kept
