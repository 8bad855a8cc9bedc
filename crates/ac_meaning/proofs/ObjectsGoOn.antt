-- Objects go on under their numbers, and names come and go at the end.
use Rattle.std.proofs.Common.{◌≡◌, ◌<◌, ◌≤◌, ◌++◌, ℕ, zero, suc, List, [], ◌∷◌, take, length, slice_get, refl, sym, ap, subst, ◌∙◌, arith, Some}
use Rattle.std.proofs.Math.Seq.{take-append_seam}
use Rattle.ac_calls.specs.Holdings.{Held, of_rows, of_holder, of_queue, number_of}
use Rattle.ac_meaning.specs.Environment.{Bound, binds_type, binds_object, binds_cursor, binds_value, binds_element, bound_in, object_in, State, bound_at}
use Rattle.ac_meaning.specs.Commands.{performed}
use Rattle.ac_meaning.specs.Stays.{HeldStays, BoundStays, next_of, ObjectGoesOn, NamesComeAndGo}
use Rattle.ac_meaning.specs.Laws.{ObjectsGoOn, NamesStayInScope}
use Rattle.ac_meaning.proofs.BoundsStay.{each_at, same_length, object_there}
use Rattle.ac_meaning.proofs.CommandsStay.{command_stays}

pub held_number : (h after : Held) → HeldStays h after → number_of after ≡ number_of h
held_number (of_rows kind o) after s = ap number_of s.1 ∙ s.2.number
held_number (of_holder e h) after s = ap number_of s.1 ∙ s.2.number
held_number (of_queue number q) after s = ap number_of s.1

held_next : (h after : Held) → HeldStays h after → next_of h ≤ next_of after
held_next (of_rows kind o) after s = subst (λ n. o.next ≤ n) (sym (ap next_of s.1)) s.2.next
held_next (of_holder e h) after s = subst (λ n. next_of (of_holder e h) ≤ n) (sym (ap next_of s.1)) (omega arith)
held_next (of_queue number q) after s = subst (λ n. next_of (of_queue number q) ≤ n) (sym (ap next_of s.1)) (omega arith)

goes_on : (h : Held) (now : State) (place : ℕ) (b : Bound) → bound_at now place ≡ b → BoundStays (binds_object h) b → ObjectGoesOn h now place
goes_on h now place (binds_object after) is s = record {
  held = after;
  there = ap object_in is;
  number = held_number h after s;
  next = held_next h after s;
}
goes_on h now place binds_type is s = absurd s
goes_on h now place (binds_cursor mark) is s = absurd s
goes_on h now place (binds_value v) is s = absurd s
goes_on h now place (binds_element object at) is s = absurd s

pub objects_go_on : ObjectsGoOn
objects_go_on e simple place h there =
    let after = (performed e simple).after in
    let is = object_there (bound_at e place) h there in
    goes_on h after place (bound_at after place) refl
    (subst (λ b. BoundStays b (bound_at after place)) is (each_at e.bounds after.bounds place (command_stays e simple).bounds))

pub names_stay_in_scope : NamesStayInScope
names_stay_in_scope e simple = same_length e.bounds (performed e simple).after.bounds (command_stays e simple).bounds

found_before : {A : Type 0} (xs ys : List A) (place : ℕ) → place < length xs → slice_get (xs ++ ys) place ≡ slice_get xs place
found_before [] ys place h = absurd (omega (arith, h))
found_before (x ∷ xs) ys zero h = refl
found_before (x ∷ xs) ys (suc place) h = found_before xs ys place (omega (arith, h))

found_last : {A : Type 0} (xs : List A) (y : A) → slice_get (xs ++ y ∷ []) (length xs) ≡ Some y
found_last [] y = refl
found_last (x ∷ xs) y = found_last xs y

found_in_take : {A : Type 0} (count : ℕ) (xs : List A) (place : ℕ) → place < count → slice_get (take count xs) place ≡ slice_get xs place
found_in_take zero xs place h = absurd (omega (arith, h))
found_in_take (suc count) [] place h = refl
found_in_take (suc count) (x ∷ xs) zero h = refl
found_in_take (suc count) (x ∷ xs) (suc place) h = found_in_take count xs place (omega (arith, h))

pub names_come_and_go : NamesComeAndGo
names_come_and_go = record {
  back = λ e b. λ i. record e { bounds = take-append_seam e.bounds (b ∷ []) i };
  last = λ e b. ap bound_in (found_last e.bounds b);
  others = λ e b place h. ap bound_in (found_before e.bounds (b ∷ []) place h);
  left = λ e count place h. ap bound_in (found_in_take count e.bounds place h);
}
