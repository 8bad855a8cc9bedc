-- Where statements can begin.
use Rattle.std.proofs.Common.{◌≡◌, ◌==◌, ◌+◌, ◌≤◌, ℕ, List, [], ◌∷◌, map, refl, sym, ap, subst, ◌∙◌, if◌then◌else◌}
use Rattle.std.proofs.lemmas.Option.{none-some}
use Rattle.ac_rules.specs.declared.resolved.ResolvedDecl.{ResolvedDecl}
use Rattle.ac_meaning.specs.Environment.{Bound, binds_type, binds_object, binds_cursor, binds_value, binds_element, State, first_state, after_decls}
use Rattle.ac_meaning.specs.GuardedNames.{Frame, of_type, of_object, of_cursor, of_value, of_element, frame, kept}
use Rattle.ac_meaning.specs.Numbers.{has_number, times_numbered}
use Rattle.ac_meaning.proofs.NewObjects.{new_objects_are_unguarded}
use Rattle.ac_meaning.proofs.NumbersApart.{numbers_go_on}
use Rattle.ac_host.specs.Ready.{ElementsKept}
use Rattle.ac_host.specs.Start.{IsAtStart, StartsAgain}
use Rattle.ac_host.proofs.Blocks.{decls_after, decls_kept}
use Rattle.ac_host.proofs.Counting.{decls_count}

pub decls_start : (ds : List ResolvedDecl) → IsAtStart (after_decls ds first_state).after
decls_start ds =
    let none = new_objects_are_unguarded.none first_state in
    record {
      rest = sym (decls_after [] ds first_state none);
      ready = record {
        below = new_objects_are_unguarded.none (after_decls ds first_state).after;
        differ = numbers_go_on.decls ds first_state numbers_go_on.first;
        elements = decls_kept [] ds first_state (λ place object at is. absurd (none-some _ is));
      };
      no_block = decls_count ds first_state;
    }

-- Numbers, by what is kept of what names hold

framed_number : ℕ → Frame → ℕ
framed_number number of_type = 0
framed_number number (of_object own rooted names has_element) = if own == number then 1 else 0
framed_number number of_cursor = 0
framed_number number of_value = 0
framed_number number (of_element object at) = 0

times_framed : ℕ → List Frame → ℕ
times_framed number [] = 0
times_framed number (f ∷ fs) = framed_number number f + times_framed number fs

number_by_frame : (number : ℕ) (b : Bound) → has_number number b ≡ framed_number number (frame [] b)
unfolding framed_number
number_by_frame number binds_type = refl
number_by_frame number (binds_object h) = refl
number_by_frame number (binds_cursor mark) = refl
number_by_frame number (binds_value v) = refl
number_by_frame number (binds_element object at) = refl

times_by_frames : (number : ℕ) (bs : List Bound) → times_numbered number bs ≡ times_framed number (map (frame []) bs)
unfolding times_framed
times_by_frames number [] = refl
times_by_frames number (b ∷ bs) = λ i. number_by_frame number b i + times_by_frames number bs i

same_times : (number : ℕ) (e now : State) → kept [] now ≡ kept [] e → times_numbered number now.bounds ≡ times_numbered number e.bounds
same_times number e now same =
    times_by_frames number now.bounds ∙ (ap (times_framed number) same ∙ sym (times_by_frames number e.bounds))

pub starts_again : StartsAgain
starts_again e now start rest same next blocks = record {
  rest = rest;
  ready = record {
    below = new_objects_are_unguarded.none now;
    differ = record {
      once = λ number. subst (λ n. n ≤ 1) (sym (same_times number e now same)) (start.ready.differ.once number);
      below_next = λ number le.
          same_times number e now same ∙ start.ready.differ.below_next number (subst (λ n. n ≤ number) next le);
    };
    elements = subst (ElementsKept []) (sym same) start.ready.elements;
  };
  no_block = blocks ∙ start.no_block;
}
