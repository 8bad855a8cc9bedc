-- A text that is written one part after another.
use Rattle.std.proofs.Common.{◌≡◌, ◌≢◌, ◌-◌, ◌≤◌, ℕ, Bool, List, [], ◌∷◌, ◌++◌, length, refl, sym, ap, subst, ◌∙◌, Option, Some, None, IfSome, append_assoc, append-nil, length-append, arith}
use Rattle.std.proofs.lemmas.Option.{none-some, same_Some}
use Rattle.ac_io.specs.Outside.{Rose, GrewBy, GrewByFront}
use Rattle.ac_calls.specs.Answers.{Line, line_text, lines_text}
use Rattle.ac_meaning.specs.Environment.{State}
use Rattle.ac_meaning.specs.Execution.{End, Outcome, ending, followed}
use Rattle.ac_host.specs.declared.end.HostEnd.{HostEnd}
use Rattle.ac_host.specs.declared.end.HostEnd.TheVariants.{WriteFault, NoMemory}
use Rattle.ac_host.specs.Writing.{Wrote, Broke, WroteSoFar}

pub lines_together : (xs ys : List Line) → lines_text (xs ++ ys) ≡ lines_text xs ++ lines_text ys
lines_together [] ys = refl
lines_together (x ∷ xs) ys = ap (λ t. line_text x ++ t) (lines_together xs ys) ∙ sym (append_assoc (line_text x) (lines_text xs) (lines_text ys))

-- What is held

grew_nothing : (held : Option (List ℕ)) → GrewBy held held []
grew_nothing None = tt
grew_nothing (Some h) = ap Some (sym (append-nil h))

grew_twice : (a b c : Option (List ℕ)) (x y : List ℕ) → GrewBy a b x → GrewBy b c y → GrewBy a c (x ++ y)
grew_twice None b c x y f g = tt
grew_twice (Some h) None c x y f g = absurd (none-some _ f)
grew_twice (Some h) (Some i) c x y f g = g ∙ (ap (λ s. Some (s ++ y)) (same_Some i (h ++ x) f) ∙ ap Some (append_assoc h x y))

nothing_front : (held : Option (List ℕ)) (text : List ℕ) → GrewByFront held held text
nothing_front None text = tt
nothing_front (Some h) text = ([], record { rest = text; whole = refl }, ap Some (sym (append-nil h)))

front_behind : (a b c : Option (List ℕ)) (x y : List ℕ) → GrewBy a b x → GrewByFront b c y → GrewByFront a c (x ++ y)
front_behind None b c x y f g = tt
front_behind (Some h) None c x y f g = absurd (none-some _ f)
front_behind (Some h) (Some i) c x y f g = (
  x ++ g.0,
  record { rest = g.1.rest; whole = append_assoc x g.0 g.1.rest ∙ ap (λ s. x ++ s) g.1.whole },
  g.2 ∙ (ap (λ s. Some (s ++ g.0)) (same_Some i (h ++ x) f) ∙ ap Some (append_assoc h x g.0)),
)

front_with : (a b : Option (List ℕ)) (x y : List ℕ) → GrewByFront a b x → GrewByFront a b (x ++ y)
front_with None b x y f = tt
front_with (Some h) b x y f =
    (f.0, record { rest = f.1.rest ++ y; whole = sym (append_assoc f.0 f.1.rest y) ∙ ap (λ s. s ++ y) f.1.whole }, f.2)

-- The room of a sink

room_nothing : (most : Option ℕ) → IfSome most (λ n. length {A = ℕ} [] ≤ n → most ≡ Some (n - length {A = ℕ} []))
room_nothing None = tt
room_nothing (Some n) = λ fits. let same : n ≡ n - 0 = omega arith in ap Some same

room_twice : (a b c : Option ℕ) (x y : List ℕ) → IfSome a (λ n. length x ≤ n → b ≡ Some (n - length x)) →
    IfSome b (λ n. length y ≤ n → c ≡ Some (n - length y)) → IfSome a (λ n. length (x ++ y) ≤ n → c ≡ Some (n - length (x ++ y)))
room_twice None b c x y f g = tt
room_twice (Some n) b c x y f g = λ fits.
    let both = length-append x y in
    let now = f (omega (arith, both, fits)) in
    let then = subst (λ o. IfSome o (λ m. length y ≤ m → c ≡ Some (m - length y))) now g in
    let same : (n - length x) - length y ≡ n - length (x ++ y) = omega (arith, both) in
    then (omega (arith, both, fits)) ∙ ap Some same

room_behind : (P : Type 0) (a b : Option ℕ) (x y : List ℕ) → IfSome a (λ n. length x ≤ n → b ≡ Some (n - length x)) →
    IfSome b (λ n. length y ≤ n → P) → IfSome a (λ n. length (x ++ y) ≤ n → P)
room_behind P None b x y f g = tt
room_behind P (Some n) b x y f g = λ fits.
    let both = length-append x y in
    let now = f (omega (arith, both, fits)) in
    let then = subst (λ o. IfSome o (λ m. length y ≤ m → P)) now g in
    then (omega (arith, both, fits))

room_before : (P : Type 0) (a : Option ℕ) (x y : List ℕ) → IfSome a (λ n. length x ≤ n → P) → IfSome a (λ n. length (x ++ y) ≤ n → P)
room_before P None x y f = tt
room_before P (Some n) x y f = λ fits. let both = length-append x y in f (omega (arith, both, fits))

room_always : (P : Type 0) (a : Option ℕ) (x : List ℕ) → P → IfSome a (λ n. length x ≤ n → P)
room_always P None x p = tt
room_always P (Some n) x p = λ fits. p

rose_later : (a b c : ℕ) → a ≤ b → Rose b c → Rose a c
rose_later a b c le rose = omega (arith, le, rose)

no_fault : NoMemory ≢ WriteFault
no_fault e = absurd (cc e)

module _ {K : Type 0} (held : K → Option (List ℕ)) (faults : K → ℕ) (room : K → Option ℕ) (counts : K → Bool) where
  pub wrote_nothing : (a : K) → Wrote held faults room counts a a []
  wrote_nothing a = record {
    grew = grew_nothing (held a);
    counted = omega arith;
    within = room_nothing (room a);
    counts = λ does. (refl, does);
  }

  pub wrote_then : (a b c : K) (x y : List ℕ) → Wrote held faults room counts a b x → Wrote held faults room counts b c y →
      Wrote held faults room counts a c (x ++ y)
  wrote_then a b c x y f g = record {
    grew = grew_twice (held a) (held b) (held c) x y f.grew g.grew;
    counted = omega (arith, f.counted, g.counted);
    within = room_twice (room a) (room b) (room c) x y f.within g.within;
    counts = λ does. let first = f.counts does in let second = g.counts first.1 in (second.0 ∙ first.0, second.1);
  }

  pub broke_behind : (a b c : K) (x y : List ℕ) (end : HostEnd) → Wrote held faults room counts a b x → Broke held faults room counts b c y end →
      Broke held faults room counts a c (x ++ y) end
  broke_behind a b c x y end f g = record {
    front = front_behind (held a) (held b) (held c) x y f.grew g.front;
    rose = λ is. rose_later (faults a) (faults b) (faults c) f.counted (g.rose is);
    counted = omega (arith, f.counted, g.counted);
    within = room_behind (end ≢ WriteFault) (room a) (room b) x y f.within g.within;
    counts = λ does. let first = f.counts does in let second = g.counts first.1 in (λ no. second.0 no ∙ first.0, second.1);
  }

  pub broke_before : (a b : K) (x y : List ℕ) (end : HostEnd) → Broke held faults room counts a b x end → Broke held faults room counts a b (x ++ y) end
  broke_before a b x y end f = record {
    front = front_with (held a) (held b) x y f.front;
    rose = f.rose;
    counted = f.counted;
    within = room_before (end ≢ WriteFault) (room a) x y f.within;
    counts = f.counts;
  }

  -- memory ended before anything was written
  pub broke_nothing : (a : K) (x : List ℕ) → Broke held faults room counts a a x NoMemory
  broke_nothing a x = record {
    front = nothing_front (held a) x;
    rose = λ is. absurd (no_fault is);
    counted = omega arith;
    within = room_always (NoMemory ≢ WriteFault) (room a) x no_fault;
    counts = λ does. (λ no. refl, does);
  }

  -- or when all was
  pub broke_behind_all : (a b : K) (x : List ℕ) → Wrote held faults room counts a b x → Broke held faults room counts a b x NoMemory
  broke_behind_all a b x f =
      subst (λ t. Broke held faults room counts a b t NoMemory) (append-nil x) (broke_behind a b b x [] NoMemory f (broke_nothing b []))

  pub so_far_none : (a : K) (whole : Outcome) → WroteSoFar held faults room counts a a whole whole
  so_far_none a whole = record { done = []; parts = refl; wrote = wrote_nothing a; after = refl; end = refl }

  so_far_next : (a b c : K) (left whole first : Outcome) (next : End → State → Outcome) → left ≡ followed first next →
      WroteSoFar held faults room counts a b left whole → Wrote held faults room counts b c (lines_text first.lines) →
      WroteSoFar held faults room counts a c (next first.end first.after) whole
  so_far_next a b c left whole first next is so_far f =
      let second = next first.end first.after in
      let rest = lines_text second.lines in
      let now = lines_text first.lines in
      record {
        done = so_far.done ++ now;
        parts =
            append_assoc so_far.done now rest
            ∙ (ap (λ t. so_far.done ++ t) (sym (lines_together first.lines second.lines) ∙ ap (λ (r : Outcome). lines_text r.lines) (sym is))
            ∙ so_far.parts);
        wrote = wrote_then a b c so_far.done now so_far.wrote f;
        after = ap (λ (r : Outcome). r.after) (sym is) ∙ so_far.after;
        end = ap (λ (r : Outcome). r.end) (sym is) ∙ so_far.end;
      }

  -- behind what ended so
  pub so_far_more : (a b c : K) (left whole first : Outcome) (next : End → State → Outcome) (end : End) → left ≡ followed first next → first.end ≡ end →
      WroteSoFar held faults room counts a b left whole → Wrote held faults room counts b c (lines_text first.lines) →
      WroteSoFar held faults room counts a c (next end first.after) whole
  so_far_more a b c left whole first next end is ended so_far f =
      subst (λ (x : End). WroteSoFar held faults room counts a c (next x first.after) whole) ended (so_far_next a b c left whole first next is so_far f)

  pub so_far_all : (a b : K) (end : End) (e : State) (whole : Outcome) → WroteSoFar held faults room counts a b (ending end [] e) whole →
      Wrote held faults room counts a b (lines_text whole.lines)
  so_far_all a b end e whole so_far = subst (Wrote held faults room counts a b) (sym (append-nil so_far.done) ∙ so_far.parts) so_far.wrote

  pub so_far_broke : (a b c : K) (left whole first : Outcome) (next : End → State → Outcome) (end : HostEnd) → left ≡ followed first next →
      WroteSoFar held faults room counts a b left whole → Broke held faults room counts b c (lines_text first.lines) end →
      Broke held faults room counts a c (lines_text whole.lines) end
  so_far_broke a b c left whole first next end is so_far f =
      let second = next first.end first.after in
      let rest = lines_text second.lines in
      let now = lines_text first.lines in
      subst (λ t. Broke held faults room counts a c t end)
      (ap (λ t. so_far.done ++ t) (sym (lines_together first.lines second.lines) ∙ ap (λ (r : Outcome). lines_text r.lines) (sym is)) ∙ so_far.parts)
      (broke_behind a b c so_far.done (now ++ rest) end so_far.wrote (broke_before b c now rest end f))

  -- memory ended between two parts
  pub so_far_stopped : (a b : K) (left whole : Outcome) → WroteSoFar held faults room counts a b left whole →
      Broke held faults room counts a b (lines_text whole.lines) NoMemory
  so_far_stopped a b left whole so_far =
      subst (λ t. Broke held faults room counts a b t NoMemory) so_far.parts
      (broke_behind a b b so_far.done (lines_text left.lines) NoMemory so_far.wrote (broke_nothing b (lines_text left.lines)))
