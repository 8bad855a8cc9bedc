-- How a script's run ends, by what the host wrote.
use Rattle.std.proofs.Common.{◌≡◌, ◌≢◌, ◌-◌, ◌≤◌, ℕ, Bool, List, [], ◌++◌, length, Option, Some, None, refl, subst, append-nil, append_assoc, length-append, ap, sym, ◌∙◌, arith}
use Rattle.std.specs.Prelude.{IfSome}
use Rattle.std.proofs.lemmas.Option.{IfSome_then}
use Rattle.ac_io.specs.Outside.{GrewBy, GrewByFront}
use Rattle.ac_io.proofs.Telling.{front_on, told_on, told_all}
use Rattle.ac_meaning.specs.Meanings.{written}
use Rattle.ac_host.specs.declared.end.HostEnd.{HostEnd}
use Rattle.ac_host.specs.declared.end.HostEnd.TheVariants as host
use Rattle.ac_host.specs.Writing.{Wrote, Broke}
use Rattle.ac_top.specs.declared.status.Status.{Status}
use Rattle.ac_top.specs.declared.status.Status.TheVariants.{Done, WriteFault}
use Rattle.ac_top.specs.Status.{IsAnswer, Writes, Counted}
use Rattle.ac_top.proofs.Answered.{if_some_of, nothing_written}

whole_front : (before now : Option (List ℕ)) (text : List ℕ) → GrewBy before now text → GrewByFront before now text
whole_front None now text grew = tt
whole_front (Some h) now text grew = (text, record { rest = []; whole = append-nil text }, grew)

module _ {K : Type 0} (held : K → Option (List ℕ)) (faults : K → ℕ) (room : K → Option ℕ) (counts_failures : K → Bool) (old new : K)
    (text : List ℕ) where
  pub wrote_done : Wrote held faults room counts_failures old new text → Writes (written text) (held old) (held new) (room old) Done
  wrote_done w = record {
    whole = λ a. w.grew;
    number = λ a. refl;
    front = whole_front (held old) (held new) text w.grew;
    within = if_some_of (room old) (λ n fits e. cc e);
  }

  pub done_counted : Wrote held faults room counts_failures old new text → Counted (counts_failures old) (faults old) (faults new) Done
  done_counted w = record { rose = λ e. cc e; stays = λ counts n. (w.counts counts).0 }

  pub broke_writes : (end : HostEnd) (s : Status) → (IsAnswer s → ⊥) → (s ≡ WriteFault → end ≡ host.WriteFault)
      → Broke held faults room counts_failures old new text end → Writes (written text) (held old) (held new) (room old) s
  broke_writes end s none same b = record {
    whole = λ a. absurd (none a);
    number = λ a. absurd (none a);
    front = b.front;
    within = IfSome_then (room old) b.within (λ n f fits e. f fits (same e));
  }

  pub broke_counted : (end : HostEnd) (s : Status) → (s ≡ WriteFault → end ≡ host.WriteFault) → (end ≡ host.WriteFault → s ≡ WriteFault)
      → Broke held faults room counts_failures old new text end → Counted (counts_failures old) (faults old) (faults new) s
  broke_counted end s same back b = record {
    rose = λ e. b.rose (same e);
    stays = λ counts n. (b.counts counts).0 (λ e. n (back e));
  }

-- A text that is written behind another

grew_behind : (a b c : Option (List ℕ)) (text more : List ℕ) → GrewBy a b text → GrewBy b c more → GrewBy a c (text ++ more)
grew_behind a b c text more f g =
    told_all a c (text ++ more)
    (told_on a b c [] [] more text (record { told = text; parts = append-nil text; grew = f }) (record { told = more; parts = append-nil more; grew = g }))

front_behind : (a b c : Option (List ℕ)) (text more : List ℕ) → GrewBy a b text → GrewByFront b c more → GrewByFront a c (text ++ more)
front_behind a b c text more f g = front_on a b c [] more text (record { told = text; parts = append-nil text; grew = f }) g

room_behind : (P : Type 0) (a b : Option ℕ) (text more : List ℕ) → IfSome a (λ n. length text ≤ n → b ≡ Some (n - length text)) → IfSome b (λ n. length more ≤ n → P)
    → IfSome a (λ n. length (text ++ more) ≤ n → P)
room_behind P None b text more f g = tt
room_behind P (Some n) b text more f g = λ fits.
    let long = length-append text more in
    let then = subst (λ o. IfSome o (λ m. length more ≤ m → P)) (f (omega (arith, long, fits))) g in
    then (omega (arith, long, fits))

-- before anything was written

module _ {K : Type 0} (held : K → Option (List ℕ)) (faults : K → ℕ) (room : K → Option ℕ) (counts_failures : K → Bool) where
  pub broke_nothing : (a : K) (text : List ℕ) → Broke held faults room counts_failures a a text host.NoMemory
  broke_nothing a text = record {
    front = nothing_written (held a) text;
    rose = λ is. cc is;
    counted = omega arith;
    within = if_some_of (room a) (λ n fits is. cc is);
    counts = λ does. (λ no. refl, does);
  }

-- what is written of a text is so of a longer one

front_longer : (before now : Option (List ℕ)) (text more : List ℕ) → GrewByFront before now text → GrewByFront before now (text ++ more)
front_longer None now text more f = tt
front_longer (Some h) now text more (front, is, grew) =
    (front, record { rest = is.rest ++ more; whole = sym (append_assoc front is.rest more) ∙ ap (λ t. t ++ more) is.whole }, grew)

module _ {K : Type 0} (held : K → Option (List ℕ)) (faults : K → ℕ) (room : K → Option ℕ) (counts_failures : K → Bool) (old new : K)
    (text more : List ℕ) where
  pub broke_before : (end : HostEnd) (s : Status) → (IsAnswer s → ⊥) → (s ≡ WriteFault → end ≡ host.WriteFault)
      → Broke held faults room counts_failures old new text end → Writes (written (text ++ more)) (held old) (held new) (room old) s
  broke_before end s none same b = record {
    whole = λ a. absurd (none a);
    number = λ a. absurd (none a);
    front = front_longer (held old) (held new) text more b.front;
    within =
        IfSome_then (room old) b.within (λ n f fits e.
        f (omega (arith, length-append text more, fits)) (same e));
  }

module _ {K : Type 0} (held : K → Option (List ℕ)) (faults : K → ℕ) (room : K → Option ℕ) (counts_failures : K → Bool) (old mid new : K)
    (text more : List ℕ) (s : Status) where
  pub wrote_more : Wrote held faults room counts_failures old mid text → Writes (written more) (held mid) (held new) (room mid) s
      → Writes (written (text ++ more)) (held old) (held new) (room old) s
  wrote_more f w = record {
    whole = λ a. grew_behind (held old) (held mid) (held new) text more f.grew (w.whole a);
    number = w.number;
    front = front_behind (held old) (held mid) (held new) text more f.grew w.front;
    within = room_behind (s ≢ WriteFault) (room old) (room mid) text more f.within w.within;
  }
