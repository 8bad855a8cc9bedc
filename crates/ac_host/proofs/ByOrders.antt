-- What is told by orders, one part after another.
use Rattle.std.proofs.Common.{◌≡◌, ◌+◌, ◌-◌, ℕ, suc, List, [], ◌∷◌, ◌++◌, length, get_or, refl, sym, ap, subst, ◌∙◌, Result, Ok, Err, OnOk, IsErrAnd, append_assoc, length-append, arith}
use Rattle.std.proofs.lemmas.Result.{on_ok_weaker}
use Rattle.std.specs.Prelude.{All}
use Rattle.std.proofs.lemmas.List.Elements.{All-append, All-head, All-nil, All-tail}
use Rattle.ac_meaning.specs.Execution.{Orders, no_orders}
use Rattle.ac_objects.specs.World.{World}
use Rattle.ac_host.specs.declared.end.HostEnd.{HostEnd}
use Rattle.ac_host.specs.Told.{GoBy, Tells}

-- Orders that go on by others

go_by_front : (told more : List (List ℕ)) (first : ℕ) (orders : Orders) → GoBy (told ++ more) first orders → GoBy told first orders
go_by_front [] more first orders g = tt
go_by_front (order ∷ told) more first orders g = (g.0, go_by_front told more (first + 1) orders g.1)

go_by_rest : (told more : List (List ℕ)) (first : ℕ) (orders : Orders) → GoBy (told ++ more) first orders → GoBy more (first + length told) orders
go_by_rest [] more first orders g = let same : first ≡ first + 0 = omega arith in subst (λ n. GoBy more n orders) same g
go_by_rest (order ∷ told) more first orders g =
    let same : (first + 1) + length told ≡ first + suc (length told) = omega arith in
    subst (λ n. GoBy more n orders) same (go_by_rest told more (first + 1) orders g.1)

-- There are some

pub orders_from : ℕ → List (List ℕ) → Orders
orders_from first told block = get_or told (block - first) []

behind_all : {X : Type 0} (xs ys : List X) (x d : X) → get_or (xs ++ x ∷ ys) (length xs) d ≡ x
behind_all [] ys x d = refl
behind_all (y ∷ xs) ys x d = behind_all xs ys x d

go_by_those : (told before : List (List ℕ)) (first : ℕ) → GoBy told (first + length before) (orders_from first (before ++ told))
unfolding orders_from
go_by_those [] before first = tt
go_by_those (order ∷ told) before first =
    let here : (first + length before) - first ≡ length before = omega arith in
    let more = before ++ order ∷ [] in
    let same : more ++ told ≡ before ++ order ∷ told = append_assoc before (order ∷ []) told in
    let place : first + length more ≡ (first + length before) + 1 = omega (arith, length-append before (order ∷ [])) in (
      ap (λ n. get_or (before ++ order ∷ told) n []) here ∙ behind_all before told order [],
      subst (λ n. GoBy told n (orders_from first (before ++ order ∷ told))) place
          (subst (λ all. GoBy told (first + length more) (orders_from first all)) same (go_by_those told more first)),
    )

pub go_by_told : (told : List (List ℕ)) (first : ℕ) → GoBy told first (orders_from first told)
go_by_told told first =
    let same : first + 0 ≡ first = omega arith in subst (λ n. GoBy told n (orders_from first told)) same (go_by_those told [] first)

-- where each is empty

abbrev is_empty : List ℕ → Type 0
is_empty order = order ≡ []

pub go_by_none : (told : List (List ℕ)) (first : ℕ) → All is_empty told → GoBy told first no_orders
go_by_none [] first all = tt
go_by_none (order ∷ told) first all = (sym (All-head is_empty order told all), go_by_none told (first + 1) (All-tail is_empty order told all))

-- Parts

pub on_ok_always : {T E P : Type 0} (r : Result T E) → P → OnOk r P
on_ok_always (Ok x) p = p
on_ok_always (Err e) p = tt

-- a loop hasn't ended
abbrev pub going_on : Result (Unit {0}) HostEnd
going_on = Ok tt

pub on_exit : {T E : Type 0} (P : Type 0) (Q : E → Type 0) (r : Result T E) → IsErrAnd r Q → OnOk r P
on_exit P Q (Ok x) exit = absurd exit
on_exit P Q (Err e) exit = tt

module _ {allows : List ℕ → Type 0} where
  -- no block began
  pub tells_none : {T : Type 0} {a b : World} {r : Result T HostEnd} {P : Orders → Type 0} → OnOk r (b.counters.blocks ≡ a.counters.blocks) →
      ((orders : Orders) → P orders) → Tells allows a b r P
  tells_none {a = a} {b = b} {r = r} same holds =
      let none : a.counters.blocks ≡ a.counters.blocks + 0 = omega arith in
      record {
        told = [];
        allowed = All-nil allows;
        counted = on_ok_weaker r (λ e. e ∙ none) same;
        holds = λ orders g. holds orders;
      }

  pub tells_as : {S T : Type 0} {a b c : World} {r : Result S HostEnd} {s : Result T HostEnd} {P R : Orders → Type 0} → (t : Tells allows a b r P) →
      OnOk s (c.counters.blocks ≡ a.counters.blocks + length t.told) → ((orders : Orders) → P orders → R orders) → Tells allows a c s R
  tells_as t counted then = record { told = t.told; allowed = t.allowed; counted = counted; holds = λ orders g. then orders (t.holds orders g) }

  -- what begins no block, behind it
  pub tells_behind : {T : Type 0} {a b c : World} {r : Result T HostEnd} {P R : Orders → Type 0} → Tells allows a b r P →
      c.counters.blocks ≡ b.counters.blocks → ((orders : Orders) → P orders → R orders) → Tells allows a c r R
  tells_behind {r = r} t same then = tells_as t (on_ok_weaker r (λ e. same ∙ e) t.counted) then

  pub tells_on : {S T : Type 0} {a b c : World} {x : S} {s : Result T HostEnd} {P R : Orders → Type 0} → Tells allows a b (Ok x) P →
      OnOk s (c.counters.blocks ≡ b.counters.blocks) → ((orders : Orders) → P orders → R orders) → Tells allows a c s R
  tells_on {s = s} t same then = tells_as t (on_ok_weaker s (λ e. e ∙ t.counted) same) then

  -- or that ends it
  pub tells_off : {S T : Type 0} {a b c : World} {r : Result S HostEnd} (s : Result T HostEnd) (Q : HostEnd → Type 0) {P R : Orders → Type 0} →
      Tells allows a b r P → IsErrAnd s Q → ((orders : Orders) → P orders → R orders) → Tells allows a c s R
  tells_off s Q t exit then = tells_as t (on_exit _ Q s exit) then

  -- and before it
  pub tells_before : {T : Type 0} {a b c : World} {r : Result T HostEnd} {P R : Orders → Type 0} → b.counters.blocks ≡ a.counters.blocks →
      Tells allows b c r P → ((orders : Orders) → P orders → R orders) → Tells allows a c r R
  tells_before {a = a} {r = r} same t then =
      record {
        told = t.told;
        allowed = t.allowed;
        counted = on_ok_weaker r (λ e. e ∙ ap (λ n. n + length t.told) same) t.counted;
        holds = λ orders g. then orders (t.holds orders (subst (λ n. GoBy t.told n orders) (sym same) g));
      }

  pub tells_then : {S T : Type 0} {a b c : World} {x : S} {r : Result T HostEnd} {P Q R : Orders → Type 0} → Tells allows a b (Ok x) P →
      Tells allows b c r Q → ((orders : Orders) → P orders → Q orders → R orders) → Tells allows a c r R
  tells_then {a = a} {b = b} {c = c} {r = r} t u then =
      let both = length-append t.told u.told in
      record {
        told = t.told ++ u.told;
        allowed = All-append allows t.told u.told t.allowed u.allowed;
        counted = on_ok_weaker r (λ e. omega (arith, both, e, t.counted)) u.counted;
        holds = λ orders g.
            then orders (t.holds orders (go_by_front t.told u.told a.counters.blocks orders g))
            (u.holds orders (subst (λ n. GoBy u.told n orders) (sym t.counted) (go_by_rest t.told u.told a.counters.blocks orders g)));
      }

  -- what came behind it didn't end this
  pub tells_more : {S T U : Type 0} {a b c : World} {x : S} {y : T} {z : U} {P Q R : Orders → Type 0} → Tells allows a b (Ok x) P →
      Tells allows b c (Ok y) Q → ((orders : Orders) → P orders → Q orders → R orders) → Tells allows a c (Ok z) R
  tells_more {R = R} t u then = tells_on (tells_then {R = R} t u then) refl (λ orders holds. holds)

  -- what came behind it ended there
  pub tells_stopped : {S T U : Type 0} {a b c d : World} {x : S} {r : Result T HostEnd} (s : Result U HostEnd) (E : HostEnd → Type 0) {P Q R : Orders → Type 0} →
      Tells allows a b (Ok x) P → Tells allows b c r Q → IsErrAnd s E → ((orders : Orders) → P orders → Q orders → R orders) → Tells allows a d s R
  tells_stopped s E {R = R} t u exit then = tells_off s E (tells_then {R = R} t u then) exit (λ orders holds. holds)

  -- some orders go on by these
  pub told_by_some : {T : Type 0} {a b : World} {r : Result T HostEnd} {P : Orders → Type 0} → Tells allows a b r P → (orders : Orders) × P orders
  told_by_some {a = a} t =
      let orders = orders_from a.counters.blocks t.told in (orders, t.holds orders (go_by_told t.told a.counters.blocks))
