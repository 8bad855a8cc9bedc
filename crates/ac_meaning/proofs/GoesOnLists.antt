-- What the names hold goes on as it was declared: the relation alone.
use Rattle.std.proofs.Common.{◌++◌, ℕ, zero, suc, List, [], ◌∷◌, map, take, length, slice_get, slice_set, refl, sym, ap, subst, ◌∙◌, inl}
use Rattle.ac_rules.specs.Resolved.{ResolvedSimple}
use Rattle.ac_calls.specs.Holdings.{Held, of_rows, of_holder, of_queue, Guards, held_under}
use Rattle.ac_meaning.specs.AsDeclared.{limit_of, capacity_of, HeldGoesOn, BoundGoesOn, EachGoesOn, StateGoesOn}
use Rattle.ac_meaning.specs.Commands.{performed}
use Rattle.ac_meaning.specs.Environment.{Bound, binds_type, binds_object, binds_cursor, binds_value, binds_element, bound_by, bound_in, State, under, at_rest}
use Rattle.ac_meaning.specs.Execution.{commanded}
use Rattle.ac_meaning.specs.HoldsTypes.{has_line}
use Rattle.ac_meaning.specs.Stays.{HeldStays, BoundStays, EachStays}
use Rattle.ac_meaning.proofs.BoundsStay.{capacity_then}
use Rattle.ac_meaning.proofs.CommandsStay.{command_stays}

-- One after another

held_same : (h : Held) → HeldGoesOn h h
held_same h = record { shape = refl; limit = refl; capacity = inl refl }

held_then : (a b c : Held) → HeldGoesOn a b → HeldGoesOn b c → HeldGoesOn a c
held_then a b c h k = record {
  shape = k.shape ∙ h.shape;
  limit = k.limit ∙ h.limit;
  capacity = capacity_then (limit_of a) (limit_of b) (capacity_of a) (capacity_of b) (capacity_of c) h.limit h.capacity k.capacity;
}

bound_same : (b : Bound) → BoundGoesOn b b
bound_same binds_type = tt
bound_same (binds_object h) = held_same h
bound_same (binds_cursor mark) = tt
bound_same (binds_value v) = tt
bound_same (binds_element object at) = tt

pub bound_then : (a b c : Bound) → BoundGoesOn a b → BoundGoesOn b c → BoundGoesOn a c
bound_then binds_type binds_type c h k = k
bound_then (binds_object g) (binds_object a) (binds_object b) h k = held_then g a b h k
bound_then (binds_cursor m) (binds_cursor n) (binds_cursor l) h k = tt
bound_then (binds_value m) (binds_value n) (binds_value l) h k = tt
bound_then (binds_element p m) (binds_element q n) (binds_element r l) h k = tt
bound_then (binds_object g) (binds_object a) _ h k = absurd k
bound_then (binds_cursor m) (binds_cursor n) _ h k = absurd k
bound_then (binds_value m) (binds_value n) _ h k = absurd k
bound_then (binds_element p m) (binds_element q n) _ h k = absurd k
bound_then binds_type _ c h k = absurd h
bound_then (binds_object g) _ c h k = absurd h
bound_then (binds_cursor m) _ c h k = absurd h
bound_then (binds_value m) _ c h k = absurd h
bound_then (binds_element p m) _ c h k = absurd h

pub each_same : (bs : List Bound) → EachGoesOn bs bs
each_same [] = tt
each_same (b ∷ bs) = (bound_same b, each_same bs)

pub each_then : (xs bs cs : List Bound) → EachGoesOn xs bs → EachGoesOn bs cs → EachGoesOn xs cs
each_then [] [] cs h k = k
each_then (a ∷ xs) (b ∷ bs) (c ∷ cs) h k = (bound_then a b c h.0 k.0, each_then xs bs cs h.1 k.1)
each_then (a ∷ xs) (b ∷ bs) [] h k = absurd k
each_then [] (b ∷ bs) cs h k = absurd h
each_then (a ∷ xs) [] cs h k = absurd h

-- At a place

-- with something else there
pub each_set : (xs bs : List Bound) (place : ℕ) (b : Bound) → EachGoesOn xs bs → BoundGoesOn (bound_in (slice_get xs place)) b →
    EachGoesOn xs (slice_set bs place b)
each_set [] [] place b h k = tt
each_set [] (x ∷ bs) place b h k = absurd h
each_set (a ∷ xs) [] place b h k = absurd h
each_set (a ∷ xs) (x ∷ bs) zero b h k = (k, h.1)
each_set (a ∷ xs) (x ∷ bs) (suc place) b h k = (h.0, each_set xs bs place b h.1 k)

pub each_at : (xs bs : List Bound) (place : ℕ) → EachGoesOn xs bs → BoundGoesOn (bound_in (slice_get xs place)) (bound_in (slice_get bs place))
each_at [] [] place h = tt
each_at [] (x ∷ bs) place h = absurd h
each_at (a ∷ xs) [] place h = absurd h
each_at (a ∷ xs) (x ∷ bs) zero h = h.0
each_at (a ∷ xs) (x ∷ bs) (suc place) h = each_at xs bs place h.1

-- Names that go

pub each_back : (xs more bs : List Bound) → EachGoesOn (xs ++ more) bs → EachGoesOn xs (take (length xs) bs)
each_back [] more bs h = tt
each_back (a ∷ xs) more [] h = absurd h
each_back (a ∷ xs) more (b ∷ bs) h = (h.0, each_back xs more bs h.1)

-- Under guards

held_under_goes : (guards : Guards) (h : Held) → HeldGoesOn h (held_under guards h)
held_under_goes guards (of_rows kind o) = record { shape = refl; limit = refl; capacity = inl refl }
held_under_goes guards (of_holder e h) = record { shape = refl; limit = refl; capacity = inl refl }
held_under_goes guards (of_queue number q) = record { shape = refl; limit = refl; capacity = inl refl }

bound_under_goes : (guards : Guards) (b : Bound) → BoundGoesOn b (bound_by (held_under guards) b)
bound_under_goes guards binds_type = tt
bound_under_goes guards (binds_object h) = held_under_goes guards h
bound_under_goes guards (binds_cursor mark) = tt
bound_under_goes guards (binds_value v) = tt
bound_under_goes guards (binds_element object at) = tt

each_under_goes : (guards : Guards) (bs : List Bound) → EachGoesOn bs (map (bound_by (held_under guards)) bs)
each_under_goes guards [] = tt
each_under_goes guards (b ∷ bs) = (bound_under_goes guards b, each_under_goes guards bs)

pub under_goes : (guards : Guards) (e : State) → StateGoesOn e (under guards e)
under_goes guards e = each_under_goes guards e.bounds

pub rest_goes : (e : State) → StateGoesOn e (at_rest e)
rest_goes e = each_under_goes [] e.bounds

-- Through a command

held_on : (h after : Held) → HeldStays h after → HeldGoesOn h after
held_on (of_rows kind o) after s =
    subst (λ x. HeldGoesOn (of_rows kind o) x) (sym s.1) (record { shape = refl; limit = s.2.limit; capacity = s.2.capacity refl })
held_on (of_holder e h) after s =
    subst (λ x. HeldGoesOn (of_holder e h) x) (sym s.1) (record { shape = refl; limit = s.2.limit; capacity = inl refl })
held_on (of_queue number q) after s =
    subst (λ x. HeldGoesOn (of_queue number q) x) (sym s.1)
    (record { shape = ap has_line s.2.discipline; limit = s.2.limit; capacity = inl refl })

bound_on : (b c : Bound) → BoundStays b c → BoundGoesOn b c
bound_on binds_type binds_type s = tt
bound_on (binds_object h) (binds_object after) s = held_on h after s
bound_on (binds_cursor m) (binds_cursor n) s = tt
bound_on (binds_value v) (binds_value w) s = tt
bound_on (binds_element object at) (binds_element other mark) s = tt
bound_on binds_type _ s = absurd s
bound_on (binds_object h) _ s = absurd s
bound_on (binds_cursor m) _ s = absurd s
bound_on (binds_value v) _ s = absurd s
bound_on (binds_element object at) _ s = absurd s

each_on : (bs cs : List Bound) → EachStays bs cs → EachGoesOn bs cs
each_on [] [] s = tt
each_on [] (c ∷ cs) s = absurd s
each_on (b ∷ bs) [] s = absurd s
each_on (b ∷ bs) (c ∷ cs) s = (bound_on b c s.0, each_on bs cs s.1)

pub command_goes : (e : State) (simple : ResolvedSimple) → StateGoesOn e (performed e simple).after
command_goes e simple = each_on e.bounds (performed e simple).after.bounds (command_stays e simple).bounds

pub commanded_goes : (guards : Guards) (e : State) (simple : ResolvedSimple) → StateGoesOn e (commanded guards e simple).after
commanded_goes guards e simple =
    let start = under guards e in
    let done = (performed start simple).after in
    each_then e.bounds start.bounds (at_rest done).bounds (under_goes guards e)
    (each_then start.bounds done.bounds (at_rest done).bounds (command_goes start simple) (rest_goes done))
