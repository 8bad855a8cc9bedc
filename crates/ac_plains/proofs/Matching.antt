-- Whether an entry matches what a name holds is decided.
use Rattle.std.proofs.Common.{◌≡◌, ◌≢◌, ◌⊎◌, ◌+◌, inl, inr, ℕ, zero, suc, Bool, true, false, List, [], ◌∷◌, ◌++◌, length, Option, Some, None, refl, sym, ap, subst, ◌∙◌, arith, All}
use Rattle.std.proofs.Math.Dec.{eqb}
use Rattle.std.proofs.Math.Seq.{get_or-append_seam}
use Rattle.std.proofs.lemmas.Bool.Decides.{eqb_tells}
use Rattle.std.proofs.lemmas.List.{length-append}
use Rattle.std.proofs.lemmas.List.Elements.{All-cons}
use Rattle.std.proofs.lemmas.Option.{none-some, same_Some}
use Rattle.ac_base.specs.declared.value.Value.TheVariants as value
use Rattle.ac_syntax.specs.declared.kind.ElemKind.{ElemKind}
use Rattle.ac_syntax.specs.declared.kind.ElemKind.TheVariants.{Integer, Str}
use Rattle.ac_syntax.specs.declared.kind.Kind.{Kind}
use Rattle.ac_syntax.specs.declared.kind.Kind.TheVariants as kinds
use Rattle.ac_syntax.specs.declared.type_def.TypeDef.{TypeDef}
use Rattle.ac_syntax.specs.declared.script.Script.{Script}
use Rattle.ac_calls.specs.Holdings.{Held}
use Rattle.ac_calls.specs.declared.plains.Plain.{Plain}
use Rattle.ac_calls.specs.declared.plains.Plain.TheVariants as plain
use Rattle.ac_meaning.specs.AsDeclared.{limit_of}
use Rattle.ac_meaning.specs.Environment.{Bound, binds_type, binds_object, binds_cursor, binds_value, binds_element, State, bound_at}
use Rattle.ac_meaning.specs.Plains.{def_of, limit_number}
use Rattle.ac_plains.specs.Resumed.{IsMatched, IsMismatch, IsObjectAs, Matches, entry_place}

abbrev pub Either : Type 0 → Type 0
Either P = P ⊎ (P → ⊥)

-- equality is decided

told_apart : (m n : ℕ) → ((eqb m n ≡ true) × (m ≡ n)) ⊎ ((eqb m n ≡ false) × (m ≢ n)) → Either (m ≡ n)
told_apart m n (inl (is, same)) = inl same
told_apart m n (inr (is, other)) = inr other

pub numbers : (m n : ℕ) → Either (m ≡ n)
numbers m n = told_apart m n (eqb_tells m n)

-- of what has a number of its own
module _ {A : Type 0} (number : A → ℕ) (with_number : ℕ → A) (back : (a : A) → with_number (number a) ≡ a) where
  by_numbers : (a b : A) → Either (number a ≡ number b) → Either (a ≡ b)
  by_numbers a b (inl same) = inl (sym (back a) ∙ ap with_number same ∙ back b)
  by_numbers a b (inr other) = inr (λ same. other (ap number same))

  numbered : (a b : A) → Either (a ≡ b)
  numbered a b = by_numbers a b (numbers (number a) (number b))

bool_number : Bool → ℕ
bool_number false = 0
bool_number true = 1

bool_with : ℕ → Bool
bool_with zero = false
bool_with (suc n) = true

bool_back : (b : Bool) → bool_with (bool_number b) ≡ b
unfolding bool_number bool_with
bool_back false = refl
bool_back true = refl

elem_number : ElemKind → ℕ
elem_number Integer = 0
elem_number Str = 1

elem_with : ℕ → ElemKind
elem_with zero = Integer
elem_with (suc n) = Str

elem_back : (e : ElemKind) → elem_with (elem_number e) ≡ e
unfolding elem_number elem_with
elem_back Integer = refl
elem_back Str = refl

kind_number : Kind → ℕ
kind_number kinds.Vector = 0
kind_number kinds.List = 1
kind_number kinds.HashedMap = 2
kind_number kinds.OrderedMap = 3
kind_number kinds.HashedSet = 4
kind_number kinds.OrderedSet = 5
kind_number kinds.Tree = 6
kind_number kinds.Holder = 7
kind_number kinds.Queue = 8
kind_number kinds.PriorityQueue = 9

kind_with : ℕ → Kind
kind_with zero = kinds.Vector
kind_with (suc zero) = kinds.List
kind_with (suc (suc zero)) = kinds.HashedMap
kind_with (suc (suc (suc zero))) = kinds.OrderedMap
kind_with (suc (suc (suc (suc zero)))) = kinds.HashedSet
kind_with (suc (suc (suc (suc (suc zero))))) = kinds.OrderedSet
kind_with (suc (suc (suc (suc (suc (suc zero)))))) = kinds.Tree
kind_with (suc (suc (suc (suc (suc (suc (suc zero))))))) = kinds.Holder
kind_with (suc (suc (suc (suc (suc (suc (suc (suc zero)))))))) = kinds.Queue
kind_with (suc (suc (suc (suc (suc (suc (suc (suc (suc n))))))))) = kinds.PriorityQueue

kind_back : (k : Kind) → kind_with (kind_number k) ≡ k
unfolding kind_number kind_with
kind_back kinds.Vector = refl
kind_back kinds.List = refl
kind_back kinds.HashedMap = refl
kind_back kinds.OrderedMap = refl
kind_back kinds.HashedSet = refl
kind_back kinds.OrderedSet = refl
kind_back kinds.Tree = refl
kind_back kinds.Holder = refl
kind_back kinds.Queue = refl
kind_back kinds.PriorityQueue = refl

module _ {A : Type 0} (each : (a b : A) → Either (a ≡ b)) where
  some_same : (a b : A) → Either (a ≡ b) → Either (Some a ≡ Some b)
  some_same a b (inl same) = inl (ap Some same)
  some_same a b (inr other) = inr (λ same. other (same_Some a b same))

  options : (a b : Option A) → Either (a ≡ b)
  options None None = inl refl
  options None (Some b) = inr (none-some b)
  options (Some a) None = inr (λ same. none-some a (sym same))
  options (Some a) (Some b) = some_same a b (each a b)

both : {P Q R : Type 0} → Either P → Either Q → (P → Q → R) → (R → P) → (R → Q) → Either R
both (inl p) (inl q) made one other = inl (made p q)
both (inl p) (inr never) made one other = inr (λ r. never (other r))
both (inr never) q made one other = inr (λ r. never (one r))

-- what needs a part is decided where the part is
part : {P T : Type 0} → Either P → (T → P) → (P → Either T) → Either T
part (inl p) needs on = on p
part (inr never) needs on = inr (λ t. never (needs t))

types : (a b : TypeDef) → Either (a ≡ b)
types a b =
    part (numbered bool_number bool_with bool_back a.bounded b.bounded) (λ same. ap (λ (d : TypeDef). d.bounded) same) (λ bounded.
    part (numbered kind_number kind_with kind_back a.kind b.kind) (λ same. ap (λ (d : TypeDef). d.kind) same) (λ kind.
    part (numbered elem_number elem_with elem_back a.first b.first) (λ same. ap (λ (d : TypeDef). d.first) same) (λ first.
    part (options (numbered elem_number elem_with elem_back) a.second b.second) (λ same. ap (λ (d : TypeDef). d.second) same) (λ second.
    part (numbered bool_number bool_with bool_back a.keyed b.keyed) (λ same. ap (λ (d : TypeDef). d.keyed) same) (λ keyed.
    inl (λ i. record { bounded = bounded i; kind = kind i; first = first i; second = second i; keyed = keyed i }))))))

-- what a name holds

held_in : {h k : Held} → binds_object h ≡ binds_object k → h ≡ k
held_in same = cc

object_as : (def : TypeDef) (limit : Option ℕ) (h : Held) → Either (IsObjectAs def limit (binds_object h))
object_as def limit h =
    both (types (def_of h) def) (options numbers (limit_number (limit_of h)) limit)
    (λ p q. record { held = h; there = refl; of_type = p; within = q })
    (λ r. ap def_of (held_in r.there) ∙ r.of_type)
    (λ r. ap (λ k. limit_number (limit_of k)) (held_in r.there) ∙ r.within)

pub decided : (entry : Plain) (b : Bound) → Either (Matches entry b)
decided (plain.Int name z) binds_type = inr (λ h. cc h.1)
decided (plain.Int name z) (binds_object held) = inr (λ h. cc h.1)
decided (plain.Int name z) (binds_cursor mark) = inr (λ h. cc h.1)
decided (plain.Int name z) (binds_value (value.Int n)) = inl (n, refl)
decided (plain.Int name z) (binds_value (value.Text text)) = inr (λ h. cc h.1)
decided (plain.Int name z) (binds_element object at) = inr (λ h. cc h.1)
decided (plain.Str name bytes) binds_type = inr (λ h. cc h.1)
decided (plain.Str name bytes) (binds_object held) = inr (λ h. cc h.1)
decided (plain.Str name bytes) (binds_cursor mark) = inr (λ h. cc h.1)
decided (plain.Str name bytes) (binds_value (value.Int n)) = inr (λ h. cc h.1)
decided (plain.Str name bytes) (binds_value (value.Text text)) = inl (text, refl)
decided (plain.Str name bytes) (binds_element object at) = inr (λ h. cc h.1)
decided (plain.Object name def limit capacity peak rows) binds_type = inr (λ h. cc h.there)
decided (plain.Object name def limit capacity peak rows) (binds_object held) = object_as def limit held
decided (plain.Object name def limit capacity peak rows) (binds_cursor mark) = inr (λ h. cc h.there)
decided (plain.Object name def limit capacity peak rows) (binds_value v) = inr (λ h. cc h.there)
decided (plain.Object name def limit capacity peak rows) (binds_element object at) = inr (λ h. cc h.there)

-- a state, entry by entry

module _ (script : Script) (e : State) where
  one_more : (entry : Plain) (s : List Plain) → IsMatched script e entry → All (IsMatched script e) s ⊎ ((line : ℕ) × IsMismatch script e s line) →
      All (IsMatched script e) (entry ∷ s) ⊎ ((line : ℕ) × IsMismatch script e (entry ∷ s) line)
  one_more entry s here (inl all) = inl (All-cons (IsMatched script e) entry s here all)
  one_more entry s here (inr (line, m)) =
      inr (
        length m.before + 1 + 1,
        record {
          before = entry ∷ m.before;
          entry = m.entry;
          later = m.later;
          is = ap (λ rest. entry ∷ rest) m.is;
          matched = All-cons (IsMatched script e) entry m.before here m.matched;
          unmatched = m.unmatched;
          counted = omega arith;
        },
      )

  this_one : (entry : Plain) (s : List Plain) → (All (IsMatched script e) s ⊎ ((line : ℕ) × IsMismatch script e s line)) → Either (IsMatched script e entry) →
      All (IsMatched script e) (entry ∷ s) ⊎ ((line : ℕ) × IsMismatch script e (entry ∷ s) line)
  this_one entry s rest (inl here) = one_more entry s here rest
  this_one entry s rest (inr never) =
      inr (1, record { before = []; entry = entry; later = s; is = refl; matched = λ k d l. absurd (omega (arith, l)); unmatched = never; counted = refl })

  -- all are matched, or one is the first that isn't
  pub each_matched : (s : List Plain) → All (IsMatched script e) s ⊎ ((line : ℕ) × IsMismatch script e s line)
  each_matched [] = inl (λ k d l. absurd (omega (arith, l)))
  each_matched (entry ∷ s) = this_one entry s (each_matched s) (decided entry (bound_at e (entry_place script entry)))

  -- and not both
  pub unmatched_there : (s before : List Plain) (entry : Plain) (later : List Plain) → s ≡ before ++ entry ∷ later → All (IsMatched script e) s → IsMatched script e entry
  unmatched_there s before entry later is all =
      subst (IsMatched script e) (get_or-append_seam before entry later entry) (subst (All (IsMatched script e)) is all (length before) entry (omega (arith, length-append before (entry ∷ later))))
