-- A queue that was filled gets its greatest use, where a state tells one.
use Rattle.std.proofs.Common.{◌≡◌, ◌≤◌, arith, ℕ, Bool, true, false, List, map, length, refl, sym, ap, subst, ◌∙◌, Option, Some, None, IfSome, unwrap_or}
use Rattle.std.specs.Prelude.{◌&&◌, nat_le}
use Rattle.std.proofs.lemmas.Bool.{false≢true, and_parts, leb-true}
use Rattle.std.proofs.lemmas.Bool.Decides.{nat_tests}
use Rattle.std.proofs.lemmas.List.{length-map}
use Rattle.ac_base.specs.declared.limit.TheConstants.{GREATEST_LENGTH}
use Rattle.ac_base.specs.Limits.{is_past}
use Rattle.ac_syntax.specs.declared.kind.ElemKind.{ElemKind}
use Rattle.ac_syntax.specs.declared.kind.Kind.{Kind}
use Rattle.ac_syntax.specs.declared.kind.Kind.TheVariants as kinds
use Rattle.ac_syntax.specs.declared.type_def.TypeDef.{TypeDef}
use Rattle.ac_syntax.specs.Kinds.{is_queue}
use Rattle.ac_calls.specs.Holdings.{Held, new_held, limit_by}
use Rattle.ac_calls.specs.declared.plains.PlainRow.{PlainRow}
use Rattle.ac_meaning.specs.Environment.{State, binds_object, bound_at, object_at, with_bound}
use Rattle.ac_meaning.proofs.Places.{same_some}
use Rattle.ac_objects.specs.Peaks.{HeldFits, PeakFits, held_peaked, peaked}
use Rattle.ac_snapshot.specs.Filled.{filled, item_in}
use Rattle.ac_snapshot.specs.RowValidity.{is_given}
use Rattle.ac_snapshot.specs.Validity.{is_limit_of, is_peak_of}
use Rattle.ac_snapshot.proofs.Filling.{fill_ends}
use Rattle.ac_plains.specs.Filling.{IsAsDeclared, with_peak}
use Rattle.ac_plains.proofs.FillingPlaces.{put_twice, put_same, put_there, bound_there}
use Rattle.ac_plains.proofs.FillingReserved.{IsTold, told_by, some_where_wanted}

-- A greatest use between the length and the limit

not_past : (bounded : Bool) (limit : Option ℕ) (p : ℕ) → is_given bounded (λ most. nat_le most GREATEST_LENGTH) limit ≡ true → p ≤ unwrap_or limit GREATEST_LENGTH →
    (is_past (limit_by limit) p ≡ false) × (p ≤ GREATEST_LENGTH)
not_past bounded None p h below = (refl, below)
not_past true (Some most) p h below =
    let short = leb-true most GREATEST_LENGTH h in
    (grind (arith, nat_tests), omega arith)
not_past false (Some most) p h below = absurd (false≢true h)

module _ (number : ℕ) (limit capacity : Option ℕ) (rows : List PlainRow) (p : ℕ) where
  abbrev Fits : TypeDef → Type 0
  Fits def = HeldFits p (filled (new_held def number limit) capacity (Some (length rows)) rows)

  abbrev Peaks : TypeDef → Type 0
  Peaks def =
      held_peaked p (filled (new_held def number limit) capacity (Some (length rows)) rows) ≡ filled (new_held def number limit) capacity (Some p) rows

  items_fit : length rows ≤ p → length (map item_in rows) ≤ p
  items_fit h = subst (λ n. n ≤ p) (sym (length-map rows item_in)) h

  module _ (bounded : Bool) (first : ElemKind) (second : Option ElemKind) (keyed : Bool) where
    abbrev of_kind : Kind → TypeDef
    of_kind kind = record { bounded = bounded; kind = kind; first = first; second = second; keyed = keyed }

    fits_in : (kind : Kind) → is_queue kind ≡ true → length rows ≤ p → (is_past (limit_by limit) p ≡ false) × (p ≤ GREATEST_LENGTH) → Fits (of_kind kind)
    fits_in kinds.Queue q least most = (items_fit least, most.0, most.1)
    fits_in kinds.PriorityQueue q least most = (items_fit least, most.0, most.1)
    fits_in _ q least most = absurd (false≢true q)

    peaks_in : (kind : Kind) → is_queue kind ≡ true → Peaks (of_kind kind)
    peaks_in kinds.Queue q = refl
    peaks_in kinds.PriorityQueue q = refl
    peaks_in _ q = absurd (false≢true q)

-- The queue, with its rows and then its greatest use

module _ (def : TypeDef) (number : ℕ) (limit capacity : Option ℕ) (rows : List PlainRow) where
  abbrev held_with : Option ℕ → Held
  held_with peak = filled (new_held def number limit) capacity peak rows

  fits_by : (peak : Option ℕ) → is_limit_of def limit ≡ true → is_peak_of def limit rows peak ≡ true →
      IfSome peak (λ most. PeakFits most (binds_object (held_with (Some (length rows)))))
  fits_by None limited used = tt
  fits_by (Some p) limited used =
      let wanted = and_parts (is_queue def.kind) (nat_le (length rows) p && nat_le p (unwrap_or limit GREATEST_LENGTH)) used in
      let between = and_parts (nat_le (length rows) p) (nat_le p (unwrap_or limit GREATEST_LENGTH)) wanted.1 in
      fits_in number limit capacity rows p def.bounded def.first def.second def.keyed def.kind wanted.0 (leb-true (length rows) p between.0)
      (not_past def.bounded limit p limited (leb-true p (unwrap_or limit GREATEST_LENGTH) between.1))

  peaked_by : (peak : Option ℕ) → is_peak_of def limit rows peak ≡ true → (s : State) (place : ℕ) → object_at s place ≡ Some (held_with (Some (length rows))) →
      with_peak peak s place ≡ with_bound s place (binds_object (held_with peak))
  peaked_by None used s place there =
      let other : is_queue def.kind ≡ false = sym (some_where_wanted (is_queue def.kind) (λ p. nat_le (length rows) p && nat_le p (unwrap_or limit GREATEST_LENGTH)) None used) in
      sym (ap (λ h. with_bound s place (binds_object h)) (sym (fill_ends def number (length rows) limit capacity None rows other))
      ∙ put_same s place (held_with (Some (length rows))) there)
  peaked_by (Some p) used s place there =
      let wanted = and_parts (is_queue def.kind) (nat_le (length rows) p && nat_le p (unwrap_or limit GREATEST_LENGTH)) used in
      ap (λ b. with_bound s place (peaked p b)) (bound_there s place (held_with (Some (length rows))) there)
      ∙ ap (λ h. with_bound s place (binds_object h)) (peaks_in number limit capacity rows p def.bounded def.first def.second def.keyed def.kind wanted.0)

module _ {def : TypeDef} {capacity peak : Option ℕ} {rows : List PlainRow} {e : State} {place : ℕ} (d : IsAsDeclared def capacity peak rows e place) where
  abbrev pub held_now : Option ℕ → Held
  held_now most = filled (new_held def d.number d.limit) capacity most rows

  told : IsTold def d.limit capacity peak rows
  told = told_by def d.limit capacity peak rows d.valid

  pub stands_filled : (s : State) → s ≡ with_bound e place (binds_object (held_now (Some (length rows)))) → object_at s place ≡ Some (held_now (Some (length rows)))
  stands_filled s is = ap (λ x. object_at x place) is ∙ put_there e place (new_held def d.number d.limit) d.there (held_now (Some (length rows)))

  pub peak_fits : (s : State) → s ≡ with_bound e place (binds_object (held_now (Some (length rows)))) → IfSome peak (λ most. PeakFits most (bound_at s place))
  peak_fits s is =
      subst (λ b. IfSome peak (λ most. PeakFits most b)) (sym (bound_there s place (held_now (Some (length rows))) (stands_filled s is)))
      (fits_by def d.number d.limit capacity rows peak told.limited told.used)

  pub is_filled : (s t : State) → s ≡ with_bound e place (binds_object (held_now (Some (length rows)))) → t ≡ with_peak peak s place →
      (h : Held) → object_at e place ≡ Some h → t ≡ with_bound e place (binds_object (filled h capacity peak rows))
  is_filled s t is last h there =
      let own : new_held def d.number d.limit ≡ h = same_some (new_held def d.number d.limit) h (sym d.there ∙ there) in
      last
      ∙ (peaked_by def d.number d.limit capacity rows peak told.used s place (stands_filled s is)
      ∙ (ap (λ x. with_bound x place (binds_object (held_now peak))) is
      ∙ (put_twice e place (binds_object (held_now (Some (length rows)))) (binds_object (held_now peak))
      ∙ ap (λ x. with_bound e place (binds_object (filled x capacity peak rows))) own)))
