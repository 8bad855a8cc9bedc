-- What fills holders and queues.
use Rattle.std.proofs.Common.{◌≡◌, ◌+◌, ◌≤◌, arith, ℕ, ℤ, Bool, true, false, not, ◌&&◌, List, [], ◌∷◌, ◌++◌, length, take, drop, map, max, refl, sym, ap, ◌∙◌, Option, Some, None}
use Rattle.std.specs.Prelude.{int_lt}
use Rattle.std.proofs.Math.Seq.{take-length, drop-length}
use Rattle.std.proofs.lemmas.Bool.{false≢true, not-true, ltb-false, ne_eqb}
use Rattle.std.proofs.lemmas.Int.{ints}
use Rattle.std.proofs.lemmas.List.{length-map, map-append}
use Rattle.ac_base.specs.declared.limit.TheConstants.{GREATEST_LENGTH}
use Rattle.ac_base.specs.declared.reason.Reason.TheVariants.{TooLarge, LengthRange}
use Rattle.ac_base.specs.declared.value.Value.{Value}
use Rattle.ac_base.specs.FirstReason.{first_reason}
use Rattle.ac_base.specs.Limits.{is_past}
use Rattle.ac_model.specs.Holders.{empty_holder, is_too_large}
use Rattle.ac_model.specs.Keyed.{is_strictly_ascending}
use Rattle.ac_model.specs.Letters.{reason_if}
use Rattle.ac_model.specs.Queues.{Discipline, by_arrival, by_priority, empty_queue, priority, comes_before, are_in_line, are_in_line_by, is_full, is_too_long, lined_up}
use Rattle.ac_syntax.specs.declared.kind.ElemKind.{ElemKind}
use Rattle.ac_syntax.specs.declared.operation.HolderCall.TheVariants as holder_call
use Rattle.ac_syntax.specs.declared.operation.Operation.TheVariants as operation
use Rattle.ac_syntax.specs.declared.operation.QueueCall.TheVariants as queue_call
use Rattle.ac_calls.specs.Elements.{tools_of, integer_in}
use Rattle.ac_calls.specs.Holdings.{Held, of_holder, of_queue, limit_by, reply_of}
use Rattle.ac_calls.specs.declared.plains.PlainRow.{PlainRow}
use Rattle.ac_snapshot.specs.FillLaws.{Leaves}
use Rattle.ac_snapshot.specs.Filled.{filled, item_in, arguments_by}
use Rattle.ac_snapshot.specs.RowValidity.{is_given, is_held}
use Rattle.ac_snapshot.specs.RowValues.{element_in}
use Rattle.ac_snapshot.proofs.FillingKeyed.{all_less}

-- Holders

module _ (e : ElemKind) (number : ℕ) (limit : Option ℕ) (capacity : Option ℕ) where
  abbrev new_holder : Held
  new_holder = of_holder e (empty_holder number (limit_by limit))

  -- the only row is the first
  module _ (peak new : Option ℕ) (depth : ℕ) (v : Value) (test : Value → Bool) where
    abbrev PutsElement : List PlainRow → Option Value → Type 0
    PutsElement before key =
        Leaves (reply_of (filled new_holder capacity peak before) None (operation.Holder holder_call.ReplaceElement) (arguments_by key v))
        (filled new_holder capacity new (before ++ record { depth = depth; key = key; value = v } ∷ []))

    pub element_put : (before later : List PlainRow) (key : Option Value) → is_given false test key ≡ true →
        is_held (tools_of e) limit (map (element_in (tools_of e)) (before ++ record { depth = depth; key = key; value = v } ∷ later)) ≡ true → PutsElement before key
    element_put before later (Some key) h held = absurd (false≢true h)
    element_put [] [] None h held =
        let fits = not-true (is_too_large (tools_of e).size (limit_by limit) (Some ((tools_of e).from_value v))) held in
        (refl, λ i. first_reason (None ∷ reason_if (fits i) TooLarge ∷ []), refl)
    element_put [] (s ∷ later) None h held = absurd (false≢true held)
    element_put (b ∷ []) later None h held = absurd (false≢true held)
    element_put (b ∷ s ∷ before) later None h held = absurd (false≢true held)

-- Queues

not_before : (x y z : ℤ) → not (comes_before y x) ≡ true → not (comes_before z y) ≡ true → not (comes_before z x) ≡ true
not_before x y z h k = below (priority x) (priority y) (priority z) h k
  where
    below : (a b c : ℤ) → not (int_lt a b) ≡ true → not (int_lt b c) ≡ true → not (int_lt a c) ≡ true
    below a b c h k = grind (arith, ints)

line_ascends : (items : List ℤ) → are_in_line items ≡ is_strictly_ascending (λ x y. not (comes_before y x)) items
line_ascends [] = refl
line_ascends (x ∷ []) = refl
line_ascends (x ∷ y ∷ items) = ap (λ b. not (comes_before y x) && b) (line_ascends (y ∷ items))

lined_up_behind : (discipline : Discipline) (items : List ℤ) (item : ℤ) (later : List ℤ) → are_in_line_by discipline (items ++ item ∷ later) ≡ true → lined_up discipline items item ≡ items ++ item ∷ []
lined_up_behind by_arrival items item later h = refl
lined_up_behind by_priority items item later h =
    let place = all_less (λ x y. not (comes_before y x)) not_before items item later (sym (line_ascends (items ++ item ∷ later)) ∙ h) in
    ap (λ n. take n items ++ item ∷ drop n items) place ∙ (λ i. take-length items i ++ item ∷ drop-length items i)

not_full : (limit : Option ℕ) (items : List ℤ) (n peak : ℕ) → length items ≡ n → is_past (limit_by limit) (n + 1) ≡ false →
    is_full (record { limit = limit_by limit; items = items; peak = peak }) ≡ false
not_full None items n peak counts within = refl
not_full (Some most) items n peak counts within =
    let less = ltb-false most (n + 1) within in
    ne_eqb most (length items) (λ same. omega (arith, same, counts, less))

not_too_long : (limit : Option ℕ) (items : List ℤ) (n peak : ℕ) → length items ≡ n → n + 1 ≤ GREATEST_LENGTH →
    is_too_long (record { limit = limit_by limit; items = items; peak = peak }) ≡ false
not_too_long None items n peak counts few = ne_eqb GREATEST_LENGTH (length items) (λ same. omega (arith, same, counts, few))
not_too_long (Some most) items n peak counts few = refl

module _ (discipline : Discipline) (number : ℕ) (limit : Option ℕ) (capacity : Option ℕ) where
  abbrev new_queue : Held
  new_queue = of_queue number (record { discipline = discipline; queue = empty_queue (limit_by limit) })

  module _ (depth : ℕ) (v : Value) (test : Value → Bool) (before later : List PlainRow) where
    abbrev PutsItem : Option Value → Type 0
    PutsItem key =
        Leaves (reply_of (filled new_queue capacity (Some (length before)) before) None (operation.Queue queue_call.Enqueue) (arguments_by key v))
        (filled new_queue capacity (Some (length before + 1)) (before ++ record { depth = depth; key = key; value = v } ∷ []))

    pub item_put : (key : Option Value) → is_given false test key ≡ true → length before + 1 ≤ GREATEST_LENGTH → is_past (limit_by limit) (length before + 1) ≡ false →
        are_in_line_by discipline (map item_in (before ++ record { depth = depth; key = key; value = v } ∷ later)) ≡ true → PutsItem key
    item_put (Some key) h few within line = absurd (false≢true h)
    item_put None h few within line =
        let r : PlainRow = record { depth = depth; key = None; value = v } in
        let items = map item_in before in
        let counts : length items ≡ length before = length-map before item_in in
        let stands : are_in_line_by discipline (items ++ integer_in v ∷ map item_in later) ≡ true = ap (are_in_line_by discipline) (sym (map-append item_in before (r ∷ later))) ∙ line in
        let lined : lined_up discipline items (integer_in v) ≡ map item_in (before ++ r ∷ []) = lined_up_behind discipline items (integer_in v) (map item_in later) stands ∙ sym (map-append item_in before (r ∷ [])) in
        let most : max (length before) (length items + 1) ≡ length before + 1 = omega (arith, counts) in
        let too_long = not_too_long limit items (length before) (length before) counts few in (
          not_full limit items (length before) (length before) counts within,
          λ i. first_reason (reason_if (too_long i) LengthRange ∷ []),
          λ i. of_queue number (record { discipline = discipline; queue = record { limit = limit_by limit; items = lined i; peak = most i } }),
        )
