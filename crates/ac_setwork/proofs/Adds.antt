-- Values that are added to a set one after another, without memory.
use Rattle.std.proofs.Common.{◌≡◌, ◌||◌, ◌+◌, ◌-◌, ◌<◌, ◌≤◌, ℕ, suc, Bool, false, List, [], ◌∷◌, ◌++◌, length, Option, Some, None, refl, sym, ap, ◌∙◌, subst, inl, inr, arith, if◌then◌else◌}
use Rattle.std.specs.Prelude.{filter, nat_le, nat_lt}
use Rattle.std.specs.List.{list_any}
use Rattle.std.proofs.lemmas.Bool.{cases_Bool, cond-false}
use Rattle.std.proofs.lemmas.Bool.Decides.{nat_tests}
use Rattle.std.proofs.lemmas.List.{append_assoc, append-nil, length-append, length-map, length_push}
use Rattle.std.proofs.lemmas.List.Elements.{filter-append}
use Rattle.ac_base.specs.FirstReason.{first_reason}
use Rattle.ac_base.specs.Growth.{pow8}
use Rattle.ac_base.specs.Limits.{is_past, numbers_end}
use Rattle.ac_base.specs.declared.limit.Limit.{Limit}
use Rattle.ac_base.specs.declared.limit.Limit.TheVariants.{Unbounded, Bounded}
use Rattle.ac_base.specs.declared.limit.TheConstants.{GREATEST_LENGTH}
use Rattle.ac_base.specs.declared.name.Name.{Name}
use Rattle.ac_base.specs.Rows.{Row, row, values}
use Rattle.ac_base.proofs.Powers.{pow8-enough}
use Rattle.ac_model.specs.Calls.{IsAfter}
use Rattle.ac_model.specs.Containers.{Container}
use Rattle.ac_model.specs.Keyed.{Order, added, place_in, with_added}
use Rattle.ac_model.specs.Letters.{room_for_one}
use Rattle.ac_model.specs.Objects.{Object, capacity_after, length_of, plain, plain_row, plains}
use Rattle.ac_model.specs.Rows.{put}
use Rattle.ac_model.proofs.Counts.{count, count-added, count-cons}
use Rattle.ac_model.proofs.KeyedKept.{length-added}
use Rattle.ac_model.proofs.KeyedLaws.{Closed}
use Rattle.ac_setwork.specs.SetSeen.{HasAll, TakesAll, with_all}
use Rattle.ac_setwork.specs.TableFields.{named_like}
use Rattle.ac_setwork.proofs.Found.{any_found}
use Rattle.ac_setwork.proofs.KeptSlots.{keeps_both, keeps_itself}
use Rattle.ac_setwork.proofs.Refills.{passes}
use Rattle.ac_setwork.proofs.Tables.{none_some}

is_past_less : (limit : Limit) (m n : ℕ) → is_past limit n ≡ false → m ≤ n → is_past limit m ≡ false
is_past_less Unbounded m n h le = refl
is_past_less (Bounded most) m n h le = grind (arith, nat_tests)

-- a Capacity that covers a need covers a smaller one
covers : (c need : ℕ) → (if nat_le need c then c else pow8 need) ≡ c → need ≤ c
covers c need h = elim (cases_Bool (nat_le need c)) [
  | inl t ↦ grind (arith, nat_tests)
  | inr f ↦ let enough = pow8-enough need in let is : pow8 need ≡ c = sym (cond-false _ _ _ f) ∙ h in omega (arith, enough, is)
]

covered : (c need : ℕ) → need ≤ c → (if nat_le need c then c else pow8 need) ≡ c
covered c need le = grind (arith, nat_tests)

capacity_less : (limit : Limit) (capacity : Option ℕ) (m n : ℕ) → capacity_after limit capacity n ≡ capacity → m ≤ n → capacity_after limit capacity m ≡ capacity
capacity_less (Bounded most) capacity m n h le = refl
capacity_less Unbounded None m n h le = refl
capacity_less Unbounded (Some c) m n h le =
    let is : (if nat_le n c then c else pow8 n) ≡ c = (let k : Some (if nat_le n c then c else pow8 n) ≡ Some c = h in cc) in
    ap Some (covered c m (let enough = covers c n is in omega (arith, enough, le)))

module _ {V : Type 0} (order : Order V) where
  pub added_more : (vs : List V) (rows : List (Row ℕ V)) (next : ℕ) (v : V) → added order rows next (vs ++ v ∷ []) ≡ added order (added order rows next vs) (next + length vs) (v ∷ [])
  added_more [] rows next v = let e : next ≡ next + 0 = omega arith in ap (λ n. added order rows n (v ∷ [])) e
  added_more (w ∷ vs) rows next v =
      let one = put rows (place_in order (length rows) (values rows) w) (row next w ∷ []) in
      let e : (next + 1) + length vs ≡ next + suc (length vs) = omega arith in
      added_more vs one (next + 1) v ∙ ap (λ n. added order (added order one (next + 1) vs) n (v ∷ [])) e

  none_any : (test : V → Bool) (rows : List (Row ℕ V)) → count test rows ≡ 0 → list_any test (values rows) ≡ false
  none_any test [] h = refl
  none_any test (r ∷ rows) h =
      let one = count-cons test r rows in
      elim (cases_Bool (test r.value)) [
        | inl t ↦ absurd (let k : count test (r ∷ rows) ≡ 1 + count test rows = one ∙ ap (λ b. (if b then 1 else 0) + count test rows) t in omega (arith, h, k))
        | inr f ↦ ap (λ b. b || list_any test (values rows)) f ∙ none_any test rows (let k : count test (r ∷ rows) ≡ 0 + count test rows = one ∙ ap (λ b. (if b then 1 else 0) + count test rows) f in omega (arith, h, k))
      ]

  module _ (vs : List V) (start : Container V) where
    -- these values came, and those are left
    pub record Adding (now : Container V) (left : List V) : Type 0 where
      pub done : List V
      pub all : done ++ left ≡ vs
      pub after : IsAfter start.object now.object (with_all order (plain start.object) done)
      pub spare : now.spare + length done ≡ start.spare

    pub adding_starts : Adding start vs
    adding_starts = record {
      done = [];
      all = refl;
      after = record { plainly = (let e : start.object.next ≡ start.object.next + 0 = omega arith in ap (λ n. record (plain start.object) { next = n }) e); slots = keeps_itself start.object };
      spare = omega arith;
    }

    counted : (now : Container V) (v : V) (left : List V) → (a : Adding now (v ∷ left)) → length a.done + 1 ≤ length vs
    counted now v left a = let sum = length-append a.done (v ∷ left) in let all = ap length a.all in omega (arith, sum, all)

    long : (now : Container V) (left : List V) → (a : Adding now left) → length (plains now.object.rows) ≡ length (plains start.object.rows) + length a.done
    long now left a = ap (λ (o : Object ℕ V). length o.rows) a.after.plainly ∙ length-added order a.done (plains start.object.rows) start.object.next

    length_is : (rows : List (Row Name V)) → length (plains rows) ≡ length rows
    length_is rows = length-map rows plain_row

    pub adding_spare : (now : Container V) (v : V) (left : List V) → TakesAll order vs start → Adding now (v ∷ left) → 0 < now.spare
    adding_spare now v left t a = let few = counted now v left a in let spare = a.spare in let enough = t.spare in omega (arith, few, spare, enough)

    pub adding_room : (now : Container V) (v : V) (left : List V) → TakesAll order vs start → Adding now (v ∷ left) → first_reason (room_for_one (plain now.object)) ≡ None
    adding_room now v left t a =
        let few = counted now v left a in let most = t.few in let names = t.unspent in
        let is = long now (v ∷ left) a in let same = length_is start.object.rows in
        let next : now.object.next ≡ start.object.next + length a.done = ap (λ (o : Object ℕ V). o.next) a.after.plainly in
        let limit : now.object.limit ≡ start.object.limit = ap (λ (o : Object ℕ V). o.limit) a.after.plainly in
        let fits : length (plains now.object.rows) + 1 ≤ GREATEST_LENGTH = omega (arith, few, most, is, same) in
        let left_over : now.object.next + 1 ≤ numbers_end = omega (arith, few, names, next) in
        let short : nat_lt GREATEST_LENGTH (length (plains now.object.rows) + 1) ≡ false = grind (arith, nat_tests) in
        let unspent : nat_lt numbers_end (now.object.next + 1) ≡ false = grind (arith, nat_tests) in
        let within : is_past now.object.limit (length (plains now.object.rows) + 1) ≡ false =
        is_past_less now.object.limit (length (plains now.object.rows) + 1) (length_of start.object + length vs) (subst (λ l. is_past l (length_of start.object + length vs) ≡ false) (sym limit) t.within) (omega (arith, few, is, same)) in
        rw (short, within, unspent) refl

    pub adding_capacity : (now : Container V) (v : V) (left : List V) → TakesAll order vs start → Adding now (v ∷ left) → capacity_after now.object.limit now.object.capacity (length_of now.object + 1) ≡ now.object.capacity
    adding_capacity now v left t a =
        let few = counted now v left a in let is = long now (v ∷ left) a in let same = length_is start.object.rows in let also = length_is now.object.rows in
        let limit : now.object.limit ≡ start.object.limit = ap (λ (o : Object ℕ V). o.limit) a.after.plainly in
        let capacity : now.object.capacity ≡ start.object.capacity = ap (λ (o : Object ℕ V). o.capacity) a.after.plainly in
        (λ i. capacity_after (limit i) (capacity i) (length_of now.object + 1))
        ∙ capacity_less start.object.limit start.object.capacity (length_of now.object + 1) (length_of start.object + length vs) t.capacity (omega (arith, few, is, same, also)) ∙ sym capacity

    module _ (closed : Closed order) where
      pub adding_absent : (now : Container V) (v : V) (left : List V) → TakesAll order vs start → Adding now (v ∷ left) → named_like order now.object v ≡ None
      adding_absent now v left t a =
          let test : V → Bool = λ w. order.alike w v in
          let few = t.keys_differ v in
          let parts : length (filter test vs) ≡ length (filter test a.done) + length (filter test (v ∷ left)) =
          ap (λ ws. length (filter test ws)) (sym a.all) ∙ ap length (filter-append test a.done (v ∷ left)) ∙ length-append (filter test a.done) (filter test (v ∷ left)) in
          let itself : 1 ≤ length (filter test (v ∷ left)) = passes test [] v left (closed.equal.refl v) in
          let now_is : count test (plains now.object.rows) ≡ count test (plains start.object.rows) + length (filter test a.done) =
          ap (λ (o : Object ℕ V). count test o.rows) a.after.plainly ∙ count-added test order a.done (plains start.object.rows) start.object.next in
          let none : count test (plains now.object.rows) ≡ 0 = omega (arith, few, parts, itself, now_is) in
          none_some (named_like order now.object v) (any_found test now.object.rows ∙ none_any test (plains now.object.rows) none)

    pub adding_more : (now new : Container V) (v : V) (left : List V) → TakesAll order vs start → Adding now (v ∷ left) → IsAfter now.object new.object (with_added order (plain now.object) v) → new.spare ≡ now.spare - 1 → Adding new left
    adding_more now new v left t a b less =
        let n = length a.done in let o = plain start.object in
        let there = adding_spare now v left t a in let spare = a.spare in
        let more : length (a.done ++ v ∷ []) ≡ n + 1 = length_push a.done v in
        let next : now.object.next ≡ start.object.next + n = ap (λ (p : Object ℕ V). p.next) a.after.plainly in
        let last : (start.object.next + n) + 1 ≡ start.object.next + length (a.done ++ v ∷ []) = omega (arith, more) in
        let count : length (added order (plains now.object.rows) now.object.next (v ∷ [])) ≡ length_of now.object + 1 = length-added order (v ∷ []) (plains now.object.rows) now.object.next ∙ ap (λ m. m + 1) (length_is now.object.rows) in
        let capacity : capacity_after now.object.limit now.object.capacity (length (added order (plains now.object.rows) now.object.next (v ∷ []))) ≡ start.object.capacity =
        ap (capacity_after now.object.limit now.object.capacity) count ∙ adding_capacity now v left t a ∙ ap (λ (p : Object ℕ V). p.capacity) a.after.plainly in
        let rows : added order (plains now.object.rows) now.object.next (v ∷ []) ≡ added order (plains start.object.rows) start.object.next (a.done ++ v ∷ []) =
        ap (λ (p : Object ℕ V). added order p.rows p.next (v ∷ [])) a.after.plainly ∙ sym (added_more a.done (plains start.object.rows) start.object.next v) in
        record {
          done = a.done ++ v ∷ [];
          all = append_assoc a.done (v ∷ []) left ∙ a.all;
          after = record {
            plainly = b.plainly ∙ (λ i. record {
              number = (ap (λ (p : Object ℕ V). p.number) a.after.plainly) i;
              limit = (ap (λ (p : Object ℕ V). p.limit) a.after.plainly) i;
              capacity = capacity i;
              next = (ap (λ m. m + 1) next ∙ last) i;
              rows = rows i;
              cursor_guards = (ap (λ (p : Object ℕ V). p.cursor_guards) a.after.plainly) i;
              element_guards = (ap (λ (p : Object ℕ V). p.element_guards) a.after.plainly) i;
            });
            slots = keeps_both start.object now.object new.object (omega (arith, next)) a.after.slots b.slots;
          };
          spare = omega (arith, less, spare, there, more);
        }

    pub adding_ends : (now : Container V) → Adding now [] → HasAll order vs start now
    adding_ends now a =
        let done = sym (append-nil a.done) ∙ a.all in
        let is = long now [] a in let same = length_is start.object.rows in let also = length_is now.object.rows in let spare = a.spare in
        record {
          after = subst (λ ws. IsAfter start.object now.object (with_all order (plain start.object) ws)) done a.after;
          slots = omega (arith, is, same, also, spare);
        }
