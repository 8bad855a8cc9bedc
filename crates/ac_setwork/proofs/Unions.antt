-- A set that lost some rows and took the additions of a source, in the words of the definitions.
use Rattle.std.proofs.Common.{◌≡◌, ◌+◌, ◌-◌, ◌≤◌, ℕ, false, not, List, length, Option, Some, None, Result, Ok, Err, refl, sym, ap, ◌∙◌, subst, arith, if◌then◌else◌}
use Rattle.std.specs.Prelude.{filter, max, nat_le, IfOk}
use Rattle.std.specs.Result.{IsOkAnd}
use Rattle.std.proofs.lemmas.Bool.Decides.{nat_tests}
use Rattle.std.proofs.lemmas.List.{length-map}
use Rattle.std.proofs.lemmas.List.Filters.{length-filter_both}
use Rattle.ac_base.specs.FirstReason.{first_reason}
use Rattle.ac_base.specs.Growth.{pow8}
use Rattle.ac_base.specs.Limits.{is_past}
use Rattle.ac_base.specs.declared.fault.Fault.{Fault}
use Rattle.ac_base.specs.declared.fault.Fault.TheVariants as fault
use Rattle.ac_base.specs.declared.limit.Limit.{Limit}
use Rattle.ac_base.specs.declared.limit.Limit.TheVariants.{Unbounded, Bounded}
use Rattle.ac_base.specs.Rows.{Row}
use Rattle.ac_base.proofs.Powers.{pow8-enough}
use Rattle.ac_model.specs.Calls.{Changing, Done, IsAfter, Same, call, takes_some}
use Rattle.ac_model.specs.Capacities.{widened}
use Rattle.ac_model.specs.Containers.{Container, slots_of}
use Rattle.ac_model.specs.Keyed.{Order, IsValidKeyed, added, has}
use Rattle.ac_model.specs.Letters.{room}
use Rattle.ac_model.specs.Objects.{Object, capacity_after, contents, grown, length_of, plain, plain_row, with_rows}
use Rattle.ac_model.specs.Sets.{additions, own_rows}
use Rattle.ac_model.proofs.Counts.{count, count_values}
use Rattle.ac_model.proofs.KeyedKept.{length-added}
use Rattle.ac_model.proofs.KeyedLaws.{Closed}
use Rattle.ac_model.proofs.KeysDiffer.{union_apart}
use Rattle.ac_model.proofs.Reasons.{room_none}
use Rattle.ac_setwork.specs.SetSeen.{HasAll, HasRoomFor, IsSifted, TakesAll, is_wanted, need_of, room_call, with_all}
use Rattle.ac_setwork.proofs.Equivalents.{as_many}
use Rattle.ac_setwork.proofs.KeptSlots.{keeps_both, keeps_itself}
use Rattle.ac_setwork.proofs.Slots.{after_enough, after_most}

twice_step : (c need : ℕ) → need ≤ pow8 need → ◌≡◌ {A = ℕ} (if nat_le need (if nat_le need c then c else pow8 need) then (if nat_le need c then c else pow8 need) else pow8 need) (if nat_le need c then c else pow8 need)
twice_step c need enough = grind (arith, nat_tests)

capacity_twice : (limit : Limit) (capacity : Option ℕ) (need : ℕ) → capacity_after limit (capacity_after limit capacity need) need ≡ capacity_after limit capacity need
capacity_twice (Bounded most) capacity need = refl
capacity_twice Unbounded None need = refl
capacity_twice Unbounded (Some c) need = ap Some (twice_step c need (pow8-enough need))

module _ {V : Type 0} (order : Order V) (target source : Object ℕ V) where
  -- there are no more additions than the source has elements
  pub additions_few : length (additions order target source) ≤ length_of source
  additions_few =
      let sum = length-filter_both (λ v. not (has order (contents target) v)) (λ v. not (not (has order (contents target) v))) (λ v. refl) (contents source) in
      let same = length-map source.rows (λ (r : Row ℕ V). r.value) in
      omega (arith, sum, same)

  -- of the source's elements as many have an equivalent in the target as of the target's have one in the source
  pub own_and_new : Closed order → IsValidKeyed order target → IsValidKeyed order source → length (own_rows order target source) + length_of source ≡ length_of target + length (additions order target source)
  own_and_new closed t s =
      let same = length-map source.rows (λ (r : Row ℕ V). r.value) in
      let sum = as_many order closed.equal target.rows t.keys_differ (contents source) (λ u. let most = s.keys_differ u in let is = count_values (λ w. order.alike w u) source.rows in omega (arith, most, is)) in
      omega (arith, same, sum)

-- the target, its room made, some rows gone, and the additions there
module _ {V : Type 0} (order : Order V) (source : Object ℕ V) (old wide fewer : Container V) (kept : List (Row ℕ V)) (gone more : ℕ) where
  abbrev pub new_values : List V
  new_values = additions order (plain old.object) source

  pub record Prepared : Type 0 where
    pub is_more : more ≡ length new_values
    pub need : need_of old.object gone more ≡ length kept + more
    pub unrefused : (room_call gone more (plain old.object)).reason ≡ None
    pub widens : IsAfter old.object wide.object (widened (plain old.object) (need_of old.object gone more))
    pub has_room : HasRoomFor gone more old wide
    pub loses : IsAfter wide.object fewer.object (with_rows (plain wide.object) kept)
    pub slots : slots_of fewer ≡ slots_of wide

  module _ (p : Prepared) where
    plainly : plain fewer.object ≡ with_rows (widened (plain old.object) (need_of old.object gone more)) kept
    plainly = p.loses.plainly ∙ ap (λ o. with_rows o kept) p.widens.plainly

    long : length_of fewer.object ≡ length kept
    long = sym (length-map fewer.object.rows plain_row) ∙ ap (λ (o : Object ℕ V). length o.rows) plainly

    pub takes_all : Closed order → ((u : V) → count (λ w. order.alike w u) kept ≤ count (λ w. order.alike w u) (plain old.object).rows) → IsValidKeyed order (plain old.object) → IsValidKeyed order source → TakesAll order new_values fewer
    takes_all closed less valid source_valid =
        let same : need_of (plain old.object) gone more ≡ need_of old.object gone more = ap (λ m. (m - gone) + more) (length-map old.object.rows plain_row) in
        let fits = room_none (plain old.object) (need_of (plain old.object) gone more) more p.unrefused in
        let most = fits.within_greatest in let names = fits.within_names in let is_more = p.is_more in let need = p.need in
        let sum : length_of fewer.object + length new_values ≡ need_of old.object gone more = omega (arith, long, is_more, need) in
        let limit : fewer.object.limit ≡ old.object.limit = ap (λ (o : Object ℕ V). o.limit) plainly in
        let capacity : fewer.object.capacity ≡ capacity_after old.object.limit old.object.capacity (need_of old.object gone more) = ap (λ (o : Object ℕ V). o.capacity) plainly in
        let next : fewer.object.next ≡ old.object.next = ap (λ (o : Object ℕ V). o.next) plainly in
        let enough = subst (λ n. need_of old.object gone more ≤ n) (sym p.has_room) (after_enough (slots_of old) (need_of old.object gone more)) in let slots = p.slots in
        let differ : (u : V) → count (λ w. order.alike w u) kept ≤ 1 = λ u. let few = less u in let once = valid.keys_differ u in omega (arith, few, once) in
        let apart = union_apart order closed.equal (plain old.object).rows kept (contents source) differ less (λ u. let once = source_valid.keys_differ u in let is = count_values (λ w. order.alike w u) source.rows in omega (arith, once, is)) in
        record {
          few = omega (arith, sum, same, most);
          within = (λ i. is_past (limit i) ((sum ∙ sym same) i)) ∙ fits.within_limit;
          unspent = omega (arith, names, next, is_more);
          capacity = (λ i. capacity_after (limit i) (capacity i) (sum i)) ∙ capacity_twice old.object.limit old.object.capacity (need_of old.object gone more) ∙ sym capacity;
          spare = omega (arith, enough, slots, sum);
          keys_differ = λ u. let once = apart u in let are = ap (λ (o : Object ℕ V). count (λ w. order.alike w u) o.rows) plainly in omega (arith, once, are);
        }

    module _ (new : Container V) (h : HasAll order new_values fewer new) where
      pub all_after : IsAfter old.object new.object (grown (plain old.object) (added order kept old.object.next new_values) (length new_values))
      all_after =
          let is_more = p.is_more in let need = p.need in
          let count : length (added order kept old.object.next new_values) ≡ need_of old.object gone more = length-added order new_values kept old.object.next ∙ ap (λ m. length kept + m) (sym is_more) ∙ sym need in
          let object : plain new.object ≡ with_all order (with_rows (widened (plain old.object) (need_of old.object gone more)) kept) new_values = h.after.plainly ∙ ap (λ o. with_all order o new_values) plainly in
          let first : wide.object.next ≡ old.object.next = ap (λ (o : Object ℕ V). o.next) p.widens.plainly in
          let second : fewer.object.next ≡ old.object.next = ap (λ (o : Object ℕ V). o.next) plainly in
          record {
            plainly = object ∙ ap (λ m. record (plain old.object) { rows = added order kept old.object.next new_values; next = old.object.next + length new_values; capacity = capacity_after old.object.limit old.object.capacity m }) (sym count);
            slots = keeps_both old.object fewer.object new.object (omega (arith, second)) (keeps_both old.object wide.object fewer.object (omega (arith, first)) p.widens.slots p.loses.slots) h.after.slots;
          }

      pub all_grows : slots_of new ≤ max (slots_of old) (pow8 (length_of new.object))
      all_grows =
          let is_more = p.is_more in let need = p.need in let first = p.slots in let second = h.slots in
          let count : length_of new.object ≡ need_of old.object gone more =
          sym (length-map new.object.rows plain_row) ∙ ap (λ (o : Object ℕ V). length o.rows) all_after.plainly ∙ length-added order new_values kept old.object.next ∙ ap (λ m. length kept + m) (sym is_more) ∙ sym need in
          subst (λ m. slots_of new ≤ max (slots_of old) (pow8 m)) (sym count) (subst (λ m. m ≤ max (slots_of old) (pow8 (need_of old.object gone more))) (sym (second ∙ first ∙ p.has_room)) (after_most (slots_of old) (need_of old.object gone more)))

-- what is refused for want of room changes nothing
module _ {V : Type 0} (old new : Container V) (gone more length_after count : ℕ) (after : Object ℕ V) where
  pub refused_room : (e : Fault) → need_of (plain old.object) gone more ≡ length_after → more ≡ count → Changing {X = Done} Same (room_call gone more (plain old.object)) old.object new.object (Err e)
      → Changing {X = Done} Same (call takes_some (first_reason (room (plain old.object) length_after count)) after tt) old.object new.object (Err e)
  refused_room (fault.Raised reason) same is h = ((λ i. first_reason (room (plain old.object) (sym same i) (sym is i))) ∙ h.0, h.1)
  refused_room fault.NoMemory same is h = (refl, (λ i. first_reason (room (plain old.object) (sym same i) (sym is i))) ∙ h.1, h.2)

  pub unrefused_room : need_of (plain old.object) gone more ≡ length_after → more ≡ count → (room_call gone more (plain old.object)).reason ≡ None → first_reason (room (plain old.object) length_after count) ≡ None
  unrefused_room same is none = (λ i. first_reason (room (plain old.object) (sym same i) (sym is i))) ∙ none

-- the copies that were made are of what is to be added
pub copied_are : {V X E : Type 0} (copies : Result X E) (items : X → List V) (made vs : List V) → IsOkAnd copies (λ x. made ≡ items x) → IfOk copies (λ x. items x ≡ vs) → made ≡ vs
copied_are (Ok x) items made vs is are = is ∙ are
copied_are (Err e) items made vs is are = absurd is

module _ {V : Type 0} (order : Order V) (source : Object ℕ V) (old wide : Container V) where
  widens_so : (gone more : ℕ) → IsAfter old.object wide.object (widened (plain old.object) (need_of (plain old.object) gone more)) → IsAfter old.object wide.object (widened (plain old.object) (need_of old.object gone more))
  widens_so gone more = subst (λ m. IsAfter old.object wide.object (widened (plain old.object) ((m - gone) + more))) (length-map old.object.rows plain_row)

  pub union_prepared : (more : ℕ) → more ≡ length (additions order (plain old.object) source) → (room_call 0 more (plain old.object)).reason ≡ None
      → IsAfter old.object wide.object (widened (plain old.object) (need_of (plain old.object) 0 more)) → HasRoomFor 0 more old wide → Prepared order source old wide wide (plain old.object).rows 0 more
  union_prepared more is none widens room =
      let after = widens_so 0 more widens in let same = length-map old.object.rows plain_row in
      record {
        is_more = is;
        need = omega (arith, same);
        unrefused = none;
        widens = after;
        has_room = room;
        loses = record { plainly = ap (with_rows (plain wide.object)) (ap (λ (o : Object ℕ V). o.rows) after.plainly); slots = keeps_itself wide.object };
        slots = refl;
      }

  pub symmetric_prepared : (fewer : Container V) (gone more : ℕ) → length (own_rows order (plain old.object) source) + length_of source ≡ length_of (plain old.object) + length (additions order (plain old.object) source) → length (additions order (plain old.object) source) ≤ length_of source
      → gone ≡ length_of source - more → more ≡ length (additions order (plain old.object) source) → (room_call gone more (plain old.object)).reason ≡ None
      → IsAfter old.object wide.object (widened (plain old.object) (need_of (plain old.object) gone more)) → HasRoomFor gone more old wide → IsSifted (is_wanted order source false) wide fewer
      → Prepared order source old wide fewer (own_rows order (plain old.object) source) gone more
  symmetric_prepared fewer gone more sum few left is none widens room sifted =
      let after = widens_so gone more widens in let same = length-map old.object.rows plain_row in
      record {
        is_more = is;
        need = omega (arith, same, sum, few, left, is);
        unrefused = none;
        widens = after;
        has_room = room;
        loses = subst (λ rows. IsAfter wide.object fewer.object (with_rows (plain wide.object) (filter (λ r. not (has order (contents source) r.value)) rows))) (ap (λ (o : Object ℕ V). o.rows) after.plainly) sifted.after;
        slots = sifted.slots;
      }
