use Rattle.std.proofs.Common.{◌≡◌, set, get_or, Some, None, refl, sym, ap, ◌∙◌, subst, get_or-set_other, vec_capacity}
use Rattle.ac_base.specs.declared.name.Name.{Name}
use Rattle.ac_pool.specs.Cell.{serial_in}
use Rattle.ac_pool.specs.Contents.{contents, value_of, IsLive, swapped, IsSound}
use Rattle.ac_pool.specs.PoolFields.{entries_in, IsPool}
use Rattle.ac_pool.proofs.ContentsLaws.{swapped_live}
use Rattle.ac_pool.proofs.Entries.{value_in, value_in_same, get-entries_in}
use Rattle.ac_pool.proofs.Pooled.{sound, live_cell, exchanged_cells, exchanged_is, IsPool-exchanged, entries_in-exchanged}
use Rattle.ac_pool.proofs.pool.Pool.exchange.Goals as goal

pub take-at_a-requires : goal.take-at_a-requires
take-at_a-requires g c =
    let a = c.self.inside in let h = c.self.invariant in let la : IsLive (contents (entries_in a.slots) a.next_serial a.spare) c.args.a = subst (λ x. IsLive x c.args.a) (sym c.self.view_is) c.requires.live.0 in let lb : IsLive (contents (entries_in a.slots) a.next_serial a.spare) c.args.b = subst (λ x. IsLive x c.args.b) (sym c.self.view_is) c.requires.live.1 in
    let ka = live_cell a.slots a.free.items (vec_capacity a.free) a.spare a.next_serial h c.args.a la in let kb = live_cell a.slots a.free.items (vec_capacity a.free) a.spare a.next_serial h c.args.b lb in let i = c.args.a.slot in let j = c.args.b.slot in let s = c.args.a.serial in let t = c.args.b.serial in let apart = c.requires.apart in
    ((s, ka.0), ka.1)

pub take-at_b-requires : goal.take-at_b-requires
take-at_b-requires g c =
    let a = c.self.inside in let h = c.self.invariant in let la : IsLive (contents (entries_in a.slots) a.next_serial a.spare) c.args.a = subst (λ x. IsLive x c.args.a) (sym c.self.view_is) c.requires.live.0 in let lb : IsLive (contents (entries_in a.slots) a.next_serial a.spare) c.args.b = subst (λ x. IsLive x c.args.b) (sym c.self.view_is) c.requires.live.1 in
    let ka = live_cell a.slots a.free.items (vec_capacity a.free) a.spare a.next_serial h c.args.a la in let kb = live_cell a.slots a.free.items (vec_capacity a.free) a.spare a.next_serial h c.args.b lb in let i = c.args.a.slot in let j = c.args.b.slot in let s = c.args.a.serial in let t = c.args.b.serial in let apart = c.requires.apart in
    ((t, kb.0), ap (λ l. get_or l j None) c.take-at_a.ensures.cells ∙ get_or-set_other a.slots i j None None (λ e. apart (sym e)) ∙ kb.1)

pub invariant_of-self : goal.invariant_of-self
invariant_of-self g c =
    let a = c.self.inside in let h = c.self.invariant in let la : IsLive (contents (entries_in a.slots) a.next_serial a.spare) c.args.a = subst (λ x. IsLive x c.args.a) (sym c.self.view_is) c.requires.live.0 in let lb : IsLive (contents (entries_in a.slots) a.next_serial a.spare) c.args.b = subst (λ x. IsLive x c.args.b) (sym c.self.view_is) c.requires.live.1 in
    let ka = live_cell a.slots a.free.items (vec_capacity a.free) a.spare a.next_serial h c.args.a la in let kb = live_cell a.slots a.free.items (vec_capacity a.free) a.spare a.next_serial h c.args.b lb in let i = c.args.a.slot in let j = c.args.b.slot in let s = c.args.a.serial in let t = c.args.b.serial in let apart = c.requires.apart in
    let x = c.take-at_a.result in let y = c.take-at_b.result in let gone = c.take-at_a.ensures.cells in
    let same_at_j = ap (λ l. get_or l j None) gone ∙ get_or-set_other a.slots i j None None (λ e. apart (sym e)) in
    let at_i : get_or a.slots i None ≡ Some (s, x) = c.take-at_a.ensures.value ∙ ap (λ r. Some (r, x)) (ap serial_in ka.1) in
    let at_j : get_or a.slots j None ≡ Some (t, y) = sym same_at_j ∙ c.take-at_b.ensures.value ∙ ap (λ r. Some (r, y)) (ap serial_in (same_at_j ∙ kb.1)) in
    let is : c.put-2.new.self ≡ exchanged_cells a.slots i j s t x y apart at_i at_j =
    c.put-2.ensures ∙ ap (λ l. set l j (Some (t, x))) (c.put.ensures ∙ ap (λ l. set l i (Some (s, y))) (c.take-at_b.ensures.cells ∙ ap (λ l. set l j None) gone))
    ∙ exchanged_is a.slots i j s t x y apart at_i at_j in
    subst (λ cells. IsPool cells a.free.items (vec_capacity a.free) a.spare a.next_serial) (sym is) (IsPool-exchanged a.slots i j s t x y apart at_i at_j a.free.items (vec_capacity a.free) a.spare a.next_serial h)

pub returns-clause-swapped : goal.returns-clause-swapped
returns-clause-swapped g c =
    let a = c.self.inside in let h = c.self.invariant in let la : IsLive (contents (entries_in a.slots) a.next_serial a.spare) c.args.a = subst (λ x. IsLive x c.args.a) (sym c.self.view_is) c.requires.live.0 in let lb : IsLive (contents (entries_in a.slots) a.next_serial a.spare) c.args.b = subst (λ x. IsLive x c.args.b) (sym c.self.view_is) c.requires.live.1 in
    let ka = live_cell a.slots a.free.items (vec_capacity a.free) a.spare a.next_serial h c.args.a la in let kb = live_cell a.slots a.free.items (vec_capacity a.free) a.spare a.next_serial h c.args.b lb in let i = c.args.a.slot in let j = c.args.b.slot in let s = c.args.a.serial in let t = c.args.b.serial in let apart = c.requires.apart in
    let x = c.take-at_a.result in let y = c.take-at_b.result in let gone = c.take-at_a.ensures.cells in
    let same_at_j = ap (λ l. get_or l j None) gone ∙ get_or-set_other a.slots i j None None (λ e. apart (sym e)) in
    let at_i : get_or a.slots i None ≡ Some (s, x) = c.take-at_a.ensures.value ∙ ap (λ r. Some (r, x)) (ap serial_in ka.1) in
    let at_j : get_or a.slots j None ≡ Some (t, y) = sym same_at_j ∙ c.take-at_b.ensures.value ∙ ap (λ r. Some (r, y)) (ap serial_in (same_at_j ∙ kb.1)) in
    let is : c.put-2.new.self ≡ exchanged_cells a.slots i j s t x y apart at_i at_j =
    c.put-2.ensures ∙ ap (λ l. set l j (Some (t, x))) (c.put.ensures ∙ ap (λ l. set l i (Some (s, y))) (c.take-at_b.ensures.cells ∙ ap (λ l. set l j None) gone))
    ∙ exchanged_is a.slots i j s t x y apart at_i at_j in
    let value : (q : Name) (r : g.row.T.Denot) → get_or a.slots q.slot None ≡ Some (q.serial, r) → value_of (contents (entries_in a.slots) a.next_serial a.spare) q ≡ Some r = λ q r at. get-entries_in a.slots q ∙ ap (λ o. value_in o q.serial) at ∙ value_in_same (q.serial, r) q.serial refl in
    subst (λ z. contents (entries_in c.put-2.new.self) a.next_serial a.spare ≡ swapped z c.args.a c.args.b) c.self.view_is
    (ap (λ m. contents m a.next_serial a.spare) (ap entries_in is ∙ entries_in-exchanged a.slots i j s t x y apart at_i at_j)
    ∙ sym (swapped_live (contents (entries_in a.slots) a.next_serial a.spare) c.args.a c.args.b x y (value c.args.a x at_i) (value c.args.b y at_j)))

pub returns-clause-sound : goal.returns-clause-sound
returns-clause-sound g c =
    let a = c.self.inside in let h = c.self.invariant in let la : IsLive (contents (entries_in a.slots) a.next_serial a.spare) c.args.a = subst (λ x. IsLive x c.args.a) (sym c.self.view_is) c.requires.live.0 in let lb : IsLive (contents (entries_in a.slots) a.next_serial a.spare) c.args.b = subst (λ x. IsLive x c.args.b) (sym c.self.view_is) c.requires.live.1 in
    let ka = live_cell a.slots a.free.items (vec_capacity a.free) a.spare a.next_serial h c.args.a la in let kb = live_cell a.slots a.free.items (vec_capacity a.free) a.spare a.next_serial h c.args.b lb in let i = c.args.a.slot in let j = c.args.b.slot in let s = c.args.a.serial in let t = c.args.b.serial in let apart = c.requires.apart in
    let x = c.take-at_a.result in let y = c.take-at_b.result in let gone = c.take-at_a.ensures.cells in
    let same_at_j = ap (λ l. get_or l j None) gone ∙ get_or-set_other a.slots i j None None (λ e. apart (sym e)) in
    let at_i : get_or a.slots i None ≡ Some (s, x) = c.take-at_a.ensures.value ∙ ap (λ r. Some (r, x)) (ap serial_in ka.1) in
    let at_j : get_or a.slots j None ≡ Some (t, y) = sym same_at_j ∙ c.take-at_b.ensures.value ∙ ap (λ r. Some (r, y)) (ap serial_in (same_at_j ∙ kb.1)) in
    let is : c.put-2.new.self ≡ exchanged_cells a.slots i j s t x y apart at_i at_j =
    c.put-2.ensures ∙ ap (λ l. set l j (Some (t, x))) (c.put.ensures ∙ ap (λ l. set l i (Some (s, y))) (c.take-at_b.ensures.cells ∙ ap (λ l. set l j None) gone))
    ∙ exchanged_is a.slots i j s t x y apart at_i at_j in
    subst (λ cells. IsSound (contents (entries_in cells) a.next_serial a.spare)) (sym is) (sound _ a.free.items (vec_capacity a.free) a.spare a.next_serial (IsPool-exchanged a.slots i j s t x y apart at_i at_j a.free.items (vec_capacity a.free) a.spare a.next_serial h))

pub put-requires-clause-serial : goal.put-requires-clause-serial
put-requires-clause-serial g c =
    let a = c.self.inside in let h = c.self.invariant in let la : IsLive (contents (entries_in a.slots) a.next_serial a.spare) c.args.a = subst (λ x. IsLive x c.args.a) (sym c.self.view_is) c.requires.live.0 in
    let ka = live_cell a.slots a.free.items (vec_capacity a.free) a.spare a.next_serial h c.args.a la in (h.issued c.args.a.slot (c.args.a.serial, ka.0) ka.1).0

pub put-requires-2-clause-serial : goal.put-requires-2-clause-serial
put-requires-2-clause-serial g c =
    let a = c.self.inside in let h = c.self.invariant in let lb : IsLive (contents (entries_in a.slots) a.next_serial a.spare) c.args.b = subst (λ x. IsLive x c.args.b) (sym c.self.view_is) c.requires.live.1 in
    let kb = live_cell a.slots a.free.items (vec_capacity a.free) a.spare a.next_serial h c.args.b lb in (h.issued c.args.b.slot (c.args.b.serial, kb.0) kb.1).0
