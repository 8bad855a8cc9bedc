-- A row goes, or goes to another place under its name.
use Rattle.std.proofs.Common.{◌≡◌, ◌≢◌, ℕ, ◌+◌, Bool, true, false, not, Bor, List, [], ◌∷◌, ◌++◌, length, Option, Some, None, is_some, IsSome, refl, sym, ap, ◌∙◌, subst, inl, inr, arith}
use Rattle.std.specs.List.{remove}
use Rattle.std.specs.Option.{option_map, option_copied}
use Rattle.std.proofs.lemmas.Bool.{cond-true, cond-false}
use Rattle.std.proofs.lemmas.List.{length-append}
use Rattle.ac_base.specs.declared.name.Name.{Name}
use Rattle.ac_base.specs.Rows.{Row}
use Rattle.ac_base.specs.Order.{IsWeakOrder, are_level}
use Rattle.ac_pool.specs.Contents as pool
use Rattle.ac_pool.specs.Contents.{Contents, value_of, IsLive, live_count, with_value, IsSound}
use Rattle.ac_pool.proofs.NameLaws.{cases_name}
use Rattle.ac_pool.proofs.ContentsLaws.{live_value, value_of-with_value_same, value_of-with_value_other, value_of-taken_same, value_of-taken_other, live_count-taken, taken_live}
use Rattle.ac_balance.specs.declared.entry.Entry.{Entry}
use Rattle.ac_balance.specs.declared.links.Node.{Node}
use Rattle.ac_balance.specs.declared.links.Links.{Links}
use Rattle.ac_balance.specs.declared.search.Spot.{Spot}
use Rattle.ac_balance.specs.TreeFields.{alone, links}
use Rattle.ac_pool.specs.NamedRows.{HasName, IsOnce}
use Rattle.ac_balance.specs.Climbing.{Closed, Closes, Keeps}
use Rattle.ac_balance.specs.Probes.{probed}
use Rattle.ac_balance.specs.Seeking.{Seeks, Stood}
use Rattle.ac_balance.specs.Detaching.{Detached}
use Rattle.ac_balance.specs.Indexed.{Each, IsAscending, indexed, entry, value_at, without, with_row, taken, row_of, first_where, without_row, with_new_row}
use Rattle.ac_balance.specs.IndexFields.{StandsFor, rows_in, IsOrderIndex}
use Rattle.ac_balance.proofs.Names.{named}
use Rattle.ac_balance.proofs.Standing.{Stands-same}
use Rattle.ac_balance.proofs.Keeping.{keeps_value, keeps_then, sound_still}
use Rattle.ac_pool.proofs.Cuts.{cut, remove-cut, HasName-cut, once_gone}
use Rattle.ac_balance.proofs.Indexes.{view_of, index_from, view-is, named_live, rows_once, values_are}
use Rattle.ac_balance.proofs.Adding.{Vacant, vacant, put_has, put_length}
use Rattle.ac_balance.proofs.Searched.{sought_rows}

-- what a read says of a node
pub copied_some : {A : Type 0} (o : Option (Bor A)) → is_some (option_copied o) ≡ is_some o
copied_some None = refl
copied_some (Some r) = refl

pub read_some : {A : Type 0} (r : Option (Bor A)) (o : Option A) (none : Bool) → option_copied r ≡ o → is_some r ≡ not none → none ≡ false → IsSome o
read_some r o none is e f = ap is_some (sym is) ∙ copied_some r ∙ e ∙ ap not f

pub read_none : {A : Type 0} (r : Option (Bor A)) (o : Option A) (none : Bool) → option_copied r ≡ o → is_some r ≡ not none → none ≡ true → o ≡ None
read_none None o none is e f = sym is
read_none (Some x) o none is e f = let bad : true ≡ false = e ∙ ap not f in cc

module _ {X : Type 0} where
  pub ascending-cut : (less : X → X → Bool) (xs : List (Row Name X)) (x : Row Name X) (ys : List (Row Name X)) → IsAscending less (xs ++ x ∷ ys) → IsAscending less (xs ++ ys)
  ascending-cut less [] x ys h = h.1
  ascending-cut less (z ∷ xs) x ys h = (within xs h.0, ascending-cut less xs x ys h.1)
    where
      within : (zs : List (Row Name X)) → Each (less z.value) (zs ++ x ∷ ys) → Each (less z.value) (zs ++ ys)
      within [] e = e.1
      within (y ∷ zs) e = (e.0, within zs e.1)

  length-cut : (xs : List (Row Name X)) (x : Row Name X) (ys : List (Row Name X)) → length (xs ++ x ∷ ys) ≡ length (xs ++ ys) + 1
  length-cut xs x ys = let p = length-append xs (x ∷ ys) in let q = length-append xs ys in omega (arith, p, q)

  -- the rows without the name's
  pub record Gone (a : Name) (rows : List (Row Name X)) : Type 0 where
    pub absent : HasName a (without rows a) → ⊥
    pub others : (b : Name) → HasName b rows → b ≢ a → HasName b (without rows a)
    pub length : length rows ≡ length (without rows a) + 1
    pub ascending : (less : X → X → Bool) → IsAscending less rows → IsAscending less (without rows a)

  pub gone : (a : Name) (rows : List (Row Name X)) → IsOnce rows → HasName a rows → Gone a rows
  gone a rows once h =
      let k = cut a rows h in let xs = k.before in let ys = k.after in
      let is : without rows a ≡ xs ++ ys = ap (remove rows) k.place ∙ ap (λ zs. remove zs (length xs)) k.is ∙ remove-cut xs k.at ys in
      record {
        absent = λ q. once_gone xs k.at ys (subst (λ zs. IsOnce zs) k.is once) (subst (λ b. HasName b (xs ++ ys)) k.named (subst (HasName a) is q));
        others = λ b q ne. subst (HasName b) (sym is) (elim (HasName-cut b xs k.at ys (subst (HasName b) k.is q)) [ inl e ↦ absurd (ne (e ∙ sym k.named)) | inr t ↦ t ]);
        length = let m = ap length k.is in let n = ap length is in let o = length-cut xs k.at ys in omega (arith, m, n, o);
        ascending = λ less asc. subst (IsAscending less) (sym is) (ascending-cut less xs k.at ys (subst (IsAscending less) k.is asc));
      }

pub stood_closed : {X : Type 0} (l : Links X) (rows : List (Row Name X)) (k : Closed l rows) → Stood l.nodes l.root k.tree
stood_closed l rows k = record { top = k.top; hangs = record { parent = None; stands = k.stands }; sound = k.sound }

module _ {K V : Type 0} (less : K → K → Bool) (l : Links (Entry K V)) (i : IsOrderIndex less l) (a : Name) (m : Links (Entry K V)) where
  pub there : pool.IsLive l.nodes a → HasName a (rows_in l)
  there live = i.all a live

  gone_rows : HasName a (rows_in l) → Gone a (rows_in l)
  gone_rows h = gone a (rows_in l) (rows_once l (rows_in l) i.closed) h

  -- a detached node, and its value
  pub still_there : HasName a (rows_in l) → Detached l m (without (rows_in l) a) → value_of m.nodes a ≡ value_of l.nodes a
  still_there h d = d.relinks.aside a (gone_rows h).absent

  pub taken_row : HasName a (rows_in l) → Detached l m (without (rows_in l) a) → (n : Node (Entry K V)) → value_of m.nodes a ≡ Some n → row_of (view_of l) a ≡ Some (n.value.key, n.value.value)
  taken_row h d n is =
      let node_is = sym (still_there h d) ∙ is in
      let value : value_at (rows_in l) a ≡ Some n.value = sym (values_are l (rows_in l) i.closed i.all a) ∙ ap (option_map (λ (k : Node (Entry K V)). k.value)) node_is in
      ap (option_map (λ (e : Entry K V). (e.key, e.value))) value

  pub taken_index : (h : HasName a (rows_in l)) (e : Detached l m (without (rows_in l) a)) (d : Contents (Node (Entry K V))) → d ≡ pool.taken m.nodes a → IsSound d
      → IsOrderIndex less (links d m.root) × (view_of (links d m.root) ≡ taken (view_of l) a)
  taken_index h e d is sound =
      let rows = rows_in l in let left = without rows a in let g = gone_rows h in let k = e.closed in let keeps = e.relinks.keeps in
      let live_m : IsLive m.nodes a = keeps.live a ∙ named_live l rows i.closed a h in
      let is_taken = is ∙ taken_live m.nodes a live_m in
      let apart : (b : Name) → HasName b left → b ≢ a = λ b q same. g.absent (subst (λ n. HasName n left) same q) in
      let closed : Closed (links d m.root) left = record {
        tree = k.tree;
        top = k.top;
        stands = Stands-same (value_of m.nodes) (value_of d) None k.tree (λ b q. ap (λ c. value_of c b) is ∙ value_of-taken_other m.nodes a b (apart b (subst (HasName b) k.ordered (named b k.tree q)))) k.stands;
        balanced = k.balanced;
        ordered = k.ordered;
        once = k.once;
        few = k.few;
        sound = sound;
      } in
      let all : (b : Name) → IsLive d b → HasName b left = λ b live. elim (cases_name b a) [
        | inl same ↦ absurd (dead (subst (λ n. IsLive d n) same live))
        | inr ne ↦ g.others b (i.all b (sym (keeps.live b) ∙ ap is_some (sym (ap (λ c. value_of c b) is ∙ value_of-taken_other m.nodes a b ne)) ∙ live)) ne
      ] in
      let count : length left ≡ live_count d =
      let n = g.length in let o = i.count in let p = ap live_count is ∙ live_count-taken m.nodes a live_m in let q = keeps.count in omega (arith, n, o, p, q) in
      let stands : StandsFor less (links d m.root) left = record { closed = closed; ascending = g.ascending (λ e f. less e.key f.key) i.ascending; all = all; count = count } in
      let next : d.next_serial ≡ l.nodes.next_serial = ap (λ (c : Contents (Node (Entry K V))). c.next_serial) is_taken ∙ keeps.next in
      let room : d.spare ≡ l.nodes.spare + 1 = ap (λ (c : Contents (Node (Entry K V))). c.spare) is_taken ∙ ap (λ n. n + 1) keeps.spare in
      let some : is_some (value_at rows a) ≡ true = ap is_some (sym (values_are l rows i.closed i.all a)) ∙ mapped (value_of l.nodes a) (named_live l rows i.closed a h) in
      (index_from less (links d m.root) left stands, view-is less (links d m.root) left stands ∙ (λ j. indexed left (next j) (room j)) ∙ sym (cond-true _ _ _ some))
    where
      dead : IsLive d a → ⊥
      dead live = let none : value_of d a ≡ None = ap (λ c. value_of c a) is ∙ value_of-taken_same m.nodes a in cc

      mapped : (o : Option (Node (Entry K V))) → is_some o ≡ true → is_some (option_map (λ (n : Node (Entry K V)). n.value) o) ≡ true
      mapped None p = p
      mapped (Some n) p = refl

  -- no row goes where there is none
  pub none_taken : value_of l.nodes a ≡ None → (row_of (view_of l) a ≡ None) × (view_of l ≡ taken (view_of l) a)
  none_taken is =
      let none : value_at (rows_in l) a ≡ None = sym (values_are l (rows_in l) i.closed i.all a) ∙ ap (option_map (λ (k : Node (Entry K V)). k.value)) is in
      (ap (option_map (λ (e : Entry K V). (e.key, e.value))) none, sym (cond-false _ _ _ (ap is_some none)))

  pub detached_live : HasName a (rows_in l) → Detached l m (without (rows_in l) a) → IsLive m.nodes a
  detached_live h e = e.relinks.keeps.live a ∙ named_live l (rows_in l) i.closed a h

  -- the node is new, and goes to its place
  module _ (weak : IsWeakOrder less) (h : HasName a (rows_in l)) (e : Detached l m (without (rows_in l) a)) (k : K) (v : V) (s : Spot)
      (seeks : Seeks m.nodes e.closed.tree (λ x. less x.key k) (λ x. less k x.key) s) (only : first_where (λ x. are_level less x k) (without_row (view_of l) a) ≡ None)
      (d : Contents (Node (Entry K V))) (is : d ≡ with_value m.nodes a (alone (entry k v))) where
    renewed_keeps : Keeps m.nodes d
    renewed_keeps = let n = live_value (value_of m.nodes a) (detached_live h e) in subst (λ c. Keeps m.nodes c) (sym is) (keeps_value m.nodes a n.0 (alone (entry k v)) n.1)

    pub renewed : Vacant less weak d m.root (without (rows_in l) a) s a k v
    renewed =
        let g = gone_rows h in let rows = without (rows_in l) a in let asc = g.ascending (λ x y. less x.key y.key) i.ascending in
        let found = (sought_rows less m rows e.closed asc _ _ (probed less less (λ x. x) (λ x y. refl) weak k) s seeks).found in
        let n = g.length in let most = i.closed.few in
        vacant less weak m rows e.closed asc a k v d (ap (λ c. value_of c a) is ∙ value_of-with_value_same m.nodes a (alone (entry k v)))
        (λ b ne. ap (λ c. value_of c b) is ∙ value_of-with_value_other m.nodes a b (alone (entry k v)) ne) (sound_still m.nodes d renewed_keeps e.closed.sound) g.absent (omega (arith, n, most)) s (found ∙ only) seeks

    pub renewed_index : (f : Links (Entry K V)) (high : ℕ) → Closes (links d m.root) f (with_row less (without (rows_in l) a) a k v) high
        → IsOrderIndex less f × (view_of f ≡ with_new_row less (view_of l) a k v)
    renewed_index f high closes =
        let left = without (rows_in l) a in let rows = with_row less left a k v in let w = renewed in let g = gone_rows h in
        let keeps = keeps_then l.nodes m.nodes f.nodes e.relinks.keeps (keeps_then m.nodes d f.nodes renewed_keeps closes.relinks.keeps) in
        let all : (b : Name) → IsLive f.nodes b → HasName b rows = λ b live. put_has less weak left a k v w.put b (elim (cases_name b a) [ inl same ↦ inl same | inr ne ↦ inr (g.others b (i.all b (sym (keeps.live b) ∙ live)) ne) ]) in
        let count : length rows ≡ live_count f.nodes = let n = put_length less weak left a k v w.put in let o = g.length in let p = i.count in let q = keeps.count in omega (arith, n, o, p, q) in
        let stands : StandsFor less f rows = record { closed = closes.closed; ascending = w.put.ascending; all = all; count = count } in
        (index_from less f rows stands, view-is less f rows stands ∙ (λ j. indexed rows (keeps.next j) (keeps.spare j)))
