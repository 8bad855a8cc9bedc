-- Nodes that are linked one after another, and the last one taken away.
use Rattle.std.proofs.Common.{◌≡◌, ◌≢◌, ℕ, ◌+◌, ◌-◌, ◌%◌, ◌<◌, ◌≤◌, List, length, get_or, set, replicate, sym, ap, ◌∙◌, subst, inl, inr, arith}
use Rattle.std.proofs.lemmas.Bool.{cases_eq}
use Rattle.std.proofs.lemmas.List.{length-set, length-map, length-replicate, get_or-replicate, get_or-set_same, get_or-set_other, get_or-map, same_lists, get_or_default}
use Rattle.ac_base.specs.declared.name.Name.{Name}
use Rattle.ac_base.specs.Rows.{Row}
use Rattle.ac_buckets.specs.declared.linked.Node.{Node}
use Rattle.ac_buckets.specs.Linked.{IsLastLink, AreLinked, Remarks, links_of, rows_of, marks_of, buckets_of, blank_node}
use Rattle.ac_buckets.proofs.Links.{mark_of, short}
use Rattle.ac_buckets.proofs.Walks.{node_at, length-rows}

pub length-marks : (size : ℕ) (nodes : List Node) → length (marks_of size nodes) ≡ length nodes
length-marks size nodes = length-map (rows_of nodes) (λ (r : Row Name ℕ). r.value % size) ∙ length-rows nodes

-- of the nodes, those below the index are linked
pub record IsLinkedBelow (nodes : List Node) (heads : List ℕ) (i : ℕ) : Type 0 where
  pub marks : List ℕ
  pub linked : AreLinked marks nodes heads
  pub below : (k : ℕ) → k < i → get_or marks k 0 ≡ get_or (marks_of (length heads) nodes) k 0
  pub above : (k : ℕ) → i ≤ k → k < length nodes → get_or marks k 0 ≡ length heads

pub IsLinkedBelow-none : (nodes : List Node) (heads : List ℕ) → heads ≡ replicate (length heads) 0 → IsLinkedBelow nodes heads 0
IsLinkedBelow-none nodes heads zeros =
    let size = length heads in
    let marks = replicate (length nodes) size in
    let long : length marks ≡ length nodes = length-replicate (length nodes) size in
    let hole : (k : ℕ) → k < length marks → get_or marks k 0 ≡ size = λ k less. get_or-replicate (length nodes) k size 0 (omega arith) in
    record {
      marks = marks;
      linked = record {
        all = long;
        linked = record {
          firsts = λ b below. subst (λ t. IsLastLink marks b (length marks) t) (sym (ap (λ l. get_or l b 0) zeros ∙ get_or-replicate size b 0 0 below)) (record {
            within = omega arith;
            there = λ some. absurd (omega arith);
            last = λ k _ less e. absurd (omega (arith, hole k less));
          });
          nexts = λ k less linked. absurd (omega (arith, hole k less));
        };
      };
      below = λ k less. absurd (omega arith);
      above = λ k _ less. hole k (omega arith);
    }

pub IsLinkedBelow-more : (nodes after : List Node) (heads heads_after : List ℕ) (i : ℕ) → i < length nodes → length heads_after ≡ length heads → rows_of after ≡ rows_of nodes →
    Remarks i (length heads) (get_or (marks_of (length heads) nodes) i 0) nodes heads after heads_after → IsLinkedBelow nodes heads i → IsLinkedBelow after heads_after (i + 1)
IsLinkedBelow-more nodes after heads heads_after i less wide rows remarks h =
    let mark = get_or (marks_of (length heads) nodes) i 0 in
    let marks = h.marks in
    let all = h.linked.all in
    let long : length after ≡ length nodes = sym (length-rows after) ∙ ap length rows ∙ length-rows nodes in
    let same : marks_of (length heads_after) after ≡ marks_of (length heads) nodes = ap (λ n. buckets_of n (rows_of after)) wide ∙ ap (buckets_of (length heads)) rows in
    record {
      marks = set marks i mark;
      linked = remarks marks h.linked (h.above i (omega arith) less);
      below = λ k low. elim (cases_eq k i) [
        | inl at ↦ rw (at, same) (get_or-set_same marks i mark 0 (omega arith))
        | inr off ↦ rw same (get_or-set_other marks i k mark 0 off ∙ h.below k (omega arith))
      ];
      above = λ k high within. get_or-set_other marks i k mark 0 (λ e. absurd (omega arith)) ∙ h.above k (omega arith) (omega arith) ∙ sym wide;
    }

pub IsLinkedBelow-all : (nodes : List Node) (heads : List ℕ) (i : ℕ) → length nodes ≤ i → IsLinkedBelow nodes heads i → AreLinked (marks_of (length heads) nodes) nodes heads
IsLinkedBelow-all nodes heads i past h =
    let all = h.linked.all in
    let ms = marks_of (length heads) nodes in
    let many = length-marks (length heads) nodes in
    let e : h.marks ≡ ms = same_lists h.marks ms (all ∙ sym many) (λ k d less. get_or_default h.marks k d 0 less ∙ h.below k (omega arith) ∙ get_or_default ms k 0 d (omega arith)) in
    subst (λ m. AreLinked m nodes heads) e h.linked

pub last_agree : (marks others : List ℕ) (b m link : ℕ) → ((k : ℕ) → k < m → get_or others k 0 ≡ get_or marks k 0) → IsLastLink marks b m link → IsLastLink others b m link
last_agree marks others b m link same h = record {
  within = h.within;
  there = λ some. same (link - 1) (omega (arith, h.within)) ∙ h.there some;
  last = λ k le lt e. h.last k le lt (sym (same k lt) ∙ e);
}

-- a node went from its place i to the end, and away: neither it nor the one that came to i is linked
pub AreLinked-taken : (nodes after : List Node) (heads marks : List ℕ) (i last : ℕ) → length nodes ≡ last + 1 → i ≤ last → AreLinked (set (set marks i (length heads)) last (length heads)) nodes heads →
    marks ≡ marks_of (length heads) nodes → length after ≡ last → ((k : ℕ) → k ≢ i → k < last → node_at after k ≡ node_at nodes k) → AreLinked (set (marks_of (length heads) after) i (length heads)) after heads
AreLinked-taken nodes after heads marks i last long low h is fewer same =
    let size = length heads in
    let ms = set (set marks i size) last size in
    let ns = set (marks_of size after) i size in
    let all = h.all in
    let many : length ns ≡ last = length-set (marks_of size after) i size ∙ length-marks size after ∙ fewer in
    let mid : length (set marks i size) ≡ length nodes = sym (length-set (set marks i size) last size) ∙ all in
    let wide : length marks ≡ length nodes = sym (length-set marks i size) ∙ mid in
    let hole : get_or ms last 0 ≡ size = get_or-set_same (set marks i size) last size 0 (omega arith) in
    let marked : (k : ℕ) → k < last → get_or ns k 0 ≡ get_or ms k 0 = λ k less. elim (cases_eq k i) [
      | inl at ↦ rw at (get_or-set_same (marks_of size after) i size 0 (omega (arith, length-marks size after)) ∙ sym (get_or-set_other (set marks i size) last i size 0 (λ e. absurd (omega arith)) ∙ get_or-set_same marks i size 0 (omega arith)))
      | inr off ↦ get_or-set_other (marks_of size after) i k size 0 off ∙ mark_of size after k (omega arith) ∙ ap (λ (n : Node). n.hash % size) (same k off less) ∙ sym (mark_of size nodes k (omega arith)) ∙ ap (λ m. get_or m k 0) (sym is)
          ∙ sym (get_or-set_other marks i k size 0 off) ∙ sym (get_or-set_other (set marks i size) last k size 0 (λ e. absurd (omega arith)))
    ] in
    record {
      all = many ∙ sym fewer;
      linked = record {
        firsts = λ b below. subst (λ n. IsLastLink ns b n (get_or heads b 0)) (sym many) (last_agree ms ns b last _ marked
            (short ms b last (length ms) _ size (omega arith) hole below (λ k high within. absurd (omega arith)) (h.linked.firsts b below)));
        nexts = λ k less linked.
            let under : k < last = omega arith in
            let at = marked k under in
            let off : k ≢ i = λ e. absurd (omega (arith, subst (λ n. get_or ns n 0 ≡ size) (sym e) (get_or-set_same (marks_of size after) i size 0 (omega (arith, length-marks size after))))) in
            let link : get_or (links_of after) k 0 ≡ get_or (links_of nodes) k 0 = get_or-map (λ (n : Node). n.next) after k blank_node 0 (omega arith) ∙ ap (λ (n : Node). n.next) (same k off under) ∙ sym (get_or-map (λ (n : Node). n.next) nodes k blank_node 0 (omega arith)) in
            rw (link, at) (last_agree ms ns (get_or ms k 0) k _ (λ j lt. marked j (omega arith)) (h.linked.nexts k (omega arith) (omega arith)));
      };
    }
