-- One node's link taken out of its bucket, and put in, on lists of marks, links and heads.
use Rattle.std.proofs.Common.{◌≡◌, ◌≢◌, ℕ, zero, suc, ◌+◌, ◌-◌, ◌%◌, ◌<◌, ◌≤◌, List, [], ◌∷◌, length, get_or, set, Option, Some, None, refl, sym, ap, ◌∙◌, subst, inl, inr, arith}
use Rattle.std.proofs.lemmas.Bool.{cases_eq, cases_lt}
use Rattle.std.proofs.lemmas.Option.{none-some}
use Rattle.std.proofs.lemmas.List.{length-set, length-map, get_or-set_same, get_or-set_other, get_or-map, map-set}
use Rattle.ac_base.specs.declared.name.Name.{Name}
use Rattle.ac_base.specs.Rows.{Row, row}
use Rattle.ac_buckets.specs.declared.linked.Node.{Node}
use Rattle.ac_buckets.specs.Linked.{name_of, IsLastLink, IsLinked, IsAbove, AreLinked, Remarks, links_of, rows_of, marks_of, blank_node, end_of, link_below, heads_below, links_below}

-- the marks agree but at i
abbrev SameBut : List ℕ → List ℕ → ℕ → Type 0
SameBut marks others i = (k : ℕ) → k ≢ i → get_or others k 0 ≡ get_or marks k 0

last_kept : (marks others : List ℕ) (i b m link : ℕ) → SameBut marks others i → link ≢ i + 1 → (link ≤ i → i < m → get_or others i 0 ≢ b) → IsLastLink marks b m link → IsLastLink others b m link
last_kept marks others i b m link same apart not h = record {
  within = h.within;
  there = λ some. same (link - 1) (λ e. apart (omega arith)) ∙ h.there some;
  last = λ k le lt. elim (cases_eq k i) [
    | inl at ↦ λ e. not (omega arith) (omega arith) (subst (λ n. get_or others n 0 ≡ b) at e)
    | inr off ↦ λ e. h.last k le lt (sym (same k off) ∙ e)
  ];
}

last_skipped : (marks others : List ℕ) (i b m link : ℕ) → SameBut marks others i → get_or others i 0 ≢ b → i < m → ((k : ℕ) → i < k → k < m → get_or marks k 0 ≢ b) → IsLastLink marks b i link → IsLastLink others b m link
last_skipped marks others i b m link same not below none h = record {
  within = omega (arith, h.within);
  there = λ some. same (link - 1) (λ e. absurd (omega (arith, h.within))) ∙ h.there some;
  last = λ k le lt. elim (cases_eq k i) [
    | inl at ↦ λ e. not (subst (λ n. get_or others n 0 ≡ b) at e)
    | inr off ↦ λ e. elim (cases_lt k i) [
      | inl less ↦ h.last k le less (sym (same k off) ∙ e)
      | inr more ↦ none k (omega arith) lt (sym (same k off) ∙ e)
    ]
  ];
}

last_here : (marks others : List ℕ) (i b m : ℕ) → SameBut marks others i → get_or others i 0 ≡ b → i < m → ((k : ℕ) → i < k → k < m → get_or marks k 0 ≢ b) → IsLastLink others b m (i + 1)
last_here marks others i b m same is below none = record {
  within = omega arith;
  there = λ some. subst (λ n. get_or others n 0 ≡ b) (sym (let e : i + 1 - 1 ≡ i = omega arith in e)) is;
  last = λ k le lt e. none k (omega arith) lt (sym (same k (λ at. absurd (omega arith))) ∙ e);
}

-- the link that led to i, if it is the last of its bucket
link_to : (marks : List ℕ) (i b m : ℕ) → IsLastLink marks b m (i + 1) → get_or marks i 0 ≡ b
link_to marks i b m h = subst (λ n. get_or marks n 0 ≡ b) (let e : i + 1 - 1 ≡ i = omega arith in e) (h.there (omega arith))

same_set : (marks : List ℕ) (i v : ℕ) → SameBut marks (set marks i v) i
same_set marks i v k off = get_or-set_other marks i k v 0 off

-- a mark that is no bucket isn't the mark of one
not_a_bucket : (marks : List ℕ) (i size c : ℕ) → get_or marks i 0 ≡ size → c < size → get_or marks i 0 ≢ c
not_a_bucket marks i size c e lt f = absurd (omega arith)

pub marked_apart : (marks : List ℕ) (i size k : ℕ) → get_or marks i 0 ≡ size → get_or marks k 0 < size → k ≢ i
marked_apart marks i size k e lt at = let f : get_or marks k 0 ≡ get_or marks i 0 = ap (λ n. get_or marks n 0) at in absurd (omega arith)

unlinked_first : (marks links heads : List ℕ) (i b : ℕ) → i < length marks → get_or marks i 0 ≡ b → b < length heads → IsLinked marks links heads → IsAbove marks b i None → IsLinked (set marks i (length heads)) links (set heads b (get_or links i 0))
unlinked_first marks links heads i b within is bucket h a =
    let size = length heads in
    let others = set marks i size in
    let same : SameBut marks others i = same_set marks i size in
    let hole : get_or others i 0 ≡ size = get_or-set_same marks i size 0 within in
    let long : length others ≡ length marks = length-set marks i size in
    let wide : length (set heads b (get_or links i 0)) ≡ size = length-set heads b (get_or links i 0) in
    let own : IsLastLink marks b i (get_or links i 0) = subst (λ c. IsLastLink marks c i (get_or links i 0)) is (h.nexts i within (omega arith)) in
    record {
      firsts = λ c below. subst (λ n. IsLastLink others c n (get_or (set heads b (get_or links i 0)) c 0)) (sym long) (elim (cases_eq c b) [
        | inl at ↦ subst (λ d. IsLastLink others d (length marks) (get_or (set heads b (get_or links i 0)) d 0)) (sym at)
            (subst (λ t. IsLastLink others b (length marks) t) (sym (get_or-set_same heads b (get_or links i 0) 0 bucket))
            (last_skipped marks others i b (length marks) _ same (not_a_bucket others i size b hole bucket) within a.nearest own))
        | inr off ↦ subst (λ t. IsLastLink others c (length marks) t) (sym (get_or-set_other heads b c (get_or links i 0) 0 off))
            (last_kept marks others i c (length marks) _ same (λ e. off (sym (link_to marks i c (length marks) (subst (λ t. IsLastLink marks c (length marks) t) e (h.firsts c (omega arith)))) ∙ is)) (λ _ _. not_a_bucket others i size c hole (omega arith)) (h.firsts c (omega arith)))
      ]);
      nexts = λ k less linked.
          let off : k ≢ i = marked_apart others i size k hole (omega arith) in
          let e = same k off in
          let was = h.nexts k (omega arith) (omega arith) in
          subst (λ c. IsLastLink others c k (get_or links k 0)) (sym e)
          (last_kept marks others i (get_or marks k 0) k _ same (λ to. let led = subst (λ t. IsLastLink marks (get_or marks k 0) k t) to was in
          absurd (a.nearest k (omega (arith, led.within)) (omega arith) (sym (link_to marks i _ k led) ∙ is)))
          (λ _ _. not_a_bucket others i size (get_or marks k 0) hole (omega arith)) was);
    }

unlinked_behind : (marks links heads : List ℕ) (i b j : ℕ) → i < length marks → length links ≡ length marks → get_or marks i 0 ≡ b → b < length heads → IsLinked marks links heads → IsAbove marks b i (Some j) → IsLinked (set marks i (length heads)) (set links j (get_or links i 0)) heads
unlinked_behind marks links heads i b j within all is bucket h a =
    let size = length heads in
    let others = set marks i size in
    let same : SameBut marks others i = same_set marks i size in
    let hole : get_or others i 0 ≡ size = get_or-set_same marks i size 0 within in
    let long : length others ≡ length marks = length-set marks i size in
    let there = a.there j refl in
    let own : IsLastLink marks b i (get_or links i 0) = subst (λ c. IsLastLink marks c i (get_or links i 0)) is (h.nexts i within (omega arith)) in
    record {
      firsts = λ c below. subst (λ n. IsLastLink others c n (get_or heads c 0)) (sym long)
          (last_kept marks others i c (length marks) _ same (λ to. let led = subst (λ t. IsLastLink marks c (length marks) t) to (h.firsts c below) in
          absurd (led.last j (omega (arith, there.0)) there.1 (there.2 ∙ sym is ∙ link_to marks i c (length marks) led)))
          (λ _ _. not_a_bucket others i size c hole below) (h.firsts c below));
      nexts = λ k less linked.
          let off : k ≢ i = marked_apart others i size k hole linked in
          let e = same k off in
          let was = h.nexts k (omega arith) (omega arith) in
          subst (λ c. IsLastLink others c k (get_or (set links j (get_or links i 0)) k 0)) (sym e) (elim (cases_eq k j) [
            | inl at ↦ let mark : get_or marks k 0 ≡ b = ap (λ n. get_or marks n 0) at ∙ there.2 in
                let link : get_or (set links j (get_or links i 0)) k 0 ≡ get_or links i 0 = ap (λ n. get_or (set links j (get_or links i 0)) n 0) at ∙ get_or-set_same links j (get_or links i 0) 0 (omega (arith, there.1)) in
                subst (λ c. IsLastLink others c k (get_or (set links j (get_or links i 0)) k 0)) (sym mark) (subst (λ t. IsLastLink others b k t) (sym link)
                (last_skipped marks others i b k _ same (not_a_bucket others i size b hole bucket) (omega (arith, there.0)) (λ m low high. a.nearest m low (omega arith)) own))
            | inr apart ↦ subst (λ t. IsLastLink others (get_or marks k 0) k t) (sym (get_or-set_other links j k (get_or links i 0) 0 apart))
                (last_kept marks others i (get_or marks k 0) k _ same (λ to. let led = subst (λ t. IsLastLink marks (get_or marks k 0) k t) to was in let mark : get_or marks k 0 ≡ b = sym (link_to marks i _ k led) ∙ is in
                elim (cases_lt k j) [
                  | inl low ↦ a.nearest k (omega (arith, led.within)) low mark
                  | inr high ↦ led.last j (omega (arith, there.0)) (omega arith) (there.2 ∙ sym mark)
                ])
                (λ _ _. not_a_bucket others i size (get_or marks k 0) hole (omega arith)) was)
          ]);
    }

pub unlinked : (marks links heads : List ℕ) (i b : ℕ) (above : Option ℕ) → i < length marks → length links ≡ length marks → get_or marks i 0 ≡ b → b < length heads → IsLinked marks links heads → IsAbove marks b i above →
    IsLinked (set marks i (length heads)) (links_below links above (get_or links i 0)) (heads_below heads b above (get_or links i 0))
unlinked marks links heads i b None within all is bucket h a = unlinked_first marks links heads i b within is bucket h a
unlinked marks links heads i b (Some j) within all is bucket h a = unlinked_behind marks links heads i b j within all is bucket h a

-- the link behind the node above i leads to the bucket's last node below i, where i isn't linked
behind : (marks links heads : List ℕ) (b : ℕ) (above : Option ℕ) (i : ℕ) → b < length heads → IsLinked marks links heads → IsAbove marks b i above → IsLastLink marks b (end_of marks above) (link_below heads links b above)
behind marks links heads b None i bucket h a = h.firsts b bucket
behind marks links heads b (Some j) i bucket h a = let there = a.there j refl in
    subst (λ c. IsLastLink marks c j (get_or links j 0)) there.2 (h.nexts j there.1 (subst (λ c. c < length heads) (sym there.2) bucket))

pub short : (marks : List ℕ) (b i n link size : ℕ) → i < n → get_or marks i 0 ≡ size → b < size → ((k : ℕ) → i < k → k < n → get_or marks k 0 ≢ b) → IsLastLink marks b n link → IsLastLink marks b i link
short marks b i n link size less hole bucket none h = record {
  within = elim (cases_lt i link) [
    | inl above ↦ elim (cases_eq (link - 1) i) [
      | inl at ↦ let e : get_or marks i 0 ≡ b = subst (λ m. get_or marks m 0 ≡ b) at (h.there (omega arith)) in absurd (omega arith)
      | inr off ↦ absurd (none (link - 1) (omega arith) (omega (arith, h.within)) (h.there (omega arith)))
    ]
    | inr low ↦ low
  ];
  there = h.there;
  last = λ k le lt. h.last k le (omega arith);
}

module _ (marks links heads : List ℕ) (i b : ℕ) where
  abbrev Put : Option ℕ → Type 0
  Put above = IsLinked (set marks i b) (links_below (set links i (link_below heads links b above)) above (i + 1)) (heads_below heads b above (i + 1))

linked_first : (marks links heads : List ℕ) (i b : ℕ) → i < length marks → length links ≡ length marks → get_or marks i 0 ≡ length heads → b < length heads → IsLinked marks links heads → IsAbove marks b i None → Put marks links heads i b None
linked_first marks links heads i b within all hole bucket h a =
    let size = length heads in
    let others = set marks i b in
    let same : SameBut marks others i = same_set marks i b in
    let is : get_or others i 0 ≡ b = get_or-set_same marks i b 0 within in
    let long : length others ≡ length marks = length-set marks i b in
    let wide : length (set heads b (i + 1)) ≡ size = length-set heads b (i + 1) in
    let t = get_or heads b 0 in
    let low : IsLastLink marks b i t = short marks b i (length marks) t size within hole bucket a.nearest (h.firsts b bucket) in
    record {
      firsts = λ c below. subst (λ n. IsLastLink others c n (get_or (set heads b (i + 1)) c 0)) (sym long) (elim (cases_eq c b) [
        | inl at ↦ subst (λ d. IsLastLink others d (length marks) (get_or (set heads b (i + 1)) d 0)) (sym at)
            (subst (λ t. IsLastLink others b (length marks) t) (sym (get_or-set_same heads b (i + 1) 0 bucket)) (last_here marks others i b (length marks) same is within a.nearest))
        | inr off ↦ subst (λ t. IsLastLink others c (length marks) t) (sym (get_or-set_other heads b c (i + 1) 0 off))
            (last_kept marks others i c (length marks) _ same (λ to. let led = subst (λ t. IsLastLink marks c (length marks) t) to (h.firsts c (omega arith)) in
            not_a_bucket marks i size c hole (omega arith) (link_to marks i c (length marks) led)) (λ _ _ e. off (sym e ∙ is)) (h.firsts c (omega arith)))
      ]);
      nexts = λ k less linked. elim (cases_eq k i) [
        | inl at ↦ subst (λ n. IsLastLink others (get_or others n 0) n (get_or (set links i t) n 0)) (sym at) (subst (λ c. IsLastLink others c i (get_or (set links i t) i 0)) (sym is)
            (subst (λ u. IsLastLink others b i u) (sym (get_or-set_same links i t 0 (omega arith))) (last_kept marks others i b i t same (λ e. absurd (omega (arith, low.within))) (λ _ lt. absurd (omega arith)) low)))
        | inr off ↦ let e = same k off in let was = h.nexts k (omega arith) (omega arith) in
            subst (λ c. IsLastLink others c k (get_or (set links i t) k 0)) (sym e) (subst (λ u. IsLastLink others (get_or marks k 0) k u) (sym (get_or-set_other links i k t 0 off))
            (last_kept marks others i (get_or marks k 0) k _ same (λ to. let led = subst (λ t. IsLastLink marks (get_or marks k 0) k t) to was in
            not_a_bucket marks i size (get_or marks k 0) hole (omega arith) (link_to marks i _ k led)) (λ _ up f. a.nearest k up (omega arith) (sym f ∙ is)) was))
      ];
    }

linked_behind : (marks links heads : List ℕ) (i b j : ℕ) → i < length marks → length links ≡ length marks → get_or marks i 0 ≡ length heads → b < length heads → IsLinked marks links heads → IsAbove marks b i (Some j) → Put marks links heads i b (Some j)
linked_behind marks links heads i b j within all hole bucket h a =
    let size = length heads in
    let others = set marks i b in
    let same : SameBut marks others i = same_set marks i b in
    let is : get_or others i 0 ≡ b = get_or-set_same marks i b 0 within in
    let long : length others ≡ length marks = length-set marks i b in
    let there = a.there j refl in
    let t = get_or links j 0 in
    let once = set links i t in
    let many : length once ≡ length links = length-set links i t in
    let low : IsLastLink marks b i t = short marks b i j t size there.0 hole bucket a.nearest (behind marks links heads b (Some j) i bucket h a) in
    record {
      firsts = λ c below. subst (λ n. IsLastLink others c n (get_or heads c 0)) (sym long)
          (last_kept marks others i c (length marks) _ same (λ to. let led = subst (λ t. IsLastLink marks c (length marks) t) to (h.firsts c below) in
          not_a_bucket marks i size c hole below (link_to marks i c (length marks) led))
          (λ le _ e. (h.firsts c below).last j (omega (arith, there.0)) there.1 (there.2 ∙ sym is ∙ e)) (h.firsts c below));
      nexts = λ k less linked. elim (cases_eq k j) [
        | inl at ↦ let mark : get_or others k 0 ≡ b = same k (λ e. absurd (omega (arith, there.0))) ∙ ap (λ n. get_or marks n 0) at ∙ there.2 in
            let link : get_or (set once j (i + 1)) k 0 ≡ i + 1 = ap (λ n. get_or (set once j (i + 1)) n 0) at ∙ get_or-set_same once j (i + 1) 0 (omega (arith, there.1)) in
            subst (λ c. IsLastLink others c k (get_or (set once j (i + 1)) k 0)) (sym mark) (subst (λ u. IsLastLink others b k u) (sym link)
            (last_here marks others i b k same is (omega (arith, there.0)) (λ m low high. a.nearest m low (omega arith))))
        | inr apart ↦ subst (λ u. IsLastLink others (get_or others k 0) k u) (sym (get_or-set_other once j k (i + 1) 0 apart)) (elim (cases_eq k i) [
          | inl at ↦ subst (λ n. IsLastLink others (get_or others n 0) n (get_or once n 0)) (sym at) (subst (λ c. IsLastLink others c i (get_or once i 0)) (sym is)
              (subst (λ u. IsLastLink others b i u) (sym (get_or-set_same links i t 0 (omega arith))) (last_kept marks others i b i t same (λ e. absurd (omega (arith, low.within))) (λ _ lt. absurd (omega arith)) low)))
          | inr off ↦ let e = same k off in let was = h.nexts k (omega arith) (omega arith) in
              subst (λ c. IsLastLink others c k (get_or once k 0)) (sym e) (subst (λ u. IsLastLink others (get_or marks k 0) k u) (sym (get_or-set_other links i k t 0 off))
              (last_kept marks others i (get_or marks k 0) k _ same (λ to. let led = subst (λ t. IsLastLink marks (get_or marks k 0) k t) to was in
              not_a_bucket marks i size (get_or marks k 0) hole (omega arith) (link_to marks i _ k led))
              (λ le up f. let mark : get_or marks k 0 ≡ b = sym f ∙ is in elim (cases_lt k j) [
                | inl less ↦ a.nearest k up less mark
                | inr more ↦ was.last j (omega (arith, there.0)) (omega arith) (there.2 ∙ sym mark)
              ]) was))
        ])
      ];
    }

pub linked_in : (marks links heads : List ℕ) (i b : ℕ) (above : Option ℕ) → i < length marks → length links ≡ length marks → get_or marks i 0 ≡ length heads → b < length heads → IsLinked marks links heads → IsAbove marks b i above → Put marks links heads i b above
linked_in marks links heads i b None within all hole bucket h a = linked_first marks links heads i b within all hole bucket h a
linked_in marks links heads i b (Some j) within all hole bucket h a = linked_behind marks links heads i b j within all hole bucket h a

-- a walk down the bucket came to this node above i, whose link is this
pub record IsReached (marks : List ℕ) (b i : ℕ) (above : Option ℕ) (link : ℕ) : Type 0 where
  pub there : (j : ℕ) → above ≡ Some j → (i < j) × (j < length marks) × (get_or marks j 0 ≡ b)
  pub next : IsLastLink marks b (end_of marks above) link

pub IsReached-first : (marks links heads : List ℕ) (b i : ℕ) → IsLinked marks links heads → b < length heads → IsReached marks b i None (get_or heads b 0)
IsReached-first marks links heads b i h bucket = record { there = λ j e. absurd (none-some j e); next = h.firsts b bucket }

pub IsReached-more : (marks links heads : List ℕ) (b i : ℕ) (above : Option ℕ) (link : ℕ) → IsLinked marks links heads → b < length heads → i + 1 < link → link ≤ length marks → IsReached marks b i above link → IsReached marks b i (Some (link - 1)) (get_or links (link - 1) 0)
IsReached-more marks links heads b i above link h bucket more fits r =
    let mark = r.next.there (omega arith) in
    let below : link - 1 < length marks = omega arith in
    record {
      there = λ j e. let at : link - 1 ≡ j = cc in subst (λ j. (i < j) × (j < length marks) × (get_or marks j 0 ≡ b)) at (omega arith, below, mark);
      next = subst (λ c. IsLastLink marks c (link - 1) (get_or links (link - 1) 0)) mark (h.nexts (link - 1) below (subst (λ c. c < length heads) (sym mark) bucket));
    }

pub IsAbove-reached : (marks : List ℕ) (b i : ℕ) (above : Option ℕ) (link : ℕ) → link ≤ i + 1 → IsReached marks b i above link → IsAbove marks b i above
IsAbove-reached marks b i above link less r = record { there = r.there; nearest = λ k low high. r.next.last k (omega arith) high }

-- the step by nodes
pub reached_more : (nodes : List Node) (heads : List ℕ) (b i : ℕ) (above : Option ℕ) (link : ℕ) → b < length heads → i + 1 < link → link ≤ length nodes →
    (marks : List ℕ) → AreLinked marks nodes heads → IsReached marks b i above link → IsReached marks b i (Some (link - 1)) (get_or nodes (link - 1) blank_node).next
reached_more nodes heads b i above link bucket more fits marks h r = let long = h.all in
    subst (λ t. IsReached marks b i (Some (link - 1)) t) (get_or-map (λ (n : Node). n.next) nodes (link - 1) blank_node 0 (omega arith))
    (IsReached-more marks (links_of nodes) heads b i above link h.linked bucket more (omega arith) r)

-- a node's link leads to a node before it
pub next_below : (nodes : List Node) (heads marks : List ℕ) (b i : ℕ) (above : Option ℕ) (link : ℕ) → b < length heads → i + 1 < link → link ≤ length nodes → AreLinked marks nodes heads → IsReached marks b i above link →
    (get_or nodes (link - 1) blank_node).next < link
next_below nodes heads marks b i above link bucket more fits h r = let n = (reached_more nodes heads b i above link bucket more fits marks h r).next.within in omega arith

-- the node with another link
abbrev pub relinked : Node → ℕ → Node
relinked n link = record { hash = n.hash; next = link; slot = n.slot; serial = n.serial }

pub rows_relinked : (nodes : List Node) (i link : ℕ) → rows_of (set nodes i (relinked (get_or nodes i blank_node) link)) ≡ rows_of nodes
rows_relinked [] i link = refl
rows_relinked (n ∷ nodes) zero link = refl
rows_relinked (n ∷ nodes) (suc i) link = ap (λ rows. row (name_of n) n.hash ∷ rows) (rows_relinked nodes i link)

-- the bucket of the node
pub mark_of : (size : ℕ) (nodes : List Node) (i : ℕ) → i < length nodes → get_or (marks_of size nodes) i 0 ≡ (get_or nodes i blank_node).hash % size
mark_of size nodes i within =
    get_or-map (λ (r : Row Name ℕ). r.value % size) (rows_of nodes) i (row (name_of blank_node) blank_node.hash) 0 (omega (arith, length-map nodes (λ (n : Node). row (name_of n) n.hash)))
    ∙ ap (λ (r : Row Name ℕ). r.value % size) (get_or-map (λ (n : Node). row (name_of n) n.hash) nodes i blank_node (row (name_of blank_node) blank_node.hash) within)

length-links : (nodes : List Node) → length (links_of nodes) ≡ length nodes
length-links nodes = length-map nodes (λ (n : Node). n.next)

link_at : (nodes : List Node) (i : ℕ) → i < length nodes → get_or (links_of nodes) i 0 ≡ (get_or nodes i blank_node).next
link_at nodes i within = get_or-map (λ (n : Node). n.next) nodes i blank_node 0 within

length-links_below : (links : List ℕ) (above : Option ℕ) (link : ℕ) → length (links_below links above link) ≡ length links
length-links_below links None link = refl
length-links_below links (Some i) link = length-set links i link

-- all nodes are there after a write of a link
kept : (nodes after : List Node) (links : List ℕ) (above : Option ℕ) (link : ℕ) → length links ≡ length nodes → links_of after ≡ links_below links above link → length after ≡ length nodes
kept nodes after links above link long e = sym (length-links after) ∙ ap length e ∙ length-links_below links above link ∙ long

pub AreLinked-unlinked : (nodes after : List Node) (heads heads_after : List ℕ) (i b : ℕ) (above : Option ℕ) → i < length nodes → b ≡ (get_or nodes i blank_node).hash % length heads → b < length heads →
    ((marks : List ℕ) → AreLinked marks nodes heads → IsAbove marks b i above) → heads_after ≡ heads_below heads b above (get_or nodes i blank_node).next → links_of after ≡ links_below (links_of nodes) above (get_or nodes i blank_node).next →
    Remarks i (get_or (marks_of (length heads) nodes) i 0) (length heads) nodes heads after heads_after
AreLinked-unlinked nodes after heads heads_after i b above within is bucket a to_heads to_links marks h mark =
    let all = h.all in
    let long = length-links nodes in
    let next = link_at nodes i within in
    record {
      all = length-set marks i (length heads) ∙ all ∙ sym (kept nodes after (links_of nodes) above _ long to_links);
      linked = rw (to_heads, to_links, ← next) (unlinked marks (links_of nodes) heads i b above (omega arith) (omega arith) (mark ∙ mark_of (length heads) nodes i within ∙ sym is) bucket h.linked (a marks h));
    }

pub AreLinked-linked_in : (nodes after : List Node) (heads heads_after : List ℕ) (i b : ℕ) (above : Option ℕ) → i < length nodes → b ≡ (get_or nodes i blank_node).hash % length heads → b < length heads →
    ((marks : List ℕ) → AreLinked marks nodes heads → IsAbove marks b i above) → heads_after ≡ heads_below heads b above (i + 1) →
    links_of after ≡ links_below (links_of (set nodes i (relinked (get_or nodes i blank_node) (link_below heads (links_of nodes) b above)))) above (i + 1) →
    Remarks i (length heads) (get_or (marks_of (length heads) nodes) i 0) nodes heads after heads_after
AreLinked-linked_in nodes after heads heads_after i b above within is bucket a to_heads to_links marks h hole =
    let all = h.all in
    let long = length-links nodes in
    let t = link_below heads (links_of nodes) b above in
    let once : links_of (set nodes i (relinked (get_or nodes i blank_node) t)) ≡ set (links_of nodes) i t = map-set (λ (n : Node). n.next) nodes i (relinked (get_or nodes i blank_node) t) in
    let to : links_of after ≡ links_below (set (links_of nodes) i t) above (i + 1) = to_links ∙ ap (λ links. links_below links above (i + 1)) once in
    record {
      all = length-set marks i _ ∙ all ∙ sym (kept nodes after (set (links_of nodes) i t) above (i + 1) (length-set (links_of nodes) i t ∙ long) to);
      linked = rw (to_heads, to, mark_of (length heads) nodes i within, ← is) (linked_in marks (links_of nodes) heads i b above (omega arith) (omega arith) hole bucket h.linked (a marks h));
    }
