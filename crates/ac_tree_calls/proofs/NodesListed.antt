-- A tree's listing, node by node.
use Rattle.std.proofs.Common.{◌≡◌, ◌+◌, ◌-◌, ◌≤◌, ◌<◌, arith, ℕ, List, [], ◌∷◌, ◌++◌, length, map, replicate, suc, if◌then◌else◌, le-ltb, refl, sym, ap, ◌∙◌, append_assoc}
use Rattle.std.specs.Prelude.{codes}
use Rattle.std.proofs.lemmas.List.{append-nil, length-append}
use Rattle.ac_base.specs.declared.cursor.Cursor.{Cursor}
use Rattle.ac_base.specs.declared.name.Name.{Name}
use Rattle.ac_base.specs.Rows.{Row}
use Rattle.ac_model.specs.Objects.{Object, plain, plain_row, contents}
use Rattle.ac_model.specs.Rows.{Node}
use Rattle.ac_calls.specs.Listings.{between_nodes, nodes_after, nodes_listing}
use Rattle.ac_chain.specs.TreeWalk.{StandsBefore, IsMet}
use Rattle.ac_tree_calls.specs.ListedNodes.{follows}

module _ {X : Type 0} (text : X → List ℕ) where
  -- the nodes of rows
  abbrev pub nodes_of : List (Row Name (Node X)) → List (Node X)
  nodes_of rows = map (λ (r : Row ℕ (Node X)). r.value) (map plain_row rows)

  abbrev pub still_listed : List (Row Name (Node X)) → List ℕ
  still_listed rows = nodes_listing text (nodes_of rows)

  pub listed_all : (o : Object Name (Node X)) → still_listed o.rows ≡ nodes_listing text (contents (plain o))
  listed_all o = refl

  after_node : (number depth : ℕ) (left : List (Row Name (Node X))) (next : Cursor) (level : ℕ) → StandsBefore number left next level →
      nodes_after text depth (nodes_of left) ≡ follows depth next level ++ still_listed left
  after_node number depth [] next level is =
      sym (append-nil (replicate (depth - 2) 93)) ∙ ap (λ c. follows depth c level ++ []) (sym is)
  after_node number depth (r ∷ left) next level is =
      ap (λ n. between_nodes depth n ++ still_listed (r ∷ left)) (sym is.1) ∙ ap (λ c. follows depth c level ++ still_listed (r ∷ left)) (sym is.0)

  -- one node, and what is left behind it
  pub one_node : (number depth : ℕ) (at : Row Name (Node X)) (left : List (Row Name (Node X))) (next : Cursor) (level : ℕ) → depth ≡ at.value.depth →
      StandsBefore number left next level → still_listed (at ∷ left) ≡ (text at.value.element ++ follows depth next level) ++ still_listed left
  one_node number depth at left next level deep is =
      ap (λ d. text at.value.element ++ nodes_after text d (nodes_of left)) (sym deep)
      ∙ (ap (λ t. text at.value.element ++ t) (after_node number depth left next level is)
      ∙ sym (append_assoc (text at.value.element) (follows depth next level) (still_listed left)))

-- the row at which a listing is, and the one at its end
module _ {X : Type 0} (o : Object Name (Node X)) (c : Cursor) (depth place : ℕ) where
  pub record IsAt (left : List (Row Name (Node X))) : Type 0 where
    pub met : IsMet o c depth
    pub cut : left ≡ met.at ∷ met.left
    pub passed : length met.before + 1 ≡ place + 1

  pub met_of : (before left : List (Row Name (Node X))) → o.rows ≡ before ++ left → length before ≡ place → place < length o.rows →
      StandsBefore o.number left c depth → IsAt left
  met_of before [] is passed within at = absurd (omega (arith, ap length is, length-append before [], passed, within))
  met_of before (q ∷ left) is passed within at = record {
    met = record { before = before; at = q; left = left; is = is; stands = at.0; depth_is = at.1 };
    cut = refl;
    passed = ap (λ n. n + 1) passed;
  }

module _ {X : Type 0} (o : Object Name (Node X)) (place : ℕ) where
  pub none_left : (before left : List (Row Name (Node X))) → o.rows ≡ before ++ left → length before ≡ place → length o.rows ≤ place → left ≡ []
  none_left before [] is passed all = refl
  none_left before (q ∷ left) is passed all = absurd (omega (arith, ap length is, length-append before (q ∷ left), passed, all))

-- The brackets that close, one by one

pub one_bracket : (brackets place : ℕ) → place < brackets →
    replicate {A = ℕ} (brackets - place) 93 ≡ (93 ∷ []) ++ replicate (brackets - (place + 1)) 93
one_bracket brackets place less =
    let more : brackets - place ≡ suc (brackets - (place + 1)) = omega (arith, less) in ap (λ n. replicate {A = ℕ} n 93) more

pub closes_brackets : (depth next : ℕ) → next ≤ depth → replicate {A = ℕ} (depth - next) 93 ++ codes ", " ≡ between_nodes depth next
closes_brackets depth next le = ap (λ b. if b then codes " [" else replicate {A = ℕ} (depth - next) 93 ++ codes ", ") (sym (le-ltb depth next le))
