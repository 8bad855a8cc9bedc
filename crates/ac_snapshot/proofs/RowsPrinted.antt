-- Rows in a state's text are what Print answers of the object.
use Rattle.std.proofs.Common.{◌≡◌, ℕ, true, false, List, [], ◌∷◌, ◌++◌, map, refl, ap, ◌∙◌}
use Rattle.std.specs.Prelude.{codes, option_to_list}
use Rattle.std.proofs.lemmas.Bool.{true≢false, false≢true}
use Rattle.std.proofs.lemmas.List.Folds.{flat_map-map}
use Rattle.ac_model.specs.Objects.{contents}
use Rattle.ac_model.specs.Rows.{Node}
use Rattle.ac_syntax.specs.Canonical.{literal_text}
use Rattle.ac_syntax.specs.declared.kind.Kind.{Kind}
use Rattle.ac_syntax.specs.declared.kind.Kind.TheVariants as kinds
use Rattle.ac_calls.specs.Elements.{Tools, tools_of, keyed_texts}
use Rattle.ac_calls.specs.Holdings.{a_sequence, a_map, a_set, a_keyed_set, a_tree, Held, of_rows, of_holder, of_queue, has_root, listing_of}
use Rattle.ac_calls.specs.Listings.{bracketed, between_nodes, nodes_after, tree_listing}
use Rattle.ac_calls.specs.PlainRows.{element_form, entry_form, node_form, item_form, plain_rows}
use Rattle.ac_calls.specs.declared.plains.PlainRow.{PlainRow}
use Rattle.ac_snapshot.specs.RowValidity.{is_tree}
use Rattle.ac_snapshot.specs.StateTexts.{row_text, node_of, rows_text}

-- outside trees rows stand in brackets

in_brackets : (kind : Kind) (rows : List PlainRow) → is_tree kind ≡ false → rows_text kind rows ≡ bracketed row_text rows
in_brackets kinds.Vector rows h = refl
in_brackets kinds.List rows h = refl
in_brackets kinds.HashedMap rows h = refl
in_brackets kinds.OrderedMap rows h = refl
in_brackets kinds.HashedSet rows h = refl
in_brackets kinds.OrderedSet rows h = refl
in_brackets kinds.Tree rows h = absurd (true≢false h)
in_brackets kinds.Holder rows h = refl
in_brackets kinds.Queue rows h = refl
in_brackets kinds.PriorityQueue rows h = refl

as_tree : (kind : Kind) (rows : List PlainRow) → is_tree kind ≡ true → rows_text kind rows ≡ tree_listing literal_text (map node_of rows)
as_tree kinds.Vector rows h = absurd (false≢true h)
as_tree kinds.List rows h = absurd (false≢true h)
as_tree kinds.HashedMap rows h = absurd (false≢true h)
as_tree kinds.OrderedMap rows h = absurd (false≢true h)
as_tree kinds.HashedSet rows h = absurd (false≢true h)
as_tree kinds.OrderedSet rows h = absurd (false≢true h)
as_tree kinds.Tree rows h = refl
as_tree kinds.Holder rows h = absurd (false≢true h)
as_tree kinds.Queue rows h = absurd (false≢true h)
as_tree kinds.PriorityQueue rows h = absurd (false≢true h)

-- items that are listed by what is made of them

bracketed_made : {A B : Type 0} (text : B → List ℕ) (f : A → B) (items : List A) → bracketed text (map f items) ≡ bracketed (λ a. text (f a)) items
bracketed_made text f [] = refl
bracketed_made text f (a ∷ items) =
    ap (λ more. codes "[" ++ ((text (f a) ++ more) ++ codes "]")) (flat_map-map (λ b. codes ", " ++ text b) f items)

module _ {T : Type 0} (tools : Tools T) where
  nodes_made : (depth : ℕ) (nodes : List (Node T)) →
      nodes_after literal_text depth (map node_of (map (node_form tools) nodes)) ≡ nodes_after (λ e. literal_text (tools.to_value e)) depth nodes
  nodes_made depth [] = refl
  nodes_made depth (n ∷ nodes) = ap (λ more. between_nodes depth n.depth ++ (literal_text (tools.to_value n.element) ++ more)) (nodes_made n.depth nodes)

  tree_made : (nodes : List (Node T)) →
      tree_listing literal_text (map node_of (map (node_form tools) nodes)) ≡ tree_listing (λ e. literal_text (tools.to_value e)) nodes
  tree_made [] = refl
  tree_made (n ∷ nodes) = ap (λ more. codes "[" ++ ((literal_text (tools.to_value n.element) ++ more) ++ codes "]")) (nodes_made n.depth nodes)

-- of each sort of object

pub lists_as_printed : (kind : Kind) (h : Held) → is_tree kind ≡ has_root h → rows_text kind (plain_rows h) ≡ listing_of h
lists_as_printed kind (of_rows (a_sequence which e) o) same =
    in_brackets kind _ same ∙ bracketed_made row_text (element_form (tools_of e)) (contents o)
lists_as_printed kind (of_rows (a_map which k e) o) same =
    in_brackets kind _ same ∙ bracketed_made row_text (entry_form (tools_of k) (tools_of e)) (contents o)
lists_as_printed kind (of_rows (a_set which e) o) same =
    in_brackets kind _ same ∙ bracketed_made row_text (element_form (tools_of e)) (contents o)
lists_as_printed kind (of_rows (a_keyed_set which) o) same =
    in_brackets kind _ same ∙ bracketed_made row_text (element_form keyed_texts) (contents o)
lists_as_printed kind (of_rows (a_tree e) o) same = as_tree kind _ same ∙ tree_made (tools_of e) (contents o)
lists_as_printed kind (of_holder e h) same =
    in_brackets kind _ same ∙ bracketed_made row_text (element_form (tools_of e)) (option_to_list h.element)
lists_as_printed kind (of_queue number q) same = in_brackets kind _ same ∙ bracketed_made row_text item_form q.queue.items
