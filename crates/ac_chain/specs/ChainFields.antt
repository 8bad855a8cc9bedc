-- What a chain's fields are seen as, and what holds of them: the links stand for the rows.
use Rattle.std.specs.Prelude.{◌≡◌, ℕ, zero, suc, ◌⊎◌, List, [], ◌∷◌, length, Option, Some, None}
use Rattle.ac_base.specs.declared.name.Name.{Name}
use Rattle.ac_pool.specs.Contents.{Contents, value_of, IsLive, live_count, with_value, swapped, IsSound}
use Rattle.ac_pool.specs.Link.{link_of, name_in}
use Rattle.ac_pool.specs.NamedRows.{HasName, IsOnce}
use Rattle.ac_chain.specs.declared.links.Node.{Node}
use Rattle.ac_chain.specs.declared.links.Links.{Links}
use Rattle.ac_base.specs.Rows.{Row, row}

module _ {X : Type 0} where
  -- a node with these slots as its links, and one that is linked with these names
  abbrev pub node_with : X → ℕ → ℕ → Node X
  node_with v prev next = record { value = v; prev = prev; next = next }

  abbrev pub node : X → Option Name → Option Name → Node X
  node v prev next = node_with v (link_of prev) (link_of next)

  abbrev pub links : Contents (Node X) → Option Name → Option Name → Links X
  links nodes first last = record { nodes = nodes; first = first; last = last }

  -- the first and the last of the rows' names, or else o
  abbrev pub first_or : List (Row Name X) → Option Name → Option Name
  first_or [] o = o
  first_or (r ∷ rows) o = Some r.name

  abbrev pub last_or : Option Name → List (Row Name X) → Option Name
  last_or o [] = o
  last_or o (r ∷ rows) = last_or (Some r.name) rows

  -- each row's node is linked with the rows before and after it, the first with p and the last with n
  abbrev pub Linked : (Name → Option (Node X)) → Option Name → List (Row Name X) → Option Name → Type 0
  Linked f p [] n = Unit {0}
  Linked f p (r ∷ rows) n = (f r.name ≡ Some (node r.value p (first_or rows n))) × Linked f (Some r.name) rows n

  pub record StandsFor (l : Links X) (rows : List (Row Name X)) : Type 0 where
    pub linked : Linked (value_of l.nodes) None rows None
    pub first : l.first ≡ first_or rows None
    pub last : l.last ≡ last_or None rows
    pub once : IsOnce rows
    pub all : (a : Name) → IsLive l.nodes a → HasName a rows
    pub count : length rows ≡ live_count l.nodes
    pub sound : IsSound l.nodes

  -- the node's links, and the names that they lead to
  abbrev pub next_link : Option (Node X) → ℕ
  next_link None = link_of None
  next_link (Some n) = n.next

  abbrev pub prev_link : Option (Node X) → ℕ
  prev_link None = link_of None
  prev_link (Some n) = n.prev

  abbrev pub next_of : Contents (Node X) → Option (Node X) → Option Name
  next_of c o = name_in c (next_link o)

  abbrev pub prev_of : Contents (Node X) → Option (Node X) → Option Name
  prev_of c o = name_in c (prev_link o)

  abbrev pub walked_on : Contents (Node X) → Name → Option (Node X) → (Option Name → List (Row Name X)) → List (Row Name X)
  walked_on c a None rest = []
  walked_on c a (Some n) rest = row a n.value ∷ rest (name_in c n.next)

  -- the rows from the name on, by the links to the next one, at most so many
  abbrev pub walked : ℕ → Contents (Node X) → Option Name → List (Row Name X)
  walked zero c o = []
  walked (suc many) c None = []
  walked (suc many) c (Some a) = walked_on c a (value_of c a) (λ o. walked many c o)

  unfoldable pub rows_in : Links X → List (Row Name X)
  rows_in l = walked (live_count l.nodes) l.nodes l.first

  abbrev pub IsChain : Links X → Type 0
  IsChain l = StandsFor l (rows_in l)

  -- what the writes of single links leave
  abbrev pub next_written : Contents (Node X) → Name → Option Name → Option (Node X) → Contents (Node X)
  next_written c a to None = c
  next_written c a to (Some n) = with_value c a (node_with n.value n.prev (link_of to))

  abbrev pub prev_written : Contents (Node X) → Name → Option Name → Option (Node X) → Contents (Node X)
  prev_written c a to None = c
  prev_written c a to (Some n) = with_value c a (node_with n.value (link_of to) n.next)

  unfoldable pub with_next : Links X → Option Name → Option Name → Links X
  with_next l None to = links l.nodes to l.last
  with_next l (Some a) to = links (next_written l.nodes a to (value_of l.nodes a)) l.first l.last

  unfoldable pub with_prev : Links X → Option Name → Option Name → Links X
  with_prev l None to = links l.nodes l.first to
  with_prev l (Some a) to = links (prev_written l.nodes a to (value_of l.nodes a)) l.first l.last

  -- the two names stand side by side: at no name on the left the one on the right is the first, and so for the last
  unfoldable pub joined : Links X → Option Name → Option Name → Links X
  joined l left right = with_prev (with_next l left right) right left

  abbrev pub before_in : Links X → Option Name → Option Name
  before_in l None = l.last
  before_in l (Some a) = prev_of l.nodes (value_of l.nodes a)

  -- the link that leads from a row before the place to the one before it
  abbrev pub link_before : Links X → Option Name → ℕ
  link_before l None = link_of l.last
  link_before l (Some a) = prev_link (value_of l.nodes a)

  -- the nodes on both sides are linked with the name
  unfoldable pub attached : Links X → ℕ → Option Name → Name → Links X
  attached l before place a = with_prev (with_next l (name_in l.nodes before) (Some a)) place (Some a)

  unfoldable pub linked_before : Links X → Option Name → Name → Links X
  linked_before l place a = joined (joined l (before_in l place) (Some a)) (Some a) place

  -- the nodes to which the two links lead stand side by side
  abbrev pub closed : Links X → ℕ → ℕ → Links X
  closed l prev next = joined l (name_in l.nodes prev) (name_in l.nodes next)

  unfoldable pub unlinked : Links X → Name → Links X
  unlinked l a = joined l (prev_of l.nodes (value_of l.nodes a)) (next_of l.nodes (value_of l.nodes a))

  -- another value in the name's node, and other links
  abbrev pub value_written : Contents (Node X) → Name → X → Option (Node X) → Contents (Node X)
  value_written c a w None = c
  value_written c a w (Some n) = with_value c a (node_with w n.prev n.next)

  abbrev pub with_node_value : Links X → Name → X → Links X
  with_node_value l a w = links (value_written l.nodes a w (value_of l.nodes a)) l.first l.last

  abbrev pub links_written : Contents (Node X) → Name → ℕ → ℕ → Option (Node X) → Contents (Node X)
  links_written c a prev next None = c
  links_written c a prev next (Some n) = with_value c a (node_with n.value prev next)

  unfoldable pub with_links : Links X → Name → ℕ → ℕ → Links X
  with_links l a prev next = links (links_written l.nodes a prev next (value_of l.nodes a)) l.first l.last

  -- the two nodes' values change places, and their links stay
  unfoldable pub exchanged_in : Links X → Name → Name → Links X
  exchanged_in l a b =
      with_links (with_links (links (swapped l.nodes a b) l.first l.last) a (prev_link (value_of l.nodes a)) (next_link (value_of l.nodes a)))
      b (prev_link (value_of l.nodes b)) (next_link (value_of l.nodes b))
