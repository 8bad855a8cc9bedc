-- Sets of texts with keys: the items that one has, which kind of set it is, and how its keys are told apart.
use Rattle.std.specs.Prelude.{◌≡◌}
use Rattle.ac_base.specs.Guards.{GuardCounts}
use Rattle.ac_model.specs.Containers.{Container, guards_of}
use Rattle.ac_model.specs.Keyed.{Order}
use Rattle.ac_calls.specs.Elements.{Text, texts}
use Rattle.ac_calls.specs.KeyedReplies.{KeyedKind, order_by}
use Rattle.ac_keyed_calls.specs.declared.keyed_set.KeyedSet.{KeyedSet}
use Rattle.ac_keyed_calls.specs.Sets.{items_of, set_kind_of, set_with, set_given, set_own, set_rest}

module _ {H O I J : Type 0} where
  abbrev pub keyed_items : KeyedSet H O I J → Container Text
  keyed_items s = items_of s.set

  abbrev pub keyed_kind : KeyedSet H O I J → KeyedKind
  keyed_kind s = set_kind_of s.set

  abbrev pub keys_of : KeyedSet H O I J → Order Text
  keys_of s = order_by texts (keyed_kind s)

  -- with these counts of guards
  abbrev pub keyed_set_with : KeyedSet H O I J → GuardCounts → KeyedSet H O I J
  keyed_set_with s counts = record s { set = set_with s.set counts }

  -- the laws of guards

  pub keyed_set_given : (s : KeyedSet H O I J) (counts : GuardCounts) → guards_of (keyed_items (keyed_set_with s counts)) ≡ counts
  keyed_set_given s counts = set_given s.set counts

  pub keyed_set_own : (s : KeyedSet H O I J) → keyed_set_with s (guards_of (keyed_items s)) ≡ s
  keyed_set_own s = λ i. record s { set = set_own s.set i }

  pub keyed_set_rest : (s : KeyedSet H O I J) (counts others : GuardCounts) → keyed_set_with (keyed_set_with s counts) others ≡ keyed_set_with s others
  keyed_set_rest s counts others = λ i. record s { set = set_rest s.set counts others i }
