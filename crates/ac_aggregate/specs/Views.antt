-- Parts in memory as contracts see them.
use Rattle.std.specs.Global.{Box}
use Rattle.ac_aggregate.specs.declared.part.Part.{Part}
use Rattle.ac_aggregate.specs.declared.part.Part.TheVariants as part
use Rattle.ac_aggregate.specs.Asked.{Asked, literal, text, name, group, product, sum, all_of, each, reduced, always, compares, both, negated}

abbrev pub asked : Part → Asked
asked (part.Literal minus n) = literal minus n
asked (part.Text bytes) = text bytes
asked (part.Name word) = name word
asked (part.Group' p e) = group (asked e)
asked (part.Product' p l q r) = product (asked l) (asked r)
asked (part.Sum' p l minus q r) = sum (asked l) minus (asked r)
asked (part.All word) = all_of word
asked (part.Each' generator object p c q e) = each generator object (asked c) (asked e)
asked (part.Reduced' p s by minus n) = reduced (asked s) by minus n
asked part.Always = always
asked (part.Compares' p l by q r) = compares (asked l) by (asked r)
asked (part.Both' p l q r) = both (asked l) (asked r)
asked (part.Negated' p c) = negated (asked c)

-- the same of a part in a box
abbrev pub asked_in : Box Part → Asked
asked_in b = asked b.value
