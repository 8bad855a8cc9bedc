-- The tree that the links are read as is the one that they stand for.
use Rattle.std.proofs.Common.{◌≡◌, ℕ, zero, suc, ◌≤◌, Option, Some, refl, ap, ◌∙◌, arith}
use Rattle.ac_base.specs.declared.name.Name.{Name}
use Rattle.ac_pool.specs.Contents.{Contents, value_of, IsSound}
use Rattle.ac_balance.specs.declared.links.Node.{Node}
use Rattle.ac_balance.specs.Trees.{Tree, leaf, node, height}
use Rattle.ac_balance.specs.TreeFields.{root, Stands, read, read_on}
use Rattle.ac_balance.proofs.Standing.{linked_root}

module _ {X : Type 0} where
  pub read-is : (c : Contents (Node X)) → IsSound c → (p : Option Name) (t : Tree X) (many : ℕ) → Stands (value_of c) p t → height t ≤ many → read many c (root t) ≡ t
  read-is c sound p leaf zero h le = refl
  read-is c sound p leaf (suc many) h le = refl
  read-is c sound p (node l x r) zero h le = absurd (omega arith)
  read-is c sound p (node l x r) (suc many) h le =
      let n = Some x.name in
      let el = linked_root c sound n l h.1 in let er = linked_root c sound n r h.2 in
      let inl_is = ap (read many c) el ∙ read-is c sound n l many h.1 (omega arith) in
      let inr_is = ap (read many c) er ∙ read-is c sound n r many h.2 (omega arith) in
      ap (λ o. read_on c x.name o (λ q. read many c q)) h.0 ∙ (λ i. node (inl_is i) x (inr_is i))
