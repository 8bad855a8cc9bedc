-- Rows are read as they are listed.
use Rattle.std.proofs.Common.{◌≡◌, ◌==◌, ◌&&◌, ◌+◌, ◌-◌, ◌<◌, ◌≤◌, ◌^◌, ℕ, zero, suc, pos, negsuc, Bool, true, false, cond, List, [], ◌∷◌, ◌++◌, length, take, drop, map, replicate, codes, decimal, refl, sym, ap, ap₂, subst, ◌∙◌, arith, nat_lt, append_assoc, eqb-true, ltb-true, ltb-false, one-add, Option, Some, None, if◌then◌else◌}
use Rattle.std.specs.List.{prefix_len, list_all}
use Rattle.std.specs.Char.{is_ascii_digit}
use Rattle.std.proofs.lemmas.Bool.{and_parts, cond-true, cond-false, leb-true, eq-eqb, ne_eqb, lt-ltb, le-ltb}
use Rattle.std.proofs.lemmas.Bool.Decides.{nat_tests}
use Rattle.std.proofs.lemmas.Fmt.{decimal_is_IsNumeral}
use Rattle.std.proofs.lemmas.List.{take-append-drop, replicate-append-replicate}
use Rattle.ac_base.specs.declared.limit.TheConstants.{GREATEST_LENGTH}
use Rattle.ac_base.specs.declared.value.Value.{Value}
use Rattle.ac_base.specs.declared.value.Value.TheVariants as value
use Rattle.ac_syntax.specs.declared.kind.ElemKind.{ElemKind}
use Rattle.ac_syntax.specs.declared.kind.ElemKind.TheVariants.{Integer, Str}
use Rattle.ac_syntax.specs.declared.kind.Kind.{Kind}
use Rattle.ac_syntax.specs.declared.kind.Kind.TheVariants as kinds
use Rattle.ac_syntax.specs.declared.type_def.TypeDef.{TypeDef}
use Rattle.ac_syntax.specs.Kinds.{is_map}
use Rattle.ac_syntax.specs.Canonical.{literal_text}
use Rattle.ac_rules.specs.Scopes.{element_of}
use Rattle.ac_calls.specs.Listings.{after_commas, bracketed, between_nodes, nodes_after, tree_listing}
use Rattle.ac_calls.specs.declared.plains.PlainRow.{PlainRow}
use Rattle.ac_snapshot.specs.RowValidity.{is_tree, is_given, is_value_of}
use Rattle.ac_snapshot.specs.StateTexts.{item_text, row_text, node_of, rows_text}
use Rattle.ac_snapshot.specs.Outcomes.{got, stuck, gives, onward, either}
use Rattle.ac_snapshot.specs.ValueReaders.{after, literal}
use Rattle.ac_snapshot.specs.RowReaders.{plain_row, depth_at, entry_row, element_row, row, is_bracket, deeper, behind_brackets, behind_row, before_rows, rows_by, listed}
use Rattle.ac_snapshot.specs.Writings.{ends}
use Rattle.ac_snapshot.proofs.ValueLaws.{step_found, fork_found, passed, after_found, after_read, digit_bytes, literals_read}

-- a row's level: its depth in a tree, and elsewhere that of a tree's topmost nodes
abbrev pub level_of : Kind → PlainRow → ℕ
level_of kind r = if is_tree kind then r.depth else 2

-- what stands between a row of this level and the next, or behind the last one
abbrev pub level_text : ℕ → Option ℕ → List ℕ
level_text level None = replicate (level - 1) 93
level_text level (Some next) = between_nodes level next

-- what stands behind a row of this level
abbrev pub rows_behind : (PlainRow → ℕ) → ℕ → List PlainRow → List ℕ → List ℕ
rows_behind of level [] rest = level_text level None ++ rest
rows_behind of level (r ∷ rows) rest = level_text level (Some (of r)) ++ (row_text r ++ rows_behind of (of r) rows rest)

abbrev pub front_text : (PlainRow → ℕ) → List PlainRow → List ℕ → List ℕ
front_text of [] rest = 91 ∷ 93 ∷ rest
front_text of (r ∷ rows) rest = 91 ∷ (row_text r ++ rows_behind of (of r) rows rest)

-- brackets in front

brackets_by : (b : ℕ) (t : List ℕ) (yes : Bool) → is_bracket b ≡ yes → take (prefix_len is_bracket t) t ≡ replicate (prefix_len is_bracket t) 93
    → take (cond yes (1 + prefix_len is_bracket t) 0) (b ∷ t) ≡ replicate (cond yes (1 + prefix_len is_bracket t) 0) 93
brackets_by b t true e h =
    let n = prefix_len is_bracket t in
    ap (λ k. take k (b ∷ t)) (one-add n) ∙ ap₂ (λ c r. c ∷ r) (eqb-true b 93 e) h ∙ sym (ap (λ k. replicate k 93) (one-add n))
brackets_by b t false e h = refl

brackets_front : (t : List ℕ) → take (prefix_len is_bracket t) t ≡ replicate (prefix_len is_bracket t) 93
brackets_front [] = refl
brackets_front (b ∷ t) = brackets_by b t (is_bracket b) refl (brackets_front t)

brackets_cut : (t : List ℕ) → t ≡ replicate (prefix_len is_bracket t) 93 ++ drop (prefix_len is_bracket t) t
brackets_cut t = sym (take-append-drop (prefix_len is_bracket t) t) ∙ ap (λ f. f ++ drop (prefix_len is_bracket t) t) (brackets_front t)

brackets_count : (k : ℕ) (t : List ℕ) → prefix_len is_bracket t ≡ 0 → prefix_len is_bracket (replicate k 93 ++ t) ≡ k
brackets_count zero t none = none
brackets_count (suc k) t none = one-add (prefix_len is_bracket (replicate k 93 ++ t)) ∙ ap suc (brackets_count k t none)

brackets_gone : (k : ℕ) (t : List ℕ) → drop k (replicate k 93 ++ t) ≡ t
brackets_gone zero t = refl
brackets_gone (suc k) t = brackets_gone k t

-- what stands behind a row is read

-- the next level is one of rows, and no other where rows can't be nested
abbrev NextFits : (nests : Bool) → ℕ → Option ℕ → Type 0
NextFits nests level None = Unit {0}
NextFits nests level (Some next) = (2 ≤ next) × (nests ≡ false → next ≤ level)

abbrev IsBehind : (nests : Bool) → ℕ → List ℕ → Option ℕ → List ℕ → Type 0
IsBehind nests level t o rest = (t ≡ level_text level o ++ rest) × NextFits nests level o

opens : (level : ℕ) → codes " [" ≡ between_nodes level (level + 1)
opens level = sym (cond-true (nat_lt level (level + 1)) (codes " [") (replicate (level - (level + 1)) 93 ++ codes ", ") (lt-ltb level (level + 1) (omega arith)))

falls : (level closed : ℕ) → closed + 1 < level → replicate closed 93 ++ codes ", " ≡ between_nodes level (level - closed)
falls level closed less =
    let same : closed ≡ level - (level - closed) = omega (arith, less) in
    ap (λ n. replicate n 93 ++ codes ", ") same
    ∙ sym (cond-false (nat_lt level (level - closed)) (codes " [") (replicate (level - (level - closed)) 93 ++ codes ", ") (le-ltb level (level - closed) (omega arith)))

deeper_found : (nests : Bool) (level closed : ℕ) (r : List ℕ) (o : Option ℕ) (rest : List ℕ) → 2 ≤ level → deeper nests level closed r ≡ got o rest
    → IsBehind nests level (replicate closed 93 ++ r) o rest
deeper_found nests level closed r o rest two e = by_test (nests && ((closed == 0) && nat_lt level (2 ^ 32))) refl e
  where
    by_test : (test : Bool) → (nests && ((closed == 0) && nat_lt level (2 ^ 32))) ≡ test
        → (if test then onward (after (codes " [") r) (λ _. gives (Some (level + 1))) else stuck) ≡ got o rest → IsBehind nests level (replicate closed 93 ++ r) o rest
    by_test false is e = absurd (cc e)
    by_test true is e =
        let parts = and_parts nests ((closed == 0) && nat_lt level (2 ^ 32)) is in
        let none : closed ≡ 0 = eqb-true closed 0 (and_parts (closed == 0) (nat_lt level (2 ^ 32)) parts.1).0 in
        step_found (IsBehind nests level (replicate closed 93 ++ r) o rest) (after (codes " [") r) (λ _. gives (Some (level + 1))) o rest e
        (λ u left is_2 more.
        let own : Some (level + 1) ≡ o = cc more in
        let same : left ≡ rest = cc more in (
          ap (λ n. replicate n 93 ++ r) none ∙ after_found (codes " [") r u left is_2 ∙ ap₂ (λ f r. f ++ r) (opens level ∙ ap (level_text level) own) same,
          subst (NextFits nests level) own (omega arith, λ no. absurd (cc (no, parts.0))),
        ))

brackets_found : (nests : Bool) (level closed : ℕ) (r : List ℕ) (o : Option ℕ) (rest : List ℕ) → 2 ≤ level → behind_brackets nests level closed r ≡ got o rest
    → IsBehind nests level (replicate closed 93 ++ r) o rest
brackets_found nests level closed r o rest two e = by_tests (closed + 1 == level) (nat_lt (closed + 1) level) refl refl e
  where
    by_tests : (at less : Bool) → (closed + 1 == level) ≡ at → nat_lt (closed + 1) level ≡ less
        → (if at then got None r else if less then either (after (codes ", ") r) (λ _. gives (Some (level - closed))) (deeper nests level closed) r else stuck) ≡ got o rest
        → IsBehind nests level (replicate closed 93 ++ r) o rest
    by_tests true less is below e =
        let own : None ≡ o = cc e in
        let left : r ≡ rest = cc e in
        let same : closed ≡ level - 1 = omega (arith, eqb-true (closed + 1) level is) in
        subst (λ o. IsBehind nests level (replicate closed 93 ++ r) o rest) own (ap₂ (λ n r. replicate n 93 ++ r) same left, tt)
    by_tests false false is below e = absurd (cc e)
    by_tests false true is below e =
        let less : closed + 1 < level = ltb-true (closed + 1) level below in
        fork_found (IsBehind nests level (replicate closed 93 ++ r) o rest) (after (codes ", ") r) (λ _. gives (Some (level - closed))) (deeper nests level closed) r o rest e
        (λ u left is_2 more.
        let own : Some (level - closed) ≡ o = cc more in
        let same : left ≡ rest = cc more in (
          ap (λ r. replicate closed 93 ++ r) (after_found (codes ", ") r u left is_2) ∙ sym (append_assoc (replicate closed 93) (codes ", ") left)
              ∙ ap₂ (λ f r. f ++ r) (falls level closed less ∙ ap (level_text level) own) same,
          subst (NextFits nests level) own (omega (arith, less), λ no. omega arith),
        ))
        (λ more. deeper_found nests level closed r o rest two more)

behind_found : (nests : Bool) (level : ℕ) (t : List ℕ) (o : Option ℕ) (rest : List ℕ) → 2 ≤ level → behind_row nests level t ≡ got o rest → IsBehind nests level t o rest
behind_found nests level t o rest two e =
    let n = prefix_len is_bracket t in
    let found = brackets_found nests level n (drop n t) o rest two e in
    (brackets_cut t ∙ found.0, found.1)

-- a row is read

abbrev IsRowFound : (depth : ℕ) → List ℕ → List ℕ → PlainRow → Type 0
IsRowFound depth t rest r = (r.depth ≡ depth) × (t ≡ row_text r ++ rest)

entry_found : (def : TypeDef) (depth : ℕ) (t : List ℕ) (r : PlainRow) (rest : List ℕ) → entry_row def depth t ≡ got r rest → IsRowFound depth t rest r
entry_found def depth t r rest e =
    step_found (IsRowFound depth t rest r) (literal def.first t)
    (λ key t. onward (after (codes " => ") t) (λ _ t. onward (literal (element_of def) t) (λ v. gives (plain_row depth (Some key) v)))) r rest e
    (λ key t_1 is_1 more_1.
    step_found (IsRowFound depth t rest r) (after (codes " => ") t_1) (λ _ t. onward (literal (element_of def) t) (λ v. gives (plain_row depth (Some key) v))) r rest more_1
    (λ u t_2 is_2 more_2.
    step_found (IsRowFound depth t rest r) (literal (element_of def) t_2) (λ v. gives (plain_row depth (Some key) v)) r rest more_2
    (λ v t_3 is_3 more_3.
    let own : plain_row depth (Some key) v ≡ r = cc more_3 in
    let left : t_3 ≡ rest = cc more_3 in
    subst (IsRowFound depth t rest) own (
      refl,
      (literals_read def.first).found t key t_1 is_1
          ∙ ap (λ t. literal_text key ++ t) (after_found (codes " => ") t_1 u t_2 is_2 ∙ ap (λ t. codes " => " ++ t) ((literals_read (element_of def)).found t_2 v t_3 is_3))
          ∙ sym (append_assoc (literal_text key) (codes " => " ++ literal_text v) t_3)
          ∙ ap (λ t. (literal_text key ++ (codes " => " ++ literal_text v)) ++ t) left,
    ))))

element_found : (def : TypeDef) (depth : ℕ) (t : List ℕ) (r : PlainRow) (rest : List ℕ) → element_row def depth t ≡ got r rest → IsRowFound depth t rest r
element_found def depth t r rest e =
    step_found (IsRowFound depth t rest r) (literal (element_of def) t) (λ v. gives (plain_row depth None v)) r rest e
    (λ v t_1 is more.
    let own : plain_row depth None v ≡ r = cc more in
    let left : t_1 ≡ rest = cc more in
    subst (IsRowFound depth t rest) own (refl, (literals_read (element_of def)).found t v t_1 is ∙ ap (λ t. literal_text v ++ t) left))

row_found : (def : TypeDef) (depth : ℕ) (t : List ℕ) (r : PlainRow) (rest : List ℕ) → row def depth t ≡ got r rest → IsRowFound depth t rest r
row_found def depth t r rest e = by_kind (is_map def.kind) e
  where
    by_kind : (map : Bool) → (if map then entry_row def depth t else element_row def depth t) ≡ got r rest → IsRowFound depth t rest r
    by_kind true e = entry_found def depth t r rest e
    by_kind false e = element_found def depth t r rest e

-- a key stands just in maps, and key and value are of the types that the definition names
abbrev pub RowFits : TypeDef → PlainRow → Type 0
RowFits def r =
    (r.depth ≡ depth_at def (level_of def.kind r)) × (is_given (is_map def.kind) (is_value_of def.first) r.key ≡ true)
    × (is_value_of (element_of def) r.value ≡ true)

row_only : (def : TypeDef) (depth : ℕ) (key : Option Value) (v : Value) (rest : List ℕ) → is_given (is_map def.kind) (is_value_of def.first) key ≡ true
    → is_value_of (element_of def) v ≡ true → ends rest ≡ true → row def depth (item_text key v ++ rest) ≡ got (plain_row depth key v) rest
row_only def depth key v rest given fits e = by_kind (is_map def.kind) refl key given
  where
    by_kind : (map : Bool) → is_map def.kind ≡ map → (key : Option Value) → is_given map (is_value_of def.first) key ≡ true
        → row def depth (item_text key v ++ rest) ≡ got (plain_row depth key v) rest
    by_kind true is None given = absurd (cc given)
    by_kind false is (Some key) given = absurd (cc given)
    by_kind false is None given =
        cond-false (is_map def.kind) (entry_row def depth (literal_text v ++ rest)) (element_row def depth (literal_text v ++ rest)) is
        ∙ ap (λ o. onward o (λ v. gives (plain_row depth None v))) ((literals_read (element_of def)).only v rest fits e)
    by_kind true is (Some key) given =
        let t = (literal_text key ++ (codes " => " ++ literal_text v)) ++ rest in
        cond-true (is_map def.kind) (entry_row def depth t) (element_row def depth t) is
        ∙ ap (entry_row def depth) (append_assoc (literal_text key) (codes " => " ++ literal_text v) rest)
        ∙ ap (λ o. onward o (λ key t. onward (after (codes " => ") t) (λ _ t. onward (literal (element_of def) t) (λ v. gives (plain_row depth (Some key) v)))))
        ((literals_read def.first).only key (codes " => " ++ (literal_text v ++ rest)) given refl)
        ∙ ap (λ o. onward o (λ _ t. onward (literal (element_of def) t) (λ v. gives (plain_row depth (Some key) v)))) (after_read (codes " => ") (literal_text v ++ rest))
        ∙ ap (λ o. onward o (λ v. gives (plain_row depth (Some key) v))) ((literals_read (element_of def)).only v rest fits e)

-- rows are read

abbrev RowsFound : (PlainRow → ℕ) → (level : ℕ) → List ℕ → List ℕ → List PlainRow → Type 0
RowsFound of level t rest [] = ⊥
RowsFound of level t rest (r ∷ rows) = (of r ≡ level) × (t ≡ row_text r ++ rows_behind of level rows rest)

more_text : (of : PlainRow → ℕ) (level next : ℕ) (t rest : List ℕ) (rows : List PlainRow) → RowsFound of next t rest rows → between_nodes level next ++ t ≡ rows_behind of level rows rest
more_text of level next t rest [] h = absurd h
more_text of level next t rest (r ∷ rows) h =
    ap (λ t. between_nodes level next ++ t) h.1 ∙ ap (λ n. between_nodes level n ++ (row_text r ++ rows_behind of n rows rest)) (sym h.0)

first_text : (of : PlainRow → ℕ) (level : ℕ) (t rest : List ℕ) (rows : List PlainRow) → RowsFound of level t rest rows → 91 ∷ t ≡ front_text of rows rest
first_text of level t rest [] h = absurd h
first_text of level t rest (r ∷ rows) h = ap (λ t. 91 ∷ t) h.1 ∙ ap (λ n. 91 ∷ (row_text r ++ rows_behind of n rows rest)) (sym h.0)

-- the level that is read is the row's
level_found : (def : TypeDef) (level : ℕ) (r : PlainRow) → (is_tree def.kind ≡ false → level ≡ 2) → r.depth ≡ depth_at def level → level_of def.kind r ≡ level
level_found def level r flat same = by_kind (is_tree def.kind) refl same
  where
    by_kind : (tree : Bool) → is_tree def.kind ≡ tree → r.depth ≡ (if tree then level else 0) → level_of def.kind r ≡ level
    by_kind true is same = cond-true (is_tree def.kind) r.depth 2 is ∙ same
    by_kind false is same = cond-false (is_tree def.kind) r.depth 2 is ∙ sym (flat is)

rows_found : (n : ℕ) (def : TypeDef) (level : ℕ) (t : List ℕ) (rows : List PlainRow) (rest : List ℕ) → 2 ≤ level → (is_tree def.kind ≡ false → level ≡ 2)
    → rows_by n def level t ≡ got rows rest → RowsFound (level_of def.kind) level t rest rows
unfolding rows_by
rows_found zero def level t rows rest two flat e = absurd (cc e)
rows_found (suc n) def level t rows rest two flat e =
    let of = level_of def.kind in
    let nests = is_tree def.kind in
    step_found (RowsFound of level t rest rows) (row def (depth_at def level) t) (λ r t. onward (behind_row nests level t) (before_rows (rows_by n def) r)) rows rest e
    (λ r t_1 is_1 more_1.
    step_found (RowsFound of level t rest rows) (behind_row nests level t_1) (before_rows (rows_by n def) r) rows rest more_1
    (λ o t_2 is_2 more_2.
    let one = row_found def (depth_at def level) t r t_1 is_1 in
    let two_2 = behind_found nests level t_1 o t_2 two is_2 in
    by_next (rows_found n def) r t_1 one o t_2 two_2.0 two_2.1 more_2))
  where
    by_next : ((level : ℕ) (t : List ℕ) (rows : List PlainRow) (rest : List ℕ) → 2 ≤ level → (is_tree def.kind ≡ false → level ≡ 2)
        → rows_by n def level t ≡ got rows rest → RowsFound (level_of def.kind) level t rest rows)
        → (r : PlainRow) (t_1 : List ℕ) → IsRowFound (depth_at def level) t t_1 r → (o : Option ℕ) (t_2 : List ℕ) → t_1 ≡ level_text level o ++ t_2 → NextFits (is_tree def.kind) level o
        → before_rows (rows_by n def) r o t_2 ≡ got rows rest → RowsFound (level_of def.kind) level t rest rows
    by_next again r t_1 one None t_2 text fits more =
        let own : r ∷ [] ≡ rows = cc more in
        let left : t_2 ≡ rest = cc more in
        subst (RowsFound (level_of def.kind) level t rest) own
        (level_found def level r flat one.0, one.1 ∙ ap (λ t. row_text r ++ t) (text ∙ ap (λ t. level_text level None ++ t) left))
    by_next again r t_1 one (Some next) t_2 text fits more =
        step_found (RowsFound (level_of def.kind) level t rest rows) (rows_by n def next t_2) (λ rows. gives (r ∷ rows)) rows rest more
        (λ others t_3 is_3 more_3.
        let own : r ∷ others ≡ rows = cc more_3 in
        let left : t_3 ≡ rest = cc more_3 in
        let later = again next t_2 others t_3 fits.0 (λ no. let most = fits.1 no in let same = flat no in omega (arith, fits.0, most, same)) is_3 in
        subst (RowsFound (level_of def.kind) level t rest) own (
          level_found def level r flat one.0,
          one.1 ∙ ap (λ t. row_text r ++ t) (text ∙ more_text (level_of def.kind) level next t_2 t_3 others later ∙ ap (rows_behind (level_of def.kind) level others) left),
        ))

pub listed_found : (def : TypeDef) (t : List ℕ) (rows : List PlainRow) (rest : List ℕ) → listed def t ≡ got rows rest → t ≡ front_text (level_of def.kind) rows rest
listed_found def t rows rest e =
    let of = level_of def.kind in
    step_found (t ≡ front_text of rows rest) (after (codes "[") t) (λ _ t. either (after (codes "]") t) (λ _. gives []) (rows_by GREATEST_LENGTH def 2) t) rows rest e
    (λ u t_1 is_1 more_1.
    fork_found (t ≡ front_text of rows rest) (after (codes "]") t_1) (λ _. gives []) (rows_by GREATEST_LENGTH def 2) t_1 rows rest more_1
    (λ u_2 t_2 is_2 more_2.
    let own : [] ≡ rows = cc more_2 in
    let left : t_2 ≡ rest = cc more_2 in
    after_found (codes "[") t u t_1 is_1 ∙ ap (λ t. 91 ∷ t) (after_found (codes "]") t_1 u_2 t_2 is_2 ∙ ap (λ t. 93 ∷ t) left) ∙ ap (λ rows. front_text of rows rest) own)
    (λ more_2.
    after_found (codes "[") t u t_1 is_1
    ∙ first_text of 2 t_1 rest rows (rows_found GREATEST_LENGTH def 2 t_1 rows rest (omega arith) (λ _. refl) more_2)))

-- what stands behind a row is read as that

brackets_behind : (nests : Bool) (level k : ℕ) (t : List ℕ) → prefix_len is_bracket t ≡ 0 → behind_row nests level (replicate k 93 ++ t) ≡ behind_brackets nests level k t
brackets_behind nests level k t none =
    let all = replicate k 93 ++ t in
    ap (λ n. behind_brackets nests level n (drop n all)) (brackets_count k t none) ∙ ap (behind_brackets nests level k) (brackets_gone k t)

-- the next level is at most one deeper, and that only where rows can be nested
abbrev pub StepFits : (nests : Bool) → ℕ → Option ℕ → Type 0
StepFits nests level None = Unit {0}
StepFits nests level (Some next) = (2 ≤ next) × (next ≤ level + 1) × (nat_lt level next ≡ true → nests ≡ true)

end_read : (nests : Bool) (level : ℕ) (rest : List ℕ) → 2 ≤ level → prefix_len is_bracket rest ≡ 0 → behind_row nests level (level_text level None ++ rest) ≡ got None rest
end_read nests level rest two none =
    brackets_behind nests level (level - 1) rest none
    ∙ cond-true (level - 1 + 1 == level) (got None rest)
    (if nat_lt (level - 1 + 1) level then either (after (codes ", ") rest) (λ _. gives (Some (level - (level - 1)))) (deeper nests level (level - 1)) rest else stuck)
    (eq-eqb (level - 1 + 1) level (omega (arith, two)))

deeper_read : (level next : ℕ) (rest : List ℕ) → 2 ≤ level → level < 2 ^ 32 → next ≡ level + 1 → behind_row true level (codes " [" ++ rest) ≡ got (Some next) rest
deeper_read level next rest two small is =
    let t = codes " [" ++ rest in
    brackets_behind true level 0 t refl
    ∙ cond-false (0 + 1 == level) (got None t)
    (if nat_lt (0 + 1) level then either (after (codes ", ") t) (λ _. gives (Some (level - 0))) (deeper true level 0) t else stuck)
    (ne_eqb (0 + 1) level (λ e. omega (arith, e, two)))
    ∙ cond-true (nat_lt (0 + 1) level) (deeper true level 0 t) stuck (lt-ltb (0 + 1) level (omega (arith, two)))
    ∙ cond-true (nat_lt level (2 ^ 32)) (onward (after (codes " [") t) (λ _. gives (Some (level + 1)))) stuck (lt-ltb level (2 ^ 32) small)
    ∙ ap (λ o. onward o (λ _. gives (Some (level + 1)))) (after_read (codes " [") rest)
    ∙ ap (λ n. got (Some n) rest) (sym is)

falling_read : (nests : Bool) (level next : ℕ) (rest : List ℕ) → 2 ≤ next → next ≤ level → behind_row nests level ((replicate (level - next) 93 ++ codes ", ") ++ rest) ≡ got (Some next) rest
falling_read nests level next rest two most =
    let k = level - next in
    let t = codes ", " ++ rest in
    let same : level - k ≡ next = omega (arith, most) in
    ap (behind_row nests level) (append_assoc (replicate k 93) (codes ", ") rest)
    ∙ brackets_behind nests level k t refl
    ∙ cond-false (k + 1 == level) (got None t)
    (if nat_lt (k + 1) level then either (after (codes ", ") t) (λ _. gives (Some (level - k))) (deeper nests level k) t else stuck)
    (ne_eqb (k + 1) level (λ e. omega (arith, e, two, most)))
    ∙ cond-true (nat_lt (k + 1) level) (either (after (codes ", ") t) (λ _. gives (Some (level - k))) (deeper nests level k) t) stuck (lt-ltb (k + 1) level (omega (arith, two, most)))
    ∙ ap (λ o. either o (λ _. gives (Some (level - k))) (deeper nests level k) t) (after_read (codes ", ") rest)
    ∙ ap (λ n. got (Some n) rest) same

next_read : (nests : Bool) (level next : ℕ) (rest : List ℕ) → 2 ≤ level → level < 2 ^ 32 → StepFits nests level (Some next)
    → behind_row nests level (level_text level (Some next) ++ rest) ≡ got (Some next) rest
next_read nests level next rest two small fits = by_test (nat_lt level next) refl
  where
    by_test : (less : Bool) → nat_lt level next ≡ less → behind_row nests level (level_text level (Some next) ++ rest) ≡ got (Some next) rest
    by_test true is =
        let deep : next ≡ level + 1 = omega (arith, fits.1, ltb-true level next is) in
        ap (λ t. behind_row nests level (t ++ rest)) (cond-true (nat_lt level next) (codes " [") (replicate (level - next) 93 ++ codes ", ") is)
        ∙ ap (λ nests. behind_row nests level (codes " [" ++ rest)) (fits.2 is) ∙ deeper_read level next rest two small deep
    by_test false is =
        ap (λ t. behind_row nests level (t ++ rest)) (cond-false (nat_lt level next) (codes " [") (replicate (level - next) 93 ++ codes ", ") is)
        ∙ falling_read nests level next rest fits.0 (ltb-false level next is)

-- no value goes on there

brackets_end : (k : ℕ) (rest : List ℕ) → 1 ≤ k → ends (replicate k 93 ++ rest) ≡ true
brackets_end zero rest some = absurd (omega (arith, some))
brackets_end (suc k) rest some = refl

comma_ends : (k : ℕ) (rest : List ℕ) → ends ((replicate k 93 ++ codes ", ") ++ rest) ≡ true
comma_ends zero rest = refl
comma_ends (suc k) rest = refl

level_ends : (level : ℕ) (o : Option ℕ) (rest : List ℕ) → 2 ≤ level → ends (level_text level o ++ rest) ≡ true
level_ends level None rest two = brackets_end (level - 1) rest (omega (arith, two))
level_ends level (Some next) rest two = by_test (nat_lt level next) refl
  where
    by_test : (less : Bool) → nat_lt level next ≡ less → ends (level_text level (Some next) ++ rest) ≡ true
    by_test true is = ap (λ t. ends (t ++ rest)) (cond-true (nat_lt level next) (codes " [") (replicate (level - next) 93 ++ codes ", ") is)
    by_test false is =
        ap (λ t. ends (t ++ rest)) (cond-false (nat_lt level next) (codes " [") (replicate (level - next) 93 ++ codes ", ") is) ∙ comma_ends (level - next) rest

-- rows are read as that

-- each row fits, and none is more than one level deeper than the one before
abbrev pub RowsFit : TypeDef → ℕ → List PlainRow → Type 0
RowsFit def level [] = Unit {0}
RowsFit def level (r ∷ rows) = StepFits (is_tree def.kind) level (Some (level_of def.kind r)) × RowFits def r × RowsFit def (level_of def.kind r) rows

row_again : (def : TypeDef) (level : ℕ) (r : PlainRow) (rest : List ℕ) → level_of def.kind r ≡ level → RowFits def r → ends rest ≡ true
    → row def (depth_at def level) (row_text r ++ rest) ≡ got r rest
row_again def level r rest same fits e =
    let depth : depth_at def level ≡ r.depth = ap (depth_at def) (sym same) ∙ sym fits.0 in
    row_only def (depth_at def level) r.key r.value rest fits.1 fits.2 e ∙ ap (λ d. got (plain_row d r.key r.value) rest) depth

rows_only : (n : ℕ) (def : TypeDef) (level : ℕ) (r : PlainRow) (rows : List PlainRow) (rest : List ℕ) → level_of def.kind r ≡ level → 2 ≤ level → level + length rows < 2 ^ 32
    → RowFits def r → RowsFit def level rows → length rows < n → prefix_len is_bracket rest ≡ 0
    → rows_by n def level (row_text r ++ rows_behind (level_of def.kind) level rows rest) ≡ got (r ∷ rows) rest
unfolding rows_by
rows_only zero def level r rows rest same two small fits all few none = absurd (omega (arith, few))
rows_only (suc n) def level r [] rest same two small fits all few none =
    let nests = is_tree def.kind in
    ap (λ o. onward o (λ r t. onward (behind_row nests level t) (before_rows (rows_by n def) r)))
    (row_again def level r (level_text level None ++ rest) same fits (level_ends level None rest two))
    ∙ ap (λ o. onward o (before_rows (rows_by n def) r)) (end_read nests level rest two none)
rows_only (suc n) def level r (s ∷ rows) rest same two small fits all few none =
    let nests = is_tree def.kind in
    let next = level_of def.kind s in
    let more = row_text s ++ rows_behind (level_of def.kind) next rows rest in
    ap (λ o. onward o (λ r t. onward (behind_row nests level t) (before_rows (rows_by n def) r)))
    (row_again def level r (level_text level (Some next) ++ more) same fits (level_ends level (Some next) more two))
    ∙ ap (λ o. onward o (before_rows (rows_by n def) r)) (next_read nests level next more two (omega (arith, small)) all.0)
    ∙ ap (λ o. onward o (λ rows. gives (r ∷ rows)))
    (rows_only n def next s rows rest refl all.0.0 (omega (arith, small, all.0.1)) all.1 all.2 (omega (arith, few)) none)

-- a row doesn't begin with a bracket

no_bracket : (b : ℕ) → is_ascii_digit b ≡ true → (b == 93) ≡ false
no_bracket b h = grind (arith, nat_tests)

no_close : (b : ℕ) (t : List ℕ) → (b == 93) ≡ false → after (codes "]") (b ∷ t) ≡ stuck
no_close b t h = ap (λ q. if q && true then passed t else stuck) h

digits_open : (ds t : List ℕ) → 0 < length ds → list_all is_ascii_digit ds ≡ true → after (codes "]") (ds ++ t) ≡ stuck
digits_open [] t some h = absurd (omega (arith, some))
digits_open (b ∷ ds) t some h = no_close b (ds ++ t) (no_bracket b (and_parts (is_ascii_digit b) (list_all is_ascii_digit ds) h).0)

value_open : (e : ElemKind) (v : Value) (t : List ℕ) → is_value_of e v ≡ true → after (codes "]") (literal_text v ++ t) ≡ stuck
value_open Integer (value.Int (pos n)) t fits =
    let small : n < 2 ^ 64 = omega (arith, leb-true n (2 ^ 63 - 1) fits) in
    let numeral = decimal_is_IsNumeral n small in
    digits_open (decimal n) t numeral.0.0 (digit_bytes (decimal n) numeral.0.1)
value_open Integer (value.Int (negsuc n)) t fits = no_close 45 (decimal (suc n) ++ t) refl
value_open Integer (value.Text bytes) t fits = absurd (cc fits)
value_open Str (value.Int z) t fits = absurd (cc fits)
value_open Str (value.Text bytes) t fits = refl

row_open : (def : TypeDef) (key : Option Value) (v : Value) (t : List ℕ) → is_given (is_map def.kind) (is_value_of def.first) key ≡ true
    → is_value_of (element_of def) v ≡ true → after (codes "]") (item_text key v ++ t) ≡ stuck
row_open def None v t given fits = value_open (element_of def) v t fits
row_open def (Some key) v t given fits =
    ap (after (codes "]")) (append_assoc (literal_text key) (codes " => " ++ literal_text v) t)
    ∙ value_open def.first key ((codes " => " ++ literal_text v) ++ t) (and_parts (is_map def.kind) (is_value_of def.first key) given).1

-- the first row is at the level of a tree's topmost nodes
abbrev pub FirstFit : TypeDef → List PlainRow → Type 0
FirstFit def [] = Unit {0}
FirstFit def (r ∷ rows) = (level_of def.kind r ≡ 2) × RowFits def r × RowsFit def (level_of def.kind r) rows

pub listed_only : (def : TypeDef) (rows : List PlainRow) (rest : List ℕ) → FirstFit def rows → length rows ≤ GREATEST_LENGTH → prefix_len is_bracket rest ≡ 0
    → listed def (front_text (level_of def.kind) rows rest) ≡ got rows rest
listed_only def [] rest fits few none =
    ap (λ o. onward o (λ _ t. either (after (codes "]") t) (λ _. gives []) (rows_by GREATEST_LENGTH def 2) t)) (after_read (codes "[") (93 ∷ rest))
    ∙ ap (λ o. either o (λ _. gives []) (rows_by GREATEST_LENGTH def 2) (93 ∷ rest)) (after_read (codes "]") rest)
listed_only def (r ∷ rows) rest fits few none =
    let level = level_of def.kind r in
    let two : level ≡ 2 = fits.0 in
    let t = row_text r ++ rows_behind (level_of def.kind) level rows rest in
    ap (λ o. onward o (λ _ t. either (after (codes "]") t) (λ _. gives []) (rows_by GREATEST_LENGTH def 2) t)) (after_read (codes "[") t)
    ∙ ap (λ o. either o (λ _. gives []) (rows_by GREATEST_LENGTH def 2) t) (row_open def r.key r.value (rows_behind (level_of def.kind) level rows rest) fits.1.1 fits.1.2)
    ∙ ap (λ n. rows_by GREATEST_LENGTH def n t) (sym two)
    ∙ rows_only GREATEST_LENGTH def level r rows rest refl (omega (arith, two)) (omega (arith, two, few)) fits.1 fits.2 (omega (arith, few)) none

-- the text of rows from the front

commas_front : (rows : List PlainRow) (rest : List ℕ) → rows_behind (λ r. 2) 2 rows rest ≡ after_commas row_text rows ++ (93 ∷ rest)
commas_front [] rest = refl
commas_front (r ∷ rows) rest =
    ap (λ t. 44 ∷ 32 ∷ (row_text r ++ t)) (commas_front rows rest) ∙ ap (λ t. 44 ∷ 32 ∷ t) (sym (append_assoc (row_text r) (after_commas row_text rows) (93 ∷ rest)))

list_front : (rows : List PlainRow) (rest : List ℕ) → front_text (λ r. 2) rows rest ≡ bracketed row_text rows ++ rest
list_front [] rest = refl
list_front (r ∷ rows) rest =
    let more = after_commas row_text rows in
    ap (λ t. 91 ∷ (row_text r ++ t)) (commas_front rows rest) ∙ ap (λ t. 91 ∷ t) (sym (append_assoc (row_text r) more (93 ∷ rest)))
    ∙ ap (λ t. 91 ∷ t) (sym (append_assoc (row_text r ++ more) (93 ∷ []) rest))

-- rows of a tree have no keys, and stand below the root
abbrev pub TreeRows : List PlainRow → Type 0
TreeRows [] = Unit {0}
TreeRows (r ∷ rows) = (r.key ≡ None) × (2 ≤ r.depth) × TreeRows rows

nodes_front : (depth : ℕ) (rows : List PlainRow) (rest : List ℕ) → 2 ≤ depth → TreeRows rows
    → rows_behind (λ r. r.depth) depth rows rest ≡ nodes_after literal_text depth (map node_of rows) ++ (93 ∷ rest)
nodes_front depth [] rest two all =
    let same : depth - 1 ≡ depth - 2 + 1 = omega (arith, two) in
    ap (λ n. replicate n 93 ++ rest) same ∙ ap (λ t. t ++ rest) (sym (replicate-append-replicate (depth - 2) 1 93)) ∙ append_assoc (replicate (depth - 2) 93) (93 ∷ []) rest
nodes_front depth (r ∷ rows) rest two all =
    let front = between_nodes depth r.depth in
    let more = nodes_after literal_text r.depth (map node_of rows) in
    ap₂ (λ k t. front ++ (item_text k r.value ++ t)) all.0 (nodes_front r.depth rows rest all.1 all.2)
    ∙ ap (λ t. front ++ t) (sym (append_assoc (literal_text r.value) more (93 ∷ rest)))
    ∙ sym (append_assoc front (literal_text r.value ++ more) (93 ∷ rest))

tree_front : (rows : List PlainRow) (rest : List ℕ) → TreeRows rows → front_text (λ r. r.depth) rows rest ≡ tree_listing literal_text (map node_of rows) ++ rest
tree_front [] rest all = refl
tree_front (r ∷ rows) rest all =
    let more = nodes_after literal_text r.depth (map node_of rows) in
    ap₂ (λ k t. 91 ∷ (item_text k r.value ++ t)) all.0 (nodes_front r.depth rows rest all.1 all.2)
    ∙ ap (λ t. 91 ∷ t) (sym (append_assoc (literal_text r.value) more (93 ∷ rest)))
    ∙ ap (λ t. 91 ∷ t) (sym (append_assoc (literal_text r.value ++ more) (93 ∷ []) rest))

pub rows_front : (kind : Kind) (rows : List PlainRow) (rest : List ℕ) → (is_tree kind ≡ true → TreeRows rows) → front_text (level_of kind) rows rest ≡ rows_text kind rows ++ rest
rows_front kinds.Tree rows rest tree = tree_front rows rest (tree refl)
rows_front kinds.Vector rows rest tree = list_front rows rest
rows_front kinds.List rows rest tree = list_front rows rest
rows_front kinds.HashedMap rows rest tree = list_front rows rest
rows_front kinds.OrderedMap rows rest tree = list_front rows rest
rows_front kinds.HashedSet rows rest tree = list_front rows rest
rows_front kinds.OrderedSet rows rest tree = list_front rows rest
rows_front kinds.Holder rows rest tree = list_front rows rest
rows_front kinds.Queue rows rest tree = list_front rows rest
rows_front kinds.PriorityQueue rows rest tree = list_front rows rest
