-- The readers of declarations are exact.
use Rattle.std.proofs.Common.{◌≡◌, ℕ, Bool, true, false, List, [], ◌∷◌, ◌++◌, refl, ap, ◌∙◌, ◌⊎◌, inl, inr, Option, Some, None, codes, if◌then◌else◌}
use Rattle.std.proofs.lemmas.Option.{none-some}
use Rattle.ac_syntax.specs.declared.decl.Decl.{Decl}
use Rattle.ac_syntax.specs.declared.decl.Decl.TheVariants.{TypeDecl, Object, CursorVar, IntVar, TextVar}
use Rattle.ac_syntax.specs.declared.kind.Kind.{Kind}
use Rattle.ac_syntax.specs.declared.kind.Kind.TheVariants as kinds
use Rattle.ac_syntax.specs.declared.kind.ElemKind.{ElemKind}
use Rattle.ac_syntax.specs.declared.kind.ElemKind.TheVariants.{Integer, Str}
use Rattle.ac_syntax.specs.declared.type_def.TypeDef.{TypeDef}
use Rattle.ac_syntax.specs.declared.token.Token.TheVariants.{Word}
use Rattle.ac_syntax.specs.declared.token.Placed.{Placed}
use Rattle.ac_syntax.specs.declared.token.Mark.TheVariants.{Semicolon, Comma, Open, Close, Dot}
use Rattle.ac_syntax.specs.Parts.{Part, says, marks, names, kind_word, elem_word, second_parts, type_parts, capacity_parts}
use Rattle.ac_syntax.specs.Grammar.{reserved, is_reserved}
use Rattle.ac_script.specs.Readers.{as_word, as_mark}
use Rattle.ac_script.specs.Declarations.{elem_of, elem, other_kind, kind_of, kind, bounded_kind, second_elem, keyed_end, type_def, type_declaration, capacity_end, integer_end, text_end, cursor_end, object_end, typed_end, typed, text_or_typed, declared}
use Rattle.ac_script.proofs.Cases.{either_by, pair_by, bool_by, option_by}
use Rattle.ac_script.proofs.Exact.{Exact, seq, mapped, recast}
use Rattle.ac_script.proofs.Spelled.{Spelled}
use Rattle.ac_script.proofs.Forks.{Starts, single, forked, either_value}
use Rattle.ac_script.proofs.Looked.{word_looks, mark_looks, name_looks, number_looks, pick_looks, pick_step, word_apart, mark_apart, name_apart, free_word}

elem_picked : (w : List ℕ) (a : ElemKind) → elem_of w ≡ Some a → w ≡ elem_word a
elem_picked w a e =
    let P = w ≡ elem_word a in
    pick_step P w (codes "integer") Integer a _ e (λ same is. same ∙ ap elem_word is) (λ e.
    pick_step P w (codes "string") Str a _ e (λ same is. same ∙ ap elem_word is) (λ e. absurd (none-some a e)))

elem_again : (a : ElemKind) → elem_of (elem_word a) ≡ Some a
elem_again Integer = refl
elem_again Str = refl

elem_exact : Exact (λ (e : ElemKind). e) (λ e. says (elem_word e) ∷ []) elem
elem_exact = single (pick_looks elem_picked elem_again Integer)

other_picked : (w : List ℕ) (a : Kind) → other_kind w ≡ Some a → w ≡ kind_word a
unfolding other_kind
other_picked w a e =
    let P = w ≡ kind_word a in
    pick_step P w (codes "ordered_set") kinds.OrderedSet a _ e (λ same is. same ∙ ap kind_word is) (λ e.
    pick_step P w (codes "tree") kinds.Tree a _ e (λ same is. same ∙ ap kind_word is) (λ e.
    pick_step P w (codes "holder") kinds.Holder a _ e (λ same is. same ∙ ap kind_word is) (λ e.
    pick_step P w (codes "queue") kinds.Queue a _ e (λ same is. same ∙ ap kind_word is) (λ e.
    pick_step P w (codes "priority_queue") kinds.PriorityQueue a _ e (λ same is. same ∙ ap kind_word is) (λ e. absurd (none-some a e))))))

kind_picked : (w : List ℕ) (a : Kind) → kind_of w ≡ Some a → w ≡ kind_word a
unfolding kind_of
kind_picked w a e =
    let P = w ≡ kind_word a in
    pick_step P w (codes "vector") kinds.Vector a _ e (λ same is. same ∙ ap kind_word is) (λ e.
    pick_step P w (codes "list") kinds.List a _ e (λ same is. same ∙ ap kind_word is) (λ e.
    pick_step P w (codes "hashed_map") kinds.HashedMap a _ e (λ same is. same ∙ ap kind_word is) (λ e.
    pick_step P w (codes "ordered_map") kinds.OrderedMap a _ e (λ same is. same ∙ ap kind_word is) (λ e.
    pick_step P w (codes "hashed_set") kinds.HashedSet a _ e (λ same is. same ∙ ap kind_word is) (λ e. other_picked w a e)))))

kind_again : (a : Kind) → kind_of (kind_word a) ≡ Some a
unfolding kind_of other_kind
kind_again kinds.Vector = refl
kind_again kinds.List = refl
kind_again kinds.HashedMap = refl
kind_again kinds.OrderedMap = refl
kind_again kinds.HashedSet = refl
kind_again kinds.OrderedSet = refl
kind_again kinds.Tree = refl
kind_again kinds.Holder = refl
kind_again kinds.Queue = refl
kind_again kinds.PriorityQueue = refl

kind_exact : Exact (λ (k : Kind). k) (λ k. says (kind_word k) ∷ []) kind
kind_exact = single (pick_looks kind_picked kind_again kinds.List)

not_bounded : (k : Kind) → as_word (codes "bounded") (Word (kind_word k)) ≡ None
not_bounded kinds.Vector = refl
not_bounded kinds.List = refl
not_bounded kinds.HashedMap = refl
not_bounded kinds.OrderedMap = refl
not_bounded kinds.HashedSet = refl
not_bounded kinds.OrderedSet = refl
not_bounded kinds.Tree = refl
not_bounded kinds.Holder = refl
not_bounded kinds.Queue = refl
not_bounded kinds.PriorityQueue = refl

bounded_kind_exact : Exact (λ (b : Bool × Kind). b) (λ b. (if b.0 then says (codes "bounded") ∷ [] else []) ++ says (kind_word b.1) ∷ []) bounded_kind
unfolding bounded_kind
bounded_kind_exact =
    recast (forked (word_looks (codes "bounded")) (λ _. mapped kind_exact (λ k. (true, k))) (mapped kind_exact (λ k. (false, k))) (λ k. word_apart (as_word (codes "bounded")) (kind_word k) [] (not_bounded k)))
    (either_by _ (λ i. ((true, i.1), refl, refl)) (λ k. ((false, k), refl, refl)))
    (pair_by _ (bool_by _ (λ k. (inl (tt, k), refl, refl)) (λ k. (inr k, refl, refl))))

second_elem_exact : Exact (λ (s : Option ElemKind). s) (λ s. second_parts s ++ marks Close ∷ []) second_elem
unfolding second_elem
second_elem_exact =
    recast (forked (mark_looks Comma) (λ _. seq elem_exact (λ e. mapped (single (mark_looks Close)) (λ _. Some e))) (mapped (single (mark_looks Close)) (λ _. None))
    (λ k. mark_apart (as_mark Comma) Close [] refl))
    (either_by _ (λ i. (Some i.1.0, refl, refl)) (λ _. (None, refl, refl)))
    (option_by _ (inr tt, refl, refl) (λ e. (inl (tt, (e, tt)), refl, refl)))

keyed_end_exact : Exact (λ (b : Bool). b) (λ b. (if b then says (codes "keyed") ∷ [] else []) ++ marks Semicolon ∷ []) keyed_end
unfolding keyed_end
keyed_end_exact =
    recast (forked (word_looks (codes "keyed")) (λ _. mapped (single (mark_looks Semicolon)) (λ _. true)) (mapped (single (mark_looks Semicolon)) (λ _. false))
    (λ k. mark_apart (as_word (codes "keyed")) Semicolon [] refl))
    (either_by _ (λ i. (true, refl, refl)) (λ _. (false, refl, refl)))
    (bool_by _ (inl (tt, tt), refl, refl) (inr tt, refl, refl))

-- the parts of a type as they are read
abbrev read_type : TypeDef → List Part
read_type def =
    ((if def.bounded then says (codes "bounded") ∷ [] else []) ++ says (kind_word def.kind) ∷ [])
    ++ marks Open ∷ says (elem_word def.first) ∷ ((second_parts def.second ++ marks Close ∷ []) ++ ((if def.keyed then says (codes "keyed") ∷ [] else []) ++ marks Semicolon ∷ []))

type_read_by : (bounded : Bool) (kind : Kind) (first : ElemKind) (second : Option ElemKind) (keyed : Bool)
    → read_type (record { bounded = bounded; kind = kind; first = first; second = second; keyed = keyed })
    ≡ type_parts (record { bounded = bounded; kind = kind; first = first; second = second; keyed = keyed }) ++ marks Semicolon ∷ []
type_read_by true k e None true = refl
type_read_by true k e None false = refl
type_read_by true k e (Some s) true = refl
type_read_by true k e (Some s) false = refl
type_read_by false k e None true = refl
type_read_by false k e None false = refl
type_read_by false k e (Some s) true = refl
type_read_by false k e (Some s) false = refl

type_read : (def : TypeDef) → read_type def ≡ type_parts def ++ marks Semicolon ∷ []
type_read def = type_read_by def.bounded def.kind def.first def.second def.keyed

type_def_exact : Exact (λ (def : TypeDef). def) (λ def. type_parts def ++ marks Semicolon ∷ []) type_def
unfolding type_def
type_def_exact =
    recast (seq bounded_kind_exact (λ b. seq (single (mark_looks Open)) (λ _. seq elem_exact (λ first. seq second_elem_exact (λ second. mapped keyed_end_exact
    (λ keyed. record { bounded = b.0; kind = b.1; first = first; second = second; keyed = keyed }))))))
    (λ i. (record { bounded = i.0.0; kind = i.0.1; first = i.1.1.0; second = i.1.1.1.0; keyed = i.1.1.1.1 }, refl, type_read_by i.0.0 i.0.1 i.1.1.0 i.1.1.1.0 i.1.1.1.1))
    (λ def. (((def.bounded, def.kind), (tt, (def.first, (def.second, def.keyed)))), refl, type_read def))

pub type_declaration_exact : (line : ℕ) → Exact (λ (i : List ℕ × TypeDef). TypeDecl line i.0 i.1) (λ i. names i.0 ∷ says (codes "is") ∷ (type_parts i.1 ++ marks Semicolon ∷ [])) (type_declaration line)
unfolding type_declaration
type_declaration_exact line =
    recast (seq (single name_looks) (λ n. seq (single (word_looks (codes "is"))) (λ _. mapped type_def_exact (λ def. TypeDecl line n def))))
    (λ i. ((i.0, i.1.1), refl, refl))
    (λ i. ((i.0, (tt, i.1)), refl, refl))

capacity_end_exact : Exact (λ (c : Option ℕ). c) (λ c. capacity_parts c ++ marks Semicolon ∷ []) capacity_end
unfolding capacity_end
capacity_end_exact =
    recast (forked (mark_looks Open) (λ _. seq (single number_looks) (λ n. seq (single (mark_looks Close)) (λ _. mapped (single (mark_looks Semicolon)) (λ _. Some n)))) (mapped (single (mark_looks Semicolon)) (λ _. None))
    (λ _. mark_apart (as_mark Open) Semicolon [] refl))
    (either_by _ (λ i. (Some i.1.0, refl, refl)) (λ _. (None, refl, refl)))
    (option_by _ (inr tt, refl, refl) (λ n. (inl (tt, (n, (tt, tt))), refl, refl)))

-- what is declared behind a name
pub data Declared : Type 0 where
  an_integer : Declared
  a_text : Declared
  a_cursor : List ℕ → Declared
  an_object : List ℕ → Option ℕ → Declared

abbrev pub declared_decl : ℕ → List ℕ → Declared → Decl
declared_decl line n an_integer = IntVar line n
declared_decl line n a_text = TextVar line n
declared_decl line n (a_cursor of) = CursorVar line n of
declared_decl line n (an_object of capacity) = Object line n of capacity

-- behind the colon
abbrev pub declared_parts : Declared → List Part
declared_parts an_integer = says (codes "integer") ∷ marks Semicolon ∷ []
declared_parts a_text = says (codes "string") ∷ marks Semicolon ∷ []
declared_parts (a_cursor of) = names of ∷ marks Dot ∷ says (codes "cursor") ∷ marks Semicolon ∷ []
declared_parts (an_object of capacity) = names of ∷ (capacity_parts capacity ++ marks Semicolon ∷ [])

pub integer_end_exact : (line : ℕ) (n : List ℕ) → Exact (λ (_ : Unit {0}). IntVar line n) (λ _. marks Semicolon ∷ []) (integer_end line n)
unfolding integer_end
integer_end_exact line n = mapped (single (mark_looks Semicolon)) (λ _. IntVar line n)

text_end_exact : (line : ℕ) (n : List ℕ) → Exact (λ (_ : Unit {0}). TextVar line n) (λ _. marks Semicolon ∷ []) (text_end line n)
unfolding text_end
text_end_exact line n = mapped (single (mark_looks Semicolon)) (λ _. TextVar line n)

cursor_end_exact : (line : ℕ) (n of : List ℕ) → Exact (λ (_ : Unit {0}). CursorVar line n of) (λ _. says (codes "cursor") ∷ marks Semicolon ∷ []) (cursor_end line n of)
unfolding cursor_end
cursor_end_exact line n of =
    recast (seq (single (word_looks (codes "cursor"))) (λ _. mapped (single (mark_looks Semicolon)) (λ _. CursorVar line n of)))
    (λ _. (tt, refl, refl)) (λ _. ((tt, tt), refl, refl))

object_end_exact : (line : ℕ) (n of : List ℕ) → Exact (λ (c : Option ℕ). Object line n of c) (λ c. capacity_parts c ++ marks Semicolon ∷ []) (object_end line n of)
unfolding object_end
object_end_exact line n of = mapped capacity_end_exact (λ c. Object line n of c)

no_dot : (c : Option ℕ) (placed : List Placed) → Spelled (capacity_parts c ++ marks Semicolon ∷ []) placed → Starts (as_mark Dot) None placed
no_dot None placed h = mark_apart (as_mark Dot) Semicolon [] refl placed h
no_dot (Some c) placed h = mark_apart (as_mark Dot) Open _ refl placed h

typed_end_exact : (line : ℕ) (n of : List ℕ) → Exact (either_value (λ _. CursorVar line n of) (λ c. Object line n of c))
    (either_value (λ (_ : Unit {0}). marks Dot ∷ says (codes "cursor") ∷ marks Semicolon ∷ []) (λ c. capacity_parts c ++ marks Semicolon ∷ [])) (typed_end line n of)
unfolding typed_end
typed_end_exact line n of =
    recast (forked (mark_looks Dot) (λ _. cursor_end_exact line n of) (object_end_exact line n of) no_dot)
    (either_by _ (λ _. (inl tt, refl, refl)) (λ c. (inr c, refl, refl)))
    (either_by _ (λ _. (inl (tt, tt), refl, refl)) (λ c. (inr c, refl, refl)))

typed_exact : (line : ℕ) (n : List ℕ) → Exact (λ (i : List ℕ × (Unit {0} ⊎ Option ℕ)). either_value (λ _. CursorVar line n i.0) (λ c. Object line n i.0 c) i.1)
    (λ i. names i.0 ∷ either_value (λ _. marks Dot ∷ says (codes "cursor") ∷ marks Semicolon ∷ []) (λ c. capacity_parts c ++ marks Semicolon ∷ []) i.1) (typed line n)
unfolding typed
typed_exact line n = seq (single name_looks) (λ of. typed_end_exact line n of)

not_string : (v : List ℕ) → is_reserved v ≡ false → as_word (codes "string") (Word v) ≡ None
unfolding reserved is_reserved
not_string v free = free_word v (codes "string") refl free

not_integer : (v : List ℕ) → is_reserved v ≡ false → as_word (codes "integer") (Word v) ≡ None
unfolding reserved is_reserved
not_integer v free = free_word v (codes "integer") refl free

text_or_typed_exact : (line : ℕ) (n : List ℕ) → Exact (either_value (λ _. TextVar line n) (λ (i : List ℕ × (Unit {0} ⊎ Option ℕ)). either_value (λ _. CursorVar line n i.0) (λ c. Object line n i.0 c) i.1))
    (either_value (λ (_ : Unit {0}). says (codes "string") ∷ marks Semicolon ∷ []) (λ i. names i.0 ∷ either_value (λ _. marks Dot ∷ says (codes "cursor") ∷ marks Semicolon ∷ []) (λ c. capacity_parts c ++ marks Semicolon ∷ []) i.1))
    (text_or_typed line n)
unfolding text_or_typed
text_or_typed_exact line n =
    recast (forked (word_looks (codes "string")) (λ _. text_end_exact line n) (typed_exact line n) (λ i. name_apart (as_word (codes "string")) i.0 _ (not_string i.0)))
    (either_by _ (λ _. (inl tt, refl, refl)) (λ i. (inr i, refl, refl)))
    (either_by _ (λ _. (inl (tt, tt), refl, refl)) (λ i. (inr i, refl, refl)))

declared_apart : (i : Unit {0} ⊎ (List ℕ × (Unit {0} ⊎ Option ℕ))) (placed : List Placed)
    → Spelled (either_value (λ (_ : Unit {0}). says (codes "string") ∷ marks Semicolon ∷ []) (λ (i : List ℕ × (Unit {0} ⊎ Option ℕ)). names i.0 ∷ either_value (λ _. marks Dot ∷ says (codes "cursor") ∷ marks Semicolon ∷ []) (λ c. capacity_parts c ++ marks Semicolon ∷ []) i.1) i) placed
    → Starts (as_word (codes "integer")) None placed
declared_apart (inl _) placed h = word_apart (as_word (codes "integer")) (codes "string") _ refl placed h
declared_apart (inr i) placed h = name_apart (as_word (codes "integer")) i.0 _ (not_integer i.0) placed h

declared_by : (P : Declared → Type 0) → P an_integer → P a_text → ((of : List ℕ) → P (a_cursor of)) → ((of : List ℕ) (c : Option ℕ) → P (an_object of c)) → (d : Declared) → P d
declared_by P a b f g an_integer = a
declared_by P a b f g a_text = b
declared_by P a b f g (a_cursor of) = f of
declared_by P a b f g (an_object of c) = g of c

pub declared_exact : (line : ℕ) (n : List ℕ) → Exact (declared_decl line n) declared_parts (declared line n)
unfolding declared
declared_exact line n =
    recast (forked (word_looks (codes "integer")) (λ _. integer_end_exact line n) (text_or_typed_exact line n) declared_apart)
    (either_by _ (λ _. (an_integer, refl, refl)) (either_by _ (λ _. (a_text, refl, refl)) (pair_by _ (λ of. either_by _ (λ _. (a_cursor of, refl, refl)) (λ c. (an_object of c, refl, refl))))))
    (declared_by _ (inl (tt, tt), refl, refl) (inr (inl tt), refl, refl) (λ of. (inr (inr (of, inl tt)), refl, refl)) (λ of c. (inr (inr (of, inr c)), refl, refl)))
