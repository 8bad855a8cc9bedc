-- Types, heads and entries are read as they are written.
use Rattle.std.proofs.Common.{◌≡◌, ◌&&◌, ◌<◌, ◌^◌, ℕ, Bool, true, false, List, [], ◌∷◌, ◌++◌, length, take, drop, codes, decimal, refl, sym, ap, ap₂, ◌∙◌, nat_le, append_assoc, Option, Some, None, if◌then◌else◌}
use Rattle.std.specs.List.{prefix_len, list_all}
use Rattle.std.specs.Str.{bytes_eq}
use Rattle.std.proofs.lemmas.Bool.{and_parts, cond-true}
use Rattle.std.proofs.lemmas.Slice.Eq.{bytes_eq-Decides}
use Rattle.std.proofs.lemmas.List.{take-append-drop}
use Rattle.std.proofs.Math.Seq.{take-append_seam, drop-append_seam}
use Rattle.ac_syntax.specs.declared.kind.ElemKind.{ElemKind}
use Rattle.ac_syntax.specs.declared.kind.ElemKind.TheVariants.{Integer, Str}
use Rattle.ac_syntax.specs.declared.kind.Kind.{Kind}
use Rattle.ac_syntax.specs.declared.kind.Kind.TheVariants as kinds
use Rattle.ac_syntax.specs.declared.type_def.TypeDef.{TypeDef}
use Rattle.ac_syntax.specs.Characters.{is_word_byte}
use Rattle.ac_syntax.specs.Parts.{kind_word, elem_word}
use Rattle.ac_snapshot.specs.StateTexts.{type_text}
use Rattle.ac_snapshot.specs.Outcomes.{got, stuck, Reader, gives, onward, either, seen}
use Rattle.ac_snapshot.specs.ValueReaders.{after, word_of, word, number}
use Rattle.ac_snapshot.specs.EntryReaders.{picked, kind_of, elem_of, all_kinds, kind, elem, flag, second_elem, type_def, number_behind}
use Rattle.ac_snapshot.specs.Writings.{ends}
use Rattle.ac_snapshot.proofs.ValueLaws.{step_found, fork_found, seen_found, after_found, after_read, words_end, prefix_all, numbers_read}

-- words

pub word_found : (t own rest : List ℕ) → word t ≡ got own rest → t ≡ own ++ rest
word_found t own rest e = by_test (nat_le (prefix_len is_word_byte t) 64) e
  where
    by_test : (few : Bool) → (if few then got (take (prefix_len is_word_byte t) t) (drop (prefix_len is_word_byte t) t) else stuck) ≡ got own rest → t ≡ own ++ rest
    by_test false e = absurd (cc e)
    by_test true e =
        let front : take (prefix_len is_word_byte t) t ≡ own = cc e in
        let left : drop (prefix_len is_word_byte t) t ≡ rest = cc e in
        sym (take-append-drop (prefix_len is_word_byte t) t) ∙ ap₂ (λ f r. f ++ r) front left

pub word_only : (own rest : List ℕ) → list_all is_word_byte own ≡ true → nat_le (length own) 64 ≡ true → ends rest ≡ true → word (own ++ rest) ≡ got own rest
word_only own rest all few e =
    ap (λ n. word_of n (own ++ rest)) (prefix_all is_word_byte own rest all (words_end rest e))
    ∙ cond-true (nat_le (length own) 64) (got (take (length own) (own ++ rest)) (drop (length own) (own ++ rest))) stuck few
    ∙ ap₂ (λ f r. got f r) (take-append_seam own rest) (drop-append_seam own rest)

picked_found : {A : Type 0} (text : A → List ℕ) (all : List A) (own : List ℕ) (a : A) → picked text all own ≡ Some a → own ≡ text a
picked_found text [] own a e = absurd (cc e)
picked_found text (x ∷ all) own a e = by_test (bytes_eq own (text x)) refl (picked_found text all own a) e
  where
    by_test : (same : Bool) → bytes_eq own (text x) ≡ same → (picked text all own ≡ Some a → own ≡ text a) → (if same then Some x else picked text all own) ≡ Some a → own ≡ text a
    by_test false is later e = later e
    by_test true is later e = let own_a : x ≡ a = cc e in (bytes_eq-Decides own (text x)).0 is ∙ ap text own_a

kind_again : (k : Kind) → kind_of (kind_word k) ≡ Some k
kind_again kinds.Vector = refl
kind_again kinds.List = refl
kind_again kinds.HashedMap = refl
kind_again kinds.OrderedMap = refl
kind_again kinds.HashedSet = refl
kind_again kinds.OrderedSet = refl
kind_again kinds.Tree = refl
kind_again kinds.Holder = refl
kind_again kinds.Queue = refl
kind_again kinds.PriorityQueue = refl

kind_plain : (k : Kind) → (list_all is_word_byte (kind_word k) && nat_le (length (kind_word k)) 64) ≡ true
kind_plain kinds.Vector = refl
kind_plain kinds.List = refl
kind_plain kinds.HashedMap = refl
kind_plain kinds.OrderedMap = refl
kind_plain kinds.HashedSet = refl
kind_plain kinds.OrderedSet = refl
kind_plain kinds.Tree = refl
kind_plain kinds.Holder = refl
kind_plain kinds.Queue = refl
kind_plain kinds.PriorityQueue = refl

elem_again : (e : ElemKind) → elem_of (elem_word e) ≡ Some e
elem_again Integer = refl
elem_again Str = refl

elem_plain : (e : ElemKind) → (list_all is_word_byte (elem_word e) && nat_le (length (elem_word e)) 64) ≡ true
elem_plain Integer = refl
elem_plain Str = refl

kind_found : (t : List ℕ) (k : Kind) (rest : List ℕ) → kind t ≡ got k rest → t ≡ kind_word k ++ rest
kind_found t k rest e =
    step_found (t ≡ kind_word k ++ rest) (word t) (λ own t. seen (kind_of own) t) k rest e
    (λ own t_1 is more.
    seen_found (t ≡ kind_word k ++ rest) (kind_of own) t_1 k rest more
    (λ one left. word_found t own t_1 is ∙ ap₂ (λ f r. f ++ r) (picked_found kind_word all_kinds own k one) left))

elem_found : (t : List ℕ) (one : ElemKind) (rest : List ℕ) → elem t ≡ got one rest → t ≡ elem_word one ++ rest
elem_found t one rest e =
    step_found (t ≡ elem_word one ++ rest) (word t) (λ own t. seen (elem_of own) t) one rest e
    (λ own t_1 is more.
    seen_found (t ≡ elem_word one ++ rest) (elem_of own) t_1 one rest more
    (λ same left. word_found t own t_1 is ∙ ap₂ (λ f r. f ++ r) (picked_found elem_word (Integer ∷ Str ∷ []) own one same) left))

kind_only : (k : Kind) (rest : List ℕ) → ends rest ≡ true → kind (kind_word k ++ rest) ≡ got k rest
kind_only k rest e =
    let plain = and_parts (list_all is_word_byte (kind_word k)) (nat_le (length (kind_word k)) 64) (kind_plain k) in
    ap (λ o. onward o (λ own t. seen (kind_of own) t)) (word_only (kind_word k) rest plain.0 plain.1 e) ∙ ap (λ o. seen o rest) (kind_again k)

elem_only : (one : ElemKind) (rest : List ℕ) → ends rest ≡ true → elem (elem_word one ++ rest) ≡ got one rest
elem_only one rest e =
    let plain = and_parts (list_all is_word_byte (elem_word one)) (nat_le (length (elem_word one)) 64) (elem_plain one) in
    ap (λ o. onward o (λ own t. seen (elem_of own) t)) (word_only (elem_word one) rest plain.0 plain.1 e) ∙ ap (λ o. seen o rest) (elem_again one)

-- a word that may be left out

abbrev flag_text : List ℕ → Bool → List ℕ
flag_text wanted true = wanted
flag_text wanted false = []

flag_found : (wanted t : List ℕ) (b : Bool) (rest : List ℕ) → flag wanted t ≡ got b rest → t ≡ flag_text wanted b ++ rest
flag_found wanted t b rest e =
    fork_found (t ≡ flag_text wanted b ++ rest) (after wanted t) (λ _. gives true) (gives false) t b rest e
    (λ u t_1 is more.
    let own : true ≡ b = cc more in
    let left : t_1 ≡ rest = cc more in
    after_found wanted t u t_1 is ∙ ap₂ (λ b r. flag_text wanted b ++ r) own left)
    (λ more.
    let own : false ≡ b = cc more in
    let left : t ≡ rest = cc more in
    ap₂ (λ b r. flag_text wanted b ++ r) own left)

flag_only : (wanted : List ℕ) (b : Bool) (rest : List ℕ) → (b ≡ false → after wanted rest ≡ stuck) → flag wanted (flag_text wanted b ++ rest) ≡ got b rest
flag_only wanted true rest none = ap (λ o. either o (λ _. gives true) (gives false) (wanted ++ rest)) (after_read wanted rest)
flag_only wanted false rest none = ap (λ o. either o (λ _. gives true) (gives false) rest) (none refl)

abbrev second_text : Option ElemKind → List ℕ
second_text None = []
second_text (Some one) = codes ", " ++ elem_word one

second_found : (t : List ℕ) (o : Option ElemKind) (rest : List ℕ) → second_elem t ≡ got o rest → t ≡ second_text o ++ rest
second_found t o rest e =
    fork_found (t ≡ second_text o ++ rest) (after (codes ", ") t) (λ _ t. onward (elem t) (λ one. gives (Some one))) (gives None) t o rest e
    (λ u t_1 is more.
    step_found (t ≡ second_text o ++ rest) (elem t_1) (λ one. gives (Some one)) o rest more
    (λ one t_2 is_2 more_2.
    let own : Some one ≡ o = cc more_2 in
    let left : t_2 ≡ rest = cc more_2 in
    after_found (codes ", ") t u t_1 is ∙ ap (λ t. codes ", " ++ t) (elem_found t_1 one t_2 is_2) ∙ ap₂ (λ o r. second_text o ++ r) own left))
    (λ more.
    let own : None ≡ o = cc more in
    let left : t ≡ rest = cc more in
    ap₂ (λ o r. second_text o ++ r) own left)

-- behind it stands the bracket that closes
second_only : (o : Option ElemKind) (rest : List ℕ) → second_elem (second_text o ++ 41 ∷ rest) ≡ got o (41 ∷ rest)
second_only None rest = refl
second_only (Some one) rest =
    ap (λ o. either o (λ _ t. onward (elem t) (λ one. gives (Some one))) (gives None) (codes ", " ++ (elem_word one ++ 41 ∷ rest))) (after_read (codes ", ") (elem_word one ++ 41 ∷ rest))
    ∙ ap (λ o. onward o (λ one. gives (Some one))) (elem_only one (41 ∷ rest) refl)

-- types

-- a type's text from the front
abbrev pub type_front : TypeDef → List ℕ → List ℕ
type_front def rest =
    flag_text (codes "bounded ") def.bounded
    ++ (kind_word def.kind ++ (codes " (" ++ (elem_word def.first ++ (second_text def.second ++ (codes ")" ++ (flag_text (codes " keyed") def.keyed ++ rest))))))

abbrev made : Bool → Kind → ElemKind → Option ElemKind → Bool → TypeDef
made bounded own first second keyed = record { bounded = bounded; kind = own; first = first; second = second; keyed = keyed }

abbrev behind_keyed : Bool → Kind → ElemKind → Option ElemKind → Bool → Reader TypeDef
behind_keyed bounded own first second keyed = gives (made bounded own first second keyed)

abbrev behind_close : Bool → Kind → ElemKind → Option ElemKind → Unit {0} → Reader TypeDef
behind_close bounded own first second u t = onward (flag (codes " keyed") t) (behind_keyed bounded own first second)

abbrev behind_second : Bool → Kind → ElemKind → Option ElemKind → Reader TypeDef
behind_second bounded own first second t = onward (after (codes ")") t) (behind_close bounded own first second)

abbrev behind_first : Bool → Kind → ElemKind → Reader TypeDef
behind_first bounded own first t = onward (second_elem t) (behind_second bounded own first)

abbrev behind_open : Bool → Kind → Unit {0} → Reader TypeDef
behind_open bounded own u t = onward (elem t) (behind_first bounded own)

abbrev behind_kind : Bool → Kind → Reader TypeDef
behind_kind bounded own t = onward (after (codes " (") t) (behind_open bounded own)

abbrev behind_bounded : Bool → Reader TypeDef
behind_bounded bounded t = onward (kind t) (behind_kind bounded)

pub type_found : (t : List ℕ) (def : TypeDef) (rest : List ℕ) → type_def t ≡ got def rest → t ≡ type_front def rest
unfolding type_def
type_found t def rest e =
    step_found (t ≡ type_front def rest) (flag (codes "bounded ") t) behind_bounded def rest e
    (λ b t_1 is_1 m_1.
    step_found (t ≡ type_front def rest) (kind t_1) (behind_kind b) def rest m_1
    (λ k t_2 is_2 m_2.
    step_found (t ≡ type_front def rest) (after (codes " (") t_2) (behind_open b k) def rest m_2
    (λ u_3 t_3 is_3 m_3.
    step_found (t ≡ type_front def rest) (elem t_3) (behind_first b k) def rest m_3
    (λ f t_4 is_4 m_4.
    step_found (t ≡ type_front def rest) (second_elem t_4) (behind_second b k f) def rest m_4
    (λ s t_5 is_5 m_5.
    step_found (t ≡ type_front def rest) (after (codes ")") t_5) (behind_close b k f s) def rest m_5
    (λ u_6 t_6 is_6 m_6.
    step_found (t ≡ type_front def rest) (flag (codes " keyed") t_6) (behind_keyed b k f s) def rest m_6
    (λ keyed t_7 is_7 m_7.
    let own : made b k f s keyed ≡ def = cc m_7 in
    let left : t_7 ≡ rest = cc m_7 in
    flag_found (codes "bounded ") t b t_1 is_1
    ∙ ap (λ t. flag_text (codes "bounded ") b ++ t) (kind_found t_1 k t_2 is_2
    ∙ ap (λ t. kind_word k ++ t) (after_found (codes " (") t_2 u_3 t_3 is_3
    ∙ ap (λ t. codes " (" ++ t) (elem_found t_3 f t_4 is_4
    ∙ ap (λ t. elem_word f ++ t) (second_found t_4 s t_5 is_5
    ∙ ap (λ t. second_text s ++ t) (after_found (codes ")") t_5 u_6 t_6 is_6
    ∙ ap (λ t. codes ")" ++ t) (flag_found (codes " keyed") t_6 keyed t_7 is_7))))))
    ∙ ap₂ type_front own left)))))))

-- `bounded ` stands before no kind
kind_first : (k : Kind) (rest : List ℕ) → after (codes "bounded ") (kind_word k ++ rest) ≡ stuck
kind_first kinds.Vector rest = refl
kind_first kinds.List rest = refl
kind_first kinds.HashedMap rest = refl
kind_first kinds.OrderedMap rest = refl
kind_first kinds.HashedSet rest = refl
kind_first kinds.OrderedSet rest = refl
kind_first kinds.Tree rest = refl
kind_first kinds.Holder rest = refl
kind_first kinds.Queue rest = refl
kind_first kinds.PriorityQueue rest = refl

second_ends : (o : Option ElemKind) (rest : List ℕ) → ends (second_text o ++ 41 ∷ rest) ≡ true
second_ends None rest = refl
second_ends (Some one) rest = refl

pub type_only : (def : TypeDef) (rest : List ℕ) → after (codes " keyed") rest ≡ stuck → type_def (type_front def rest) ≡ got def rest
unfolding type_def
type_only def rest none =
    let t_6 = flag_text (codes " keyed") def.keyed ++ rest in
    let t_4 = second_text def.second ++ 41 ∷ t_6 in
    let t_2 = codes " (" ++ (elem_word def.first ++ t_4) in
    ap (λ o. onward o behind_bounded) (flag_only (codes "bounded ") def.bounded (kind_word def.kind ++ t_2) (λ _. kind_first def.kind t_2))
    ∙ ap (λ o. onward o (behind_kind def.bounded)) (kind_only def.kind t_2 refl)
    ∙ ap (λ o. onward o (behind_open def.bounded def.kind)) (after_read (codes " (") (elem_word def.first ++ t_4))
    ∙ ap (λ o. onward o (behind_first def.bounded def.kind)) (elem_only def.first t_4 (second_ends def.second t_6))
    ∙ ap (λ o. onward o (behind_second def.bounded def.kind def.first)) (second_only def.second t_6)
    ∙ ap (λ o. onward o (behind_close def.bounded def.kind def.first def.second)) (after_read (codes ")") t_6)
    ∙ ap (λ o. onward o (behind_keyed def.bounded def.kind def.first def.second)) (flag_only (codes " keyed") def.keyed rest (λ _. none))

-- words with literals between them, before a rest

two_words : (a b mid end rest : List ℕ) → (a ++ (mid ++ (b ++ end))) ++ rest ≡ a ++ (mid ++ (b ++ (end ++ rest)))
two_words a b mid end rest =
    append_assoc a (mid ++ (b ++ end)) rest ∙ ap (λ t. a ++ t) (append_assoc mid (b ++ end) rest ∙ ap (λ t. mid ++ t) (append_assoc b end rest))

three_words : (a b c mid mid_2 end rest : List ℕ) → (a ++ (mid ++ (b ++ (mid_2 ++ (c ++ end))))) ++ rest ≡ a ++ (mid ++ (b ++ (mid_2 ++ (c ++ (end ++ rest)))))
three_words a b c mid mid_2 end rest =
    append_assoc a (mid ++ (b ++ (mid_2 ++ (c ++ end)))) rest
    ∙ ap (λ t. a ++ t) (append_assoc mid (b ++ (mid_2 ++ (c ++ end))) rest ∙ ap (λ t. mid ++ t) (two_words b c mid_2 end rest))

pub type_text_front : (def : TypeDef) (rest : List ℕ) → type_text def ++ rest ≡ type_front def rest
type_text_front def rest = by_parts def.bounded def.second def.keyed
  where
    by_parts : (bounded : Bool) (second : Option ElemKind) (keyed : Bool)
        → type_text (made bounded def.kind def.first second keyed) ++ rest ≡ type_front (made bounded def.kind def.first second keyed) rest
    by_parts true None true = ap (λ t. codes "bounded " ++ t) (two_words (kind_word def.kind) (elem_word def.first) (codes " (") (codes ") keyed") rest)
    by_parts true None false = ap (λ t. codes "bounded " ++ t) (two_words (kind_word def.kind) (elem_word def.first) (codes " (") (codes ")") rest)
    by_parts false None true = two_words (kind_word def.kind) (elem_word def.first) (codes " (") (codes ") keyed") rest
    by_parts false None false = two_words (kind_word def.kind) (elem_word def.first) (codes " (") (codes ")") rest
    by_parts true (Some s) true =
        ap (λ t. codes "bounded " ++ t) (three_words (kind_word def.kind) (elem_word def.first) (elem_word s) (codes " (") (codes ", ") (codes ") keyed") rest)
    by_parts true (Some s) false =
        ap (λ t. codes "bounded " ++ t) (three_words (kind_word def.kind) (elem_word def.first) (elem_word s) (codes " (") (codes ", ") (codes ")") rest)
    by_parts false (Some s) true = three_words (kind_word def.kind) (elem_word def.first) (elem_word s) (codes " (") (codes ", ") (codes ") keyed") rest
    by_parts false (Some s) false = three_words (kind_word def.kind) (elem_word def.first) (elem_word s) (codes " (") (codes ", ") (codes ")") rest

-- numbers behind a word, where they stand

abbrev pub wanted_text : List ℕ → Option ℕ → List ℕ
wanted_text wanted None = []
wanted_text wanted (Some n) = wanted ++ decimal n

pub number_behind_found : (wanted t : List ℕ) (o : Option ℕ) (rest : List ℕ) → number_behind wanted t ≡ got o rest → t ≡ wanted_text wanted o ++ rest
number_behind_found wanted t o rest e =
    fork_found (t ≡ wanted_text wanted o ++ rest) (after wanted t) (λ _ t. onward (number t) (λ n. gives (Some n))) (gives None) t o rest e
    (λ u t_1 is more.
    step_found (t ≡ wanted_text wanted o ++ rest) (number t_1) (λ n. gives (Some n)) o rest more
    (λ n t_2 is_2 more_2.
    let own : Some n ≡ o = cc more_2 in
    let left : t_2 ≡ rest = cc more_2 in
    after_found wanted t u t_1 is ∙ ap (λ t. wanted ++ t) (numbers_read.found t_1 n t_2 is_2) ∙ sym (append_assoc wanted (decimal n) t_2)
    ∙ ap₂ (λ o r. wanted_text wanted o ++ r) own left))
    (λ more.
    let own : None ≡ o = cc more in
    let left : t ≡ rest = cc more in
    ap₂ (λ o r. wanted_text wanted o ++ r) own left)

abbrev pub IsSmall : Option ℕ → Type 0
IsSmall None = Unit {0}
IsSmall (Some n) = n < 2 ^ 64

pub number_behind_only : (wanted : List ℕ) (o : Option ℕ) (rest : List ℕ) → IsSmall o → ends rest ≡ true → (o ≡ None → after wanted rest ≡ stuck)
    → number_behind wanted (wanted_text wanted o ++ rest) ≡ got o rest
number_behind_only wanted None rest small e none = ap (λ o. either o (λ _ t. onward (number t) (λ n. gives (Some n))) (gives None) rest) (none refl)
number_behind_only wanted (Some n) rest small e none =
    ap (number_behind wanted) (append_assoc wanted (decimal n) rest)
    ∙ ap (λ o. either o (λ _ t. onward (number t) (λ n. gives (Some n))) (gives None) (wanted ++ (decimal n ++ rest))) (after_read wanted (decimal n ++ rest))
    ∙ ap (λ o. onward o (λ n. gives (Some n))) (numbers_read.only n rest small e)
