-- An entry's line is read as that entry.
use Rattle.std.proofs.Common.{◌≡◌, ◌==◌, ◌||◌, ◌&&◌, ◌*◌, ◌<◌, ◌^◌, ℕ, ℤ, Bool, true, false, not, List, [], ◌∷◌, ◌++◌, length, take, drop, map, codes, refl, sym, ap, ap₂, ◌∙◌, arith, nat_le, nat_lt, append_assoc, eqb-true, ltb-true, Option, Some, None, unwrap_or}
use Rattle.std.specs.Char.{is_ascii_lowercase, to_ascii_lowercase}
use Rattle.std.specs.Fmt.{signed_decimal}
use Rattle.std.specs.List.{list_all, list_any, range_with_len}
use Rattle.std.proofs.lemmas.Bool.{and_from, and_parts, leb-true}
use Rattle.std.proofs.lemmas.Bool.Decides.{nat_tests}
use Rattle.std.proofs.Math.Seq.{take-append_seam, drop-append_seam}
use Rattle.ac_base.specs.declared.limit.TheConstants.{GREATEST_LENGTH}
use Rattle.ac_base.specs.declared.value.Value.TheVariants as value
use Rattle.ac_syntax.specs.declared.kind.Kind.{Kind}
use Rattle.ac_syntax.specs.declared.kind.Kind.TheVariants as kinds
use Rattle.ac_syntax.specs.declared.type_def.TypeDef.{TypeDef}
use Rattle.ac_syntax.specs.Canonical.{is_lower_word, quoted, literal_text}
use Rattle.ac_syntax.specs.Characters.{is_word_byte}
use Rattle.ac_syntax.specs.Grammar.{is_reserved}
use Rattle.ac_syntax.specs.Kinds.{is_queue, has_capacity}
use Rattle.ac_syntax.proofs.Fronts.{list_all_weaker}
use Rattle.ac_rules.specs.Rules.{is_type}
use Rattle.ac_calls.specs.Listings.{separated, nodes_listing}
use Rattle.ac_calls.specs.Plains.{name_of}
use Rattle.ac_calls.specs.declared.plains.Plain.{Plain}
use Rattle.ac_calls.specs.declared.plains.Plain.TheVariants as plain
use Rattle.ac_calls.specs.declared.plains.PlainRow.{PlainRow}
use Rattle.ac_snapshot.specs.declared.entry_reader.Head.{Head}
use Rattle.ac_snapshot.specs.RowValidity.{is_given, is_integer, is_text, are_valid_rows}
use Rattle.ac_snapshot.specs.Validity.{is_name, is_limit_of, is_step, is_capacity_of, is_peak_of, is_valid_object, is_valid_content, is_valid_entry}
use Rattle.ac_snapshot.specs.StateTexts.{row_text, node_of, rows_text, type_text, number_text, object_text, line_text, entry_text}
use Rattle.ac_snapshot.specs.Outcomes.{got, stuck, Reader, gives, onward, either}
use Rattle.ac_snapshot.specs.ValueReaders.{after, word, integer, quoted_bytes}
use Rattle.ac_snapshot.specs.RowReaders.{listed}
use Rattle.ac_snapshot.specs.EntryReaders.{type_def, number_behind, head, name, named_by, name_in, integer_line, integer_entry, string_entry, object_head, object_of, object_entry, entry}
use Rattle.ac_snapshot.specs.Writings.{ends, ReadsEntries}
use Rattle.ac_snapshot.proofs.ValueLaws.{step_found, fork_found, after_found, after_read, prefix_all, integers_read, texts_read}
use Rattle.ac_snapshot.proofs.RowsFit.{rows_read}
use Rattle.ac_snapshot.proofs.EntryLaws.{word_found, word_only, type_front, type_found, type_only, type_text_front, wanted_text, number_behind_found, number_behind_only, IsSmall}

-- heads

abbrev numbers_front : (limit capacity peak : Option ℕ) → List ℕ → List ℕ
numbers_front limit capacity peak rest =
    wanted_text (codes " limit ") limit ++ (wanted_text (codes " capacity ") capacity ++ (wanted_text (codes " peak ") peak ++ rest))

abbrev head_front : Head → List ℕ → List ℕ
head_front h rest = type_front h.def (numbers_front h.limit h.capacity h.peak rest)

abbrev made_head : TypeDef → (limit capacity peak : Option ℕ) → Head
made_head def limit capacity peak = record { def = def; limit = limit; capacity = capacity; peak = peak }

abbrev behind_peak : TypeDef → (limit capacity peak : Option ℕ) → Reader Head
behind_peak def limit capacity peak = gives (made_head def limit capacity peak)

abbrev behind_capacity : TypeDef → (limit capacity : Option ℕ) → Reader Head
behind_capacity def limit capacity t = onward (number_behind (codes " peak ") t) (behind_peak def limit capacity)

abbrev behind_limit : TypeDef → (limit : Option ℕ) → Reader Head
behind_limit def limit t = onward (number_behind (codes " capacity ") t) (behind_capacity def limit)

abbrev behind_type : TypeDef → Reader Head
behind_type def t = onward (number_behind (codes " limit ") t) (behind_limit def)

head_found : (t : List ℕ) (h : Head) (rest : List ℕ) → head t ≡ got h rest → t ≡ head_front h rest
unfolding head
head_found t h rest e =
    step_found (t ≡ head_front h rest) (type_def t) behind_type h rest e
    (λ def t_1 is_1 m_1.
    step_found (t ≡ head_front h rest) (number_behind (codes " limit ") t_1) (behind_limit def) h rest m_1
    (λ limit t_2 is_2 m_2.
    step_found (t ≡ head_front h rest) (number_behind (codes " capacity ") t_2) (behind_capacity def limit) h rest m_2
    (λ capacity t_3 is_3 m_3.
    step_found (t ≡ head_front h rest) (number_behind (codes " peak ") t_3) (behind_peak def limit capacity) h rest m_3
    (λ peak t_4 is_4 m_4.
    let own : made_head def limit capacity peak ≡ h = cc m_4 in
    let left : t_4 ≡ rest = cc m_4 in
    type_found t def t_1 is_1
    ∙ ap (type_front def) (number_behind_found (codes " limit ") t_1 limit t_2 is_2
    ∙ ap (λ t. wanted_text (codes " limit ") limit ++ t) (number_behind_found (codes " capacity ") t_2 capacity t_3 is_3
    ∙ ap (λ t. wanted_text (codes " capacity ") capacity ++ t) (number_behind_found (codes " peak ") t_3 peak t_4 is_4)))
    ∙ ap₂ head_front own left))))

-- what may stand in front of the rows

no_more : (peak : Option ℕ) (more : List ℕ)
    → let t = wanted_text (codes " peak ") peak ++ (32 ∷ 91 ∷ more) in (ends t ≡ true) × (after (codes " capacity ") t ≡ stuck) × (after (codes " limit ") t ≡ stuck) × (after (codes " keyed") t ≡ stuck)
no_more None more = (refl, refl, refl, refl)
no_more (Some n) more = (refl, refl, refl, refl)

no_capacity : (capacity peak : Option ℕ) (more : List ℕ)
    → let t = wanted_text (codes " capacity ") capacity ++ (wanted_text (codes " peak ") peak ++ (32 ∷ 91 ∷ more)) in (ends t ≡ true) × (after (codes " limit ") t ≡ stuck) × (after (codes " keyed") t ≡ stuck)
no_capacity None peak more = let next = no_more peak more in (next.0, next.2, next.3)
no_capacity (Some n) peak more = (refl, refl, refl)

no_keyed : (limit capacity peak : Option ℕ) (more : List ℕ) → after (codes " keyed") (numbers_front limit capacity peak (32 ∷ 91 ∷ more)) ≡ stuck
no_keyed None capacity peak more = (no_capacity capacity peak more).2
no_keyed (Some n) capacity peak more = refl

head_only : (h : Head) (more : List ℕ) → IsSmall h.limit → IsSmall h.capacity → IsSmall h.peak → head (head_front h (32 ∷ 91 ∷ more)) ≡ got h (32 ∷ 91 ∷ more)
unfolding head
head_only h more limit capacity peak =
    let t = 32 ∷ 91 ∷ more in
    let t_3 = wanted_text (codes " peak ") h.peak ++ t in
    let t_2 = wanted_text (codes " capacity ") h.capacity ++ t_3 in
    let t_1 = wanted_text (codes " limit ") h.limit ++ t_2 in
    let at_3 = no_more h.peak more in
    let at_2 = no_capacity h.capacity h.peak more in
    ap (λ o. onward o behind_type) (type_only h.def t_1 (no_keyed h.limit h.capacity h.peak more))
    ∙ ap (λ o. onward o (behind_limit h.def)) (number_behind_only (codes " limit ") h.limit t_2 limit at_2.0 (λ _. at_2.1))
    ∙ ap (λ o. onward o (behind_capacity h.def h.limit)) (number_behind_only (codes " capacity ") h.capacity t_3 capacity at_3.0 (λ _. at_3.1))
    ∙ ap (λ o. onward o (behind_peak h.def h.limit h.capacity)) (number_behind_only (codes " peak ") h.peak t peak refl (λ _. refl))

-- lines from the front

limit_text : (limit : Option ℕ) → number_text (codes "limit") limit ≡ wanted_text (codes " limit ") limit
limit_text None = refl
limit_text (Some n) = refl

capacity_text : (capacity : Option ℕ) → number_text (codes "capacity") capacity ≡ wanted_text (codes " capacity ") capacity
capacity_text None = refl
capacity_text (Some n) = refl

peak_text : (peak : Option ℕ) → number_text (codes "peak") peak ≡ wanted_text (codes " peak ") peak
peak_text None = refl
peak_text (Some n) = refl

numbers_text : (a b c d rest : List ℕ) → (a ++ (b ++ (c ++ d))) ++ rest ≡ a ++ (b ++ (c ++ (d ++ rest)))
numbers_text a b c d rest =
    append_assoc a (b ++ (c ++ d)) rest ∙ ap (λ t. a ++ t) (append_assoc b (c ++ d) rest ∙ ap (λ t. b ++ t) (append_assoc c d rest))

object_front : (def : TypeDef) (limit capacity peak : Option ℕ) (rows : List PlainRow) (rest : List ℕ)
    → object_text def limit capacity peak rows ++ rest ≡ head_front (made_head def limit capacity peak) (32 ∷ (rows_text def.kind rows ++ rest))
object_front def limit capacity peak rows rest =
    let a = number_text (codes "limit") limit in
    let b = number_text (codes "capacity") capacity in
    let c = number_text (codes "peak") peak in
    let d = 32 ∷ rows_text def.kind rows in
    append_assoc (type_text def) (a ++ (b ++ (c ++ d))) rest ∙ type_text_front def ((a ++ (b ++ (c ++ d))) ++ rest)
    ∙ ap (type_front def) (numbers_text a b c d rest)
    ∙ ap (λ a. type_front def (a ++ (b ++ (c ++ (d ++ rest))))) (limit_text limit)
    ∙ ap₂ (λ b c. type_front def (wanted_text (codes " limit ") limit ++ (b ++ (c ++ (d ++ rest))))) (capacity_text capacity) (peak_text peak)

line_front : (own name held rest : List ℕ) → line_text own name held ++ rest ≡ own ++ 32 ∷ (name ++ 32 ∷ (held ++ 10 ∷ rest))
line_front own name held rest =
    append_assoc own (32 ∷ (name ++ 32 ∷ (held ++ 10 ∷ []))) rest
    ∙ ap (λ t. own ++ 32 ∷ t) (append_assoc name (32 ∷ (held ++ 10 ∷ [])) rest ∙ ap (λ t. name ++ 32 ∷ t) (append_assoc held (10 ∷ []) rest))

-- names

lower_in_word : (b : ℕ) → is_ascii_lowercase b ≡ true → is_word_byte b ≡ true
lower_in_word b h = grind (arith, nat_tests)

name_bytes : (own : List ℕ) → is_lower_word own ≡ true → list_all is_word_byte own ≡ true
name_bytes [] h = absurd (cc h)
name_bytes (b ∷ rest) h =
    let parts = and_parts (is_ascii_lowercase b) (list_all (λ c. is_word_byte c && to_ascii_lowercase c == c) rest) h in
    and_from _ _ (lower_in_word b parts.0)
    (list_all_weaker (λ c. is_word_byte c && to_ascii_lowercase c == c) is_word_byte (λ c is. (and_parts (is_word_byte c) (to_ascii_lowercase c == c) is).0) rest parts.1)

abbrev behind_space : List ℕ → Unit {0} → Reader (List ℕ)
behind_space own u = gives own

abbrev behind_name : List ℕ → Reader (List ℕ)
behind_name own t = onward (after (codes " ") t) (behind_space own)

name_found : (t own rest : List ℕ) → name t ≡ got own rest → t ≡ own ++ 32 ∷ rest
name_found t own rest e =
    step_found (t ≡ own ++ 32 ∷ rest) (word t) behind_name own rest e
    (λ w t_1 is_1 m_1.
    step_found (t ≡ own ++ 32 ∷ rest) (after (codes " ") t_1) (behind_space w) own rest m_1
    (λ u t_2 is_2 m_2.
    let same : w ≡ own = cc m_2 in
    let left : t_2 ≡ rest = cc m_2 in
    word_found t w t_1 is_1 ∙ ap (λ t. w ++ t) (after_found (codes " ") t_1 u t_2 is_2) ∙ ap₂ (λ w t. w ++ 32 ∷ t) same left))

name_only : (own rest : List ℕ) → is_name own ≡ true → name (own ++ 32 ∷ rest) ≡ got own rest
name_only own rest is =
    let parts = and_parts (is_lower_word own) (nat_le (length own) 64 && not (is_reserved own)) is in
    let few = (and_parts (nat_le (length own) 64) (not (is_reserved own)) parts.1).0 in
    ap (λ o. onward o behind_name) (word_only own (32 ∷ rest) (name_bytes own parts.0) few refl)
    ∙ ap (λ o. onward o (behind_space own)) (after_read (codes " ") rest)

-- the name in a line

named_only : (own rest : List ℕ) → is_name own ≡ true → named_by (got tt (own ++ 32 ∷ rest)) ≡ own
named_only own rest is =
    let lower = (and_parts (is_lower_word own) (nat_le (length own) 64 && not (is_reserved own)) is).0 in
    ap (λ n. take n (own ++ 32 ∷ rest)) (prefix_all is_word_byte own (32 ∷ rest) (name_bytes own lower) refl) ∙ take-append_seam own (32 ∷ rest)

line_named : (word own held rest : List ℕ) → list_all is_word_byte word ≡ true → is_name own ≡ true → name_in (line_text word own held ++ rest) ≡ own
line_named word own held rest all is =
    let left = 32 ∷ (own ++ 32 ∷ (held ++ 10 ∷ rest)) in
    ap name_in (line_front word own held rest)
    ∙ ap (λ n. named_by (after (codes " ") (drop n (word ++ left)))) (prefix_all is_word_byte word left all refl)
    ∙ ap (λ t. named_by (after (codes " ") t)) (drop-append_seam word left)
    ∙ ap named_by (after_read (codes " ") (own ++ 32 ∷ (held ++ 10 ∷ rest)))
    ∙ named_only own (held ++ 10 ∷ rest) is

entry_named : (e : Plain) (rest : List ℕ) → is_name (name_of e) ≡ true → name_in (entry_text e ++ rest) ≡ name_of e
entry_named (plain.Int own z) rest is = line_named (codes "integer") own (literal_text (value.Int z)) rest refl is
entry_named (plain.Str own bytes) rest is = line_named (codes "string") own (literal_text (value.Text bytes)) rest refl is
entry_named (plain.Object own def limit capacity peak rows) rest is = line_named (codes "object") own (object_text def limit capacity peak rows) rest refl is

-- integers

abbrev end_integer : ℤ → Unit {0} → Reader ℤ
end_integer z u = gives z

abbrev behind_integer : ℤ → Reader ℤ
behind_integer z t = onward (after (10 ∷ []) t) (end_integer z)

line_found : (t : List ℕ) (z : ℤ) (rest : List ℕ) → integer_line t ≡ got z rest → t ≡ signed_decimal z ++ 10 ∷ rest
line_found t z rest e =
    step_found (t ≡ signed_decimal z ++ 10 ∷ rest) (integer t) behind_integer z rest e
    (λ y t_1 is_1 m_1.
    step_found (t ≡ signed_decimal z ++ 10 ∷ rest) (after (10 ∷ []) t_1) (end_integer y) z rest m_1
    (λ u t_2 is_2 m_2.
    let same : y ≡ z = cc m_2 in
    let left : t_2 ≡ rest = cc m_2 in
    integers_read.found t y t_1 is_1 ∙ ap (λ t. signed_decimal y ++ t) (after_found (10 ∷ []) t_1 u t_2 is_2) ∙ ap₂ (λ y t. signed_decimal y ++ 10 ∷ t) same left))

line_only : (z : ℤ) (rest : List ℕ) → is_integer z ≡ true → integer_line (signed_decimal z ++ 10 ∷ rest) ≡ got z rest
line_only z rest is =
    ap (λ o. onward o behind_integer) (integers_read.only z (10 ∷ rest) is refl) ∙ ap (λ o. onward o (end_integer z)) (after_read (10 ∷ []) rest)

abbrev made_integer : List ℕ → ℤ → Reader Plain
made_integer own z = gives (plain.Int own z)

abbrev named_integer : List ℕ → Reader Plain
named_integer own t = onward (integer_line t) (made_integer own)

integer_entry_found : (t : List ℕ) (e : Plain) (rest : List ℕ) → integer_entry t ≡ got e rest → codes "integer " ++ t ≡ entry_text e ++ rest
integer_entry_found t e rest h =
    step_found (codes "integer " ++ t ≡ entry_text e ++ rest) (name t) named_integer e rest h
    (λ own t_1 is_1 m_1.
    step_found (codes "integer " ++ t ≡ entry_text e ++ rest) (integer_line t_1) (made_integer own) e rest m_1
    (λ z t_2 is_2 m_2.
    let same : plain.Int own z ≡ e = cc m_2 in
    let left : t_2 ≡ rest = cc m_2 in
    ap (λ t. codes "integer " ++ t) (name_found t own t_1 is_1 ∙ ap (λ t. own ++ 32 ∷ t) (line_found t_1 z t_2 is_2))
    ∙ sym (line_front (codes "integer") own (signed_decimal z) t_2) ∙ ap₂ (λ e t. entry_text e ++ t) same left))

integer_entry_only : (own : List ℕ) (z : ℤ) (rest : List ℕ) → is_name own ≡ true → is_integer z ≡ true
    → integer_entry (own ++ 32 ∷ (signed_decimal z ++ 10 ∷ rest)) ≡ got (plain.Int own z) rest
integer_entry_only own z rest named fits =
    ap (λ o. onward o named_integer) (name_only own (signed_decimal z ++ 10 ∷ rest) named) ∙ ap (λ o. onward o (made_integer own)) (line_only z rest fits)

-- strings

abbrev end_string : (own bytes : List ℕ) → Unit {0} → Reader Plain
end_string own bytes u = gives (plain.Str own bytes)

abbrev behind_string : (own bytes : List ℕ) → Reader Plain
behind_string own bytes t = onward (after (10 ∷ []) t) (end_string own bytes)

abbrev named_string : List ℕ → Reader Plain
named_string own t = onward (quoted_bytes t) (behind_string own)

string_entry_found : (t : List ℕ) (e : Plain) (rest : List ℕ) → string_entry t ≡ got e rest → codes "string " ++ t ≡ entry_text e ++ rest
string_entry_found t e rest h =
    step_found (codes "string " ++ t ≡ entry_text e ++ rest) (name t) named_string e rest h
    (λ own t_1 is_1 m_1.
    step_found (codes "string " ++ t ≡ entry_text e ++ rest) (quoted_bytes t_1) (behind_string own) e rest m_1
    (λ bytes t_2 is_2 m_2.
    step_found (codes "string " ++ t ≡ entry_text e ++ rest) (after (10 ∷ []) t_2) (end_string own bytes) e rest m_2
    (λ u t_3 is_3 m_3.
    let same : plain.Str own bytes ≡ e = cc m_3 in
    let left : t_3 ≡ rest = cc m_3 in
    ap (λ t. codes "string " ++ t) (name_found t own t_1 is_1
    ∙ ap (λ t. own ++ 32 ∷ t) (texts_read.found t_1 bytes t_2 is_2 ∙ ap (λ t. quoted bytes ++ t) (after_found (10 ∷ []) t_2 u t_3 is_3)))
    ∙ sym (line_front (codes "string") own (quoted bytes) t_3) ∙ ap₂ (λ e t. entry_text e ++ t) same left)))

string_entry_only : (own bytes rest : List ℕ) → is_name own ≡ true → is_text bytes ≡ true
    → string_entry (own ++ 32 ∷ (quoted bytes ++ 10 ∷ rest)) ≡ got (plain.Str own bytes) rest
string_entry_only own bytes rest named fits =
    ap (λ o. onward o named_string) (name_only own (quoted bytes ++ 10 ∷ rest) named)
    ∙ ap (λ o. onward o (behind_string own)) (texts_read.only bytes (10 ∷ rest) fits refl)
    ∙ ap (λ o. onward o (end_string own bytes)) (after_read (10 ∷ []) rest)

-- objects

abbrev end_head : Head → Unit {0} → Reader Head
end_head h u = gives h

abbrev behind_head : Head → Reader Head
behind_head h t = onward (after (codes " ") t) (end_head h)

object_head_found : (t : List ℕ) (h : Head) (rest : List ℕ) → object_head t ≡ got h rest → t ≡ head_front h (32 ∷ rest)
object_head_found t h rest e =
    step_found (t ≡ head_front h (32 ∷ rest)) (head t) behind_head h rest e
    (λ g t_1 is_1 m_1.
    step_found (t ≡ head_front h (32 ∷ rest)) (after (codes " ") t_1) (end_head g) h rest m_1
    (λ u t_2 is_2 m_2.
    let same : g ≡ h = cc m_2 in
    let left : t_2 ≡ rest = cc m_2 in
    head_found t g t_1 is_1 ∙ ap (head_front g) (after_found (codes " ") t_1 u t_2 is_2) ∙ ap₂ (λ g t. head_front g (32 ∷ t)) same left))

object_head_only : (h : Head) (more : List ℕ) → IsSmall h.limit → IsSmall h.capacity → IsSmall h.peak → object_head (head_front h (32 ∷ 91 ∷ more)) ≡ got h (91 ∷ more)
object_head_only h more limit capacity peak =
    ap (λ o. onward o behind_head) (head_only h more limit capacity peak) ∙ ap (λ o. onward o (end_head h)) (after_read (codes " ") (91 ∷ more))

abbrev end_object : List ℕ → Head → List PlainRow → Unit {0} → Reader Plain
end_object own h rows u = gives (object_of own h rows)

abbrev behind_rows : List ℕ → Head → List PlainRow → Reader Plain
behind_rows own h rows t = onward (after (10 ∷ []) t) (end_object own h rows)

abbrev headed_object : List ℕ → Head → Reader Plain
headed_object own h t = onward (listed h.def t) (behind_rows own h)

abbrev named_object : List ℕ → Reader Plain
named_object own t = onward (object_head t) (headed_object own)

-- the parts of an object's validity

pub record ObjectParts (def : TypeDef) (limit capacity peak : Option ℕ) (rows : List PlainRow) : Type 0 where
  pub limits : is_limit_of def limit ≡ true
  pub capacities : is_capacity_of def rows capacity ≡ true
  pub peaks : is_peak_of def limit rows peak ≡ true
  pub all : are_valid_rows def limit rows ≡ true

object_parts : (def : TypeDef) (limit capacity peak : Option ℕ) (rows : List PlainRow) → is_valid_object def limit capacity peak rows ≡ true
    → ObjectParts def limit capacity peak rows
object_parts def limit capacity peak rows h =
    let one = and_parts (is_type def) (is_limit_of def limit && (is_capacity_of def rows capacity && (is_peak_of def limit rows peak && are_valid_rows def limit rows))) h in
    let two = and_parts (is_limit_of def limit) (is_capacity_of def rows capacity && (is_peak_of def limit rows peak && are_valid_rows def limit rows)) one.1 in
    let three = and_parts (is_capacity_of def rows capacity) (is_peak_of def limit rows peak && are_valid_rows def limit rows) two.1 in
    let four = and_parts (is_peak_of def limit rows peak) (are_valid_rows def limit rows) three.1 in
    record { limits = two.0; capacities = three.0; peaks = four.0; all = four.1 }

content_of : (own : List ℕ) (h : Head) (rows : List PlainRow) (e : Plain) → object_of own h rows ≡ e → is_valid_content e ≡ true → is_valid_content (object_of own h rows) ≡ true
content_of own h rows e same valid = ap is_valid_content same ∙ valid

object_entry_found : (t : List ℕ) (e : Plain) (rest : List ℕ) → is_valid_content e ≡ true → object_entry t ≡ got e rest → codes "object " ++ t ≡ entry_text e ++ rest
object_entry_found t e rest valid f =
    step_found (codes "object " ++ t ≡ entry_text e ++ rest) (name t) named_object e rest f
    (λ own t_1 is_1 m_1.
    step_found (codes "object " ++ t ≡ entry_text e ++ rest) (object_head t_1) (headed_object own) e rest m_1
    (λ h t_2 is_2 m_2.
    step_found (codes "object " ++ t ≡ entry_text e ++ rest) (listed h.def t_2) (behind_rows own h) e rest m_2
    (λ rows t_3 is_3 m_3.
    step_found (codes "object " ++ t ≡ entry_text e ++ rest) (after (10 ∷ []) t_3) (end_object own h rows) e rest m_3
    (λ u t_4 is_4 m_4.
    let same : object_of own h rows ≡ e = cc m_4 in
    let left : t_4 ≡ rest = cc m_4 in
    let parts = object_parts h.def h.limit h.capacity h.peak rows (content_of own h rows e same valid) in
    ap (λ t. codes "object " ++ t) (name_found t own t_1 is_1
    ∙ ap (λ t. own ++ 32 ∷ t) (object_head_found t_1 h t_2 is_2
    ∙ ap (λ t. head_front h (32 ∷ t)) ((rows_read h.def h.limit rows parts.all).0 t_2 t_3 is_3 ∙ ap (λ t. rows_text h.def.kind rows ++ t) (after_found (10 ∷ []) t_3 u t_4 is_4))
    ∙ sym (object_front h.def h.limit h.capacity h.peak rows (10 ∷ t_4))))
    ∙ sym (line_front (codes "object") own (object_text h.def h.limit h.capacity h.peak rows) t_4) ∙ ap₂ (λ e t. entry_text e ++ t) same left))))

-- numbers of a valid object are small

given_small : (wanted : Bool) (o : Option ℕ) → is_given wanted (λ most. nat_le most GREATEST_LENGTH) o ≡ true → IsSmall o
given_small wanted None h = tt
given_small wanted (Some n) h = omega (arith, leb-true n GREATEST_LENGTH (and_parts wanted (nat_le n GREATEST_LENGTH) h).1)

any_below : (f : ℕ → ℕ) (c : ℕ) (ks : List ℕ) → list_all (λ k. nat_lt (f k) (2 ^ 64)) ks ≡ true → list_any (λ k. c == f k) ks ≡ true → c < 2 ^ 64
any_below f c [] all h = absurd (cc h)
any_below f c (k ∷ ks) all h =
    let parts = and_parts (nat_lt (f k) (2 ^ 64)) (list_all (λ k. nat_lt (f k) (2 ^ 64)) ks) all in
    by_test (c == f k) refl (any_below f c ks parts.1) (ltb-true (f k) (2 ^ 64) parts.0) h
  where
    by_test : (same : Bool) → (c == f k) ≡ same → (list_any (λ k. c == f k) ks ≡ true → c < 2 ^ 64) → f k < 2 ^ 64 → (same || list_any (λ k. c == f k) ks) ≡ true → c < 2 ^ 64
    by_test true is later below h = omega (arith, eqb-true c (f k) is, below)
    by_test false is later below h = later h

step_small : (c : ℕ) → is_step c ≡ true → c < 2 ^ 64
step_small c h = by_test (c == 0) refl h
  where
    by_test : (none : Bool) → (c == 0) ≡ none → (none || list_any (λ k. c == 8 * 2 ^ k) (range_with_len 0 18)) ≡ true → c < 2 ^ 64
    by_test true is h = omega (arith, eqb-true c 0 is)
    by_test false is h = any_below (λ k. 8 * 2 ^ k) c (range_with_len 0 18) refl h

capacity_small : (wanted : Bool) (len : ℕ) (o : Option ℕ) → is_given wanted (λ c. is_step c && nat_le len c) o ≡ true → IsSmall o
capacity_small wanted len None h = tt
capacity_small wanted len (Some c) h = step_small c (and_parts (is_step c) (nat_le len c) (and_parts wanted (is_step c && nat_le len c) h).1).0

most_small : (limit : Option ℕ) → IsSmall limit → unwrap_or limit GREATEST_LENGTH < 2 ^ 64
most_small None small = omega arith
most_small (Some n) small = small

peak_small : (wanted : Bool) (len most : ℕ) (o : Option ℕ) → most < 2 ^ 64 → is_given wanted (λ p. nat_le len p && nat_le p most) o ≡ true → IsSmall o
peak_small wanted len most None below h = tt
peak_small wanted len most (Some p) below h =
    omega (arith, below, leb-true p most (and_parts (nat_le len p) (nat_le p most) (and_parts wanted (nat_le len p && nat_le p most) h).1).1)

-- the list of rows begins with a bracket
rows_open : (kind : Kind) (rows : List PlainRow) (rest : List ℕ) → (more : List ℕ) × (rows_text kind rows ++ rest ≡ 91 ∷ more)
rows_open kinds.Tree rows rest = ((nodes_listing literal_text (map node_of rows) ++ codes "]") ++ rest, refl)
rows_open kinds.Vector rows rest = ((separated row_text rows ++ codes "]") ++ rest, refl)
rows_open kinds.List rows rest = ((separated row_text rows ++ codes "]") ++ rest, refl)
rows_open kinds.HashedMap rows rest = ((separated row_text rows ++ codes "]") ++ rest, refl)
rows_open kinds.OrderedMap rows rest = ((separated row_text rows ++ codes "]") ++ rest, refl)
rows_open kinds.HashedSet rows rest = ((separated row_text rows ++ codes "]") ++ rest, refl)
rows_open kinds.OrderedSet rows rest = ((separated row_text rows ++ codes "]") ++ rest, refl)
rows_open kinds.Holder rows rest = ((separated row_text rows ++ codes "]") ++ rest, refl)
rows_open kinds.Queue rows rest = ((separated row_text rows ++ codes "]") ++ rest, refl)
rows_open kinds.PriorityQueue rows rest = ((separated row_text rows ++ codes "]") ++ rest, refl)

object_entry_only : (own : List ℕ) (def : TypeDef) (limit capacity peak : Option ℕ) (rows : List PlainRow) (rest : List ℕ) → is_name own ≡ true
    → is_valid_object def limit capacity peak rows ≡ true
    → object_entry (own ++ 32 ∷ (object_text def limit capacity peak rows ++ 10 ∷ rest)) ≡ got (plain.Object own def limit capacity peak rows) rest
object_entry_only own def limit capacity peak rows rest named valid =
    let h = made_head def limit capacity peak in
    let parts = object_parts def limit capacity peak rows valid in
    let limits = given_small def.bounded limit parts.limits in
    let capacities = capacity_small (not def.bounded && has_capacity def.kind) (length rows) capacity parts.capacities in
    let peaks = peak_small (is_queue def.kind) (length rows) (unwrap_or limit GREATEST_LENGTH) peak (most_small limit limits) parts.peaks in
    let list = rows_text def.kind rows ++ 10 ∷ rest in
    let front = rows_open def.kind rows (10 ∷ rest) in
    ap (λ o. onward o named_object) (name_only own (object_text def limit capacity peak rows ++ 10 ∷ rest) named)
    ∙ ap (named_object own) (object_front def limit capacity peak rows (10 ∷ rest))
    ∙ ap (λ t. named_object own (head_front h (32 ∷ t))) front.1
    ∙ ap (λ o. onward o (headed_object own)) (object_head_only h front.0 limits capacities peaks)
    ∙ ap (headed_object own h) (sym front.1)
    ∙ ap (λ o. onward o (behind_rows own h)) ((rows_read def limit rows parts.all).1 (10 ∷ rest) refl)
    ∙ ap (λ o. onward o (end_object own h rows)) (after_read (10 ∷ []) rest)

-- entries

abbrev other_entry : Unit {0} → Reader Plain
other_entry u = object_entry

abbrev string_or_object : Reader Plain
string_or_object t = either (after (codes "string ") t) (λ _. string_entry) (λ t. onward (after (codes "object ") t) other_entry) t

entry_found : (t : List ℕ) (e : Plain) (rest : List ℕ) → is_valid_entry e ≡ true → entry t ≡ got e rest → t ≡ entry_text e ++ rest
unfolding entry
entry_found t e rest valid h =
    let content = (and_parts (is_name (name_of e)) (is_valid_content e) valid).1 in
    fork_found (t ≡ entry_text e ++ rest) (after (codes "integer ") t) (λ _. integer_entry) string_or_object t e rest h
    (λ u t_1 is m. after_found (codes "integer ") t u t_1 is ∙ integer_entry_found t_1 e rest m)
    (λ m.
    fork_found (t ≡ entry_text e ++ rest) (after (codes "string ") t) (λ _. string_entry) (λ t. onward (after (codes "object ") t) other_entry) t e rest m
    (λ u t_1 is m_1. after_found (codes "string ") t u t_1 is ∙ string_entry_found t_1 e rest m_1)
    (λ m_1.
    step_found (t ≡ entry_text e ++ rest) (after (codes "object ") t) other_entry e rest m_1
    (λ u t_1 is m_2. after_found (codes "object ") t u t_1 is ∙ object_entry_found t_1 e rest content m_2)))

entry_only : (e : Plain) (rest : List ℕ) → is_valid_entry e ≡ true → entry (entry_text e ++ rest) ≡ got e rest
unfolding entry
entry_only (plain.Int own z) rest valid =
    let parts = and_parts (is_name own) (is_integer z) valid in
    let t = own ++ 32 ∷ (signed_decimal z ++ 10 ∷ rest) in
    ap entry (line_front (codes "integer") own (signed_decimal z) rest)
    ∙ ap (λ o. either o (λ _. integer_entry) string_or_object (codes "integer " ++ t)) (after_read (codes "integer ") t)
    ∙ integer_entry_only own z rest parts.0 parts.1
entry_only (plain.Str own bytes) rest valid =
    let parts = and_parts (is_name own) (is_text bytes) valid in
    let t = own ++ 32 ∷ (quoted bytes ++ 10 ∷ rest) in
    ap entry (line_front (codes "string") own (quoted bytes) rest)
    ∙ ap (λ o. either o (λ _. string_entry) (λ t. onward (after (codes "object ") t) other_entry) (codes "string " ++ t)) (after_read (codes "string ") t)
    ∙ string_entry_only own bytes rest parts.0 parts.1
entry_only (plain.Object own def limit capacity peak rows) rest valid =
    let parts = and_parts (is_name own) (is_valid_object def limit capacity peak rows) valid in
    let t = own ++ 32 ∷ (object_text def limit capacity peak rows ++ 10 ∷ rest) in
    ap entry (line_front (codes "object") own (object_text def limit capacity peak rows) rest)
    ∙ ap (λ o. onward o other_entry) (after_read (codes "object ") t)
    ∙ object_entry_only own def limit capacity peak rows rest parts.0 parts.1

pub entries_read : ReadsEntries
entries_read = (entry_found, entry_only)

-- the line of a valid entry has its name
pub name_read : (t : List ℕ) (e : Plain) (rest : List ℕ) → is_valid_entry e ≡ true → entry t ≡ got e rest → name_in t ≡ name_of e
name_read t e rest valid h =
    ap name_in (entry_found t e rest valid h) ∙ entry_named e rest (and_parts (is_name (name_of e)) (is_valid_content e) valid).0
