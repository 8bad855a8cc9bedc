-- Reading a string byte by byte, against the string's end behind each byte.
use Rattle.std.proofs.Common.{◌≡◌, ◌+◌, ◌<◌, ◌≤◌, ℕ, suc, Bool, true, false, not, ◌&&◌, List, [], ◌∷◌, ◌++◌, refl, sym, ap, ◌∙◌, drop, length, Option, Some, None, arith, get_or}
use Rattle.std.specs.Option.{option_map}
use Rattle.std.proofs.lemmas.List.{append_assoc, append-nil}
use Rattle.std.proofs.Math.Seq.{drop-cons}
use Rattle.std.proofs.Math.ListN.{drop_of_length-le}
use Rattle.ac_syntax.specs.Characters.{is_quote}
use Rattle.ac_syntax.specs.Tokens.{Ending, with_byte, string_from, string_step, string_piece, token_of}
use Rattle.ac_syntax.specs.declared.token.Token.TheVariants as token
use Rattle.ac_syntax.specs.declared.piece.Piece.{Piece}
use Rattle.ac_script.specs.declared.piece.StringByte.{StringByte}
use Rattle.ac_script.specs.declared.piece.StringByte.TheVariants.{Keeps, Quotes, Ends, Malformed}
use Rattle.ac_script.specs.StringBytes.{by_byte}

abbrev ending : List ℕ → ℕ → Ending
ending value len = record { value = value; len = len }

-- a string's end, behind so many bytes that stand for these
abbrev behind : List ℕ → ℕ → Option Ending → Option Ending
behind value len end = option_map (λ e. ending (value ++ e.value) (len + e.len)) end

pub record IsRead (text value : List ℕ) (len : ℕ) (after_quote : Bool) : Type 0 where
  pub told : behind value len (string_from after_quote (drop len text)) ≡ string_from false text

pub read_none : (text : List ℕ) → IsRead text [] 0 false
read_none text = record { told = same (string_from false text) }
  where
    same : (end : Option Ending) → behind [] 0 end ≡ end
    same None = refl
    same (Some e) = let zero : 0 + e.len ≡ e.len = omega arith in λ i. Some (ending e.value (zero i))

from_cons : (after_quote : Bool) (b : ℕ) (rest : List ℕ) → string_from after_quote (b ∷ rest) ≡ string_step after_quote b (string_from (not after_quote && is_quote b) rest)
from_cons true b rest = refl
from_cons false b rest = refl

behind_byte : (value bytes : List ℕ) (len : ℕ) (end : Option Ending) → behind value len (with_byte bytes end) ≡ behind (value ++ bytes) (len + 1) end
behind_byte value bytes len None = refl
behind_byte value bytes len (Some e) = λ i. Some (ending (same_value i) (same_len i))
  where
    same_value : value ++ (bytes ++ e.value) ≡ (value ++ bytes) ++ e.value
    same_value = sym (append_assoc value bytes e.value)

    same_len : len + (1 + e.len) ≡ (len + 1) + e.len
    same_len = omega arith

here : (text value : List ℕ) (len : ℕ) (after_quote : Bool) → len < length text → IsRead text value len after_quote
    → behind value len (string_step after_quote (get_or text len 0) (string_from (not after_quote && is_quote (get_or text len 0)) (drop (suc len) text))) ≡ string_from false text
here text value len after_quote h read =
    ap (behind value len) (sym (from_cons after_quote (get_or text len 0) (drop (suc len) text)) ∙ ap (string_from after_quote) (sym (drop-cons text len 0 h))) ∙ read.told

next : (text : List ℕ) (len : ℕ) → drop (suc len) text ≡ drop (len + 1) text
next text len = let e : suc len ≡ len + 1 = omega arith in ap (λ n. drop n text) e

more : (text value bytes : List ℕ) (len : ℕ) (after_quote : Bool) (step : StringByte) → len < length text → IsRead text value len after_quote
    → ((e : Option Ending) → string_step after_quote (get_or text len 0) e ≡ by_byte step (get_or text len 0) e)
    → ((e : Option Ending) → by_byte step (get_or text len 0) e ≡ with_byte bytes e)
    → IsRead text (value ++ bytes) (len + 1) (not after_quote && is_quote (get_or text len 0))
more text value bytes len after_quote step h read is does =
    let rest = string_from (not after_quote && is_quote (get_or text len 0)) (drop (suc len) text) in
    record {
      told =
          ap (λ t. behind (value ++ bytes) (len + 1) (string_from (not after_quote && is_quote (get_or text len 0)) t)) (sym (next text len))
          ∙ sym (behind_byte value bytes len rest) ∙ ap (behind value len) (sym (does rest) ∙ sym (is rest)) ∙ here text value len after_quote h read;
    }

pub kept : (text value items : List ℕ) (len : ℕ) (after_quote again : Bool) (step : StringByte) → len < length text → IsRead text value len after_quote
    → ((e : Option Ending) → string_step after_quote (get_or text len 0) e ≡ by_byte step (get_or text len 0) e) → step ≡ Keeps
    → items ≡ value ++ get_or text len 0 ∷ [] → again ≡ (not after_quote && is_quote (get_or text len 0)) → IsRead text items (len + 1) again
kept text value items len after_quote again step h read is e push f =
    rw (push, f) (more text value (get_or text len 0 ∷ []) len after_quote step h read is (λ end. ap (λ s. by_byte s (get_or text len 0) end) e))

pub quoted : (text value items : List ℕ) (len : ℕ) (after_quote again : Bool) (step : StringByte) → len < length text → IsRead text value len after_quote
    → ((e : Option Ending) → string_step after_quote (get_or text len 0) e ≡ by_byte step (get_or text len 0) e) → step ≡ Quotes
    → items ≡ value → again ≡ (not after_quote && is_quote (get_or text len 0)) → IsRead text items (len + 1) again
quoted text value items len after_quote again step h read is e same f =
    rw (same ∙ sym (append-nil value), f) (more text value [] len after_quote step h read is (λ end. ap (λ s. by_byte s (get_or text len 0) end) e))

abbrev piece_of : Option Ending → Option Piece
piece_of end = option_map (λ e. record { len = 1 + e.len; token = Some (token.Text e.value) }) end

whole : (value : List ℕ) (len : ℕ) → piece_of (behind value len (Some (ending [] 0))) ≡ token_of (1 + len) (token.Text value)
whole value len = λ i. Some (record { len = 1 + same_len i; token = Some (token.Text (same_value i)) })
  where
    same_value : value ++ [] ≡ value
    same_value = append-nil value

    same_len : len + 0 ≡ len
    same_len = omega arith

pub ended : (text value : List ℕ) (len : ℕ) (after_quote : Bool) (step : StringByte) → len < length text → IsRead text value len after_quote
    → ((e : Option Ending) → string_step after_quote (get_or text len 0) e ≡ by_byte step (get_or text len 0) e) → step ≡ Ends
    → token_of (1 + len) (token.Text value) ≡ string_piece text
ended text value len after_quote step h read is e =
    let rest = string_from (not after_quote && is_quote (get_or text len 0)) (drop (suc len) text) in
    sym (whole value len) ∙ ap piece_of (ap (behind value len) (sym (is rest ∙ ap (λ s. by_byte s (get_or text len 0) rest) e)) ∙ here text value len after_quote h read)

pub malformed : (text value : List ℕ) (len : ℕ) (after_quote : Bool) (step : StringByte) → len < length text → IsRead text value len after_quote
    → ((e : Option Ending) → string_step after_quote (get_or text len 0) e ≡ by_byte step (get_or text len 0) e) → step ≡ Malformed
    → None ≡ string_piece text
malformed text value len after_quote step h read is e =
    let rest = string_from (not after_quote && is_quote (get_or text len 0)) (drop (suc len) text) in
    ap piece_of (ap (behind value len) (sym (is rest ∙ ap (λ s. by_byte s (get_or text len 0) rest) e)) ∙ here text value len after_quote h read)

abbrev pub piece_behind : List ℕ → ℕ → Option Ending → Option Piece
piece_behind value len end = piece_of (behind value len end)

at_end : (text value : List ℕ) (len : ℕ) (after_quote : Bool) → length text ≤ len → IsRead text value len after_quote → piece_behind value len (string_from after_quote []) ≡ string_piece text
at_end text value len after_quote h read = ap (λ t. piece_of (behind value len (string_from after_quote t))) (sym (drop_of_length-le text h)) ∙ ap piece_of read.told

pub closed : (text value : List ℕ) (len : ℕ) (after_quote : Bool) → length text ≤ len → len ≤ length text → IsRead text value len after_quote → after_quote ≡ true → token_of (1 + length text) (token.Text value) ≡ string_piece text
closed text value len after_quote h k read e =
    let same : length text ≡ len = omega arith in
    ap (λ n. token_of (1 + n) (token.Text value)) same ∙ sym (whole value len) ∙ ap (λ q. piece_behind value len (string_from q [])) (sym e) ∙ at_end text value len after_quote h read

pub unclosed : (text value : List ℕ) (len : ℕ) (after_quote : Bool) → length text ≤ len → IsRead text value len after_quote → after_quote ≡ false → None ≡ string_piece text
unclosed text value len after_quote h read e = ap (λ q. piece_behind value len (string_from q [])) (sym e) ∙ at_end text value len after_quote h read
