-- One turn of the loop that cuts a text into tokens.
use Rattle.std.proofs.Common.{◌≡◌, ◌+◌, ◌-◌, ◌<◌, ◌≤◌, ℕ, zero, suc, List, [], ◌∷◌, ◌++◌, refl, sym, ap, ◌∙◌, drop, length, get_or, Option, Some, None, Result, Ok, Err, IfOk, IfSome, arith, append_assoc, Bool, true, false, cond}
use Rattle.std.proofs.lemmas.Option.{none-some}
use Rattle.std.proofs.lemmas.List.{append-nil}
use Rattle.ac_base.specs.declared.fault.NoMemory.{NoMemory}
use Rattle.ac_syntax.specs.declared.piece.Piece.{Piece}
use Rattle.ac_syntax.specs.declared.token.Placed.{Placed}
use Rattle.ac_syntax.specs.Characters.{is_line_feed}
use Rattle.ac_syntax.specs.Tokens.{Cut, front_piece, piece_at, with_piece, cut_from, cut_of, placed_at, line_after}
use Rattle.ac_syntax.proofs.Pieces.{plain_piece, skip_plain}

-- a piece has a byte and is within the text
pub front_some : (text : List ℕ) (piece : Piece) → front_piece text ≡ Some piece → (0 < piece.len) × (piece.len ≤ length text)
front_some [] piece e = absurd (none-some piece e)
front_some (b ∷ rest) piece e = let plain = plain_piece b rest piece e in (plain.some, omega (arith, plain.within))

some_of : (o : Option Piece) (text : List ℕ) → o ≡ front_piece text → IfSome o (λ piece. 0 < piece.len)
some_of None text e = tt
some_of (Some piece) text e = (front_some text piece (sym e)).0

within_of : (o : Option Piece) (text : List ℕ) → o ≡ front_piece text → IfSome o (λ piece. piece.len ≤ length text)
within_of None text e = tt
within_of (Some piece) text e = (front_some text piece (sym e)).1

pub given_some : (r : Result (Option Piece) NoMemory) (text : List ℕ) → IfOk r (λ piece. piece ≡ front_piece text) → IfOk r (λ piece. IfSome piece (λ p. 0 < p.len))
given_some (Ok o) text e = some_of o text e
given_some (Err _) text e = tt

pub given_within : (r : Result (Option Piece) NoMemory) (text : List ℕ) → IfOk r (λ piece. piece ≡ front_piece text) → IfOk r (λ piece. IfSome piece (λ p. p.len ≤ length text))
given_within (Ok o) text e = within_of o text e
given_within (Err _) text e = tt

-- tokens, and then a cut
abbrev with_front : List Placed → Cut → Cut
with_front front cut = record { placed = front ++ cut.placed; malformed = cut.malformed }

-- the tokens so far, with the cut of what is left, are the whole cut
abbrev pub IsCutting : List Placed → ℕ → List ℕ → List ℕ → Type 0
IsCutting done line rest text = with_front done (cut_from 0 line rest) ≡ cut_of text

drop_first : {X : Type 0} (n : ℕ) (x : X) (xs : List X) → 0 < n → drop n (x ∷ xs) ≡ drop (n - 1) xs
drop_first zero x xs some = absurd (omega arith)
drop_first (suc n) x xs some = let less : suc n - 1 ≡ n = omega arith in rw less refl

front_step : (line : ℕ) (b : ℕ) (rest : List ℕ) (piece : Piece) → piece_at b rest ≡ Some piece
    → cut_from 0 line (b ∷ rest) ≡ with_front (placed_at line piece.token) (cut_from 0 (line_after line b) (drop piece.len (b ∷ rest)))
front_step line b rest piece e =
    let plain = plain_piece b rest piece e in
    ap (λ (o : Option Piece). with_piece o line (λ skip. cut_from skip (line_after line b) rest)) e
    ∙ ap (with_front (placed_at line piece.token)) (skip_plain (piece.len - 1) (line_after line b) rest plain.plain ∙ ap (cut_from 0 (line_after line b)) (sym (drop_first piece.len b rest plain.some)))

line_by : (t : Bool) (line : ℕ) → cond t (line + 1) line ≤ line + 1
line_by true line = omega arith
line_by false line = omega arith

pub line_small : (line : ℕ) (b : ℕ) → line_after line b ≤ line + 1
line_small line b = line_by (is_line_feed b) line

pub more_tokens : (done new : List Placed) (line : ℕ) (rest text : List ℕ) (piece : Piece) → front_piece rest ≡ Some piece → new ≡ done ++ placed_at line piece.token
    → IsCutting done line rest text → IsCutting new (line_after line (get_or rest 0 0)) (drop piece.len rest) text
more_tokens done new line [] text piece e is cutting = absurd (none-some piece e)
more_tokens done new line (b ∷ rest) text piece e is cutting =
    let after = cut_from 0 (line_after line b) (drop piece.len (b ∷ rest)) in
    ap (λ begun. with_front begun after) is ∙ (λ i. record { placed = append_assoc done (placed_at line piece.token) after.placed i; malformed = after.malformed })
    ∙ ap (with_front done) (sym (front_step line b rest piece e)) ∙ cutting

pub all_cut : (done : List Placed) (line : ℕ) (rest text : List ℕ) → length rest ≤ 0 → IsCutting done line rest text → (done ≡ (cut_of text).placed) × (None ≡ (cut_of text).malformed)
all_cut done line [] text h cutting = (sym (append-nil done) ∙ ap (λ (c : Cut). c.placed) cutting, ap (λ (c : Cut). c.malformed) cutting)
all_cut done line (b ∷ rest) text h cutting = absurd (omega arith)

pub stopped : (done : List Placed) (line : ℕ) (rest text : List ℕ) → 0 < length rest → None ≡ front_piece rest → IsCutting done line rest text → (done ≡ (cut_of text).placed) × (Some line ≡ (cut_of text).malformed)
stopped done line [] text h e cutting = absurd (omega arith)
stopped done line (b ∷ rest) text h e cutting =
    let is = ap (with_front done) (ap (λ (o : Option Piece). with_piece o line (λ skip. cut_from skip (line_after line b) rest)) e) ∙ cutting in
    (sym (append-nil done) ∙ ap (λ (c : Cut). c.placed) is, ap (λ (c : Cut). c.malformed) is)
