-- Keys that were seen.
use Rattle.std.specs.Prelude.{ℕ, ◌==◌, ◌&&◌, ◌+◌, ◌*◌, ◌%◌, ◌^◌, Bool, not, nat_le, List}
use Rattle.std.specs.List.{fold, list_any}
use Rattle.std.specs.Str.{bytes_eq}
use denote.Bor.{Bor}
use Rattle.ac_rules.specs.declared.limits.TheConstants.{MOST_ROOM}
use Rattle.ac_calls.specs.declared.plains.Plain.{Plain}
use Rattle.ac_snapshot.specs.Validity.{is_valid_entry, room_in}

-- bytes as digits in base 257, modulo 2 ^ 64
abbrev pub number_of : List ℕ → ℕ
number_of bytes = fold (λ n b. ((n * 257) % 2 ^ 64 + b) % 2 ^ 64) 0 bytes

-- bytes behind their number
abbrev pub Numbered : Type 0
Numbered = ℕ × Bor (List ℕ)

-- whether these bytes are among those that were seen
abbrev pub has_text : List Numbered → List ℕ → Bool
has_text seen own = list_any (λ k. (number_of own == k.0) && bytes_eq own k.1.now) seen

-- whether an entry of this name is valid behind others, of whose names and limits this is known
abbrev pub fits_among : (names : List Numbered) → (room : ℕ) → (name : List ℕ) → Plain → Bool
fits_among names room name e = is_valid_entry e && (nat_le (room + room_in e) MOST_ROOM && not (has_text names name))
