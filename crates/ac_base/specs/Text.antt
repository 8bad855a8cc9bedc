-- The texts: at most 1,000 printable bytes.
use Rattle.std.specs.Prelude.{ℕ, ◌≤◌, ◌+◌, Bool, ◌&&◌, nat_le, nat_lt, if◌then◌else◌, List, length, All, Option, Some, None}
use Rattle.std.specs.List.{prefix_len}

abbrev pub IsPrintable : ℕ → Type 0
IsPrintable byte = (32 ≤ byte) × (byte ≤ 126)

pub record IsText (bytes : List ℕ) : Type 0 where
  pub within : length bytes ≤ 1000
  pub printable : All IsPrintable bytes

abbrev pub is_printable : ℕ → Bool
is_printable byte = nat_le 32 byte && nat_le byte 126

-- the place of the first byte that isn't printable, counted from 1
abbrev pub first_bad_place : List ℕ → Option ℕ
first_bad_place bytes =
    let good = prefix_len is_printable bytes in
    if nat_lt good (length bytes) then Some (good + 1) else None
