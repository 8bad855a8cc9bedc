-- The key of a keyed text.
use Rattle.std.specs.Prelude.{ℕ, ◌==◌, List}
use Rattle.std.specs.List.{before_first}

-- the bytes before the first `=`, or all of them
abbrev pub key_of_text : List ℕ → List ℕ
key_of_text bytes = before_first (λ byte. byte == 61) bytes
