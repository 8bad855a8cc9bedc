-- The sources and sinks in memory: which calls fail, and what every call gives or takes.
use Rattle.std.specs.Prelude.{◌==◌, ◌+◌, ◌-◌, ◌^◌, ℕ, nat_eq, min, Bool, List, Option, Some, None, ◌++◌, length, take, drop, if◌then◌else◌}
use Rattle.std.specs.List.{list_any}
use Rattle.ac_io.specs.declared.outside.Next.{Next}
use Rattle.ac_io.specs.declared.outside.Next.TheVariants.{Got, End}
use Rattle.ac_io.specs.declared.outside.Next.TheVariants as next
use Rattle.ac_io.specs.declared.outside.Put.{Put}
use Rattle.ac_io.specs.declared.outside.Put.TheVariants.{Took}
use Rattle.ac_io.specs.declared.outside.Put.TheVariants as put

-- one more, but a count stands still at its end
abbrev pub counted : ℕ → ℕ
counted n = min (n + 1) (2 ^ 64 - 1)

-- a source in memory: the bytes still to come, how many a call gives at most, the numbers of the calls that fail, how many calls there were, and how many failed
pub record Supply : Type 0 where
  pub left : List ℕ
  pub piece : ℕ
  pub fails : List ℕ
  pub calls : ℕ
  pub faults : ℕ

-- the next call is among those that fail
abbrev pub is_listed : List ℕ → ℕ → Bool
is_listed fails calls = list_any (nat_eq (counted calls)) fails

-- no call fails
abbrev pub is_unfailing : List ℕ → Bool
is_unfailing fails = length fails == 0

-- what the next call answers, for a buffer with this room
abbrev pub next_answer : Supply → ℕ → Next
next_answer s room =
    if is_listed s.fails s.calls then next.Failed
    else if length s.left == 0 then End
    else Got (min s.piece (min room (length s.left)))

-- how many bytes an answer moves
abbrev pub moved : Next → ℕ
moved (Got n) = n
moved End = 0
moved next.Failed = 0

-- the count of faults after an answer
abbrev pub faults_after_next : Next → ℕ → ℕ
faults_after_next (Got n) faults = faults
faults_after_next End faults = faults
faults_after_next next.Failed faults = counted faults

-- the source after an answer
abbrev pub after_next : Supply → Next → Supply
after_next s answer = record {
  left = drop (moved answer) s.left;
  piece = s.piece;
  fails = s.fails;
  calls = counted s.calls;
  faults = faults_after_next answer s.faults;
}

-- the buffer after an answer
abbrev pub filled : Supply → Next → List ℕ → List ℕ
filled s answer buffer = take (moved answer) s.left ++ drop (moved answer) buffer

-- a sink in memory: the bytes taken so far, how many it has room for, how many a call takes at most, the numbers of the calls that fail, how many calls there were, and how many failed
pub record Store : Type 0 where
  pub held : List ℕ
  pub room : ℕ
  pub piece : ℕ
  pub fails : List ℕ
  pub calls : ℕ
  pub faults : ℕ

-- how many bytes the sink takes before a call fails, where none is told to fail
abbrev pub room_of : Store → Option ℕ
room_of s = if is_unfailing s.fails then Some (s.room - length s.held) else None

-- what the next call answers, for a piece of this length
abbrev pub put_answer : Store → ℕ → Put
put_answer s len =
    if is_listed s.fails s.calls then put.Failed
    else if length s.held == s.room then put.Failed
    else Took (min s.piece (min len (s.room - length s.held)))

-- how many bytes an answer takes
abbrev pub taken : Put → ℕ
taken (Took n) = n
taken put.Failed = 0

-- the count of faults after an answer
abbrev pub faults_after_put : Put → ℕ → ℕ
faults_after_put (Took n) faults = faults
faults_after_put put.Failed faults = counted faults

-- the sink after an answer to this piece
abbrev pub after_put : Store → Put → List ℕ → Store
after_put s answer bytes = record {
  held = s.held ++ take (taken answer) bytes;
  room = s.room;
  piece = s.piece;
  fails = s.fails;
  calls = counted s.calls;
  faults = faults_after_put answer s.faults;
}

-- a sink in memory that grows: the bytes taken so far, and how many calls failed
pub record Growth : Type 0 where
  pub held : List ℕ
  pub faults : ℕ

-- the sink after an answer to this piece
abbrev pub after_growth : Growth → Put → List ℕ → Growth
after_growth s answer bytes = record {
  held = s.held ++ take (taken answer) bytes;
  faults = faults_after_put answer s.faults;
}
