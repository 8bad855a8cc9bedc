-- What a source gives and a sink takes, and what a count of faults says.
use Rattle.std.specs.Prelude.{◌≡◌, ◌+◌, ◌-◌, ◌^◌, ◌<◌, ◌≤◌, ℕ, min, List, [], ◌++◌, length, take, drop, Option, Some, IfSome}
use Rattle.ac_io.specs.declared.outside.Next.{Next}
use Rattle.ac_io.specs.declared.outside.Next.TheVariants.{Got, End}
use Rattle.ac_io.specs.declared.outside.Next.TheVariants as next
use Rattle.ac_io.specs.declared.outside.Put.{Put}
use Rattle.ac_io.specs.declared.outside.Put.TheVariants.{Took}
use Rattle.ac_io.specs.declared.outside.Put.TheVariants as put

-- the count rose in a call: it is greater after the call than before it, or stands at its end
abbrev pub Rose : ℕ → ℕ → Type 0
Rose before now = min (before + 1) (2 ^ 64 - 1) ≤ now

-- what one call of `next` does to the buffer and to what is left, by its answer
abbrev pub Gives : Next → List ℕ → Option (List ℕ) → Option (List ℕ) → Type 0
Gives (Got n) buffer before now =
    (0 < n) × (n ≤ length buffer) × IfSome before (λ bytes. (n ≤ length bytes) × (take n buffer ≡ take n bytes) × (now ≡ Some (drop n bytes)))
Gives End buffer before now = IfSome before (λ bytes. (bytes ≡ []) × (now ≡ Some []))
Gives next.Failed buffer before now = now ≡ before

-- what is held grew by exactly this text
abbrev pub GrewBy : Option (List ℕ) → Option (List ℕ) → List ℕ → Type 0
GrewBy before now text = IfSome before (λ held. now ≡ Some (held ++ text))

-- what one call of `put` does to what is held, by its answer
abbrev pub Takes : Put → List ℕ → Option (List ℕ) → Option (List ℕ) → Type 0
Takes (Took n) piece before now = (0 < n) × (n ≤ length piece) × GrewBy before now (take n piece)
Takes put.Failed piece before now = now ≡ before

-- a list is the beginning of another
pub record IsFront (front text : List ℕ) : Type 0 where
  pub rest : List ℕ
  pub whole : front ++ rest ≡ text

-- what is held grew by a front of this text
abbrev pub GrewByFront : Option (List ℕ) → Option (List ℕ) → List ℕ → Type 0
GrewByFront before now text = IfSome before (λ held. (front : List ℕ) × IsFront front text × (now ≡ Some (held ++ front)))

-- some of what was left is gone, from its front
abbrev pub Shrank : Option (List ℕ) → Option (List ℕ) → Type 0
Shrank before now = IfSome before (λ bytes. (gone : List ℕ) × (rest : List ℕ) × (gone ++ rest ≡ bytes) × (now ≡ Some rest))

-- where a sink has room for a piece, it takes some of it, and has room for what is left
abbrev pub TakesWithin : Put → List ℕ → Option ℕ → Option ℕ → Type 0
TakesWithin (Took n) piece before now = IfSome before (λ room. length piece ≤ room → now ≡ Some (room - n))
TakesWithin put.Failed piece before now = IfSome before (λ room. room < length piece)
