-- The guards that are held on an object.
use Rattle.std.specs.Prelude.{◌≡◌, ℕ, ◌+◌, ◌-◌, Bool, true, false}
use Rattle.ac_base.specs.declared.guard.GuardKind.{GuardKind}
use Rattle.ac_base.specs.declared.guard.GuardKind.TheVariants as kind

-- an object's number, and how many guards of each kind are held on it
pub record GuardCounts : Type 0 where
  pub number : ℕ
  pub cursor_guards : ℕ
  pub element_guards : ℕ

-- how many guards of the kind are held
abbrev pub count_of : GuardKind → GuardCounts → ℕ
count_of kind.Cursors counts = counts.cursor_guards
count_of kind.Elements counts = counts.element_guards

-- one guard of the kind more
abbrev pub one_more : GuardKind → GuardCounts → GuardCounts
one_more kind.Cursors counts = record counts { cursor_guards = counts.cursor_guards + 1 }
one_more kind.Elements counts = record counts { element_guards = counts.element_guards + 1 }

-- one guard of the kind less
abbrev pub one_less : GuardKind → GuardCounts → GuardCounts
one_less kind.Cursors counts = record counts { cursor_guards = counts.cursor_guards - 1 }
one_less kind.Elements counts = record counts { element_guards = counts.element_guards - 1 }

-- the other kind has as many guards as before
abbrev pub OthersKept : GuardKind → GuardCounts → GuardCounts → Type 0
OthersKept kind.Cursors old new = new.element_guards ≡ old.element_guards
OthersKept kind.Elements old new = new.cursor_guards ≡ old.cursor_guards

-- the kind whose count rises when a guard of the kind is held: a set has cursor guards alone
abbrev pub raised_kind : Bool → GuardKind → GuardKind
raised_kind true held = kind.Cursors
raised_kind false held = held

-- a guard that is held: the number of its object, and the kind whose count it raised
pub record HeldGuard : Type 0 where
  pub object : ℕ
  pub kind : GuardKind
