-- A statement for each case of an index.
use Rattle.std.proofs.Common.{Bool, true, false, Option, Some, None, ◌⊎◌, inl, inr}

pub either_by : {A B : Type 0} (P : A ⊎ B → Type 0) → ((a : A) → P (inl a)) → ((b : B) → P (inr b)) → (x : A ⊎ B) → P x
either_by P f g (inl a) = f a
either_by P f g (inr b) = g b

pub pair_by : {A B : Type 0} (P : A × B → Type 0) → ((a : A) (b : B) → P (a, b)) → (x : A × B) → P x
pair_by P f x = f x.0 x.1

pub bool_by : (P : Bool → Type 0) → P true → P false → (b : Bool) → P b
bool_by P x y true = x
bool_by P x y false = y

pub option_by : {A : Type 0} (P : Option A → Type 0) → P None → ((a : A) → P (Some a)) → (o : Option A) → P o
option_by P x f None = x
option_by P x f (Some a) = f a
