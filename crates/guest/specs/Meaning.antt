-- What a guest means: the answer to every question, fixed by what is asked alone.
use Rattle.std.specs.Prelude.{◌≡◌, Bool, true, List, [], ◌∷◌, ℤ, Ok, Err, Option, Result}
use Rattle.tables.specs.declared.Node.{Node}
use Rattle.guest.specs.declared.answers.Reason.{Reason}
use Rattle.guest.specs.declared.answers.NarrowRefusal.{NarrowRefusal}
use Rattle.guest.specs.declared.answers.NarrowRefusal.TheVariants.{NoGuard, Never}

-- what a guard makes of a row of types: the row after a yes, or none, because it is no guard or because it is never yes
pub data Cut (Ty : Type 0) : Type 0 where
  narrowed : List Ty → Cut Ty
  no_guard : Cut Ty
  never : Cut Ty

abbrev pub told : {Ty : Type 0} → Cut Ty → Result (Unit {0}) NarrowRefusal
told (narrowed types) = Ok tt
told no_guard = Err NoGuard
told never = Err Never

abbrev pub left : {Ty : Type 0} → Cut Ty → List Ty → List Ty
left (narrowed after) types = after
left no_guard types = types
left never types = types

-- the narrowing call, lent this row, gives this answer and leaves that row
pub record Leaves {Ty : Type 0} (cut : Cut Ty) (types : List Ty) (answer : Result (Unit {0}) NarrowRefusal) (after : List Ty) : Type 0 where
  pub answers : answer ≡ told cut
  pub leaves : after ≡ left cut types

pub record Meaning (Ty Va : Type 0) : Type 0 where
  -- the type that two codes name, if they name one
  pub make : ℤ → ℤ → Option Ty
  -- the value that a code stands for under a type, if it is readable
  pub decode : Ty → ℤ → Option Va
  pub encode : Va → ℤ
  pub rest : Ty → Va
  pub holds : Ty → Va → Bool
  -- whether the first lies within the second
  pub within : Ty → Ty → Bool
  -- a right side's type under a row of types
  pub typed : List Node → List Ty → Option Ty
  -- a right side's value, and a guard's yes or no, on a row of values
  pub value : List Node → List Va → Result Va Reason
  pub verdict : List Node → List Va → Result Bool Reason
  pub narrow : List Node → List Ty → Cut Ty

-- each value is held by the type at its place, and there are as many of both
abbrev pub Fit : {Ty Va : Type 0} → Meaning Ty Va → List Ty → List Va → Type 0
Fit m [] [] = Unit {0}
Fit m [] (v ∷ row) = ⊥
Fit m (t ∷ types) [] = ⊥
Fit m (t ∷ types) (v ∷ row) = (m.holds t v ≡ true) × Fit m types row
