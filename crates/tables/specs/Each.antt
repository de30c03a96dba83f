-- What a closure answers that judges one item by its number.
use Rattle.std.specs.Prelude.{◌≡◌, ℕ, ◌^◌, ◌<◌}
use Rattle.std.specs.Fn.{Shared, AnyResult}
use Rattle.tables.specs.Load.{Verdict}

-- each call of the closure answers what f says of the item and its number
pub record Follows {F X : Type 0} (g : Shared F (ℕ × (X × Unit {0})) Verdict) (judge : F) (f : ℕ → X → Verdict) : Type 0 where
  pub answers : (k : ℕ) (x : X) → k < 2 ^ 64 → AnyResult g judge (k, (x, tt)) (λ r. r ≡ f k x)
