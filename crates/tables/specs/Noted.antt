-- How far the turn list has been looked at.
use Rattle.std.specs.Prelude.{◌≡◌, ℕ, ◌<◌, Bool, false, List, length, if◌then◌else◌, slice_index_or}
use Rattle.std.specs.List.{All}
use Rattle.tables.specs.Load.{times}

-- the automata that had a turn, a flag for each of n: each turn was one of them, none had two
pub record Noted (n : ℕ) (turns : List ℕ) (seen : List Bool) : Type 0 where
  pub long : length seen ≡ n
  pub known : All (λ a. a < n) turns
  pub flags : (a : ℕ) → a < n → times a turns ≡ (if slice_index_or seen a false then 1 else 0)
