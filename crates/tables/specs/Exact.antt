-- A verdict that is fine exactly where a fact holds.
use Rattle.std.specs.Prelude.{◌≡◌, Ok}
use Rattle.tables.specs.Load.{Verdict}

abbrev pub Exactly : Verdict → Type 0 → Type 0
Exactly r P = (r ≡ Ok tt → P) × (P → r ≡ Ok tt)
