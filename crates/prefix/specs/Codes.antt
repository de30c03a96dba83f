-- What nodes stand for in every language: code 0 reads, code 1 is a constant, and the other codes, with argument 0, are the language's.
use Rattle.std.specs.Prelude.{ℕ, Bool, false, if◌then◌else◌, List, [], ◌∷◌, ℤ, pos, negsuc, Some, None, Option, ◌==◌}
use Rattle.tables.specs.declared.Node.{Node}
use Rattle.prefix.specs.declared.grammar.Head.{Head}
use Rattle.prefix.specs.declared.grammar.Head.TheVariants.{Read}

abbrev pub looked_up : {A : Type 0} → ℕ → List (ℕ × A) → Option A
looked_up code [] = None
looked_up code (row ∷ rows) = if code == row.0 then Some row.1 else looked_up code rows

-- a read of the place that the argument names
abbrev pub read_of : {U B : Type 0} → ℤ → Option (Head U B)
read_of (pos n) = Some (Read n)
read_of (negsuc n) = None

abbrev pub is_zero : ℤ → Bool
is_zero (pos n) = n == 0
is_zero (negsuc n) = false

-- `constant` says which arguments are constants, and `codes` what the codes other than 0 and 1 stand for
abbrev pub head_by : {U B : Type 0} → (ℤ → Option (Head U B)) → List (ℕ × Head U B) → Node → Option (Head U B)
head_by constant codes node =
    if node.code == 0 then read_of node.argument
    else (if node.code == 1 then constant node.argument
    else (if is_zero node.argument then looked_up node.code codes else None))
