-- Which values an expression reads. The bench knows it of every guest: they are the arguments of its nodes of code 0.
use Rattle.std.specs.Prelude.{◌≡◌, ℕ, if◌then◌else◌, ◌⊎◌, List, [], ◌∷◌, ◌++◌, ℤ, pos, negsuc, ◌==◌}
use Rattle.std.specs.List.{slice_get}
use Rattle.tables.specs.declared.Node.{Node}

-- x is one of these
abbrev pub Among : {A : Type 0} → A → List A → Type 0
Among x [] = ⊥
Among x (y ∷ ys) = (x ≡ y) ⊎ Among x ys

-- the place that an argument names; a negative one names none
abbrev pub named : ℤ → List ℕ
named (pos n) = n ∷ []
named (negsuc n) = []

abbrev pub read_by : Node → List ℕ
read_by node = if node.code == 0 then named node.argument else []

abbrev pub reads : List Node → List ℕ
reads [] = []
reads (node ∷ nodes) = read_by node ++ reads nodes

-- two rows have the same at each of these places, or both nothing
abbrev pub Alike : {A : Type 0} → List ℕ → List A → List A → Type 0
Alike places r s = (x : ℕ) → Among x places → slice_get r x ≡ slice_get s x
