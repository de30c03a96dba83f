-- Guards of exactly three nodes: comparison, read, constant.
use Rattle.std.specs.Prelude.{ℕ, List, [], ◌∷◌, ℤ, Some, None, Option}
use Rattle.tables.specs.declared.Node.{Node}
use Rattle.prefix.specs.declared.grammar.Order.{Order}
use Rattle.prefix.specs.declared.grammar.Head.{Head}
use Rattle.prefix.specs.declared.grammar.Head.TheVariants.{Read, Constant, Unary, Binary, Choose, Compare, Not, Join}
use Rattle.prefix.specs.declared.comparison.Comparison.{Comparison}

abbrev pub order_of : {U B : Type 0} → Option (Head U B) → Option Order
order_of None = None
order_of (Some (Read i)) = None
order_of (Some (Constant z)) = None
order_of (Some (Unary u)) = None
order_of (Some (Binary f)) = None
order_of (Some Choose) = None
order_of (Some (Compare o)) = Some o
order_of (Some Not) = None
order_of (Some (Join l)) = None

abbrev pub place_of : {U B : Type 0} → Option (Head U B) → Option ℕ
place_of None = None
place_of (Some (Read i)) = Some i
place_of (Some (Constant z)) = None
place_of (Some (Unary u)) = None
place_of (Some (Binary f)) = None
place_of (Some Choose) = None
place_of (Some (Compare o)) = None
place_of (Some Not) = None
place_of (Some (Join l)) = None

abbrev pub constant_of : {U B : Type 0} → Option (Head U B) → Option ℤ
constant_of None = None
constant_of (Some (Read i)) = None
constant_of (Some (Constant z)) = Some z
constant_of (Some (Unary u)) = None
constant_of (Some (Binary f)) = None
constant_of (Some Choose) = None
constant_of (Some (Compare o)) = None
constant_of (Some Not) = None
constant_of (Some (Join l)) = None

abbrev pub compared_by : Option Order → Option ℕ → Option ℤ → Option Comparison
compared_by None i z = None
compared_by (Some o) None z = None
compared_by (Some o) (Some i) None = None
compared_by (Some o) (Some i) (Some z) = Some (record { order = o; place = i; constant = z })

-- the comparison that such a guard makes; none for any other list of nodes
abbrev pub simple : {U B : Type 0} → (Node → Option (Head U B)) → List Node → Option Comparison
simple grammar [] = None
simple grammar (a ∷ []) = None
simple grammar (a ∷ (b ∷ [])) = None
simple grammar (a ∷ (b ∷ (c ∷ []))) = compared_by (order_of (grammar a)) (place_of (grammar b)) (constant_of (grammar c))
simple grammar (a ∷ (b ∷ (c ∷ (d ∷ ns)))) = None
