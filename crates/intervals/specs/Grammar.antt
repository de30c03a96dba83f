-- What the codes of nodes stand for.
use Rattle.std.specs.Prelude.{ℕ, List, [], ◌∷◌, ℤ, Some, Option}
use Rattle.tables.specs.declared.Node.{Node}
use Rattle.prefix.specs.declared.grammar.Head.{Head}
use Rattle.prefix.specs.declared.grammar.Head.TheVariants.{Constant, Unary, Binary, Choose, Compare, Not, Join}
use Rattle.prefix.specs.declared.grammar.Order.TheVariants.{Equal, NotEqual, Less, LessOrEqual, Greater, GreaterOrEqual}
use Rattle.prefix.specs.declared.grammar.Link.TheVariants.{And, Or}
use Rattle.prefix.specs.Codes.{head_by}
use Rattle.intervals.specs.declared.operations.Byte.{Byte}
use Rattle.intervals.specs.declared.operations.Arithmetic.{Arithmetic}
use Rattle.intervals.specs.declared.operations.Arithmetic.TheVariants.{Add, Subtract, Multiply, Divide}

abbrev pub byte : Byte
byte = record {}

-- the codes other than 0 and 1
abbrev pub codes : List (ℕ × Head Byte Arithmetic)
codes =
    (2, Binary Add) ∷ (3, Binary Subtract) ∷ (4, Binary Multiply) ∷ (5, Binary Divide)
    ∷ (8, Choose) ∷ (9, Unary byte)
    ∷ (16, Compare Equal) ∷ (17, Compare NotEqual) ∷ (18, Compare Less) ∷ (19, Compare LessOrEqual) ∷ (20, Compare Greater) ∷ (21, Compare GreaterOrEqual)
    ∷ (22, Not) ∷ (23, Join And) ∷ (24, Join Or)
    ∷ []

abbrev pub constant : ℤ → Option (Head Byte Arithmetic)
constant z = Some (Constant z)

abbrev pub head : Node → Option (Head Byte Arithmetic)
head node = head_by constant codes node
