-- Expressions as trees. U and B are the operations on one number and on two that a language has.
use Rattle.std.specs.Prelude.{ℕ, ℤ}
use Rattle.prefix.specs.declared.grammar.Order.{Order}
use Rattle.prefix.specs.declared.grammar.Link.{Link}

mutual
  pub data Number (U B : Type 0) : Type 0 where
    read : ℕ → Number U B
    constant : ℤ → Number U B
    unary : U → Number U B → Number U B
    binary : B → Number U B → Number U B → Number U B
    choose : Truth U B → Number U B → Number U B → Number U B

  pub data Truth (U B : Type 0) : Type 0 where
    compare : Order → Number U B → Number U B → Truth U B
    not : Truth U B → Truth U B
    join : Link → Truth U B → Truth U B → Truth U B
