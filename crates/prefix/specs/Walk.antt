-- What the walk over the nodes says of those before a step and those after it. Its parts are private; a pass as a whole is
-- said in Pass.
use Rattle.std.specs.Prelude.{◌≡◌, ℕ, ◌<◌, ◌≤◌, List, [], ◌∷◌, length, drop, Some, None, Option}
use Rattle.tables.specs.declared.Node.{Node}
use Rattle.prefix.specs.declared.grammar.Head.{Head}
use Rattle.prefix.specs.declared.grammar.Head.TheVariants.{Read, Constant, Unary, Binary, Choose, Compare, Not, Join}
use Rattle.prefix.specs.declared.walk.Walk.{Walk}
use Rattle.prefix.specs.Parse.{heads, parse_number, parse_truth}
use Rattle.prefix.specs.Pass.{Algebra, of_number, of_truth}

-- what was read, as f sees it
abbrev pub seen : {H X Y : Type 0} → (X → Y) → Option (X × List H) → Option (Y × List H)
seen f None = None
seen f (Some p) = Some (f p.0, p.1)

-- what the first number, or truth, gives, and what is left
abbrev pub numbers : {U B E X Y : Type 0} → Algebra U B E X Y → List E → ℕ → List (Option (Head U B)) → Option (X × List (Option (Head U B)))
numbers A row k hs = seen (of_number A row) (parse_number k hs)

abbrev pub truths : {U B E X Y : Type 0} → Algebra U B E X Y → List E → ℕ → List (Option (Head U B)) → Option (Y × List (Option (Head U B)))
truths A row k hs = seen (of_truth A row) (parse_truth k hs)

-- what was found, and what is left after it
abbrev pub found : {H X : Type 0} → Option X → List H → Option (X × List H)
found None rest = None
found (Some x) rest = Some (x, rest)

-- what was read took nodes; where nothing was, there are no more than before
abbrev pub Fewer : {R : Type 0} → ℕ → ℕ → Option R → Type 0
Fewer after before None = after ≤ before
Fewer after before (Some r) = after < before

-- r is what N gives, over the row, of what the nodes before stand for, and the nodes after are left; at any depth that suffices.
-- P is the pass, X and Y are what its numbers and truths give
pub record Reads {P U B E X Y R : Type 0} (grammar : Node → Option (Head U B)) (N : List E → ℕ → List (Option (Head U B)) → Option (R × List (Option (Head U B)))) (before after : Walk P U B E X Y) (r : Option R) : Type 0 where
  pub same_row : after.row.now ≡ before.row.now
  pub fewer : Fewer (length after.nodes.now) (length before.nodes.now) r
  pub reads : (k : ℕ) → length before.nodes.now ≤ k
      → found r (heads grammar (length before.row.now) after.nodes.now) ≡ N before.row.now k (heads grammar (length before.row.now) before.nodes.now)

abbrev pub first : {U B : Type 0} → List (Option (Head U B)) → Option (Head U B)
first [] = None
first (h ∷ hs) = h

-- a head that reads does so at a place of P
abbrev pub Reading : {U B : Type 0} → (ℕ → Type 0) → Option (Head U B) → Type 0
Reading P None = Unit {0}
Reading P (Some (Read i)) = P i
Reading P (Some (Constant z)) = Unit {0}
Reading P (Some (Unary u)) = Unit {0}
Reading P (Some (Binary b)) = Unit {0}
Reading P (Some Choose) = Unit {0}
Reading P (Some (Compare o)) = Unit {0}
Reading P (Some Not) = Unit {0}
Reading P (Some (Join l)) = Unit {0}

-- a place that is read is one of w
abbrev pub Placed : {U B : Type 0} → ℕ → Option (Head U B) → Type 0
Placed w h = Reading (λ i. i < w) h

-- r is what the first node stands for over the row, and none past the end
pub record ReadsHead {P U B E X Y : Type 0} (grammar : Node → Option (Head U B)) (before after : Walk P U B E X Y) (r : Option (Head U B)) : Type 0 where
  pub same_row : after.row.now ≡ before.row.now
  pub moved : after.nodes.now ≡ drop 1 before.nodes.now
  pub placed : Placed (length before.row.now) r
  pub stands : r ≡ first (heads grammar (length before.row.now) before.nodes.now)
