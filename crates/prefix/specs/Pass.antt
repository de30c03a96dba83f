-- Going through a tree from its leaves up, over a row of elements.
use Rattle.std.specs.Prelude.{List, length, ℤ, Some, None, Option}
use Rattle.std.specs.List.{slice_get}
use Rattle.tables.specs.declared.Node.{Node}
use Rattle.prefix.specs.declared.grammar.Order.{Order}
use Rattle.prefix.specs.declared.grammar.Link.{Link}
use Rattle.prefix.specs.declared.grammar.Head.{Head}
use Rattle.prefix.specs.Tree as Tree
use Rattle.prefix.specs.Tree.{Number, Truth}
use Rattle.prefix.specs.Parse as Parse

-- what each kind of node gives from what its parts gave: X for numbers, Y for truths
pub record Algebra (U B E X Y : Type 0) : Type 0 where
  -- an element of the row, or nothing beyond its end
  pub leaf : Option E → X
  pub constant : ℤ → X
  pub unary : U → X → X
  pub binary : B → X → X → X
  pub choose : Y → X → X → X
  pub compare : Order → X → X → Y
  pub not : Y → Y
  pub join : Link → Y → Y → Y

abbrev mutual
  pub of_number : {U B E X Y : Type 0} → Algebra U B E X Y → List E → Number U B → X
  of_number A row (Tree.read i) = A.leaf (slice_get row i)
  of_number A row (Tree.constant z) = A.constant z
  of_number A row (Tree.unary u a) = A.unary u (of_number A row a)
  of_number A row (Tree.binary f a b) = A.binary f (of_number A row a) (of_number A row b)
  of_number A row (Tree.choose t a b) = A.choose (of_truth A row t) (of_number A row a) (of_number A row b)

  pub of_truth : {U B E X Y : Type 0} → Algebra U B E X Y → List E → Truth U B → Y
  of_truth A row (Tree.compare o a b) = A.compare o (of_number A row a) (of_number A row b)
  of_truth A row (Tree.not a) = A.not (of_truth A row a)
  of_truth A row (Tree.join l a b) = A.join l (of_truth A row a) (of_truth A row b)

abbrev pub given : {A C : Type 0} → (A → C) → Option A → Option C
given f None = None
given f (Some a) = Some (f a)

-- what a pass gives of nodes that are a number, or a truth, over the row; none for a bad shape
abbrev pub number_pass : {U B E X Y : Type 0} → (Node → Option (Head U B)) → Algebra U B E X Y → List Node → List E → Option X
number_pass grammar A ns row = given (of_number A row) (Parse.number grammar (length row) ns)

abbrev pub truth_pass : {U B E X Y : Type 0} → (Node → Option (Head U B)) → Algebra U B E X Y → List Node → List E → Option Y
truth_pass grammar A ns row = given (of_truth A row) (Parse.truth grammar (length row) ns)
