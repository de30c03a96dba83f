-- Which nodes are which expression, said without reading them: each stands for what the tree has there, in prefix order.
use Rattle.std.specs.Prelude.{◌≡◌, List, [], ◌∷◌, ◌++◌, length, Some, None, Option, ◌≢◌}
use Rattle.tables.specs.declared.Node.{Node}
use Rattle.prefix.specs.declared.grammar.Head.{Head}
use Rattle.prefix.specs.declared.grammar.Head.TheVariants.{Read, Constant, Unary, Binary, Choose, Compare, Not, Join}
use Rattle.prefix.specs.Tree as Tree
use Rattle.prefix.specs.Tree.{Number, Truth}
use Rattle.prefix.specs.Parse.{heads}
use Rattle.prefix.specs.Pass.{Algebra, of_number, of_truth}

-- a tree in prefix order: an operation before what it is applied to
abbrev mutual
  pub written_number : {U B : Type 0} → Number U B → List (Option (Head U B))
  written_number (Tree.read i) = Some (Read i) ∷ []
  written_number (Tree.constant z) = Some (Constant z) ∷ []
  written_number (Tree.unary u a) = Some (Unary u) ∷ written_number a
  written_number (Tree.binary f a b) = Some (Binary f) ∷ (written_number a ++ written_number b)
  written_number (Tree.choose t a b) = Some Choose ∷ (written_truth t ++ (written_number a ++ written_number b))

  pub written_truth : {U B : Type 0} → Truth U B → List (Option (Head U B))
  written_truth (Tree.compare o a b) = Some (Compare o) ∷ (written_number a ++ written_number b)
  written_truth (Tree.not a) = Some Not ∷ written_truth a
  written_truth (Tree.join l a b) = Some (Join l) ∷ (written_truth a ++ written_truth b)

-- r is what a pass gives of the tree that the nodes write over the row, and none where they write no tree
pub record Gives {T U B E X : Type 0} (written : T → List (Option (Head U B))) (pass : T → X) (grammar : Node → Option (Head U B)) (ns : List Node) (row : List E) (r : Option X) : Type 0 where
  pub of_tree : (t : T) → heads grammar (length row) ns ≡ written t → r ≡ Some (pass t)
  pub of_none : ((t : T) → heads grammar (length row) ns ≢ written t) → r ≡ None

abbrev pub GivesNumber : {U B E X Y : Type 0} → (Node → Option (Head U B)) → Algebra U B E X Y → List Node → List E → Option X → Type 0
GivesNumber grammar A ns row r = Gives written_number (of_number A row) grammar ns row r

abbrev pub GivesTruth : {U B E X Y : Type 0} → (Node → Option (Head U B)) → Algebra U B E X Y → List Node → List E → Option Y → Type 0
GivesTruth grammar A ns row r = Gives written_truth (of_truth A row) grammar ns row r
