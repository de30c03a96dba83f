-- How nodes in prefix order are read as a tree. A language's grammar says what each node stands for, if anything.
use Rattle.std.specs.Prelude.{ℕ, zero, suc, if◌then◌else◌, List, [], ◌∷◌, length, Some, None, Option, nat_lt}
use Rattle.tables.specs.declared.Node.{Node}
use Rattle.prefix.specs.declared.grammar.Head.{Head}
use Rattle.prefix.specs.declared.grammar.Head.TheVariants.{Read, Constant, Unary, Binary, Choose, Compare, Not, Join}
use Rattle.prefix.specs.Tree.{Number, Truth, read, constant, unary, binary, choose, compare, not, join}

-- a read beyond a row of w values stands for nothing
abbrev pub placed : {U B : Type 0} → ℕ → Option (Head U B) → Option (Head U B)
placed w None = None
placed w (Some (Read i)) = if nat_lt i w then Some (Read i) else None
placed w (Some (Constant z)) = Some (Constant z)
placed w (Some (Unary u)) = Some (Unary u)
placed w (Some (Binary b)) = Some (Binary b)
placed w (Some Choose) = Some Choose
placed w (Some (Compare o)) = Some (Compare o)
placed w (Some Not) = Some Not
placed w (Some (Join l)) = Some (Join l)

-- what the nodes stand for, one by one
abbrev pub heads : {U B : Type 0} → (Node → Option (Head U B)) → ℕ → List Node → List (Option (Head U B))
heads grammar w [] = []
heads grammar w (n ∷ ns) = placed w (grammar n) ∷ heads grammar w ns

-- what was read first, and what is left, go on to f
abbrev pub next : {H A C : Type 0} → Option (A × List H) → (A → List H → Option C) → Option C
next None f = None
next (Some p) f = f p.0 p.1

-- how a number, or a truth, goes on after its head, where N reads one number and T one truth
abbrev pub number_from : {U B : Type 0} → (List (Option (Head U B)) → Option (Number U B × List (Option (Head U B)))) → (List (Option (Head U B)) → Option (Truth U B × List (Option (Head U B)))) → Option (Head U B) → List (Option (Head U B)) → Option (Number U B × List (Option (Head U B)))
number_from N T None hs = None
number_from N T (Some (Read i)) hs = Some (read i, hs)
number_from N T (Some (Constant z)) hs = Some (constant z, hs)
number_from N T (Some (Unary u)) hs = next (N hs) (λ a q. Some (unary u a, q))
number_from N T (Some (Binary f)) hs = next (N hs) (λ a r. next (N r) (λ b q. Some (binary f a b, q)))
number_from N T (Some Choose) hs = next (T hs) (λ t p. next (N p) (λ a r. next (N r) (λ b q. Some (choose t a b, q))))
number_from N T (Some (Compare o)) hs = None
number_from N T (Some Not) hs = None
number_from N T (Some (Join l)) hs = None

abbrev pub truth_from : {U B : Type 0} → (List (Option (Head U B)) → Option (Number U B × List (Option (Head U B)))) → (List (Option (Head U B)) → Option (Truth U B × List (Option (Head U B)))) → Option (Head U B) → List (Option (Head U B)) → Option (Truth U B × List (Option (Head U B)))
truth_from N T None hs = None
truth_from N T (Some (Read i)) hs = None
truth_from N T (Some (Constant z)) hs = None
truth_from N T (Some (Unary u)) hs = None
truth_from N T (Some (Binary f)) hs = None
truth_from N T (Some Choose) hs = None
truth_from N T (Some (Compare o)) hs = next (N hs) (λ a r. next (N r) (λ b q. Some (compare o a b, q)))
truth_from N T (Some Not) hs = next (T hs) (λ a q. Some (not a, q))
truth_from N T (Some (Join l)) hs = next (T hs) (λ a r. next (T r) (λ b q. Some (join l a b, q)))

-- the first number, or truth, and what is left; the first argument bounds the depth
abbrev mutual
  pub parse_number : {U B : Type 0} → ℕ → List (Option (Head U B)) → Option (Number U B × List (Option (Head U B)))
  parse_number zero hs = None
  parse_number (suc k) [] = None
  parse_number (suc k) (h ∷ hs) = number_from (parse_number k) (parse_truth k) h hs

  pub parse_truth : {U B : Type 0} → ℕ → List (Option (Head U B)) → Option (Truth U B × List (Option (Head U B)))
  parse_truth zero hs = None
  parse_truth (suc k) [] = None
  parse_truth (suc k) (h ∷ hs) = truth_from (parse_number k) (parse_truth k) h hs

-- what was read, if nothing is left
abbrev pub whole : {H A : Type 0} → Option (A × List H) → Option A
whole None = None
whole (Some (a, [])) = Some a
whole (Some (a, h ∷ hs)) = None

-- the number, or the truth, that all the nodes are, over a row of w values
abbrev pub number : {U B : Type 0} → (Node → Option (Head U B)) → ℕ → List Node → Option (Number U B)
number grammar w ns = whole (parse_number (length ns) (heads grammar w ns))

abbrev pub truth : {U B : Type 0} → (Node → Option (Head U B)) → ℕ → List Node → Option (Truth U B)
truth grammar w ns = whole (parse_truth (length ns) (heads grammar w ns))
