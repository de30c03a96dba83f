-- Two passes over one expression: what relates their leaves relates what they give.
use Rattle.std.proofs.Common.{◌≡◌, ℕ, List, length, ℤ, Some, None, Option, subst}
use Rattle.std.specs.List.{slice_get}
use Rattle.tables.specs.declared.Node.{Node}
use Rattle.prefix.specs.declared.grammar.Order.{Order}
use Rattle.prefix.specs.declared.grammar.Link.{Link}
use Rattle.prefix.specs.declared.grammar.Head.{Head}
use Rattle.prefix.specs.Tree as Tree
use Rattle.prefix.specs.Tree.{Number, Truth}
use Rattle.prefix.specs.Parse as Parse
use Rattle.prefix.specs.Pass.{Algebra, of_number, of_truth, given, number_pass, truth_pass}

-- every kind of node keeps R of numbers and S of truths
pub record Related {U B E F X Y P Q : Type 0} (A : Algebra U B E X Y) (C : Algebra U B F P Q) (R : X → P → Type 0) (S : Y → Q → Type 0) : Type 0 where
  pub constant : (z : ℤ) → R (A.constant z) (C.constant z)
  pub unary : (u : U) (x : X) (p : P) → R x p → R (A.unary u x) (C.unary u p)
  pub binary : (f : B) (x y : X) (p q : P) → R x p → R y q → R (A.binary f x y) (C.binary f p q)
  pub choose : (t : Y) (x y : X) (w : Q) (p q : P) → S t w → R x p → R y q → R (A.choose t x y) (C.choose w p q)
  pub compare : (o : Order) (x y : X) (p q : P) → R x p → R y q → S (A.compare o x y) (C.compare o p q)
  pub not : (t : Y) (w : Q) → S t w → S (A.not t) (C.not w)
  pub join : (l : Link) (t s : Y) (w v : Q) → S t w → S s v → S (A.join l t s) (C.join l w v)

-- both passes find a bad shape, or what they give is related
abbrev pub Both : {X P : Type 0} → (X → P → Type 0) → Option X → Option P → Type 0
Both R None None = Unit {0}
Both R None (Some p) = ⊥
Both R (Some x) None = ⊥
Both R (Some x) (Some p) = R x p

both_given : {T X P : Type 0} (R : X → P → Type 0) (f : T → X) (g : T → P) → ((t : T) → R (f t) (g t)) → (o : Option T) → Both R (given f o) (given g o)
both_given R f g h None = tt
both_given R f g h (Some t) = h t

module _ {U B E F X Y P Q : Type 0} (A : Algebra U B E X Y) (C : Algebra U B F P Q) (R : X → P → Type 0) (S : Y → Q → Type 0) (K : Related A C R S) where
  module _ (r : List E) (s : List F) (leaves : (i : ℕ) → R (A.leaf (slice_get r i)) (C.leaf (slice_get s i))) where
    mutual
      relate_number : (t : Number U B) → R (of_number A r t) (of_number C s t)
      relate_number (Tree.read i) = leaves i
      relate_number (Tree.constant z) = K.constant z
      relate_number (Tree.unary u a) = K.unary u (of_number A r a) (of_number C s a) (relate_number a)
      relate_number (Tree.binary f a b) = K.binary f (of_number A r a) (of_number A r b) (of_number C s a) (of_number C s b) (relate_number a) (relate_number b)
      relate_number (Tree.choose t a b) =
          K.choose (of_truth A r t) (of_number A r a) (of_number A r b) (of_truth C s t) (of_number C s a) (of_number C s b) (relate_truth t) (relate_number a) (relate_number b)

      relate_truth : (t : Truth U B) → S (of_truth A r t) (of_truth C s t)
      relate_truth (Tree.compare o a b) = K.compare o (of_number A r a) (of_number A r b) (of_number C s a) (of_number C s b) (relate_number a) (relate_number b)
      relate_truth (Tree.not a) = K.not (of_truth A r a) (of_truth C s a) (relate_truth a)
      relate_truth (Tree.join l a b) = K.join l (of_truth A r a) (of_truth A r b) (of_truth C s a) (of_truth C s b) (relate_truth a) (relate_truth b)

    module _ (grammar : Node → Option (Head U B)) (same : length r ≡ length s) (ns : List Node) where
      pub numbers_related : Both R (number_pass grammar A ns r) (number_pass grammar C ns s)
      numbers_related =
          subst (λ w. Both R (number_pass grammar A ns r) (given (of_number C s) (Parse.number grammar w ns))) same
          (both_given R (of_number A r) (of_number C s) relate_number (Parse.number grammar (length r) ns))

      pub truths_related : Both S (truth_pass grammar A ns r) (truth_pass grammar C ns s)
      truths_related =
          subst (λ w. Both S (truth_pass grammar A ns r) (given (of_truth C s) (Parse.truth grammar w ns))) same
          (both_given S (of_truth A r) (of_truth C s) relate_truth (Parse.truth grammar (length r) ns))
