-- Reading nodes gives the tree that they write, and no other.
use Rattle.std.proofs.Common.{◌≡◌, ℕ, zero, suc, ◌≤◌, List, [], ◌∷◌, ◌++◌, length, Some, None, Option, sym, refl, ap, ◌∙◌, append_assoc, append-nil, arith, length-append}
use Rattle.tables.specs.declared.Node.{Node}
use Rattle.prefix.specs.declared.grammar.Head.{Head}
use Rattle.prefix.specs.declared.grammar.Head.TheVariants.{Read, Constant, Unary, Binary, Choose, Compare, Not, Join}
use Rattle.prefix.specs.Tree as Tree
use Rattle.prefix.specs.Tree.{Number, Truth}
use Rattle.prefix.specs.Parse.{heads, next, number_from, truth_from, parse_number, parse_truth, whole}
use Rattle.prefix.specs.Pass.{Algebra, of_number, of_truth, given, number_pass, truth_pass}
use Rattle.prefix.specs.Shape.{written_number, written_truth, Gives, GivesNumber, GivesTruth}
use Rattle.prefix.proofs.Steps.{heads_length}

-- what a tree writes is read as that tree
module _ {U B : Type 0} where
  mutual
    number_back : (t : Number U B) (k : ℕ) (rest : List (Option (Head U B))) → length (written_number t) ≤ k → parse_number k (written_number t ++ rest) ≡ Some (t, rest)
    number_back (Tree.read i) zero rest h = absurd (omega arith)
    number_back (Tree.read i) (suc k) rest h = refl
    number_back (Tree.constant z) zero rest h = absurd (omega arith)
    number_back (Tree.constant z) (suc k) rest h = refl
    number_back (Tree.unary u a) zero rest h = absurd (omega arith)
    number_back (Tree.unary u a) (suc k) rest h = rw (number_back a k rest (omega arith))
    number_back (Tree.binary f a b) zero rest h = absurd (omega arith)
    number_back (Tree.binary f a b) (suc k) rest h =
        let m = length-append (written_number a) (written_number b) in
        rw (append_assoc (written_number a) (written_number b) rest, number_back a k (written_number b ++ rest) (omega arith), number_back b k rest (omega arith))
    number_back (Tree.choose t a b) zero rest h = absurd (omega arith)
    number_back (Tree.choose t a b) (suc k) rest h =
        let l = length-append (written_truth t) (written_number a ++ written_number b) in
        let m = length-append (written_number a) (written_number b) in
        rw (append_assoc (written_truth t) (written_number a ++ written_number b) rest, append_assoc (written_number a) (written_number b) rest, truth_back t k (written_number a ++ (written_number b ++ rest)) (omega arith), number_back a k (written_number b ++ rest) (omega arith), number_back b k rest (omega arith))

    truth_back : (t : Truth U B) (k : ℕ) (rest : List (Option (Head U B))) → length (written_truth t) ≤ k → parse_truth k (written_truth t ++ rest) ≡ Some (t, rest)
    truth_back (Tree.compare o a b) zero rest h = absurd (omega arith)
    truth_back (Tree.compare o a b) (suc k) rest h =
        let m = length-append (written_number a) (written_number b) in
        rw (append_assoc (written_number a) (written_number b) rest, number_back a k (written_number b ++ rest) (omega arith), number_back b k rest (omega arith))
    truth_back (Tree.not a) zero rest h = absurd (omega arith)
    truth_back (Tree.not a) (suc k) rest h = rw (truth_back a k rest (omega arith))
    truth_back (Tree.join l a b) zero rest h = absurd (omega arith)
    truth_back (Tree.join l a b) (suc k) rest h =
        let m = length-append (written_truth a) (written_truth b) in
        rw (append_assoc (written_truth a) (written_truth b) rest, truth_back a k (written_truth b ++ rest) (omega arith), truth_back b k rest (omega arith))

-- what was read wrote the front of the list
abbrev Wrote : {H T : Type 0} → (T → List H) → Option (T × List H) → List H → Type 0
Wrote written None hs = Unit {0}
Wrote written (Some p) hs = hs ≡ written p.0 ++ p.1

wrote_next : {H S T : Type 0} (first : S → List H) (written : T → List H) (o : Option (S × List H)) (f : S → List H → Option (T × List H)) (hs all : List H) → Wrote first o hs → ((a : S) (q : List H) → hs ≡ first a ++ q → Wrote written (f a q) all) → Wrote written (next o f) all
wrote_next first written None f hs all w k = tt
wrote_next first written (Some p) f hs all w k = k p.0 p.1 w

-- two parts, one after the other
two_parts : {H : Type 0} (h : H) (hs a r b q : List H) → hs ≡ a ++ r → r ≡ b ++ q → h ∷ hs ≡ (h ∷ (a ++ b)) ++ q
two_parts h hs a r b q d e = ap (λ x. h ∷ x) (d ∙ ap (λ x. a ++ x) e ∙ sym (append_assoc a b q))

three_parts : {H : Type 0} (h : H) (hs t p a r b q : List H) → hs ≡ t ++ p → p ≡ a ++ r → r ≡ b ++ q → h ∷ hs ≡ (h ∷ (t ++ (a ++ b))) ++ q
three_parts h hs t p a r b q c d e = two_parts h hs t p (a ++ b) q c (d ∙ ap (λ x. a ++ x) e ∙ sym (append_assoc a b q))

module _ {U B : Type 0} where
  module _ (N : List (Option (Head U B)) → Option (Number U B × List (Option (Head U B)))) (T : List (Option (Head U B)) → Option (Truth U B × List (Option (Head U B)))) (n : (hs : List (Option (Head U B))) → Wrote written_number (N hs) hs) (t : (hs : List (Option (Head U B))) → Wrote written_truth (T hs) hs) where
    number_wrote : (h : Option (Head U B)) (hs : List (Option (Head U B))) → Wrote written_number (number_from N T h hs) (h ∷ hs)
    number_wrote None hs = tt
    number_wrote (Some (Read i)) hs = refl
    number_wrote (Some (Constant z)) hs = refl
    number_wrote (Some (Unary u)) hs = wrote_next written_number written_number (N hs) _ hs _ (n hs) (λ a q d. ap (λ x. Some (Unary u) ∷ x) d)
    number_wrote (Some (Binary f)) hs =
        wrote_next written_number written_number (N hs) _ hs _ (n hs) (λ a r d. wrote_next written_number written_number (N r) _ r _ (n r) (λ b q e. two_parts (Some (Binary f)) hs (written_number a) r (written_number b) q d e))
    number_wrote (Some Choose) hs =
        wrote_next written_truth written_number (T hs) _ hs _ (t hs) (λ c p g. wrote_next written_number written_number (N p) _ p _ (n p) (λ a r d. wrote_next written_number written_number (N r) _ r _ (n r) (λ b q e. three_parts (Some Choose) hs (written_truth c) p (written_number a) r (written_number b) q g d e)))
    number_wrote (Some (Compare o)) hs = tt
    number_wrote (Some Not) hs = tt
    number_wrote (Some (Join l)) hs = tt

    truth_wrote : (h : Option (Head U B)) (hs : List (Option (Head U B))) → Wrote written_truth (truth_from N T h hs) (h ∷ hs)
    truth_wrote None hs = tt
    truth_wrote (Some (Read i)) hs = tt
    truth_wrote (Some (Constant z)) hs = tt
    truth_wrote (Some (Unary u)) hs = tt
    truth_wrote (Some (Binary f)) hs = tt
    truth_wrote (Some Choose) hs = tt
    truth_wrote (Some (Compare o)) hs =
        wrote_next written_number written_truth (N hs) _ hs _ (n hs) (λ a r d. wrote_next written_number written_truth (N r) _ r _ (n r) (λ b q e. two_parts (Some (Compare o)) hs (written_number a) r (written_number b) q d e))
    truth_wrote (Some Not) hs = wrote_next written_truth written_truth (T hs) _ hs _ (t hs) (λ a q d. ap (λ x. Some Not ∷ x) d)
    truth_wrote (Some (Join l)) hs =
        wrote_next written_truth written_truth (T hs) _ hs _ (t hs) (λ a r d. wrote_next written_truth written_truth (T r) _ r _ (t r) (λ b q e. two_parts (Some (Join l)) hs (written_truth a) r (written_truth b) q d e))

  mutual
    parsed_number : (k : ℕ) (hs : List (Option (Head U B))) → Wrote written_number (parse_number k hs) hs
    parsed_number zero hs = tt
    parsed_number (suc k) [] = tt
    parsed_number (suc k) (h ∷ hs) = number_wrote (parse_number k) (parse_truth k) (parsed_number k) (parsed_truth k) h hs

    parsed_truth : (k : ℕ) (hs : List (Option (Head U B))) → Wrote written_truth (parse_truth k hs) hs
    parsed_truth zero hs = tt
    parsed_truth (suc k) [] = tt
    parsed_truth (suc k) (h ∷ hs) = truth_wrote (parse_number k) (parse_truth k) (parsed_number k) (parsed_truth k) h hs

-- the two directions, for either sort
module _ {T U B X : Type 0} (written : T → List (Option (Head U B))) (parse : ℕ → List (Option (Head U B)) → Option (T × List (Option (Head U B)))) (back : (t : T) (k : ℕ) (rest : List (Option (Head U B))) → length (written t) ≤ k → parse k (written t ++ rest) ≡ Some (t, rest)) (parsed : (k : ℕ) (hs : List (Option (Head U B))) → Wrote written (parse k hs) hs) (pass : T → X) where
  read_whole : (t : T) (hs : List (Option (Head U B))) (n : ℕ) → length hs ≡ n → hs ≡ written t → whole (parse n hs) ≡ Some t
  read_whole t hs n l e =
      let d : parse n (written t ++ []) ≡ Some (t, []) = back t n [] (omega (arith, ap length e)) in
      ap whole (ap (parse n) (e ∙ sym (append-nil (written t))) ∙ d)

  not_read : (hs : List (Option (Head U B))) → ((t : T) → hs ≡ written t → ⊥) → (o : Option (T × List (Option (Head U B)))) → Wrote written o hs → given pass (whole o) ≡ None
  not_read hs n None w = refl
  not_read hs n (Some (t, [])) w = absurd (n t (w ∙ append-nil (written t)))
  not_read hs n (Some (t, h ∷ q)) w = refl

  gives : {E : Type 0} (grammar : Node → Option (Head U B)) (ns : List Node) (row : List E) → Gives written pass grammar ns row (given pass (whole (parse (length ns) (heads grammar (length row) ns))))
  gives grammar ns row =
      let hs = heads grammar (length row) ns in
      record {
        of_tree = λ t e. ap (given pass) (read_whole t hs (length ns) (heads_length grammar (length row) ns) e);
        of_none = λ n. not_read hs n (parse (length ns) hs) (parsed (length ns) hs);
      }

pub gives_number : {U B E X Y : Type 0} (grammar : Node → Option (Head U B)) (A : Algebra U B E X Y) (ns : List Node) (row : List E) (r : Option X) → r ≡ number_pass grammar A ns row → GivesNumber grammar A ns row r
gives_number grammar A ns row r e = rw e (gives written_number parse_number number_back parsed_number (of_number A row) grammar ns row)

pub gives_truth : {U B E X Y : Type 0} (grammar : Node → Option (Head U B)) (A : Algebra U B E X Y) (ns : List Node) (row : List E) (r : Option Y) → r ≡ truth_pass grammar A ns row → GivesTruth grammar A ns row r
gives_truth grammar A ns row r e = rw e (gives written_truth parse_truth truth_back parsed_truth (of_truth A row) grammar ns row)
