-- A pass depends on the elements that the expression reads, and on no others.
use Rattle.std.proofs.Common.{◌≡◌, ℕ, zero, suc, Bool, true, false, cond, ltb, List, [], ◌∷◌, length, is_some, Some, None, Option, sym, refl, ap, ◌∙◌, arith}
use Rattle.std.proofs.lemmas.Bool.Decides.{nat_tests}
use Rattle.std.proofs.lemmas.Option.{slice_get_cases}
use Rattle.std.specs.List.{slice_get}
use Rattle.tables.specs.declared.Node.{Node}
use Rattle.guest.specs.Reads.{Among, Alike, read_by, reads}
use Rattle.guest.proofs.Rows.{among_left, among_right}
use Rattle.prefix.specs.declared.grammar.Head.{Head}
use Rattle.prefix.specs.declared.grammar.Head.TheVariants.{Read, Constant, Unary, Binary, Choose, Compare, Not, Join}
use Rattle.prefix.specs.Tree as Tree
use Rattle.prefix.specs.Tree.{Number, Truth}
use Rattle.prefix.specs.Parse.{placed, heads, next, number_from, truth_from, parse_number, parse_truth, whole}
use Rattle.prefix.specs.Walk.{Reading}
use Rattle.prefix.specs.Pass.{Algebra, of_number, of_truth, given, number_pass, truth_pass}

-- every leaf of a tree is at a place of P
abbrev mutual
  Leaves : {U B : Type 0} → (ℕ → Type 0) → Number U B → Type 0
  Leaves P (Tree.read i) = P i
  Leaves P (Tree.constant z) = Unit {0}
  Leaves P (Tree.unary u a) = Leaves P a
  Leaves P (Tree.binary f a b) = Leaves P a × Leaves P b
  Leaves P (Tree.choose t a b) = Weighs P t × (Leaves P a × Leaves P b)

  Weighs : {U B : Type 0} → (ℕ → Type 0) → Truth U B → Type 0
  Weighs P (Tree.compare o a b) = Leaves P a × Leaves P b
  Weighs P (Tree.not a) = Weighs P a
  Weighs P (Tree.join l a b) = Weighs P a × Weighs P b

-- every head that reads does so at a place of P
abbrev AllAt : {U B : Type 0} → (ℕ → Type 0) → List (Option (Head U B)) → Type 0
AllAt P [] = Unit {0}
AllAt P (h ∷ hs) = Reading P h × AllAt P hs

-- what was read has Q, and what is left is at places of P
abbrev Left : {U B A : Type 0} → (ℕ → Type 0) → (A → Type 0) → Option (A × List (Option (Head U B))) → Type 0
Left P Q None = Unit {0}
Left P Q (Some p) = Q p.0 × AllAt P p.1

left_next : {U B A C : Type 0} (P : ℕ → Type 0) (Q : A → Type 0) (R : C → Type 0) (o : Option (A × List (Option (Head U B)))) (f : A → List (Option (Head U B)) → Option (C × List (Option (Head U B)))) → Left P Q o → ((a : A) (q : List (Option (Head U B))) → Q a → AllAt P q → Left P R (f a q)) → Left P R (next o f)
left_next P Q R None f l k = tt
left_next P Q R (Some p) f l k = k p.0 p.1 l.0 l.1

module _ {U B : Type 0} (P : ℕ → Type 0) where
  abbrev NumberLeft : Option (Number U B × List (Option (Head U B))) → Type 0
  NumberLeft o = Left P (Leaves P) o

  abbrev TruthLeft : Option (Truth U B × List (Option (Head U B))) → Type 0
  TruthLeft o = Left P (Weighs P) o

  module _ (N : List (Option (Head U B)) → Option (Number U B × List (Option (Head U B)))) (T : List (Option (Head U B)) → Option (Truth U B × List (Option (Head U B)))) (n : (hs : List (Option (Head U B))) → AllAt P hs → NumberLeft (N hs)) (t : (hs : List (Option (Head U B))) → AllAt P hs → TruthLeft (T hs)) where
    from_number : (h : Option (Head U B)) (hs : List (Option (Head U B))) → Reading P h → AllAt P hs → NumberLeft (number_from N T h hs)
    from_number None hs p l = tt
    from_number (Some (Read i)) hs p l = (p, l)
    from_number (Some (Constant z)) hs p l = (tt, l)
    from_number (Some (Unary u)) hs p l = left_next P (Leaves P) (Leaves P) (N hs) _ (n hs l) (λ a q x m. (x, m))
    from_number (Some (Binary f)) hs p l =
        left_next P (Leaves P) (Leaves P) (N hs) _ (n hs l) (λ a q x m. left_next P (Leaves P) (Leaves P) (N q) _ (n q m) (λ b r y k. ((x, y), k)))
    from_number (Some Choose) hs p l =
        left_next P (Weighs P) (Leaves P) (T hs) _ (t hs l) (λ c v z j. left_next P (Leaves P) (Leaves P) (N v) _ (n v j) (λ a q x m. left_next P (Leaves P) (Leaves P) (N q) _ (n q m) (λ b r y k. ((z, (x, y)), k))))
    from_number (Some (Compare o)) hs p l = tt
    from_number (Some Not) hs p l = tt
    from_number (Some (Join i)) hs p l = tt

    from_truth : (h : Option (Head U B)) (hs : List (Option (Head U B))) → Reading P h → AllAt P hs → TruthLeft (truth_from N T h hs)
    from_truth None hs p l = tt
    from_truth (Some (Read i)) hs p l = tt
    from_truth (Some (Constant z)) hs p l = tt
    from_truth (Some (Unary u)) hs p l = tt
    from_truth (Some (Binary f)) hs p l = tt
    from_truth (Some Choose) hs p l = tt
    from_truth (Some (Compare o)) hs p l =
        left_next P (Leaves P) (Weighs P) (N hs) _ (n hs l) (λ a q x m. left_next P (Leaves P) (Weighs P) (N q) _ (n q m) (λ b r y k. ((x, y), k)))
    from_truth (Some Not) hs p l = left_next P (Weighs P) (Weighs P) (T hs) _ (t hs l) (λ a q x m. (x, m))
    from_truth (Some (Join i)) hs p l =
        left_next P (Weighs P) (Weighs P) (T hs) _ (t hs l) (λ a q x m. left_next P (Weighs P) (Weighs P) (T q) _ (t q m) (λ b r y k. ((x, y), k)))

  mutual
    number_left : (k : ℕ) (hs : List (Option (Head U B))) → AllAt P hs → NumberLeft (parse_number k hs)
    number_left zero hs l = tt
    number_left (suc k) [] l = tt
    number_left (suc k) (h ∷ hs) l = from_number (parse_number k) (parse_truth k) (number_left k) (truth_left k) h hs l.0 l.1

    truth_left : (k : ℕ) (hs : List (Option (Head U B))) → AllAt P hs → TruthLeft (parse_truth k hs)
    truth_left zero hs l = tt
    truth_left (suc k) [] l = tt
    truth_left (suc k) (h ∷ hs) l = from_truth (parse_number k) (parse_truth k) (number_left k) (truth_left k) h hs l.0 l.1

-- the same is given of what was read as a whole
same_given : {U B A X : Type 0} (P : ℕ → Type 0) (Q : A → Type 0) (f g : A → X) → ((a : A) → Q a → f a ≡ g a) → (o : Option (A × List (Option (Head U B)))) → Left P Q o → given f (whole o) ≡ given g (whole o)
same_given P Q f g e None l = refl
same_given P Q f g e (Some (a, [])) l = ap Some (e a l.0)
same_given P Q f g e (Some (a, h ∷ hs)) l = refl

-- where a row has something, its length says so
pub known : {E : Type 0} (r : List E) (i : ℕ) → is_some (slice_get r i) ≡ ltb i (length r)
known r i = grind (arith, nat_tests, slice_get_cases)

module _ {U B E X Y : Type 0} (A : Algebra U B E X Y) (r s : List E) where
  abbrev Same : ℕ → Type 0
  Same i = slice_get r i ≡ slice_get s i

  mutual
    same_number : (t : Number U B) → Leaves Same t → of_number A r t ≡ of_number A s t
    same_number (Tree.read i) l = ap A.leaf l
    same_number (Tree.constant z) l = refl
    same_number (Tree.unary u a) l = ap (A.unary u) (same_number a l)
    same_number (Tree.binary f a b) l = cc (same_number a l.0, same_number b l.1)
    same_number (Tree.choose t a b) l = cc (same_truth t l.0, same_number a l.1.0, same_number b l.1.1)

    same_truth : (t : Truth U B) → Weighs Same t → of_truth A r t ≡ of_truth A s t
    same_truth (Tree.compare o a b) l = cc (same_number a l.0, same_number b l.1)
    same_truth (Tree.not a) l = ap A.not (same_truth a l)
    same_truth (Tree.join i a b) l = cc (same_truth a l.0, same_truth b l.1)

  same_length : (i : ℕ) → Same i → ltb i (length r) ≡ ltb i (length s)
  same_length i e = sym (known r i) ∙ ap is_some e ∙ known s i

  same_placed : (h : Option (Head U B)) → ((i : ℕ) → h ≡ Some (Read i) → Same i) → placed (length r) h ≡ placed (length s) h
  same_placed h k = grind (arith, same_length)

  at_cond : (b : Bool) (i : ℕ) → Same i → Reading {U = U} {B = B} Same (cond b (Some (Read i)) None)
  at_cond true i e = e
  at_cond false i e = tt

  at_placed : (w : ℕ) (h : Option (Head U B)) → ((i : ℕ) → h ≡ Some (Read i) → Same i) → Reading Same (placed w h)
  at_placed w None k = tt
  at_placed w (Some (Read i)) k = at_cond (ltb i w) i (k i refl)
  at_placed w (Some (Constant z)) k = tt
  at_placed w (Some (Unary u)) k = tt
  at_placed w (Some (Binary f)) k = tt
  at_placed w (Some Choose) k = tt
  at_placed w (Some (Compare o)) k = tt
  at_placed w (Some Not) k = tt
  at_placed w (Some (Join l)) k = tt

  -- only nodes of code 0 read, and they read the place that the argument names
  module _ (grammar : Node → Option (Head U B)) (by_code : (n : Node) (i : ℕ) → grammar n ≡ Some (Read i) → Among i (read_by n)) where
    same_heads : (ns : List Node) → Alike (reads ns) r s → heads grammar (length r) ns ≡ heads grammar (length s) ns
    same_heads [] k = refl
    same_heads (n ∷ ns) k =
        rw (same_placed (grammar n) (λ i e. k i (among_left i (read_by n) (reads ns) (by_code n i e))), same_heads ns (λ i h. k i (among_right i (read_by n) (reads ns) h)))

    all_at : (w : ℕ) (ns : List Node) → Alike (reads ns) r s → AllAt Same (heads grammar w ns)
    all_at w [] k = tt
    all_at w (n ∷ ns) k =
        (at_placed w (grammar n) (λ i e. k i (among_left i (read_by n) (reads ns) (by_code n i e))), all_at w ns (λ i h. k i (among_right i (read_by n) (reads ns) h)))

    pub same_reads_same_number : (ns : List Node) → Alike (reads ns) r s → number_pass grammar A ns r ≡ number_pass grammar A ns s
    same_reads_same_number ns k =
        same_given Same (Leaves Same) (of_number A r) (of_number A s) same_number (parse_number (length ns) (heads grammar (length r) ns)) (number_left Same (length ns) (heads grammar (length r) ns) (all_at (length r) ns k))
        ∙ ap (λ hs. given (of_number A s) (whole (parse_number (length ns) hs))) (same_heads ns k)

    pub same_reads_same_truth : (ns : List Node) → Alike (reads ns) r s → truth_pass grammar A ns r ≡ truth_pass grammar A ns s
    same_reads_same_truth ns k =
        same_given Same (Weighs Same) (of_truth A r) (of_truth A s) same_truth (parse_truth (length ns) (heads grammar (length r) ns)) (truth_left Same (length ns) (heads grammar (length r) ns) (all_at (length r) ns k))
        ∙ ap (λ hs. given (of_truth A s) (whole (parse_truth (length ns) hs))) (same_heads ns k)
