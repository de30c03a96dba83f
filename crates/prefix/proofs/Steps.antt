-- One pass over the nodes does what reading a tree and then going through it does.
use Rattle.std.proofs.Common.{◌≡◌, ℕ, zero, suc, ◌<◌, ◌≤◌, List, [], ◌∷◌, length, get_or, drop, ℤ, Some, None, Option, refl, ap, ◌∙◌, arith, w32, SFits, to_z, of_z}
use Rattle.std.specs.List.{slice_get}
use Rattle.std.proofs.lemmas.Option.{slice_get_read}
use Rattle.std.proofs.lemmas.Int.{to_z-of_z}
use Rattle.tables.specs.declared.Node.{Node}
use Rattle.prefix.specs.declared.grammar.Order.{Order}
use Rattle.prefix.specs.declared.grammar.Link.{Link}
use Rattle.prefix.specs.declared.grammar.Head.{Head}
use Rattle.prefix.specs.declared.grammar.Head.TheVariants.{Read, Constant, Unary, Binary, Choose, Compare, Join}
use Rattle.prefix.specs.declared.walk.Walk.{Walk}
use Rattle.prefix.specs.Parse.{heads, parse_number, parse_truth}
use Rattle.prefix.specs.Pass.{Algebra, of_number, of_truth}
use Rattle.prefix.specs.Walk.{seen, found, first, numbers, truths, Fewer, Reads, ReadsHead}

-- there are as many heads as nodes
module _ {U B : Type 0} (grammar : Node → Option (Head U B)) (w : ℕ) where
  pub heads_length : (ns : List Node) → length (heads grammar w ns) ≡ length ns
  heads_length [] = refl
  heads_length (n ∷ ns) = ap suc (heads_length ns)

  -- a head that was read stood before what is left
  stood : (ns ms : List Node) (h : Head U B) → ms ≡ drop 1 ns → Some h ≡ first (heads grammar w ns) → (heads grammar w ns ≡ Some h ∷ heads grammar w ms) × (length ns ≡ suc (length ms))
  stood ns ms h e f = grind arith

fewer_still : {R : Type 0} (r : Option R) (m n : ℕ) → m < n → Fewer m n r
fewer_still None m n h = omega arith
fewer_still (Some x) m n h = h

-- a head of a truth begins no number
not_number : {U B E X Y : Type 0} (A : Algebra U B E X Y) (row : List E) (k : ℕ) (h : Head U B) (hs : List (Option (Head U B))) → ((i : ℕ) → h ≡ Read i → ⊥) → ((z : ℤ) → h ≡ Constant z → ⊥) → ((u : U) → h ≡ Unary u → ⊥) → ((f : B) → h ≡ Binary f → ⊥) → (h ≡ Choose → ⊥)
    → None ≡ numbers A row (suc k) (Some h ∷ hs)
not_number A row k h hs v w x y z = grind arith

module _ {P U B E X Y : Type 0} (grammar : Node → Option (Head U B)) where
  module _ {Q R : Type 0} (f : List E → Q → R) (parse : ℕ → List (Option (Head U B)) → Option (Q × List (Option (Head U B)))) where
    -- what follows a head that was read
    after_head : (h g : Head U B) (a b c : Walk P U B E X Y) (r : Option R) → ReadsHead grammar a b (Some h) → h ≡ g → c.row.now ≡ b.row.now → length c.nodes.now ≤ length b.nodes.now
        → ((k : ℕ) → length b.nodes.now ≤ k → found r (heads grammar (length a.row.now) c.nodes.now) ≡ seen (f a.row.now) (parse (suc k) (Some g ∷ heads grammar (length a.row.now) b.nodes.now)))
        → Reads grammar (λ w k hs. seen (f w) (parse k hs)) a c r
    after_head h g a b c r d e s l go = record { same_row = s ∙ d.same_row; fewer = fewer_still r _ _ (omega (arith, before.1)); reads = at }
      where
        before : (heads grammar (length a.row.now) a.nodes.now ≡ Some h ∷ heads grammar (length a.row.now) b.nodes.now) × (length a.nodes.now ≡ suc (length b.nodes.now))
        before = stood grammar (length a.row.now) a.nodes.now b.nodes.now h d.moved d.stands

        at : (k : ℕ) → length a.nodes.now ≤ k → found r (heads grammar (length a.row.now) c.nodes.now) ≡ seen (f a.row.now) (parse k (heads grammar (length a.row.now) a.nodes.now))
        at zero m = absurd (omega (arith, before.1))
        at (suc k) m = rw (before.0, e) (go k (omega (arith, before.1)))

  module _ (A : Algebra U B E X Y) (h : Head U B) (a b : Walk P U B E X Y) (head : ReadsHead grammar a b (Some h)) where
    at_number : (g : Head U B) (c : Walk P U B E X Y) (r : Option X) → h ≡ g → c.row.now ≡ b.row.now → length c.nodes.now ≤ length b.nodes.now
        → ((k : ℕ) → length b.nodes.now ≤ k → found r (heads grammar (length a.row.now) c.nodes.now) ≡ seen (of_number A a.row.now) (parse_number (suc k) (Some g ∷ heads grammar (length a.row.now) b.nodes.now)))
        → Reads grammar (numbers A) a c r
    at_number g c r e = after_head (of_number A) parse_number h g a b c r head e

    at_truth : (g : Head U B) (c : Walk P U B E X Y) (r : Option Y) → h ≡ g → c.row.now ≡ b.row.now → length c.nodes.now ≤ length b.nodes.now
        → ((k : ℕ) → length b.nodes.now ≤ k → found r (heads grammar (length a.row.now) c.nodes.now) ≡ seen (of_truth A a.row.now) (parse_truth (suc k) (Some g ∷ heads grammar (length a.row.now) b.nodes.now)))
        → Reads grammar (truths A) a c r
    at_truth g c r e = after_head (of_truth A) parse_truth h g a b c r head e

    pub read_leaf : (i : ℕ) (x : E) (r : X) → h ≡ Read i → x ≡ get_or b.row.now i x → r ≡ A.leaf (Some (get_or b.row.now i x)) → Reads grammar (numbers A) a b (Some r)
    read_leaf i x r e is q =
        let p : i < length a.row.now = rw e at head.placed in
        let l : slice_get a.row.now i ≡ Some x = slice_get_read a.row.now (length a.row.now) i x refl p (rw head.same_row at is) in
        at_number (Read i) b (Some r) e refl (omega arith) (λ k m. rw (q, ← is, ← l) refl)

    pub read_constant : (z : ℤ) (r : X) → h ≡ Constant z → SFits w32 z → r ≡ A.constant (to_z w32 (of_z w32 z)) → Reads grammar (numbers A) a b (Some r)
    read_constant z r e f q = at_number (Constant z) b (Some r) e refl (omega arith) (λ k m. rw (q, to_z-of_z w32 z f))

    module _ (c : Walk P U B E X Y) where
      -- the first part is missing
      module _ (n : Reads grammar (numbers A) b c None) where
        pub no_unary : (u : U) → h ≡ Unary u → Reads grammar (numbers A) a c None
        no_unary u e = at_number (Unary u) c None e n.same_row n.fewer (λ k l. grind (arith, n.reads k, head.same_row))

        pub no_binary : (f : B) → h ≡ Binary f → Reads grammar (numbers A) a c None
        no_binary f e = at_number (Binary f) c None e n.same_row n.fewer (λ k l. grind (arith, n.reads k, head.same_row))

      pub no_condition : Reads grammar (truths A) b c None → h ≡ Choose → Reads grammar (numbers A) a c None
      no_condition n e = at_number Choose c None e n.same_row n.fewer (λ k l. grind (arith, n.reads k, head.same_row))

      -- the first part is a number
      module _ (x : X) (n : Reads grammar (numbers A) b c (Some x)) where
        pub read_unary : (u : U) (r : X) → h ≡ Unary u → r ≡ A.unary u x → Reads grammar (numbers A) a c (Some r)
        read_unary u r e q = at_number (Unary u) c (Some r) e n.same_row (omega (arith, n.fewer)) (λ k l. grind (arith, n.reads k, head.same_row))

        module _ (d : Walk P U B E X Y) where
          pub half_binary : Reads grammar (numbers A) c d None → (f : B) → h ≡ Binary f → Reads grammar (numbers A) a d None
          half_binary o f e = at_number (Binary f) d None e (o.same_row ∙ n.same_row) (omega (arith, n.fewer, o.fewer)) (λ k l. grind (arith, n.reads k, o.reads k, head.same_row, n.same_row))

          module _ (y : X) (o : Reads grammar (numbers A) c d (Some y)) where
            pub read_binary : (f : B) (r : X) → h ≡ Binary f → r ≡ A.binary f x y → Reads grammar (numbers A) a d (Some r)
            read_binary f r e q = at_number (Binary f) d (Some r) e (o.same_row ∙ n.same_row) (omega (arith, n.fewer, o.fewer)) (λ k l. grind (arith, n.reads k, o.reads k, head.same_row, n.same_row))

            pub read_compare : (f : Order) (r : Y) → h ≡ Compare f → r ≡ A.compare f x y → Reads grammar (truths A) a d (Some r)
            read_compare f r e q = at_truth (Compare f) d (Some r) e (o.same_row ∙ n.same_row) (omega (arith, n.fewer, o.fewer)) (λ k l. grind (arith, n.reads k, o.reads k, head.same_row, n.same_row))

      -- the first part is a truth
      module _ (w : Y) (n : Reads grammar (truths A) b c (Some w)) (d : Walk P U B E X Y) where
        pub read_join : (v : Y) → Reads grammar (truths A) c d (Some v) → (l : Link) (r : Y) → h ≡ Join l → r ≡ A.join l w v → Reads grammar (truths A) a d (Some r)
        read_join v o l r e q = at_truth (Join l) d (Some r) e (o.same_row ∙ n.same_row) (omega (arith, n.fewer, o.fewer)) (λ k m. grind (arith, n.reads k, o.reads k, head.same_row, n.same_row))

        pub half_choice : Reads grammar (numbers A) c d None → h ≡ Choose → Reads grammar (numbers A) a d None
        half_choice o e = at_number Choose d None e (o.same_row ∙ n.same_row) (omega (arith, n.fewer, o.fewer)) (λ k m. grind (arith, n.reads k, o.reads k, head.same_row, n.same_row))

        module _ (x : X) (o : Reads grammar (numbers A) c d (Some x)) (z : Walk P U B E X Y) where
          pub no_choice : Reads grammar (numbers A) d z None → h ≡ Choose → Reads grammar (numbers A) a z None
          no_choice p e = at_number Choose z None e (p.same_row ∙ (o.same_row ∙ n.same_row)) (omega (arith, n.fewer, o.fewer, p.fewer)) (λ k m. grind (arith, n.reads k, o.reads k, p.reads k, head.same_row, n.same_row, o.same_row))

          pub read_choose : (y : X) → Reads grammar (numbers A) d z (Some y) → (r : X) → h ≡ Choose → r ≡ A.choose w x y → Reads grammar (numbers A) a z (Some r)
          read_choose y p r e q = at_number Choose z (Some r) e (p.same_row ∙ (o.same_row ∙ n.same_row)) (omega (arith, n.fewer, o.fewer, p.fewer)) (λ k m. grind (arith, n.reads k, o.reads k, p.reads k, head.same_row, n.same_row, o.same_row))

    pub no_number : ((i : ℕ) → h ≡ Read i → ⊥) → ((z : ℤ) → h ≡ Constant z → ⊥) → ((u : U) → h ≡ Unary u → ⊥) → ((f : B) → h ≡ Binary f → ⊥) → (h ≡ Choose → ⊥) → Reads grammar (numbers A) a b None
    no_number v w x y z = at_number h b None refl refl (omega arith) (λ k m. not_number A a.row.now k h _ v w x y z)

-- for the arms of numbers that the check finds by these lemmas alone
pub ruleset number_steps = (read_leaf, read_constant, no_unary, read_unary, no_binary, no_condition)
