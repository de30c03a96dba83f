-- What a guard of exactly three nodes, comparison, read, constant, gives and reads.
use Rattle.std.proofs.Common.{◌≡◌, ℕ, true, ltb, List, [], ◌∷◌, length, is_some, Some, Option, sym, ap, ◌∙◌, arith}
use Rattle.std.specs.List.{slice_get}
use Rattle.tables.specs.declared.Node.{Node}
use Rattle.guest.specs.Reads.{Among, read_by, reads}
use Rattle.prefix.specs.declared.grammar.Head.{Head}
use Rattle.prefix.specs.declared.grammar.Head.TheVariants.{Read, Constant, Compare}
use Rattle.prefix.specs.declared.comparison.Comparison.{Comparison}
use Rattle.prefix.specs.Pass.{Algebra, truth_pass}
use Rattle.prefix.specs.Simple.{order_of, place_of, constant_of, compared_by, simple}
use Rattle.guest.proofs.Rows.{among_left, among_right}
use Rattle.prefix.proofs.Alike.{known}

module _ {U B : Type 0} (grammar : Node → Option (Head U B)) where
  -- the three nodes stand for this
  abbrev Stands : Comparison → Node → Node → Node → Type 0
  Stands c x y z = (grammar x ≡ Some (Compare c.order)) × (grammar y ≡ Some (Read c.place)) × (grammar z ≡ Some (Constant c.constant))

  stand : (c : Comparison) (x y z : Node) → compared_by (order_of (grammar x)) (place_of (grammar y)) (constant_of (grammar z)) ≡ Some c → Stands c x y z
  stand c x y z e = grind arith

  module _ {E X Y : Type 0} (A : Algebra U B E X Y) (row : List E) (c : Comparison) (e : E) (here : slice_get row c.place ≡ Some e) where
    inside : ltb c.place (length row) ≡ true
    inside = sym (known row c.place) ∙ ap is_some here

    -- what it gives: the element at the place compared with the constant
    pub simple_gives : (ns : List Node) → simple grammar ns ≡ Some c → truth_pass grammar A ns row ≡ Some (A.compare c.order (A.leaf (Some e)) (A.constant c.constant))
    simple_gives [] s = cc
    simple_gives (x ∷ []) s = cc
    simple_gives (x ∷ (y ∷ [])) s = cc
    simple_gives (x ∷ (y ∷ (z ∷ []))) s =
        let p = stand c x y z s in rw (p.0, p.1, p.2, inside) (ap (λ q. Some (A.compare c.order (A.leaf q) (A.constant c.constant))) here)
    simple_gives (x ∷ (y ∷ (z ∷ (w ∷ ns)))) s = cc

  -- it reads that place
  module _ (by_code : (n : Node) (i : ℕ) → grammar n ≡ Some (Read i) → Among i (read_by n)) (c : Comparison) where
    pub simple_reads : (ns : List Node) → simple grammar ns ≡ Some c → Among c.place (reads ns)
    simple_reads [] s = cc
    simple_reads (x ∷ []) s = cc
    simple_reads (x ∷ (y ∷ [])) s = cc
    simple_reads (x ∷ (y ∷ (z ∷ []))) s =
        let p = stand c x y z s in
        among_right c.place (read_by x) (reads (y ∷ (z ∷ []))) (among_left c.place (read_by y) (reads (z ∷ [])) (by_code y c.place p.1))
    simple_reads (x ∷ (y ∷ (z ∷ (w ∷ ns)))) s = cc
