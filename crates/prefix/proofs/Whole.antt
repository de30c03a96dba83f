-- The whole expression: what was found, if no node is left.
use Rattle.std.proofs.Common.{◌≡◌, ℕ, List, length, Some, None, Option, ap, ◌∙◌, arith}
use Rattle.tables.specs.declared.Node.{Node}
use Rattle.prefix.specs.declared.grammar.Head.{Head}
use Rattle.prefix.specs.declared.walk.Walk.{Walk}
use Rattle.prefix.specs.Parse.{heads, whole}
use Rattle.prefix.specs.Pass.{given}
use Rattle.prefix.specs.Walk.{seen, Reads}

-- what is seen of what was read, if nothing is left
whole_seen : {H A X : Type 0} (f : A → X) (p : Option (A × List H)) → whole (seen f p) ≡ given f (whole p)
whole_seen f p = grind arith

module _ {P U B E X Y Q R : Type 0} (grammar : Node → Option (Head U B)) (f : List E → Q → R) (parse : ℕ → List (Option (Head U B)) → Option (Q × List (Option (Head U B)))) (a b : Walk P U B E X Y) where
  pub none_whole : Reads grammar (λ w k hs. seen (f w) (parse k hs)) a b None → None ≡ given (f a.row.now) (whole (parse (length a.nodes.now) (heads grammar (length a.row.now) a.nodes.now)))
  none_whole d = ap whole (d.reads (length a.nodes.now) (omega arith)) ∙ whole_seen (f a.row.now) _

  no_heads : (r : R) (w : ℕ) (ns : List Node) → whole (Some (r, ns)) ≡ whole (Some (r, heads grammar w ns))
  no_heads r w ns = grind arith

  pub some_whole : (r : R) → Reads grammar (λ w k hs. seen (f w) (parse k hs)) a b (Some r)
      → whole (Some (r, b.nodes.now)) ≡ given (f a.row.now) (whole (parse (length a.nodes.now) (heads grammar (length a.row.now) a.nodes.now)))
  some_whole r d = no_heads r (length a.row.now) b.nodes.now ∙ (ap whole (d.reads (length a.nodes.now) (omega arith)) ∙ whole_seen (f a.row.now) _)
