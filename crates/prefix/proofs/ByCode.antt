-- Only nodes of code 0 read, and they read the place that the argument names.
use Rattle.std.proofs.Common.{◌≡◌, ℕ, Bool, true, false, cond, eqb, List, [], ◌∷◌, ℤ, pos, negsuc, Some, None, Option, inl}
use Rattle.tables.specs.declared.Node.{Node}
use Rattle.guest.specs.Reads.{Among, named, read_by}
use Rattle.prefix.specs.declared.grammar.Head.{Head}
use Rattle.prefix.specs.declared.grammar.Head.TheVariants.{Read}
use Rattle.prefix.specs.Codes.{looked_up, read_of, is_zero, head_by}
use Rattle.prefix.specs.Walk.{Reading}

-- a head that does not read
abbrev pub NoRead : {U B : Type 0} → Option (Head U B) → Type 0
NoRead h = Reading (λ i. ⊥) h

abbrev pub NoneRead : {U B : Type 0} → List (ℕ × Head U B) → Type 0
NoneRead [] = Unit {0}
NoneRead (row ∷ rows) = NoRead (Some row.1) × NoneRead rows

module _ {U B : Type 0} where
  no_read_if : (b : Bool) (x y : Option (Head U B)) → NoRead x → NoRead y → NoRead (cond b x y)
  no_read_if true x y h k = h
  no_read_if false x y h k = k

  no_read_up : (code : ℕ) (rows : List (ℕ × Head U B)) → NoneRead rows → NoRead (looked_up code rows)
  no_read_up code [] h = tt
  no_read_up code (row ∷ rows) h = no_read_if (eqb code row.0) (Some row.1) (looked_up code rows) h.0 (no_read_up code rows h.1)

  reads_named : (a : ℤ) (i : ℕ) → ◌≡◌ {A = Option (Head U B)} (read_of a) (Some (Read i)) → Among i (named a)
  reads_named (pos n) i e = inl cc
  reads_named (negsuc n) i e = cc

  reads_if : (b : Bool) (a : ℤ) (o : Option (Head U B)) (i : ℕ) → NoRead o → cond b (read_of a) o ≡ Some (Read i) → Among i (cond b (named a) [])
  reads_if true a o i h e = reads_named a i e
  reads_if false a o i h e = absurd (rw e at h)

  pub reads_by_code : (constant : ℤ → Option (Head U B)) (codes : List (ℕ × Head U B)) → ((z : ℤ) → NoRead (constant z)) → NoneRead codes
      → (n : Node) (i : ℕ) → head_by constant codes n ≡ Some (Read i) → Among i (read_by n)
  reads_by_code constant codes p q n i e =
      reads_if (eqb n.code 0) n.argument (cond (eqb n.code 1) (constant n.argument) (cond (is_zero n.argument) (looked_up n.code codes) None)) i
      (no_read_if (eqb n.code 1) (constant n.argument) (cond (is_zero n.argument) (looked_up n.code codes) None) (p n.argument)
      (no_read_if (is_zero n.argument) (looked_up n.code codes) None (no_read_up n.code codes q) tt))
      e
