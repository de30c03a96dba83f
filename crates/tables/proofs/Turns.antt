-- The turn list: its test says that each automaton stands in it once.
use Rattle.std.proofs.Common.{◌≡◌, ℕ, ◌+◌, ◌<◌, ◌≤◌, Bool, true, false, cond, ◌&&◌, eqb, ltb, ◌⊎◌, List, [], ◌∷◌, ◌++◌, length, get_or, take, drop, set, replicate, Decides, sym, refl, ap, ◌∙◌, inl, inr, add_assoc, zero-add, arith}
use Rattle.std.proofs.lemmas.List.Elements.{All-nil, All-get_or, All-more}
use Rattle.std.proofs.lemmas.List.{take_more, take-append-drop, get_or-replicate, get_or-set_same, get_or-set_other, length-set}
use Rattle.std.proofs.lemmas.Bool.{cases_eq, eq-eqb, ne_eqb}
use Rattle.std.proofs.lemmas.Bool.Decides.{same_from_decides, Decides-ltb, Decides-eqb, Decides-and, Decides-like, Decides-below_and, Decides-by_and}
use Rattle.tables.specs.declared.refusal.LoadRefusal.TheVariants.{Turns}
use Rattle.tables.specs.Load.{all_below, each_once, times, unless, turns_verdict}
use Rattle.tables.specs.Allowed.{EachOnce}
use Rattle.tables.specs.Noted.{Noted}

pub turns_decides : (n : ℕ) (turns : List ℕ) → Decides (all_below n turns && each_once n turns) (EachOnce n turns)
turns_decides n turns =
    Decides-like _ (λ h. record { known = h.0; once = h.1 }) (λ h. (h.known, h.once))
    (Decides-and (all_below n turns) (each_once n turns)
    (Decides-by_and (λ x. ltb x n) (λ x. x < n) (all_below n) (λ x. Decides-ltb x n) refl (λ _ _. refl) turns)
    (Decides-below_and (λ a. eqb (times a turns) 1) (λ a. times a turns ≡ 1) (λ k. each_once k turns) (λ a. Decides-eqb (times a turns) 1) refl (λ _. refl) n))

pub turns_judged : (n : ℕ) (turns : List ℕ) (b : Bool) → Decides b (EachOnce n turns) → unless b Turns ≡ turns_verdict n turns
turns_judged n turns b d = ap (λ x. unless x Turns) (same_from_decides b (all_below n turns && each_once n turns) d (turns_decides n turns))

times_append : (a : ℕ) (xs ys : List ℕ) → times a (xs ++ ys) ≡ times a xs + times a ys
times_append a [] ys = sym (zero-add (times a ys))
times_append a (x ∷ xs) ys = ap (λ n. cond (eqb a x) 1 0 + n) (times_append a xs ys) ∙ sym (add_assoc (cond (eqb a x) 1 0) (times a xs) (times a ys))

times_more : (a : ℕ) (xs : List ℕ) (i : ℕ) → i < length xs → times a (take (i + 1) xs) ≡ times a (take i xs) + cond (eqb a (get_or xs i 0)) 1 0
times_more a xs i l = ap (times a) (take_more xs i 0 l) ∙ times_append a (take i xs) (get_or xs i 0 ∷ []) ∙ omega arith

times_take : (a : ℕ) (k : ℕ) (xs : List ℕ) → times a (take k xs) ≤ times a xs
times_take a k xs = omega (arith, times_append a (take k xs) (drop k xs), ap (times a) (take-append-drop k xs))

pub noted_none : (seen : List Bool) → seen ≡ replicate (length seen) false → Noted (length seen) [] seen
noted_none seen is = record {
  long = refl;
  known = All-nil (λ a. a < length seen);
  flags = λ a l. let e : get_or seen a false ≡ false = ap (λ s. get_or s a false) is ∙ get_or-replicate (length seen) a false false l in rw e refl;
}

-- one turn more, of the automaton x
module _ (n : ℕ) (xs : List ℕ) (seen : List Bool) (i x : ℕ) (is : x ≡ get_or xs i 0) (within : i < length xs) (noted : Noted n (take i xs) seen) where
  times_then : (a : ℕ) → times a (take (i + 1) xs) ≡ times a (take i xs) + cond (eqb a x) 1 0
  times_then a = rw is (times_more a xs i within)

  pub noted_more : x < n → get_or seen x false ≡ false → Noted n (take (i + 1) xs) (set seen x true)
  noted_more below new = record {
    long = length-set seen x true ∙ noted.long;
    known = All-more (λ a. a < n) xs i 0 within noted.known (rw (← is) below);
    flags = λ a l. times_then a ∙ flag a l (cases_eq a x);
  }
    where
      flag : (a : ℕ) → a < n → (a ≡ x) ⊎ (a ≡ x → ⊥) → times a (take i xs) + cond (eqb a x) 1 0 ≡ cond (get_or (set seen x true) a false) 1 0
      flag a l (inl e) =
          let room : x < length seen = omega (arith, noted.long) in
          let none : times x (take i xs) ≡ 0 = rw new at (noted.flags x below) in
          rw (e, eq-eqb x x refl, get_or-set_same seen x true false room) (omega arith)
      flag a l (inr ne) = rw (ne_eqb a x ne, get_or-set_other seen x a true false ne) (omega (arith, noted.flags a l))

  -- no automaton, or one that had its turn
  pub noted_stop : (n ≤ x) ⊎ ((x < n) × (get_or seen x false ≡ true)) → EachOnce n xs → ⊥
  noted_stop (inl past) once = omega (arith, is, All-get_or (λ a. a < n) xs i 0 within once.known)
  noted_stop (inr again) once =
      let had : times x (take i xs) ≡ 1 = rw again.1 at (noted.flags x again.0) in
      let now : times x (take (i + 1) xs) ≡ times x (take i xs) + 1 = rw (eq-eqb x x refl) at (times_then x) in
      omega (arith, times_take x (i + 1) xs, once.once x again.0)
