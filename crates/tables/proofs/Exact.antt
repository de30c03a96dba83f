-- Verdicts that are fine exactly where facts hold: one after the other, and over a table.
use Rattle.std.proofs.Common.{ℕ, suc, Bool, true, false, ◌&&◌, List, [], ◌∷◌, Ok, Err, Decides, refl, arith}
use Rattle.std.specs.List.{All}
use Rattle.std.proofs.lemmas.List.Elements.{All-nil, All-cons, All-head, All-tail}
use Rattle.tables.specs.declared.refusal.LoadRefusal.{LoadRefusal}
use Rattle.tables.specs.declared.refusal.LoadRefusal.TheVariants.{Outside}
use Rattle.tables.specs.declared.refusal.Table.{Table}
use Rattle.tables.specs.Load.{Verdict, ◌then◌, unless, each, records, record_verdict}
use Rattle.tables.specs.Exact.{Exactly}

pub then_exactly : {P Q : Type 0} (r s : Verdict) → Exactly r P → Exactly s Q → Exactly (r then s) (P × Q)
then_exactly (Ok u) s p q = ((λ e. (p.0 refl, q.0 e)), λ h. q.1 h.1)
then_exactly (Err x) s p q = ((λ e. grind arith), λ h. p.1 h.0)

pub unless_exactly : {P : Type 0} (b : Bool) (e : LoadRefusal) → Decides b P → Exactly (unless b e) P
unless_exactly true e d = ((λ _. d.0 refl), λ _. refl)
unless_exactly false e d = ((λ h. grind arith), λ h. grind arith)

pub exactly_like : {P Q : Type 0} (r : Verdict) → (P → Q) → (Q → P) → Exactly r P → Exactly r Q
exactly_like r to from p = ((λ e. to (p.0 e)), λ q. p.1 (from q))

pub each_exactly : {X : Type 0} (f : ℕ → X → Verdict) (P : X → Type 0) → ((k : ℕ) (x : X) → Exactly (f k x) (P x)) → (k : ℕ) (xs : List X) → Exactly (each f k xs) (All P xs)
each_exactly f P h k [] = ((λ _. All-nil P), λ _. refl)
each_exactly f P h k (x ∷ xs) =
    exactly_like (f k x then each f (suc k) xs) (λ e. All-cons P x xs e.0 e.1) (λ a. (All-head P x xs a, All-tail P x xs a))
    (then_exactly (f k x) (each f (suc k) xs) (h k x) (each_exactly f P h (suc k) xs))

verdict_exactly : {P : Type 0} (t : Table) (k : ℕ) (limits inside : Bool) → Decides (limits && inside) P → Exactly (record_verdict t limits inside k) P
verdict_exactly t k true inside d = unless_exactly inside (Outside t k) d
verdict_exactly t k false inside d = ((λ e. grind arith), λ h. grind arith)

-- the records of a table, of which each passes both tests exactly where it is allowed
pub records_exactly : {X : Type 0} (t : Table) (limits inside : X → Bool) (P : X → Type 0) → ((x : X) → Decides (limits x && inside x) (P x)) → (xs : List X) → Exactly (records t limits inside xs) (All P xs)
records_exactly t limits inside P d xs = each_exactly (λ k x. record_verdict t (limits x) (inside x) k) P (λ k x. verdict_exactly t k (limits x) (inside x) (d x)) 0 xs
