-- Arithmetic of ranges.
use Rattle.std.proofs.Common.{◌≡◌, ℕ, zero, suc, ◌*◌, ◌/◌, ◌≤◌, Bool, true, false, cond, ◌⊎◌, ℤ, pos, negsuc, ◌*ℤ◌, ◌≤ℤ◌, ◌<ℤ◌, None, Ok, refl, mul-le-mul_right, div-mul-le_self, arith}
use lib.IntN.{*ℤ_comm}
use lib.Signed.{quot_z}
use Rattle.std.specs.Int.{int_min, int_max, int_rem_euclid}
use Rattle.std.proofs.lemmas.Int.{ints, clamps}
use Rattle.std.proofs.lemmas.Nat.{le-div}
use Rattle.intervals.specs.declared.range.Range.{Range}
use Rattle.intervals.specs.declared.operations.Arithmetic.{Arithmetic}
use Rattle.intervals.specs.declared.operations.Arithmetic.TheVariants.{Add, Subtract, Multiply, Divide}
use Rattle.prefix.specs.Codes.{is_zero}
use Rattle.intervals.specs.Range.{range, held}
use Rattle.intervals.specs.Value.{word, applied}
use Rattle.intervals.specs.Typing.{corners, spread, hull}
use Rattle.prefix.proofs.Laws.{Good}
use Rattle.intervals.specs.Meaning.{ranges}
use Rattle.intervals.proofs.Good.{In, range_holds, range_good}

-- z lies between p and q, whichever is the greater
abbrev Between : ℤ → ℤ → ℤ → Type 0
Between p z q = (int_min p q ≤ℤ z) × (z ≤ℤ int_max p q)

rising : (p z q : ℤ) → p ≤ℤ z → z ≤ℤ q → Between p z q
rising p z q h k = (omega (arith, ints, clamps), omega (arith, ints, clamps))

falling : (p z q : ℤ) → q ≤ℤ z → z ≤ℤ p → Between p z q
falling p z q h k = (omega (arith, ints, clamps), omega (arith, ints, clamps))

times_mono : (a b n : ℕ) → a ≤ b → (a * n) ≤ (b * n)
times_mono a b n h = mul-le-mul_right n h

-- a product by a number that is not negative, and by a negative one
mul_up : (x y : ℤ) (n : ℕ) → x ≤ℤ y → (x *ℤ pos n) ≤ℤ (y *ℤ pos n)
mul_up (pos a) (pos b) n h = grind (arith, ints, times_mono)
mul_up (negsuc a) (negsuc b) n h = grind (arith, ints, times_mono)
mul_up x y n h = omega (arith, ints)

mul_down : (x y : ℤ) (n : ℕ) → x ≤ℤ y → (y *ℤ negsuc n) ≤ℤ (x *ℤ negsuc n)
mul_down (pos a) (pos b) n h = grind (arith, ints, times_mono)
mul_down (negsuc a) (negsuc b) n h = grind (arith, ints, times_mono)
mul_down x y n h = omega (arith, ints)

mul_between : (a x b y : ℤ) → a ≤ℤ x → x ≤ℤ b → Between (a *ℤ y) (x *ℤ y) (b *ℤ y)
mul_between a x b (pos n) h k = rising _ _ _ (mul_up a x n h) (mul_up x b n k)
mul_between a x b (negsuc n) h k = falling _ _ _ (mul_down x b n k) (mul_down a x n h)

mul_between' : (a x b y : ℤ) → a ≤ℤ x → x ≤ℤ b → Between (y *ℤ a) (y *ℤ x) (y *ℤ b)
mul_between' a x b y h k = rw (*ℤ_comm y a, *ℤ_comm y x, *ℤ_comm y b) (mul_between a x b y h k)

-- quotients of naturals: the dividend grows, and the divisor
div_mono : (m n k : ℕ) → m ≤ n → (m / suc k) ≤ (n / suc k)
div_mono m n k h = le-div (m / suc k) n (suc k) (omega arith) (omega (arith, div-mul-le_self m (suc k)))

div_anti : (m j k : ℕ) → j ≤ k → (m / suc k) ≤ (m / suc j)
div_anti m j k h = le-div (m / suc k) m (suc j) (omega arith) (grind (arith, div-mul-le_self m (suc k)))

-- the dividend grows: by a positive divisor, and by a negative one
quot_up : (x y : ℤ) (n : ℕ) → x ≤ℤ y → quot_z x (pos (suc n)) ≤ℤ quot_z y (pos (suc n))
quot_up (pos a) (pos b) n h = grind (arith, ints, div_mono)
quot_up (negsuc a) (negsuc b) n h = grind (arith, ints, div_mono)
quot_up x y n h = omega (arith, ints)

quot_down : (x y : ℤ) (n : ℕ) → x ≤ℤ y → quot_z y (negsuc n) ≤ℤ quot_z x (negsuc n)
quot_down (pos a) (pos b) n h = grind (arith, ints, div_mono)
quot_down (negsuc a) (negsuc b) n h = grind (arith, ints, div_mono)
quot_down x y n h = omega (arith, ints)

quot_between : (a x b y : ℤ) → (y ≡ pos 0 → ⊥) → a ≤ℤ x → x ≤ℤ b → Between (quot_z a y) (quot_z x y) (quot_z b y)
quot_between a x b (pos zero) n h k = absurd (n refl)
quot_between a x b (pos (suc j)) n h k = rising _ _ _ (quot_up a x j h) (quot_up x b j k)
quot_between a x b (negsuc j) n h k = falling _ _ _ (quot_down x b j k) (quot_down a x j h)

-- the divisor grows, above 0 and below it
above_between : (x : ℤ) (i j k : ℕ) → i ≤ j → j ≤ k → Between (quot_z x (pos (suc i))) (quot_z x (pos (suc j))) (quot_z x (pos (suc k)))
above_between (pos m) i j k h l = search (arith, ints, clamps, div_anti)
above_between (negsuc m) i j k h l = search (arith, ints, clamps, div_anti)

below_between : (x : ℤ) (i j k : ℕ) → i ≤ j → j ≤ k → Between (quot_z x (negsuc k)) (quot_z x (negsuc j)) (quot_z x (negsuc i))
below_between (pos m) i j k h l = search (arith, ints, clamps, div_anti)
below_between (negsuc m) i j k h l = search (arith, ints, clamps, div_anti)

-- a divisor range that leaves out 0
abbrev Off : ℤ → ℤ → Type 0
Off b c = (pos 0 <ℤ b) ⊎ (c <ℤ pos 0)

quot_between' : (b y c x : ℤ) → Off b c → b ≤ℤ y → y ≤ℤ c → Between (quot_z x b) (quot_z x y) (quot_z x c)
quot_between' (pos (suc i)) (pos (suc j)) (pos (suc k)) x o h l = above_between x i j k (omega (arith, ints)) (omega (arith, ints))
quot_between' (negsuc k) (negsuc j) (negsuc i) x o h l = below_between x i j k (omega (arith, ints)) (omega (arith, ints))
quot_between' b y c x o h l = absurd (omega (arith, ints))

-- what lies between results that lie between those at the ends lies between the least and the greatest of these
corners_good : (f : ℤ → ℤ → ℤ) (r s : Range) (x y : ℤ) → Between (f r.lo y) (f x y) (f r.hi y)
    → Between (f r.lo s.lo) (f r.lo y) (f r.lo s.hi) → Between (f r.hi s.lo) (f r.hi y) (f r.hi s.hi)
    → Good ranges (corners f r s) (word (f x y))
corners_good f r s x y b l h = search (arith, ints, clamps, range_good)

-- a range that does not hold 0 lies on one side of it
not_held_off : (s : Range) → held s (pos 0) ≡ false → Off s.lo s.hi
not_held_off s e = grind (arith, ints)

nonzero : (s : Range) (y : ℤ) → In s y → held s (pos 0) ≡ false → y ≡ pos 0 → ⊥
nonzero s y h e z = grind (arith, ints)

not_zero : (y : ℤ) → (y ≡ pos 0 → ⊥) → is_zero y ≡ false
not_zero y n = grind (arith, ints)

divided : (r s : Range) (x y : ℤ) → In r x → In s y → (t : Bool) → held s (pos 0) ≡ t → Good ranges (cond t None (corners quot_z r s)) (applied Divide x y)
divided r s x y (a, b) k true e = tt
divided r s x y (a, b) k false e =
    let o = not_held_off s e in
    let n = nonzero s y k e in
    rw (not_zero y n)
    (corners_good quot_z r s x y (quot_between r.lo x r.hi y n a b) (quot_between' s.lo y s.hi r.lo o k.0 k.1) (quot_between' s.lo y s.hi r.hi o k.0 k.1))

pub spread_good : (f : Arithmetic) (r s : Range) (x y : ℤ) → In r x → In s y → Good ranges (spread f r s) (applied f x y)
spread_good Add r s x y h k = search (arith, ints, range_good)
spread_good Subtract r s x y h k = search (arith, ints, range_good)
spread_good Multiply r s x y (a, b) (c, d) =
    corners_good (λ x y. x *ℤ y) r s x y (mul_between r.lo x r.hi y a b) (mul_between' s.lo y s.hi r.lo c d) (mul_between' s.lo y s.hi r.hi c d)
spread_good Divide r s x y h k = divided r s x y h k (held s (pos 0)) refl

pub hull_good : (r s : Range) (x y : ℤ) (c : Bool) → In r x → In s y → Good ranges (hull r s) (Ok (cond c x y))
hull_good r s x y c h k = grind (arith, ints, clamps, range_holds)

pub byte_good : (x : ℤ) → Good ranges (range (pos 0) (pos 255)) (Ok (int_rem_euclid x (pos 256)))
byte_good x = grind (arith, ints, range_holds)

pub constant_good : (z : ℤ) → Good ranges (range z z) (Ok z)
constant_good z = search (arith, ints, range_holds)
