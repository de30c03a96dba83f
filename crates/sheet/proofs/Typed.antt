-- A table's records, made one by one from its rows.
use Rattle.std.proofs.Common.{◌≡◌, ℕ, ◌+◌, ◌<◌, Bool, List, [], ◌∷◌, ◌++◌, map, length, get_or, take, Ok, refl, ap₂}
use Rattle.std.specs.List.{AllZip}
use Rattle.std.proofs.lemmas.List.{take_more}
use Rattle.tables.specs.Records.{TypedAs}

push_zip : {X Y : Type 0} (R : X → Y → Type 0) (xs : List X) (ys : List Y) (x : X) (y : Y) → AllZip R xs ys → R x y → AllZip R (xs ++ x ∷ []) (ys ++ y ∷ [])
push_zip R [] [] x y h g = (g, tt)
push_zip R [] (w ∷ ys) x y h g = absurd h
push_zip R (v ∷ xs) [] x y h g = absurd h
push_zip R (v ∷ xs) (w ∷ ys) x y h g = (h.0, push_zip R xs ys x y h.1 g)

-- y is the record of the row x at i
pub typed_more : {X Y : Type 0} (R : X → Y → Type 0) (xs : List X) (ys zs : List Y) (i : ℕ) (x : X) (y : Y)
    → AllZip R (take i xs) ys → i < length xs → x ≡ get_or xs i x → R x y → zs ≡ ys ++ y ∷ [] → AllZip R (take (i + 1) xs) zs
typed_more R xs ys zs i x y inv l is g push = rw (take_more xs i x l, ← is, push) (push_zip R (take i xs) ys x y inv g)

-- the records are written as the rows
pub written_as : {X Y : Type 0} (limits : X → Bool) (row : Y → X) (xs : List X) (ys : List Y) → AllZip (λ x y. TypedAs limits row x (Ok y)) xs ys → map row ys ≡ xs
written_as limits row [] [] h = refl
written_as limits row [] (y ∷ ys) h = absurd h
written_as limits row (x ∷ xs) [] h = absurd h
written_as limits row (x ∷ xs) (y ∷ ys) h = ap₂ ◌∷◌ h.0.1 (written_as limits row xs ys h.1)
