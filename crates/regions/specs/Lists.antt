-- A test of all items of a list, for regions and for states; and lists of one item.
use Rattle.std.specs.Prelude.{ℕ, zero, suc, ◌≡◌, refl, Bool, true, ◌&&◌, List, [], ◌∷◌, get_or, replicate}

-- All items of a list are such.
abbrev pub every : {A : Type 0} → (A → Bool) → List A → Bool
every p [] = true
every p (x ∷ l) = p x && every p l

-- A list of one item is that everywhere.
pub same-at : {A : Type 0} (x : A) (n i : ℕ) → get_or (replicate n x) i x ≡ x
same-at x zero i = refl
same-at x (suc n) zero = refl
same-at x (suc n) (suc i) = same-at x n i
