-- Laws for loops over a list: a test of every item, and the largest of numbers, from item i on.
use Rattle.std.specs.Prelude.{ℕ, ◌+◌, ◌≤◌, ◌<◌, max, ◌≡◌, Bool, true, false, ◌&&◌, List, ◌∷◌, length, get_or, drop}
use Rattle.std.proofs.Common.{arith, add-one, sym, ◌∙◌, ap, drop_of_length-le, drop-cons}
use Rattle.regions.specs.Graph.{every, largest_of}

split : {A : Type 0} (l : List A) (i : ℕ) (d : A) → i < length l → drop i l ≡ get_or l i d ∷ drop (i + 1) l
split l i d h = drop-cons l i d h ∙ ap (λ n. get_or l i d ∷ drop n l) (sym (add-one i))

module _ {A : Type 0} (p : A → Bool) (l : List A) (i : ℕ) (d : A) where
  -- Item i passes: the test goes on behind it.
  pub every-on : i < length l → p (get_or l i d) ≡ true → every p (drop i l) ≡ every p (drop (i + 1) l)
  every-on h e = ap (every p) (split l i d h) ∙ ap (λ b. b && every p (drop (i + 1) l)) e

  -- Item i fails, and so does the test.
  pub every-fails : i < length l → p (get_or l i d) ≡ false → every p (drop i l) ≡ false
  every-fails h e = ap (every p) (split l i d h) ∙ ap (λ b. b && every p (drop (i + 1) l)) e

  -- No item is left.
  pub every-over : length l ≤ i → every p (drop i l) ≡ true
  every-over h = ap (every p) (drop_of_length-le l h)

-- The largest so far and the largest of what is left come to the largest of all.
module _ {A : Type 0} (f : A → ℕ) (l : List A) (i best : ℕ) (d : A) (all : max best (largest_of f (drop i l)) ≡ largest_of f l) where
  pub largest-on : i < length l → (next : ℕ) → next ≡ max best (f (get_or l i d))
      → max next (largest_of f (drop (i + 1) l)) ≡ largest_of f l
  largest-on h next e =
      let step : largest_of f (drop i l) ≡ max (f (get_or l i d)) (largest_of f (drop (i + 1) l)) = ap (largest_of f) (split l i d h) in
      omega arith

  pub largest-over : length l ≤ i → best ≡ largest_of f l
  largest-over h = let none : largest_of f (drop i l) ≡ 0 = ap (largest_of f) (drop_of_length-le l h) in omega arith
