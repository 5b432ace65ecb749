-- A chained hash index over the first n of some lists, whatever holds them. A hash names a bucket. A link says which list: link j + 1 is
-- list j, and 0 is none. Each bucket's head links to its last list, and each list to the last before it in its bucket.
use Rattle.std.specs.Prelude.{ℕ, zero, suc, ◌+◌, ◌*◌, ◌/◌, ◌%◌, ◌<◌, ◌≡◌, Bool, cond, List, [], ◌∷◌, eqb}

-- How many buckets there are.
abbrev pub buckets : ℕ
buckets = 8192

-- Numbers mixed into a number below 2 to the 32nd; its highest bits name the bucket.
unfoldable pub mixed : ℕ → List ℕ → ℕ
mixed h [] = h / 524288 % 8192
mixed h (x ∷ l) = mixed ((h + x) * 1540483477 % 4294967296) l

-- The same as far as the list goes.
unfoldable pub stirred : ℕ → List ℕ → ℕ
stirred h [] = h
stirred h (x ∷ l) = stirred ((h + x) * 1540483477 % 4294967296) l

unfoldable pub hash_of : List ℕ → ℕ
hash_of l = mixed 0 l

-- The link to the last number below n that passes a test.
unfoldable pub last : (ℕ → Bool) → ℕ → ℕ
last p zero = 0
last p (suc j) = cond (p j) (suc j) (last p j)

-- Tells whether list j is in a bucket.
abbrev pub in_bucket : (ℕ → List ℕ) → ℕ → ℕ → Bool
in_bucket entry bucket j = eqb (hash_of (entry j)) bucket

pub record Chained (entry : ℕ → List ℕ) (head link : ℕ → ℕ) (n : ℕ) : Type 0 where
  pub heads : (bucket : ℕ) → bucket < buckets → head bucket ≡ last (in_bucket entry bucket) n
  pub links : (j : ℕ) → j < n → link j ≡ last (in_bucket entry (hash_of (entry j))) j
