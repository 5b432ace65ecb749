-- A chained index over the first items with each number of a list. A number's remainder names its bucket. Each bucket's head links to the
-- last first item in it, and each first item to the last one before it in its bucket, so that lists of zeros are the index of no item.
use Rattle.std.specs.Prelude.{ℕ, suc, ◌%◌, ◌≤◌, ◌<◌, ◌≡◌, Bool, true, ◌&&◌, List, eqb, get_or}
use Rattle.bisimulation.specs.Finite.{related, lead}
use Rattle.comparison.specs.Held.{open_below}
use Rattle.rounds.specs.declared.links.Buckets.{Buckets}

-- The count of buckets, for which there is room: the largest prime that is no more than 4,096, since remainders by it spread well.
abbrev pub bucket_prime : ℕ
bucket_prime = 4093

abbrev pub bucket_at : (list : List ℕ) → (x : ℕ) → ℕ
bucket_at list x = get_or list x 0 % bucket_prime

-- Is y a first item, and in that bucket?
abbrev pub is_first_in : (list : List ℕ) → (bucket y : ℕ) → Bool
is_first_in list bucket y = eqb (lead (related list) y) y && eqb (bucket_at list y) bucket

-- The index of the first items below x.
pub record Indexed (list : List ℕ) (index : Buckets) (x : ℕ) : Type 0 where
  pub head : (bucket : ℕ) → bucket < bucket_prime → get_or index.heads bucket 0 ≡ open_below (is_first_in list bucket) x
  pub link : (y : ℕ) → y < x → lead (related list) y ≡ y
      → get_or index.links y 0 ≡ open_below (is_first_in list (bucket_at list y)) y

-- The search for the lead of x has come to a link. What it links to is a first item in the bucket of x, and no first item after that
-- has the number of x.
pub record Looking (list : List ℕ) (x link : ℕ) : Type 0 where
  pub within : link ≤ x
  pub inside : (y : ℕ) → link ≡ suc y → is_first_in list (bucket_at list x) y ≡ true
  pub ahead : (y : ℕ) → y < x → lead (related list) y ≡ y → related list y x ≡ true → y < link
