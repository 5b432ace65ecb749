-- Available edges as bits: clearing leaves none, and marking a rank makes that edge available and changes no other.
use Prim.Native.Nat.{ℕ, zero, suc, ◌+◌, ◌*◌, ◌-◌, ◌/◌, ◌%◌, ◌^◌, ◌≤◌, ◌<◌}
use Rattle.std.proofs.Common.{arith, mod-eq_of_lt, mul-div_cancel, pow-suc, mul_assoc, ◌∙◌}
use Rattle.std.proofs.Math.Nat.{mod-lt, pow-le-pow_right, div-eq_of_lt, mul-mod_left, zero-div, one-le-pow, div-add-mod, mul-add-div}
use Rattle.std.proofs.Math.Nat.{mul-add-mod_self_left}
use Rattle.std.specs.Prelude.{◌≡◌, true, false, List, ◌⊎◌, length}
use Rattle.std.proofs.Math.Path.{refl, sym, ap}
use Rattle.std.proofs.Math.Logic.{inl, inr}
use Rattle.std.proofs.Math.Dec.{eqb}
use Rattle.graph.proofs.Laws.Latest.{decide, cases}
use Rattle.std.specs.Int.Bits.{bit_or, or_zero_l, or_zero_r, or_self}
use Rattle.std.proofs.lemmas.Nat.{or_shr, or_mod}
use Rattle.graph.specs.declared.columns.Column.{Column}
use Rattle.graph.specs.Columns.{load, store, most_regions, most_edges, available}
use Rattle.graph.specs.Readers.{available_word, bit_of, is_available}
use Rattle.graph.specs.Writers.{cleared_words, with_none_available, with_available}
use Rattle.graph.proofs.Laws.Columns.{Lent, Kept, apart, kept_same, kept_then, store_length, load_stored, load-modulo, load-other}
use Rattle.graph.proofs.Laws.Columns.{store_keeps}

-- A bit of a word is below its end.
pub bit-small : (k : ℕ) → k < 16 → 2 ^ k < 65536
bit-small k h = let most : 2 ^ k ≤ 2 ^ 15 = pow-le-pow_right {n = 2} (omega arith) {i = k} {j = 15} (omega (arith, h)) in omega
    (arith, most)

-- What the code shifts.
pub bit_shifted : (k : ℕ) → k < 16 → 1 * 2 ^ k % 18446744073709551616 ≡ 2 ^ k
bit_shifted k h = let e : 1 * 2 ^ k ≡ 2 ^ k = omega arith in ap (λ (n : ℕ). n % 18446744073709551616) e ∙ mod-eq_of_lt
    (omega (arith, bit-small k h))

-- ---- Powers of two

pow-split : (j d : ℕ) → 2 ^ (j + d) ≡ 2 ^ d * 2 ^ j
pow-split zero d = let e : 0 + d ≡ d = omega arith in ap (λ (n : ℕ). 2 ^ n) e ∙ omega arith
pow-split (suc j) d =
    let e : suc j + d ≡ suc (j + d) = omega arith in
    ap (λ (n : ℕ). 2 ^ n) e ∙ pow-suc 2 (j + d) ∙ ap (λ (n : ℕ). n * 2) (pow-split j d) ∙ mul_assoc (2 ^ d) (2 ^ j) 2
    ∙ ap (λ (n : ℕ). 2 ^ d * n) (sym (pow-suc 2 j))

power-self : (k : ℕ) → 2 ^ k / 2 ^ k % 2 ≡ 1
power-self k =
    let one : 1 * 2 ^ k ≡ 2 ^ k = omega arith in
    ap (λ (n : ℕ). n / 2 ^ k % 2) (sym one) ∙ ap (λ (n : ℕ). n % 2) (mul-div_cancel 1 {n = 2 ^ k} (one-le-pow k 2 (omega arith)))

power-above : (k j : ℕ) → j < k → 2 ^ k / 2 ^ j % 2 ≡ 0
power-above k j h =
    let e : k ≡ j + suc (k - suc j) = omega arith in
    ap (λ (n : ℕ). n / 2 ^ j % 2) (ap (λ (n : ℕ). 2 ^ n) e ∙ pow-split j (suc (k - suc j)))
    ∙ ap (λ (n : ℕ). n % 2) (mul-div_cancel (2 ^ suc (k - suc j)) {n = 2 ^ j} (one-le-pow j 2 (omega arith)))
    ∙ ap (λ (n : ℕ). n % 2) (pow-suc 2 (k - suc j)) ∙ mul-mod_left (2 ^ (k - suc j)) 2

power_below : (k j : ℕ) → k < j → 2 ^ k / 2 ^ j % 2 ≡ 0
power_below k j h =
    let most : 2 ^ suc k ≤ 2 ^ j = pow-le-pow_right {n = 2} (omega arith) {i = suc k} {j = j} h in
    let twice : 2 ^ suc k ≡ 2 ^ k * 2 = pow-suc 2 k in
    ap (λ (n : ℕ). n % 2) (div-eq_of_lt (omega (arith, most, twice, one-le-pow k 2 (omega arith))))

-- ---- A bit of a number with one bit set

bit-split : (w k j : ℕ) → bit_or w (2 ^ k) / 2 ^ j % 2 ≡ bit_or (w / 2 ^ j % 2) (2 ^ k / 2 ^ j % 2)
bit-split w k j = ap (λ (n : ℕ). n % 2) (or_shr w (2 ^ k) j) ∙ or_mod (w / 2 ^ j) (2 ^ k / 2 ^ j) 1

or-one : (b : ℕ) → b < 2 → bit_or b 1 ≡ 1
or-one zero h = or_zero_l 1
or-one (suc zero) h = or_self 1
or-one (suc (suc b)) h = absurd (omega arith)

pub bit-set : (w k : ℕ) → bit_of (bit_or w (2 ^ k)) k ≡ true
unfolding bit_of
bit-set w k =
    ap (λ (n : ℕ). eqb n 1) (bit-split w k k ∙ ap (bit_or (w / 2 ^ k % 2)) (power-self k) ∙ or-one (w / 2 ^ k % 2)
    (mod-lt (w / 2 ^ k) {m = 2} (omega arith)))

pub bit_kept : (w k j : ℕ) → (j ≡ k → ⊥) → bit_of (bit_or w (2 ^ k)) j ≡ bit_of w j
unfolding bit_of
bit_kept w k j other =
    ap (λ (n : ℕ). eqb n 1) (bit-split w k j ∙ ap (bit_or (w / 2 ^ j % 2)) (none (cases j k)) ∙ or_zero_r (w / 2 ^ j % 2))
  where
    none : (j < k) ⊎ ((j ≡ k) ⊎ (k < j)) → 2 ^ k / 2 ^ j % 2 ≡ 0
    none (inl h) = power-above k j h
    none (inr (inl e)) = absurd (other e)
    none (inr (inr h)) = power_below k j h

-- The bits below 16 of a number are those of its lowest sixteen.
bit-modulo : (w k : ℕ) → k < 16 → bit_of (w % 65536) k ≡ bit_of w k
unfolding bit_of
bit-modulo w k h =
    let most : k + suc (15 - k) ≡ 16 = omega (arith, h) in
    let power : 2 ^ 16 ≡ 2 ^ (15 - k) * 2 * 2 ^ k =
    ap (λ (n : ℕ). 2 ^ n) (sym most) ∙ pow-split k (suc (15 - k)) ∙ ap (λ (n : ℕ). n * 2 ^ k) (pow-suc 2 (15 - k)) in
    let whole : w ≡ 2 ^ k * (2 * (2 ^ (15 - k) * (w / 65536))) + w % 65536 =
    sym (div-add-mod w 65536) ∙ ap (λ (n : ℕ). n * (w / 65536) + w % 65536) power
    ∙ ap (λ (n : ℕ). n + w % 65536) (turned (2 ^ (15 - k)) (2 ^ k) (w / 65536)) in
    ap (λ (n : ℕ). eqb n 1)
    (sym (mul-add-mod_self_left 2 (2 ^ (15 - k) * (w / 65536)) (w % 65536 / 2 ^ k))
    ∙ ap (λ (n : ℕ). n % 2) (sym (mul-add-div {m = 2 ^ k} (one-le-pow k 2 (omega arith)) (2 * (2 ^ (15 - k) * (w / 65536))) (w % 65536)))
    ∙ ap (λ (n : ℕ). n / 2 ^ k % 2) (sym whole))
  where
    turned : (a b c : ℕ) → a * 2 * b * c ≡ b * (2 * (a * c))
    turned a b c = omega arith

-- ---- Available edges

word-place : ℕ → ℕ → ℕ
word-place x word = 8 * (x % most_regions) + word % 8

place_inside : (x word : ℕ) → word-place x word < 32768
unfolding word-place
place_inside x word = omega (arith, mod-lt x {m = 4096} (omega arith), mod-lt word {m = 8} (omega arith))

-- Marking.
module _ (graph : List ℕ) (x rank : ℕ) where
  pub available-length : length (with_available graph x rank) ≡ length graph
  unfolding with_available
  available-length = store_length available graph (8 * (x % most_regions) + rank / 16 % 8)
      (bit_or (available_word graph x (rank / 16)) (2 ^ (rank % 16)))

  pub available-keeps : (other : Column) → apart available other ≡ true → Kept other graph (with_available graph x rank)
  unfolding with_available word-place
  available-keeps other is =
      store_keeps available graph (8 * (x % most_regions) + rank / 16 % 8)
      (bit_or (available_word graph x (rank / 16)) (2 ^ (rank % 16))) other is
      (place_inside x (rank / 16))

  stored-word : Lent available graph → load available (with_available graph x rank) (8 * (x % most_regions) + rank / 16 % 8)
      ≡ bit_or (available_word graph x (rank / 16)) (2 ^ (rank % 16)) % 65536
  unfolding with_available word-place
  stored-word lent =
      load-modulo available graph (8 * (x % most_regions) + rank / 16 % 8)
      (bit_or (available_word graph x (rank / 16)) (2 ^ (rank % 16))) (place_inside x (rank / 16)) lent

  pub available-marked : Lent available graph → is_available (with_available graph x rank) x rank ≡ true
  unfolding is_available available_word
  available-marked lent =
      ap (λ (w : ℕ). bit_of w (rank % 16)) (stored-word lent)
      ∙ bit-modulo (bit_or (available_word graph x (rank / 16)) (2 ^ (rank % 16))) (rank % 16) (mod-lt rank {m = 16} (omega arith))
      ∙ bit-set (available_word graph x (rank / 16)) (rank % 16)

  -- Every other rank of every region stays.
  pub available-other : (y other : ℕ) → Lent available graph
      → ((y % most_regions ≡ x % most_regions) × (other % most_edges ≡ rank % most_edges) → ⊥)
      → is_available (with_available graph x rank) y other ≡ is_available graph y other
  unfolding with_available is_available available_word word-place
  available-other y other lent differs = go (decide (word-place y (other / 16)) (word-place x (rank / 16)))
    where
      go : (word-place y (other / 16) ≡ word-place x (rank / 16)) ⊎ (word-place y (other / 16) ≡ word-place x (rank / 16) → ⊥)
          → is_available (with_available graph x rank) y other ≡ is_available graph y other
      go (inr away) =
          ap (λ (w : ℕ). bit_of w (other % 16))
          (load-other available graph (8 * (x % most_regions) + rank / 16 % 8)
          (bit_or (available_word graph x (rank / 16)) (2 ^ (rank % 16)))
          (8 * (y % most_regions) + other / 16 % 8) away)
      go (inl same) =
          let regions : y % most_regions ≡ x % most_regions = omega (arith, same) in
          let words : other / 16 % 8 ≡ rank / 16 % 8 = omega (arith, same) in
          let bits : other % 16 ≡ rank % 16 → ⊥ = λ e. differs (regions, omega (arith, words, e)) in
          ap (λ (n : ℕ). bit_of (load available (with_available graph x rank) n) (other % 16)) same
          ∙ ap (λ (w : ℕ). bit_of w (other % 16)) (stored-word lent)
          ∙ bit-modulo (bit_or (available_word graph x (rank / 16)) (2 ^ (rank % 16))) (other % 16) (mod-lt other {m = 16} (omega arith))
          ∙ bit_kept (available_word graph x (rank / 16)) (rank % 16) (other % 16) bits
          ∙ sym (ap (λ (n : ℕ). bit_of (load available graph n) (other % 16)) same)

-- Clearing.
module _ (graph : List ℕ) (x : ℕ) where
  words-length : (k : ℕ) → length (cleared_words graph x k) ≡ length graph
  unfolding cleared_words
  words-length zero = refl
  words-length (suc k) = store_length available (cleared_words graph x k) (8 * (x % most_regions) + k) 0 ∙ words-length k

  words-keep : (other : Column) → apart available other ≡ true → (k : ℕ) → k ≤ 8 → Kept other graph (cleared_words graph x k)
  unfolding cleared_words
  words-keep other is zero h = kept_same other graph
  words-keep other is (suc k) h =
      kept_then other graph (cleared_words graph x k) (store available (cleared_words graph x k) (8 * (x % most_regions) + k) 0)
      (words-keep other is k (omega arith))
      (store_keeps available (cleared_words graph x k) (8 * (x % most_regions) + k) 0 other is
      (omega (arith, mod-lt x {m = 4096} (omega arith))))

  pub none-length : length (with_none_available graph x) ≡ length graph
  unfolding with_none_available
  none-length = words-length 8

  pub none-keeps : (other : Column) → apart available other ≡ true → Kept other graph (with_none_available graph x)
  unfolding with_none_available
  none-keeps other is = words-keep other is 8 (omega arith)

  words-zero : Lent available graph → (k j : ℕ) → k ≤ 8 → j < k → load available (cleared_words graph x k) (8 * (x % most_regions) + j) ≡ 0
  unfolding cleared_words
  words-zero lent zero j h l = absurd (omega arith)
  words-zero lent (suc k) j h l = go (words-zero lent k j (omega arith)) (decide j k)
    where
      go : (j < k → load available (cleared_words graph x k) (8 * (x % most_regions) + j) ≡ 0) → (j ≡ k) ⊎ (j ≡ k → ⊥)
          → load available (store available (cleared_words graph x k) (8 * (x % most_regions) + k) 0) (8 * (x % most_regions) + j) ≡ 0
      go before (inl e) =
          rw e (load_stored available (cleared_words graph x k) (8 * (x % most_regions) + k) 0
          (omega (arith, mod-lt x {m = 4096} (omega arith)))
          (omega (arith, lent, words-length k)) (omega arith))
      go before (inr d) =
          load-other available (cleared_words graph x k) (8 * (x % most_regions) + k) 0 (8 * (x % most_regions) + j) (omega (arith, d))
          ∙ before (omega (arith, l, d))

  words-other : (k place : ℕ) → ((place < 8 * (x % most_regions)) ⊎ (8 * (x % most_regions) + k ≤ place))
      → load available (cleared_words graph x k) place ≡ load available graph place
  unfolding cleared_words
  words-other zero place away = refl
  words-other (suc k) place away =
      load-other available (cleared_words graph x k) (8 * (x % most_regions) + k) 0 place (off away) ∙ words-other k place (less away)
    where
      off : (place < 8 * (x % most_regions)) ⊎ (8 * (x % most_regions) + suc k ≤ place) → place ≡ 8 * (x % most_regions) + k → ⊥
      off (inl h) e = absurd (omega (arith, h, e))
      off (inr h) e = absurd (omega (arith, h, e))

      less : (place < 8 * (x % most_regions)) ⊎ (8 * (x % most_regions) + suc k ≤ place)
          → (place < 8 * (x % most_regions)) ⊎ (8 * (x % most_regions) + k ≤ place)
      less (inl h) = inl h
      less (inr h) = inr (omega arith)

  pub available-none : Lent available graph → (rank : ℕ) → is_available (with_none_available graph x) x rank ≡ false
  unfolding with_none_available is_available available_word bit_of
  available-none lent rank =
      ap (λ (w : ℕ). eqb (w / 2 ^ (rank % 16) % 2) 1)
      (words-zero lent 8 (rank / 16 % 8) (omega arith) (mod-lt (rank / 16) {m = 8} (omega arith)))
      ∙ ap (λ (w : ℕ). eqb (w % 2) 1) (zero-div (2 ^ (rank % 16)))

  pub none_other : (y rank : ℕ) → (y % most_regions ≡ x % most_regions → ⊥) → is_available
      (with_none_available graph x) y rank ≡ is_available graph y rank
  unfolding with_none_available is_available available_word
  none_other y rank differs = ap (λ (w : ℕ). bit_of w (rank % 16))
      (words-other 8 (8 * (y % most_regions) + rank / 16 % 8) (away (cases (y % most_regions) (x % most_regions))))
    where
      away : (y % most_regions < x % most_regions) ⊎ ((y % most_regions ≡ x % most_regions) ⊎ (x % most_regions < y % most_regions))
          → (8 * (y % most_regions) + rank / 16 % 8 < 8 * (x % most_regions)) ⊎
          (8 * (x % most_regions) + 8 ≤ 8 * (y % most_regions) + rank / 16 % 8)
      away (inl h) = inl (omega (arith, h, mod-lt (rank / 16) {m = 8} (omega arith)))
      away (inr (inl e)) = absurd (differs e)
      away (inr (inr h)) = inr (omega (arith, h))
