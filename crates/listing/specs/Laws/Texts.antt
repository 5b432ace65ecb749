-- The clocks of a region, one after the other.
use Rattle.std.specs.Prelude.{ℕ, ◌+◌, ◌≤◌, ◌<◌, ◌≡◌, List, [], ◌∷◌, ◌++◌, length, get_or, take}
use Rattle.std.specs.List.{zip}
use Rattle.std.proofs.Common.{add-one, arith, sym, ◌∙◌, ap, length-take-le}
use Rattle.std.proofs.lemmas.List.{length-take, get_or-take}
use Rattle.std.proofs.lemmas.Grind.{get_or_default_zero}
use Rattle.std.proofs.lemmas.Slice.Zip.{length-zip, get_or-zip}
use Rattle.text.specs.Text.{up_to, each}
use Rattle.text.specs.Laws.Texts.{each-up}
use Rattle.listing.specs.Printed.{ClockRecord, clock_field}

-- The first n clocks, of integer parts and ranks.
abbrev pub clocks_to : (whole rank : List ℕ) → ℕ → List ClockRecord
clocks_to whole rank n = up_to (λ i. record { whole = get_or whole i 0; rank = get_or rank i 0 } ∷ []) n

-- The text of one clock more.
pub clocks-on : (whole rank : List ℕ) (i : ℕ)
    → each clock_field (clocks_to whole rank i) ++ clock_field (record { whole = get_or whole i 0; rank = get_or rank i 0 })
    ≡ each clock_field (clocks_to whole rank (i + 1))
clocks-on whole rank i =
    sym (each-up clock_field (λ j. record { whole = get_or whole j 0; rank = get_or rank j 0 }) i)
    ∙ ap (λ (k : ℕ). each clock_field (clocks_to whole rank k)) (sym (add-one i))

-- The clock that comes after k others, of n clocks.
pub clock_at : (whole rank : List ℕ) (n k : ℕ) (p : ℕ × ℕ) → k < length (take n (zip whole rank)) → p ≡ get_or (take n (zip whole rank)) k p
    → (p.0 ≡ get_or whole k 0) × (p.1 ≡ get_or rank k 0)
clock_at whole rank n k p h is =
    let long = length-take n (zip whole rank) in
    let both = length-zip whole rank in
    let in_whole : k < length whole = omega (arith, h, long, both) in
    let in_rank : k < length rank = omega (arith, h, long, both) in
    let e = is ∙ get_or-take n (zip whole rank) k p (omega (arith, h, long)) ∙ get_or-zip whole rank k p in_whole in_rank in (
      ap (λ (q : ℕ × ℕ). q.0) e ∙ get_or_default_zero whole k p.0 in_whole,
      ap (λ (q : ℕ × ℕ). q.1) e ∙ get_or_default_zero rank k p.1 in_rank,
    )

pub clocks-count : (whole rank : List ℕ) (n : ℕ) → n ≤ length whole → n ≤ length rank → length (take n (zip whole rank)) ≡ n
clocks-count whole rank n h k = length-take-le n (zip whole rank) (omega (arith, length-zip whole rank, h, k))
