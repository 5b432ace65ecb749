-- What the loop along delays keeps, by the item that it is at and the steps that are left: laws that stand for a reader of the definitions;
-- the code needs none of them.
use Rattle.std.specs.Prelude.{ℕ, zero, suc, ◌+◌, ◌-◌, ◌≤◌, ◌<◌, ◌≡◌, refl, cond, List, [], ◌∷◌, length, get_or, set}
use Rattle.std.proofs.Common.{arith, lt-ltb, le-ltb}
use Rattle.comparison.specs.Held.{chain}
use Rattle.comparison.specs.Keys.{scatter, delay_room, delay_mark, delay_key}
use Rattle.comparison.specs.Laws.KeyLoops as K
use Rattle.comparison.specs.Laws.KeyLoops.{Clear, is_marked}

-- With so many steps left, at an item.
abbrev pub Marking : (n : ℕ) (list nexts : List ℕ) (x : ℕ) (marks : List ℕ) (total left at : ℕ) → Type 0
Marking n list nexts x marks total left at = K.Marking n list nexts x marks total (chain n nexts left at)

-- What is left after an item: what follows it, or nothing where none follows or no step is left.
module _ (n : ℕ) (nexts : List ℕ) where
  chain-on : (left x y : ℕ) → 0 < left → y ≡ get_or nexts x 0 → y < n → chain n nexts left x ≡ x ∷ chain n nexts (left - 1) y
  chain-on zero x y h q k = absurd (omega arith)
  chain-on (suc left) x y h q k = let less : suc left - 1 ≡ left = omega arith in rw (← q, lt-ltb y n k, less) refl

  chain-off : (left x y : ℕ) → y ≡ get_or nexts x 0 → n ≤ y → chain n nexts left x ≡ x ∷ []
  chain-off zero x y q k = refl
  chain-off (suc left) x y q k = rw (← q, le-ltb y n k) refl

  chain-last : (left x : ℕ) → left ≤ 0 → chain n nexts left x ≡ x ∷ []
  chain-last zero x h = refl
  chain-last (suc left) x h = absurd (omega arith)

  chain-some : (left x : ℕ) → (l : List ℕ) × (chain n nexts left x ≡ x ∷ l)
  chain-some zero x = ([], refl)
  chain-some (suc left) x = (_, refl)

module _ (n : ℕ) (list nexts : List ℕ) (x : ℕ) where
  pub marking-none : (marks : List ℕ) → length marks ≡ delay_room → Clear marks → Marking n list nexts x marks 0 n x
  marking-none marks room clear = K.marking-none n list nexts x marks (chain n nexts n x) room clear refl

  pub marking-small : (marks : List ℕ) (total left at : ℕ) → Marking n list nexts x marks total left at → total ≤ 536868864
  marking-small marks total left at marking = K.marking-small n list nexts x marks total (chain n nexts left at) marking

  module _ (marks : List ℕ) (total left at v w : ℕ) (marking : Marking n list nexts x marks total left at)
      (hv : v < delay_room) (ev : v ≡ delay_mark list at) (ew : w ≡ cond (is_marked marks v) 0 (scatter v)) where
    met : (left' : List ℕ) → chain n nexts left at ≡ at ∷ left' → K.Marking n list nexts x (set marks v 1) (total + w) left'
    met left' step = K.marking-on n list nexts x marks total (chain n nexts left at) marking at left' v w step hv ev ew

    pub marked-small : total + w < 4294967296
    marked-small =
        let (left', step) = chain-some n nexts left at in
        let small = K.marking-small n list nexts x (set marks v 1) (total + w) left' (met left' step) in
        omega arith

    pub marking-on : (y : ℕ) → 0 < left → y ≡ get_or nexts at 0 → y < n
        → Marking n list nexts x (set marks v 1) (total + w) (left - 1) y
    marking-on y h q k = met (chain n nexts (left - 1) y) (chain-on n nexts left at y h q k)

    -- The chain ends here.
    over : chain n nexts left at ≡ at ∷ [] → total + w ≡ delay_key n list nexts x
    over end = K.marking-over n list nexts x (set marks v 1) (total + w) [] (met [] end) refl

    pub marking-off : (y : ℕ) → 0 < left → y ≡ get_or nexts at 0 → n ≤ y → total + w ≡ delay_key n list nexts x
    marking-off y h q k = over (chain-off n nexts left at y q k)

    pub marking-last : left ≤ 0 → total + w ≡ delay_key n list nexts x
    marking-last h = over (chain-last n nexts left at h)
