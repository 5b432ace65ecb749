-- Names gathered along the delays of an item.
use Rattle.std.specs.Prelude.{ℕ, suc, ◌+◌, ◌-◌, ◌≤◌, ◌<◌, ◌≡◌, Bool, cond, take}
use Rattle.std.proofs.Common.{arith, sym, ◌∙◌, ap, subst, lt-ltb, le-ltb}
use mathlib.Core.List.{List, [], ◌∷◌}
use Rattle.std.proofs.Math.ListN.{length}
use Rattle.std.proofs.Math.Seq.{take-length}
use Rattle.signatures.specs.Sets.{put_in}
use Rattle.signatures.specs.Walked.{Walked}
use Rattle.signatures.specs.Laws.Walked.{walked_start, walked_on, walked_end}
use Rattle.signatures.specs.Structure.{chain_from}
use Rattle.signatures.specs.Steps.{name_of}
use Rattle.signatures.specs.Signatures.{names_of}
use Rattle.signatures.specs.Named.{items_in, jump_of, reached_from}

-- The chain, step by step.
module _ (next : ℕ → ℕ) (n i y : ℕ) where
  pub chain-on : i < n → y < n → chain_from next n (n - i) y ≡ y ∷ chain_from next n (n - (i + 1)) (next y)
  chain-on h less =
      let e : n - i ≡ suc (n - (i + 1)) = omega arith in
      ap (λ (k : ℕ). chain_from next n k y) e
      ∙ ap (λ (b : Bool). cond b (y ∷ chain_from next n (n - (i + 1)) (next y)) []) (lt-ltb y n less)

  pub chain-ends : i < n → n ≤ y → chain_from next n (n - i) y ≡ []
  chain-ends h past =
      let e : n - i ≡ suc (n - (i + 1)) = omega arith in
      ap (λ (k : ℕ). chain_from next n k y) e
      ∙ ap (λ (b : Bool). cond b (y ∷ chain_from next n (n - (i + 1)) (next y)) []) (le-ltb y n past)

  pub chain-over : n ≤ i → chain_from next n (n - i) y ≡ []
  chain-over h = let e : n - i ≡ 0 = omega arith in ap (λ (k : ℕ). chain_from next n k y) e

-- ---- A turn of the loop, and its ends

module _ (names : List ℕ) (x : ℕ) (list : List ℕ) (y i len : ℕ)
    (w : Walked (names_of names (chain_from (jump_of names) (items_in names) (items_in names) x)) (take len list)
    (names_of names (chain_from (jump_of names) (items_in names) (items_in names - i) y))) where
  pub delays-turn : (list' : List ℕ) (len' v y' : ℕ) → i < items_in names → y < items_in names → v ≡ name_of names y → y' ≡ jump_of names y
      → take len' list' ≡ put_in v (take len list)
      → Walked (names_of names (chain_from (jump_of names) (items_in names) (items_in names) x)) (take len' list')
      (names_of names (chain_from (jump_of names) (items_in names) (items_in names - (i + 1)) y'))
  delays-turn list' len' v y' h less is goes put =
      let whole : List ℕ = names_of names (chain_from (jump_of names) (items_in names) (items_in names) x) in
      subst (λ (l : List ℕ). Walked whole l (names_of names (chain_from (jump_of names) (items_in names) (items_in names - (i + 1)) y')))
      (sym (put ∙ ap (λ (k : ℕ). put_in k (take len list)) is))
      (subst (λ (k : ℕ). Walked whole (put_in (name_of names y) (take len list))
      (names_of names (chain_from (jump_of names) (items_in names) (items_in names - (i + 1)) k))) (sym goes)
      (walked_on whole (take len list)
      (names_of names (chain_from (jump_of names) (items_in names) (items_in names - (i + 1)) (jump_of names y)))
      (name_of names y) (subst (λ (l : List ℕ). Walked whole (take len list) (names_of names l))
      (chain-on (jump_of names) (items_in names) i y h less) w)))

  done : chain_from (jump_of names) (items_in names) (items_in names - i) y ≡ [] → take len list ≡ reached_from names x
  unfolding reached_from
  done e =
      walked_end (names_of names (chain_from (jump_of names) (items_in names) (items_in names) x)) (take len list)
      (subst (λ (l : List ℕ). Walked (names_of names (chain_from (jump_of names) (items_in names) (items_in names) x)) (take len list)
      (names_of names l)) e w)

  pub delays-stop : i < items_in names → items_in names ≤ y → take len list ≡ reached_from names x
  delays-stop h past = done (chain-ends (jump_of names) (items_in names) i y h past)

  pub delays-over : items_in names ≤ i → take len list ≡ reached_from names x
  delays-over h = done (chain-over (jump_of names) (items_in names) i y h)

pub delays-start : (names list : List ℕ) (x : ℕ)
    → Walked (names_of names (chain_from (jump_of names) (items_in names) (items_in names) x)) (take 0 list)
    (names_of names (chain_from (jump_of names) (items_in names) (items_in names - 0) x))
delays-start names list x =
    let e : items_in names ≡ items_in names - 0 = omega arith in
    subst (λ (k : ℕ). Walked (names_of names (chain_from (jump_of names) (items_in names) (items_in names) x)) []
    (names_of names (chain_from (jump_of names) (items_in names) k x))) e
    (walked_start (names_of names (chain_from (jump_of names) (items_in names) (items_in names) x)))

-- ---- The same for a set that is a list

pub going-start : (names : List ℕ) (x : ℕ)
    → Walked (names_of names (chain_from (jump_of names) (items_in names) (items_in names) x)) []
    (names_of names (chain_from (jump_of names) (items_in names) (items_in names - 0) x))
going-start names x = delays-start names [] x

module _ (names : List ℕ) (x : ℕ) (set : List ℕ) (y i : ℕ)
    (w : Walked (names_of names (chain_from (jump_of names) (items_in names) (items_in names) x)) set
    (names_of names (chain_from (jump_of names) (items_in names) (items_in names - i) y))) where
  whole : Walked (names_of names (chain_from (jump_of names) (items_in names) (items_in names) x)) (take (length set) set)
      (names_of names (chain_from (jump_of names) (items_in names) (items_in names - i) y))
  whole = rw (take-length set) w

  pub going-turn : (v y' : ℕ) → i < items_in names → y < items_in names → v ≡ name_of names y → y' ≡ jump_of names y
      → Walked (names_of names (chain_from (jump_of names) (items_in names) (items_in names) x)) (put_in v set)
      (names_of names (chain_from (jump_of names) (items_in names) (items_in names - (i + 1)) y'))
  going-turn v y' h less is goes =
      rw (take-length (put_in v set))
      at (delays-turn names x set y i (length set) whole (put_in v set) (length (put_in v set)) v y' h less is goes
      (take-length (put_in v set) ∙ ap (put_in v) (sym (take-length set))))

  pub going-stop : i < items_in names → items_in names ≤ y → set ≡ reached_from names x
  going-stop h past = sym (take-length set) ∙ delays-stop names x set y i (length set) whole h past

  pub going-over : items_in names ≤ i → set ≡ reached_from names x
  going-over h = sym (take-length set) ∙ delays-over names x set y i (length set) whole h
