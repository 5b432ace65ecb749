-- Comparing by keys: items that are plainly alike are related in the next round, and items with different keys are not.
use Rattle.std.specs.Prelude.{ℕ, ◌<◌, ◌≡◌, true, false, List}
use Rattle.std.proofs.Common.{sym, ◌∙◌}
use Rattle.bisimulation.specs.Structures.{Closed}
use Rattle.bisimulation.specs.Finite.{Finite, structure, next}
use Rattle.bisimulation.proofs.Laws.Tests.{fails}
use Rattle.comparison.specs.Held.{Held}
use Rattle.comparison.specs.Compare.{next_in}
use Rattle.comparison.specs.Keys.{key_of, Known, Keyed}
use Rattle.comparison.specs.Laws.Compare.{next-held}
use Rattle.comparison.specs.Laws.Keys.{key-same}

-- What the slices say of the next round is so in the structure.
pub twins-meet : {F : Finite} {n k : ℕ} {labels nexts flags resets spots rows : List ℕ}
    → Held F n k labels nexts flags resets spots rows → Closed (structure F) → (list : List ℕ) (x y : ℕ) → x < n → y < n
    → next_in n k list nexts flags resets spots rows x y ≡ true → next F list x y ≡ true
twins-meet {F} {n} {k} {labels} {nexts} {flags} {resets} {spots} {rows} held closed list x y hx hy t =
    sym (next-held F n k list labels nexts flags resets spots rows held closed x y hx hy) ∙ t

module _ {F : Finite} {n k : ℕ} {names keys labels nexts flags resets spots rows : List ℕ}
    (keyed : Keyed F n k names keys labels nexts flags resets spots rows) where
  -- Items with different keys are not.
  pub keys-part : (x y one other : ℕ) → x < n → y < n → one ≡ key_of n k names nexts flags resets spots rows x
      → other ≡ key_of n k names nexts flags resets spots rows y → ¬ (one ≡ other) → next F names x y ≡ false
  keys-part x y one other hx hy a b apart =
      fails (next F names x y) (λ t. apart (
      a ∙ key-same F n k names labels nexts flags resets spots rows keyed.held keyed.closed x y hx hy t ∙ sym b))

  -- More keys have become known.
  pub keyed-on : (keys' : List ℕ) → Known n k names keys' nexts flags resets spots rows
      → Keyed F n k names keys' labels nexts flags resets spots rows
  keyed-on keys' known = record { held = keyed.held; closed = keyed.closed; below = keyed.below; keyed = known }
