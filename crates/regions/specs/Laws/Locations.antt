-- Every region that is reached in a model that was read is at a location that exists (`reached-location`), which has a label
-- (`reached-label`): a delay keeps the location (`delay-location`), and a branch goes to one of the model.
use Rattle.std.specs.Prelude.{ℕ, ◌<◌, ◌≡◌, length, Some}
use Rattle.std.proofs.Common.{arith, sym}
use Rattle.std.proofs.Math.Path.{ap, subst}
use mathlib.Core.List.Memᴰ
use mathlib.Core.List.{List, [], ◌∷◌, Memᴰ}
use Rattle.table.proofs.Laws.Models.{sound}
use Rattle.table.specs.Model.{Model, Edge}
use Rattle.table.specs.Reading.{accepted, read_table}
use Rattle.table.specs.Sound.{Sound}
use Rattle.table.specs.declared.model.Branch.{Branch}
use Rattle.clocks.specs.Cells.{Follow, nothing, cells, delay}
use Rattle.clocks.specs.Packed.{unpack, pack, moved_to, delayed}
use Rattle.regions.specs.Graph.{bounds_of, landing, available, delay_next, gather, edge_next, first}
use Rattle.regions.specs.Graph.{by-delay, by-edge, Reached, begun, led}
use Rattle.regions.specs.Laws.Bounds.{all-at}
use Rattle.regions.specs.Laws.Call.{gathered, kept, follows}
use Rattle.clocks.specs.declared.region.Bounds.{Bounds}
use Rattle.clocks.specs.declared.region.Region.{Region}

moved-location : (bounds : Bounds) (r q : Region) (f : Follow) → moved_to bounds r f ≡ Some q → q.location ≡ r.location
moved-location bounds r q nothing e = absurd (let z : ◌≡◌ {A = ℕ} 0 1 = cc in omega arith)
moved-location bounds r q (cells cs) e =
    let same : pack bounds r.location cs ≡ q = cc in
    ap (λ (x : Region). x.location) (sym same)

-- What follows by delay is at the same location.
pub delayed-location : (bounds : Bounds) (r q : Region) → delayed bounds r ≡ Some q → q.location ≡ r.location
unfolding delayed
delayed-location bounds r q e = moved-location bounds r q (delay (unpack bounds r)) e

module _ (m : Model) where
  -- A delay keeps the location.
  pub delay-location : (r q : Region) → Memᴰ q (delay_next m r) → q.location ≡ r.location
  delay-location r q n = delayed-location (bounds_of m) r q (follows m r q n).0

  -- An edge leads to the target of one of its branches.
  pub edge-location : (r q : Region) (e : Edge) → Memᴰ q (edge_next m r e)
      → (b : Branch) × Memᴰ b e.branches × (q.location ≡ b.target)
  unfolding edge_next landing
  edge-location r q e n =
      let land : Branch → List Region = λ b. landing (bounds_of m) r b ∷ [] in
      let k = kept m (available m e r) (gather land e.branches) q n in
      let s = gathered land q e.branches k.1 in
      (s.0, s.1, ap (λ (x : Region). x.location) (Memᴰ.eq_of_singleton s.2))

  sound-location : Sound m → (r : Region) → Reached m r → r.location < m.locations
  unfolding first
  sound-location ok r begun = ok.initial
  sound-location ok r (led {r = x} s (by-delay n)) =
      subst (λ k. k < m.locations) (sym (delay-location x r n)) (sound-location ok x s)
  sound-location ok r (led {r = x} s (by-edge {e} a n)) =
      let (b, at, is) = edge-location x r e n in
      subst (λ k. k < m.locations) (sym is) (all-at e.branches (all-at m.edges ok.edges a).branches at).target

module _ (table : List ℕ) (m : Model) (read : read_table table ≡ accepted m) (r : Region) (s : Reached m r) where
  -- A region that is reached is at a location that exists.
  pub reached-location : r.location < m.locations
  reached-location = sound-location m (sound table m read) r s

  -- Its label is that of a location that exists.
  pub reached-label : r.location < length m.labels
  reached-label = subst (λ k. r.location < k) (sym (sound table m read).labels) reached-location
