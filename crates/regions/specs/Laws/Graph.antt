-- Laws for the code: what an edge and a delay come to, by the tests that the code makes.
use Rattle.std.specs.Prelude.{◌≡◌, Bool, true, false, [], ◌∷◌, Some, None}
use Rattle.std.proofs.Math.Path.{ap}
use Rattle.std.proofs.Common.{◌∙◌}
use Rattle.std.proofs.Math.Bool.{cond}
use Rattle.std.proofs.Common.{eq-eqb, ne_eqb}
use Rattle.table.specs.Model.{Model, Edge}
use Rattle.clocks.specs.Packed.{delayed}
use Rattle.regions.specs.Graph.{every, bounds_of, satisfies, meets, fits, landing, lands, available, delay_next, if_meets, gather}
use Rattle.regions.specs.Graph.{edge_next}
use Rattle.clocks.specs.declared.region.Region.{Region}

module _ (m : Model) (e : Edge) (r : Region) where
  -- The region is at another location than the edge's source.
  pub not-source : (e.source ≡ r.location → ⊥) → available m e r ≡ false
  unfolding fits
  not-source h = rw (ne_eqb e.source r.location h)

  -- Some guard atom fails.
  pub not-guards : e.source ≡ r.location → every (satisfies (bounds_of m) r) e.guards ≡ false → available m e r ≡ false
  unfolding fits
  not-guards h g = rw (eq-eqb e.source r.location h, g)

  -- The edge fits: it is available where it lands.
  pub when-fits : e.source ≡ r.location → every (satisfies (bounds_of m) r) e.guards ≡ true
      → available m e r ≡ lands (bounds_of m) m.invariants e r
  unfolding fits
  when-fits h g = rw (eq-eqb e.source r.location h, g)

  pub edge_none : available m e r ≡ false → edge_next m r e ≡ []
  unfolding edge_next
  edge_none h = rw h

  -- The edge starts at another location.
  pub edge-elsewhere : (e.source ≡ r.location → ⊥) → edge_next m r e ≡ []
  edge-elsewhere h = edge_none (not-source h)

  pub edge-some : available m e r ≡ true → edge_next m r e ≡ gather (λ b. landing (bounds_of m) r b ∷ []) e.branches
  unfolding edge_next
  edge-some h = rw h

module _ (m : Model) (r : Region) where
  -- Nothing follows.
  pub delay-none : delayed (bounds_of m) r ≡ None → delay_next m r ≡ []
  unfolding delay_next
  delay-none e = ap (if_meets m) e

  module _ (q : Region) (e : delayed (bounds_of m) r ≡ Some q) where
    -- What follows breaks its invariant.
    pub delay-breaks : meets (bounds_of m) m.invariants q ≡ false → delay_next m r ≡ []
    unfolding delay_next
    delay-breaks b = ap (if_meets m) e ∙ ap (λ (x : Bool). cond x (q ∷ []) []) b

    pub delay-some : meets (bounds_of m) m.invariants q ≡ true → delay_next m r ≡ q ∷ []
    unfolding delay_next
    delay-some b = ap (if_meets m) e ∙ ap (λ (x : Bool). cond x (q ∷ []) []) b
