-- What the loop over the rounds keeps beside the rep map, where the keys of stirred items are forgotten only before the next round: laws
-- that stand for a reader of the definitions; the code forgets keys as soon as items are stirred, and needs none of them.
use Rattle.std.specs.Prelude.{ℕ, ◌<◌, ◌≡◌, refl, Bool, true, false, cond, List, [], ◌⊎◌, get_or}
use Rattle.std.proofs.Common.{sym, ◌∙◌, inl, inr}
use Rattle.std.proofs.Math.Logic.{⊎_map}
use Rattle.bisimulation.specs.Structures.{Closed}
use Rattle.bisimulation.specs.Finite.{Finite, structure, related, next}
use Rattle.bisimulation.specs.Below.{Reps}
use Rattle.bisimulation.proofs.Laws.Tests.{both, clash}
use Rattle.comparison.specs.Laws.Steps.{cond_yes, cond_no}
use Rattle.comparison.specs.declared.held.Graph.{Graph}
use Rattle.rounds.specs.Names.{Named, Changed}
use Rattle.rounds.specs.Changes.{Stirred, Settled}
use Rattle.rounds.specs.Rounds as R
use Rattle.rounds.specs.Rounds.{HeldIn, key_in, KeyedIn, Led, Step, Forgotten}
use Rattle.rounds.specs.declared.rounds.Carried.{Carried}
use Rattle.rounds.specs.Laws.Changes.{key-calm}
use Rattle.rounds.specs.Laws.Prepared as P

-- Beside the rep map: names for its blocks, keys under them that are known or not of items that are not stirred, and that those need no
-- comparison.
pub record Prepared (F : Finite) (g : Graph) (list tags names keys : List ℕ) (stirred : List Bool) : Type 0 where
  pub named : Named g.n list tags names
  pub keyed : (x : ℕ) → x < g.n → get_or stirred x false ≡ false → (get_or keys x 0 ≡ 0) ⊎ (get_or keys x 0 ≡ key_in g names x)
  pub settled : Settled (next F names) (related names) g.n stirred

-- What the code keeps says so of all keys.
pub prepared-in : (F : Finite) (g : Graph) (list : List ℕ) (c : Carried) → R.Prepared F g list c
    → Prepared F g list c.tags c.names c.keys c.stirred
prepared-in F g list c p = record { named = p.named; keyed = λ x h s. p.keyed x h; settled = p.settled }

module _ {F : Finite} {g : Graph} (held : HeldIn F g) (closed : Closed (structure F)) where
  pub prepared-first : (list tags names keys : List ℕ) (stirred : List Bool) → Named g.n list tags names
      → ((x : ℕ) → x < g.n → get_or stirred x false ≡ true) → Prepared F g list tags names keys stirred
  prepared-first list tags names keys stirred named all =
      record {
        named = named;
        keyed = λ x h s. absurd (clash (all x h) s);
        settled = λ x y hx hy s. absurd (clash (all x hx) s);
      }

  module _ {list tags names keys : List ℕ} {stirred : List Bool} (step : Step (next F list) g.n list)
      (prepared : Prepared F g list tags names keys stirred) where
    -- The same with other keys, each of which is known or not.
    re-keyed : (keys' : List ℕ) → ((x : ℕ) → x < g.n → (get_or keys' x 0 ≡ 0) ⊎ (get_or keys' x 0 ≡ key_in g names x))
        → R.Prepared F g list (record { tags = tags; names = names; stirred = stirred; keys = keys' })
    re-keyed keys' known = record { named = prepared.named; keyed = known; settled = prepared.settled }

    unknown : R.Prepared F g list (record { tags = tags; names = names; stirred = stirred; keys = [] })
    unknown = re-keyed [] (λ x h. inl refl)

    -- The comparisons of the round go by the names.
    pub prepared-step : Step (next F names) g.n list
    prepared-step = P.prepared-step held closed step unknown

    pub prepared-settled : Settled (next F names) (related list) g.n stirred
    prepared-settled = P.prepared-settled held closed step unknown

    pub prepared-keyed : (keys' : List ℕ) → Forgotten g.n keys keys' stirred → KeyedIn F g names keys'
    prepared-keyed keys' forgotten =
        P.prepared-keyed held closed step (re-keyed keys' (λ x h. at x h (both (get_or stirred x false))))
      where
        at : (x : ℕ) → x < g.n → (get_or stirred x false ≡ true) ⊎ (get_or stirred x false ≡ false)
            → (get_or keys' x 0 ≡ 0) ⊎ (get_or keys' x 0 ≡ key_in g names x)
        at x h (inl s) = inl (forgotten.0 x h ∙ cond_yes (get_or stirred x false) 0 (get_or keys x 0) s)
        at x h (inr s) =
            let e = forgotten.0 x h ∙ cond_no (get_or stirred x false) 0 (get_or keys x 0) s in
            ⊎_map (λ z. e ∙ z) (λ z. e ∙ z) (prepared.keyed x h s)

    module _ {new : List ℕ} {more : ℕ} (led : Led (next F names) new g.n more) where
      -- The round is the next one over the rep map.
      pub prepared-led : Led (next F list) new g.n more
      prepared-led = P.prepared-led held closed step unknown led

      pub prepared-on : {keys' tags' names' : List ℕ} {changed stirred' : List Bool} → KeyedIn F g names keys' → Reps (related new) g.n new
          → Named g.n new tags' names' → Changed g.n names names' changed → Stirred g changed stirred'
          → Prepared F g new tags' names' keys' stirred'
      prepared-on {keys'} {tags'} {names'} {changed} {stirred'} keyed own named kept calm =
          record {
            named = named;
            keyed =
                λ x h s. ⊎_map (λ e. e) (λ e. e ∙ sym (key-calm F g held closed names names' changed kept x h (calm x h s)))
                (keyed.keyed x h);
            settled = on.settled;
          }
        where
          none : (b : Bool) → ◌≡◌ {A = ℕ} 0 (cond b 0 0)
          none true = refl
          none false = refl

          on : R.Prepared F g new (record { tags = tags'; names = names'; stirred = stirred'; keys = [] })
          on =
              P.prepared-on held closed step unknown
              {c' = record { tags = tags'; names = names'; stirred = stirred'; keys = [] }} prepared-led.reps named kept calm
              (λ x h. none (get_or stirred' x false))
