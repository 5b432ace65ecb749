-- What the loop over the rounds keeps beside the rep map: names, keys and stirred items, one law for each step of a turn.
use Rattle.std.specs.Prelude.{ℕ, ◌<◌, ◌≡◌, Bool, true, false, List, ◌⊎◌, get_or}
use Rattle.std.proofs.Common.{arith, sym, ◌∙◌, subst, inl, inr}
use Rattle.std.proofs.Math.Logic.{⊎_map}
use Rattle.bisimulation.specs.Structures.{Closed}
use Rattle.bisimulation.specs.Finite.{Finite, structure, related, next}
use Rattle.bisimulation.proofs.Laws.Leads.{reps-agree, reps-own, lead-agree, leaders-agree}
use Rattle.bisimulation.specs.Below.{AgreeBelow, Reps}
use Rattle.bisimulation.proofs.Laws.Blocks.{next_agree}
use Rattle.bisimulation.proofs.Laws.Tests.{both, clash}
use Rattle.comparison.specs.Laws.Steps.{cond_yes, cond_no}
use Rattle.rounds.specs.Names.{Named, Changed}
use Rattle.rounds.specs.Changes.{Stirred, Settled}
use Rattle.rounds.specs.Rounds.{HeldIn, key_in, KeyedIn, Led, Step, ForgottenAt, Prepared}
use Rattle.comparison.specs.declared.held.Graph.{Graph}
use Rattle.rounds.specs.declared.rounds.Carried.{Carried}
use Rattle.rounds.specs.Laws.Names.{named-agree, named-below}
use Rattle.rounds.specs.Laws.Changes.{key-calm, stirred-settled}

pub prepared-first : (F : Finite) (g : Graph) (list : List ℕ) (c : Carried) → Named g.n list c.tags c.names
    → ((x : ℕ) → x < g.n → get_or c.keys x 0 ≡ 0) → ((x : ℕ) → x < g.n → get_or c.stirred x false ≡ true) → Prepared F g list c
prepared-first F g list c named unknown all =
    record {
      named = named;
      keyed = λ x h. inl (unknown x h);
      settled = λ x y hx hy s. absurd (clash (all x hx) s);
    }

module _ {F : Finite} {g : Graph} (held : HeldIn F g) (closed : Closed (structure F)) where
  module _ {list : List ℕ} {c : Carried} (step : Step (next F list) g.n list) (prepared : Prepared F g list c) where
    names-say : AgreeBelow g.n (related c.names) (related list)
    names-say = named-agree g.n list c.tags c.names step.reps prepared.named

    tests_agree : AgreeBelow g.n (next F c.names) (next F list)
    tests_agree x y hx hy =
        next_agree F closed c.names list (λ a b ha hb. names-say a b (item a ha) (item b hb)) x y (inside x hx) (inside y hy)
      where
        item : (a : ℕ) → a < F.size → a < g.n
        item a h = subst (λ (m : ℕ). a < m) (sym held.size) h

        inside : (a : ℕ) → a < g.n → a < F.size
        inside a h = subst (λ (m : ℕ). a < m) held.size h

    -- The comparisons of the round go by the names.
    pub prepared-step : Step (next F c.names) g.n list
    prepared-step =
        let e = step.classes in
        record {
          classes =
              record {
                reflexive = λ x h. tests_agree x x h h ∙ e.reflexive x h;
                symmetric = λ x y hx hy t. tests_agree y x hy hx ∙ e.symmetric x y hx hy (sym (tests_agree x y hx hy) ∙ t);
                transitive =
                    λ x y z hx hy hz s t.
                    tests_agree x z hx hz
                    ∙ e.transitive x y z hx hy hz (sym (tests_agree x y hx hy) ∙ s) (sym (tests_agree y z hy hz) ∙ t);
              };
          finer = λ x y hx hy t. step.finer x y hx hy (sym (tests_agree x y hx hy) ∙ t);
          reps = step.reps;
        }

    pub prepared-settled : Settled (next F c.names) (related list) g.n c.stirred
    prepared-settled x y hx hy sx sy t = prepared.settled x y hx hy sx sy (names-say x y hx hy ∙ t)

    pub prepared-keyed : KeyedIn F g c.names c.keys
    prepared-keyed =
        record {
          held = held;
          closed = closed;
          below = λ x h. omega (arith, named-below g.n list c.tags c.names step.reps prepared.named x h, held.few);
          keyed = prepared.keyed;
        }

    -- Comparing makes keys known.
    pub prepared-compared : (keys' : List ℕ) → KeyedIn F g c.names keys' → Prepared F g list (record c { keys = keys' })
    prepared-compared keys' keyed = record { named = prepared.named; keyed = keyed.keyed; settled = prepared.settled }

    -- The round is the next one over the rep map.
    pub prepared-led : {new : List ℕ} {more : ℕ} → Led (next F c.names) new g.n more → Led (next F list) new g.n more
    prepared-led led =
        record {
          reps = record { rep = λ x h. led.reps.rep x h ∙ lead-agree tests_agree x h };
          counted = led.counted ∙ leaders-agree tests_agree g.n (omega arith);
        }

    -- Names are given anew, what a change of names reaches is stirred, and the keys of that are forgotten.
    pub prepared-on : {new : List ℕ} {c' : Carried} {changed : List Bool} → Reps (next F list) g.n new
        → Named g.n new c'.tags c'.names → Changed g.n c.names c'.names changed → Stirred g changed c'.stirred
        → ((x : ℕ) → x < g.n → ForgottenAt c.keys c'.keys c'.stirred x) → Prepared F g new c'
    prepared-on {new} {c'} {changed} reps named kept calm keys =
        record {
          named = named;
          keyed = λ x h. keyed x h (both (get_or c'.stirred x false));
          settled =
              stirred-settled F g held closed c.names c'.names changed c'.stirred kept calm
              (λ x y hx hy.
              named-agree g.n new c'.tags c'.names (reps-own step.classes reps) named x y hx hy
              ∙ reps-agree step.classes reps x y hx hy
              ∙ sym (tests_agree x y hx hy));
        }
      where
        keyed : (x : ℕ) → x < g.n → (get_or c'.stirred x false ≡ true) ⊎ (get_or c'.stirred x false ≡ false)
            → (get_or c'.keys x 0 ≡ 0) ⊎ (get_or c'.keys x 0 ≡ key_in g c'.names x)
        keyed x h (inl s) = inl (keys x h ∙ cond_yes (get_or c'.stirred x false) 0 (get_or c.keys x 0) s)
        keyed x h (inr s) =
            let e = keys x h ∙ cond_no (get_or c'.stirred x false) 0 (get_or c.keys x 0) s in
            ⊎_map (λ z. e ∙ z)
            (λ k. e ∙ k ∙ sym (key-calm F g held closed c.names c'.names changed kept x h (calm x h s)))
            (prepared.keyed x h)
