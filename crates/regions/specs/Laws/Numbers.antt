-- The refusals that the graph call answers: one that changes nothing has a number from 1 to 14, so 15 says that there was no room, and
-- an answer tells its outcome.
use Rattle.std.specs.Prelude.{ℕ, ◌≤◌, ◌↔◌, ◌≡◌, refl, List, length, Ok, Err}
use Rattle.std.proofs.Common.{arith, inl, inr, ◌∙◌, ap}
use Rattle.table.specs.Reasons.{number, refusal_at}
use Rattle.table.proofs.Laws.Numbers.{refusal-numbers}
use Rattle.regions.specs.Call.{Outcome, refused, cut, whole, outcome_of, graph_of}
use Rattle.regions.specs.Laws.Call.{refused-graph}
use Rattle.table.specs.declared.refusals.Reason.{Reason}
use Rattle.table.specs.declared.refusals.Refusal.{Refusal}
use Rattle.table.specs.declared.refusals.Reason.TheVariants.{TooManyRegions}
use Rattle.clocks.specs.declared.region.Region.{Region}

-- "Refusals 1 to 14": no other number is refused, but for 15.
pub refused-number : (table : List ℕ) (cap : ℕ) (reason : Reason) (place : ℕ) → outcome_of table cap ≡ refused reason place
    → (1 ≤ number reason) × (number reason ≤ 14)
refused-number table cap reason place e =
    elim (refused-graph table cap reason place e) [
      | inl t ↦ let n = refusal-numbers table reason place t in omega arith
      | inr s ↦ omega (arith, ap number s.3)
    ]

module _ (table : List ℕ) (cap : ℕ) where
  -- 15 is answered exactly where there was no room for all regions.
  pub fifteen-cut : (graph_of (outcome_of table cap) ≡ Err (refusal_at TooManyRegions 0))
      ↔ ((found : List Region) × (outcome_of table cap ≡ cut found))
  fifteen-cut = (λ e. of (outcome_of table cap) refl e, λ t. ap graph_of t.1)
    where
      of : (o : Outcome) → outcome_of table cap ≡ o → graph_of o ≡ Err (refusal_at TooManyRegions 0)
          → (found : List Region) × (outcome_of table cap ≡ cut found)
      of (refused n p) t e =
          let one : refusal_at n p ≡ refusal_at TooManyRegions 0 = cc in
          let same : n ≡ TooManyRegions = ap (λ (x : Refusal). x.reason) one in
          let few = refused-number table cap n p t in
          absurd (omega (arith, ap number same))
      of (cut found) t e = (found, t)
      of (whole found) t e = absurd (let z : ◌≡◌ {A = ℕ} 0 1 = cc in omega arith)

  -- n is answered exactly where there are n regions, and all were listed.
  pub answers-n : (n : ℕ) → (graph_of (outcome_of table cap) ≡ Ok n)
      ↔ ((found : List Region) × (outcome_of table cap ≡ whole found) × (length found ≡ n))
  answers-n n = (λ e. of (outcome_of table cap) refl e, λ t. ap graph_of t.1 ∙ ap Ok t.2)
    where
      of : (o : Outcome) → outcome_of table cap ≡ o → graph_of o ≡ Ok n
          → (found : List Region) × (outcome_of table cap ≡ whole found) × (length found ≡ n)
      of (refused k p) t e = absurd (let z : ◌≡◌ {A = ℕ} 0 1 = cc in omega arith)
      of (cut found) t e = absurd (let z : ◌≡◌ {A = ℕ} 0 1 = cc in omega arith)
      of (whole found) t e = (found, t, cc)

  -- Any other reason that is answered is that of a refusal that changes nothing.
  pub answers-refused : (reason : Reason) (place : ℕ) → (reason ≡ TooManyRegions → ⊥)
      → (graph_of (outcome_of table cap) ≡ Err (refusal_at reason place)) ↔ (outcome_of table cap ≡ refused reason place)
  answers-refused reason place other = (λ e. of (outcome_of table cap) refl e, ap graph_of)
    where
      of : (o : Outcome) → outcome_of table cap ≡ o → graph_of o ≡ Err (refusal_at reason place)
          → outcome_of table cap ≡ refused reason place
      of (refused k p) t e =
          let one : refusal_at k p ≡ refusal_at reason place = cc in
          t ∙ ap (λ (x : Refusal). refused x.reason x.place) one
      of (cut found) t e =
          let one : refusal_at reason place ≡ refusal_at TooManyRegions 0 = cc in
          absurd (other (ap (λ (x : Refusal). x.reason) one))
      of (whole found) t e = absurd (let z : ◌≡◌ {A = ℕ} 0 1 = cc in omega arith)
