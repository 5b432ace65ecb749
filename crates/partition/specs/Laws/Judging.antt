-- Demand 2's sentence on proposals, from what the judging call promises (Promises): "A proposed partition is accepted exactly
-- when it is a probabilistic time-abstracting bisimulation of the region graph". Equal numbers mean related, and there is one
-- number for each region.
use Rattle.std.specs.Prelude.{ℕ, ◌≡◌, refl, Bool, true, false, cond, not, List, ◌↔◌, eqb, length, Result}
use Rattle.std.proofs.Common.{sym, ◌∙◌, eqb-true}
use Rattle.regions.specs.Call.{room_for}
use Rattle.bisimulation.specs.Bisimulations.{Bisimulation}
use Rattle.bisimulation.specs.Finite.{structure, related, accepts}
use Rattle.partition.specs.Instances.{graph}
use Rattle.partition.specs.Calls.{refuses, acceptance, judged_of, judge_of}
use Rattle.partition.specs.Promises.{Judged}
use Rattle.partition.specs.Laws.Bisimilar.{accepted-iff}
use Rattle.partition.specs.Laws.Calls.{on-accepted, from-accepted, judged-well}
use Rattle.partition.specs.Calls.{Accepted}
use Rattle.table.specs.declared.refusals.Reason.TheVariants.{WrongLength, NoBisimulation}
use Rattle.table.specs.declared.refusals.Refusal.{Refusal}

-- Where both tests of a proposal end in acceptance, both hold.
both_hold : (x y : Bool) → cond (not x) (refuses WrongLength 0) (cond y (acceptance) (refuses NoBisimulation 0)) ≡ acceptance
    → (x ≡ true) × (y ≡ true)
both_hold false y e = cc
both_hold true false e = cc
both_hold true true e = (refl, refl)

module _ (table entries proposal : List ℕ) (answer : Result Unit Refusal) (entries' : List ℕ)
    (promised : Judged table entries proposal answer entries') where
  -- A proposal is accepted only for an accepted table.
  pub judged-model : answer ≡ acceptance → Accepted table (room_for (length entries))
  unfolding judge_of
  judged-model e =
      (from-accepted refuses (judged_of proposal) table (room_for (length entries)) acceptance (λ reason place q. cc)
      (sym promised.answer-is ∙ e)).0

  -- For an accepted table the answer is what is said of its model and regions.
  says : (a : Accepted table (room_for (length entries))) → answer ≡ judged_of proposal a.model a.found
  unfolding judge_of
  says a = promised.answer-is ∙ on-accepted refuses (judged_of proposal) table (room_for (length entries)) a

  -- The proposal is then accepted exactly when it has one number for each region, and equal numbers are a bisimulation of the
  -- region graph.
  pub judged-accepted : (a : Accepted table (room_for (length entries)))
      → (answer ≡ acceptance)
      ↔ ((length proposal ≡ length a.found)
      × Bisimulation (structure (graph a.model a.found)) (λ x y. related proposal x y ≡ true))
  judged-accepted a = (
    λ e.
        let (long, well) = both_hold (eqb (length proposal) (length a.found))
        (accepts (graph a.model a.found) proposal) (sym (says a) ∙ e) in
        (eqb-true _ _ long, (accepted-iff a.model a.found proposal).0 well),
    λ h.
        says a
        ∙ sym (judged-well a.model a.found proposal h.0 ((accepted-iff a.model a.found proposal).1 h.1)),
  )
