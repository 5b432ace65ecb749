-- What an edge lands in blocks, with the numbers of its blocks looked up before.
use Rattle.std.specs.Prelude.{ℕ, ◌*◌, ◌-◌, ◌<◌, ◌≡◌, Bool, List, eqb, length, get_or}
use Rattle.bisimulation.specs.Finite.{sum}
use Rattle.comparison.specs.Held.{branches_from}
use Rattle.comparison.specs.declared.held.Graph.{Graph}
use Rattle.comparison.specs.Graphs.{count, whole, number_of, weighed}

-- The list holds the numbers of the blocks that the branches of edge e at x lead to: of the first branches, as many as it has room for.
abbrev pub Gathered : Graph → (list : List ℕ) → (x e : ℕ) → (numbers : List ℕ) → Type 0
Gathered g list x e numbers = (i : ℕ) → i < count g e → i < length numbers → get_or numbers i 0 ≡ number_of g list x e i

-- Edge e at x and edge f at y land the same share in the block of c.
abbrev pub balanced_by : Graph → (list : List ℕ) → (x e : ℕ) → Graph → (list' : List ℕ) → (y f c : ℕ) → Bool
balanced_by g list x e h list' y f c = eqb (weighed g list c x e * whole h f) (weighed h list' c y f * whole g e)

-- The weight of the branches from branch i on that lands in the block of c.
abbrev pub weighed_from : Graph → (list : List ℕ) → (c x e i : ℕ) → ℕ
weighed_from g list c x e i = sum list c (branches_from g.resets.now g.spots.now g.rows.now x e i (count g e - i))
