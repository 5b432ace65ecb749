-- The labels of the records, as the code lists them.
use Rattle.std.specs.Prelude.{ℕ, List, [], ◌∷◌, get_or}
use Rattle.partition.specs.Passed.{Finite}
use Rattle.text.specs.Text.{up_to}
use Rattle.listing.specs.Printed.{lowest_of}

-- The labels of the first n items of a graph.
abbrev pub labels_to : Finite → ℕ → List ℕ
labels_to F n = up_to (λ x. F.label x ∷ []) n

-- The labels of the first n blocks: block b has the label of its lowest region, found in the labels of all regions.
abbrev pub block_labels : (regions list : List ℕ) → ℕ → List ℕ
block_labels regions list n = up_to (λ b. get_or regions (lowest_of list b) 0 ∷ []) n
