-- A step: an edge over the names of blocks, as a list of numbers.
use Rattle.std.specs.Prelude.{ℕ, ◌+◌, cond, List, [], ◌∷◌, ◌++◌, eqb, get_or}
use Rattle.bisimulation.specs.Structures.{Branch}
use Rattle.bisimulation.specs.Finite.{Finite}
use Rattle.signatures.specs.Sets.{set_of}
use Rattle.signatures.specs.Shares.{high_share, low_share}

-- The name of an item's block. Items are in one block exactly where their names are equal.
abbrev pub name_of : List ℕ → ℕ → ℕ
name_of names x = get_or names x 0

-- Branches whose targets are names.
abbrev pub named : List ℕ → List (Branch ℕ) → List (Branch ℕ)
named names [] = []
named names (b ∷ l) = record { weight = b.weight; target = name_of names b.target } ∷ named names l

-- The names that branches land in.
abbrev pub target_names : List (Branch ℕ) → List ℕ
target_names [] = []
target_names (b ∷ l) = b.target ∷ target_names l

-- "the sum of the weights of branches landing in the class", here the block of a name.
abbrev pub mass_of : ℕ → List (Branch ℕ) → ℕ
mass_of name [] = 0
mass_of name (b ∷ l) = cond (eqb b.target name) (b.weight + mass_of name l) (mass_of name l)

-- A block landed in: its name and its share. A share of 0 is left out.
abbrev pub entry_of : (name mass denominator : ℕ) → List ℕ
entry_of name mass denominator = cond (eqb mass 0) [] (name ∷ high_share mass denominator ∷ low_share mass denominator ∷ [])

abbrev pub shares_over : (mass : ℕ → ℕ) (denominator : ℕ) → List ℕ → List ℕ
shares_over mass denominator [] = []
shares_over mass denominator (name ∷ l) = entry_of name (mass name) denominator ++ shares_over mass denominator l

-- The action, then the blocks landed in, names rising.
unfoldable pub step_list : (action denominator : ℕ) → List (Branch ℕ) → List ℕ
step_list action denominator branches =
    action ∷ shares_over (λ name. mass_of name branches) denominator (set_of (target_names branches))

-- The step of an edge from an item. In a closed structure whose denominators are below 2^30 steps are equal lists exactly if the edges are
-- alike (`step-alike`, `alike-step`).
unfoldable pub step_of : Finite → List ℕ → (x e : ℕ) → List ℕ
step_of F names x e = step_list (F.action x e) (F.whole x e) (named names (F.branches x e))
