-- Comparing two items under a block list, computed over slices that hold a structure. Shares are compared only at the targets of
-- the two edges: elsewhere both are 0.
use Rattle.std.specs.Prelude.{ℕ, ◌*◌, ◌<◌, ◌≡◌, Bool, true, cond, ◌&&◌, List, eqb, length, get_or}
use Rattle.bisimulation.specs.Finite.{related, sum, all_below, some_below, any_of, all_of}
use Rattle.comparison.specs.Held.{most_items, chain, is_open, action_at, whole_at, count_at, target_at, branches_from}

-- ---- Delays

-- Is an item related to c among those that y reaches by delay?
unfoldable pub reaches_related : (n : ℕ) → (list nexts : List ℕ) → (c y : ℕ) → Bool
reaches_related n list nexts c y = any_of (λ y'. related list c y') (chain n nexts n y)

-- The same for items whose number is v: marks by number tell it.
abbrev pub reaches_number : (n : ℕ) → (list nexts : List ℕ) → (v y : ℕ) → Bool
reaches_number n list nexts v y = any_of (λ y'. eqb v (get_or list y' 0)) (chain n nexts n y)

unfoldable pub delays_answered : (n : ℕ) → (list nexts : List ℕ) → (x y : ℕ) → Bool
delays_answered n list nexts x y = all_of (λ x'. reaches_related n list nexts x' y) (chain n nexts n x)

-- Each item that x reaches by delay has a number that is marked.
abbrev pub all_marked : (n : ℕ) → (list nexts marks : List ℕ) → (x : ℕ) → Bool
all_marked n list nexts marks x = all_of (λ x'. eqb (get_or marks (get_or list x' 0) 0) 1) (chain n nexts n x)

-- Numbers for which there are marks.
abbrev pub Below : (n : ℕ) → List ℕ → Type 0
Below n list = (x : ℕ) → x < n → get_or list x 0 < most_items

-- ---- Edges

-- The number of the block that branch i of edge e at x leads to.
abbrev pub number_of : (list resets spots rows : List ℕ) → (x e i : ℕ) → ℕ
number_of list resets spots rows x e i = get_or list (target_at resets spots rows x e i) 0

-- The list holds the numbers of the blocks that the branches of edge e at x lead to: of the first branches, as many as it has room for.
abbrev pub Gathered : (x e : ℕ) → (list resets spots rows got : List ℕ) → Type 0
Gathered x e list resets spots rows got =
    (i : ℕ) → i < count_at rows e → i < length got → get_or got i 0 ≡ number_of list resets spots rows x e i

-- The weight of edge e at x that lands in the block of c.
unfoldable pub weighed : (list resets spots rows : List ℕ) → (c x e : ℕ) → ℕ
weighed list resets spots rows c x e = sum list c (branches_from resets spots rows x e 0 (count_at rows e))

-- Edge e at x and edge f at y give the block of c the same share.
unfoldable pub balanced : (list resets spots rows : List ℕ) → (x e y f c : ℕ) → Bool
balanced list resets spots rows x e y f c =
    eqb (weighed list resets spots rows c x e * whole_at rows f) (weighed list resets spots rows c y f * whole_at rows e)

-- They do so at each target of edge g at z.
unfoldable pub balanced_over : (list resets spots rows : List ℕ) → (z g x e y f : ℕ) → Bool
balanced_over list resets spots rows z g x e y f =
    all_below (count_at rows g) (λ i. balanced list resets spots rows x e y f (target_at resets spots rows z g i))

unfoldable pub edges_alike : (list resets spots rows : List ℕ) → (x e y f : ℕ) → Bool
edges_alike list resets spots rows x e y f =
    eqb (action_at rows e) (action_at rows f)
    && (balanced_over list resets spots rows x e x e y f && balanced_over list resets spots rows y f x e y f)

-- Edge f answers at y to edge e at x; some edge does; edge e needs no answer or has one; all edges do.
unfoldable pub answers : (list flags resets spots rows : List ℕ) → (x e y f : ℕ) → Bool
answers list flags resets spots rows x e y f = is_open flags y f && edges_alike list resets spots rows x e y f

unfoldable pub some_answers : (k : ℕ) → (list flags resets spots rows : List ℕ) → (x e y : ℕ) → Bool
some_answers k list flags resets spots rows x e y = some_below k (λ f. answers list flags resets spots rows x e y f)

unfoldable pub edge_answered : (k : ℕ) → (list flags resets spots rows : List ℕ) → (x y e : ℕ) → Bool
edge_answered k list flags resets spots rows x y e =
    cond (is_open flags x e) (some_answers k list flags resets spots rows x e y) true

unfoldable pub edges_answered : (k : ℕ) → (list flags resets spots rows : List ℕ) → (x y : ℕ) → Bool
edges_answered k list flags resets spots rows x y = all_below k (λ e. edge_answered k list flags resets spots rows x y e)

-- ---- Both conditions

unfoldable pub answered : (n k : ℕ) → (list nexts flags resets spots rows : List ℕ) → (x y : ℕ) → Bool
answered n k list nexts flags resets spots rows x y =
    delays_answered n list nexts x y && edges_answered k list flags resets spots rows x y

unfoldable pub next_in : (n k : ℕ) → (list nexts flags resets spots rows : List ℕ) → (x y : ℕ) → Bool
next_in n k list nexts flags resets spots rows x y =
    related list x y
    && (answered n k list nexts flags resets spots rows x y && answered n k list nexts flags resets spots rows y x)
