-- Going over the available edges of an item, from the last down, and over what an item reaches by delay: what an iterator has left, and
-- what each step gives.
use Rattle.std.specs.Prelude.{ℕ, suc, ◌*◌, ◌-◌, ◌<◌, ◌≡◌, cond, List, [], leb, length, get_or, take, drop}
use Rattle.std.specs.Prelude.{Option, Some, None, MatchOption}
use Rattle.comparison.specs.Held.{flag_room, chain}

-- ---- Available edges: the flags of an item up to some edge are what is left

-- The first e numbers of a list, and none where it has fewer.
abbrev pub front : (e : ℕ) → List ℕ → List ℕ
front e l = cond (leb e (length l)) (take e l) []

-- The flags of item x for the edges below e.
abbrev pub flags_below : List ℕ → (x e : ℕ) → List ℕ
flags_below flags x e = front e (drop (flag_room * x) flags)

-- What the last of these flags tells: the number after the last available edge, and 0 where none is, or where the number is past the flags.
abbrev pub told : List ℕ → ℕ
told flags = cond (leb (get_or flags (length flags - 1) 0) (length flags)) (get_or flags (length flags - 1) 0) 0

-- A step gives the edge that is told, one of those that are left, and leaves the flags before it.
abbrev pub OpenStep : (flags : List ℕ) → Option ℕ → (flags' : List ℕ) → Type 0
OpenStep flags r flags' =
    MatchOption r (told flags ≡ 0)
    (λ e. (told flags ≡ suc e) × (flags' ≡ take e flags) × (e < length flags) × (length flags' ≡ e))

-- ---- Delays: an item, or none, and how many steps are left at most

abbrev pub delays_left : (n : ℕ) → (nexts : List ℕ) → (left : ℕ) → Option ℕ → List ℕ
delays_left n nexts left None = []
delays_left n nexts left (Some x) = chain n nexts left x
