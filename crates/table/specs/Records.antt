-- A record, as it is written in bytes, and the record at a place of a table (document 01, "The model table").
use Rattle.std.specs.Prelude.{ℕ, ◌+◌, ◌/◌, ◌%◌, ◌≡◌, refl, cond, List, [], ◌∷◌, eqb, length, get_or}
use Rattle.table.specs.Format.{body_length, body_lengths, two_bytes}
use Rattle.table.specs.declared.model.Invariant.{Invariant}
use Rattle.table.specs.declared.model.Guard.{Guard}
use Rattle.table.specs.declared.model.Branch.{Branch}
use Rattle.table.specs.declared.bodies.Body.{Body}

-- "A record is one byte of kind and a body."
pub data Record : Type 0 where
  header : (clocks locations initial : ℕ) → Record
  location : (label : ℕ) → Record
  invariant : Invariant → Record
  edge : (source action denominator : ℕ) → Record
  guard : Guard → Record
  branch : Branch → Record
  end : Record

-- "1 header .. 2 location .. 3 invariant atom .. 4 edge .. 5 guard atom .. 6 branch .. 7 end."
unfoldable pub kind_of : Record → ℕ
kind_of (header n l i) = 1
kind_of (location x) = 2
kind_of (invariant a) = 3
kind_of (edge s a w) = 4
kind_of (guard g) = 5
kind_of (branch b) = 6
kind_of end = 7

-- "Header: clocks n, locations, initial location. Location: its label. Invariant atom: location, clock, comparison, constant.
-- Edge: source location, action, denominator W in two bytes. Guard atom: clock, comparison, constant. Branch: weight in two
-- bytes, target location, reset mask." The low byte of two comes first.
unfoldable pub body_of : Record → List ℕ
body_of (header n l i) = n ∷ l ∷ i ∷ []
body_of (location x) = x ∷ []
body_of (invariant a) = a.location ∷ a.clock ∷ a.comparison ∷ a.constant ∷ []
body_of (edge s a w) = s ∷ a ∷ w % 256 ∷ w / 256 ∷ []
body_of (guard g) = g.clock ∷ g.comparison ∷ g.constant ∷ []
body_of (branch b) = b.weight % 256 ∷ b.weight / 256 ∷ b.target ∷ b.mask ∷ []
body_of end = []

-- The table of body lengths agrees with the format.
pub body-length-is : (r : Record) → length (body_of r) ≡ body_length (kind_of r)
unfolding body_of kind_of body_length body_lengths
body-length-is (header n l i) = refl
body-length-is (location x) = refl
body-length-is (invariant a) = refl
body-length-is (edge s a w) = refl
body-length-is (guard g) = refl
body-length-is (branch b) = refl
body-length-is end = refl

-- What the first bytes of a body say, of the kinds that hold more than numbers.

abbrev pub invariant_of : Body → Invariant
invariant_of b = record { location = b.a; clock = b.b; comparison = b.c; constant = b.d }

abbrev pub guard_of : Body → Guard
guard_of b = record { clock = b.a; comparison = b.b; constant = b.c }

abbrev pub branch_of : Body → Branch
branch_of b = record { weight = two_bytes b.a b.b; target = b.c; mask = b.d }

-- The record of a kind whose body begins with four bytes. (Of no kind it is `end`; refusal 3 comes first.)
unfoldable pub record_of : ℕ → Body → Record
record_of kind b =
    cond (eqb kind 1) (header b.a b.b b.c)
    (cond (eqb kind 2) (location b.a)
    (cond (eqb kind 3) (invariant (invariant_of b))
    (cond (eqb kind 4) (edge b.a b.b (two_bytes b.c b.d))
    (cond (eqb kind 5) (guard (guard_of b))
    (cond (eqb kind 6) (branch (branch_of b)) end)))))

-- The kind of the record that begins at a place: 0, which is no kind, past the table's end.
abbrev pub kind_at : List ℕ → ℕ → ℕ
kind_at table at = get_or table at 0

-- The four bytes after the kind, 0 past the table's end. Not all need belong to the record.
unfoldable pub body_at : List ℕ → ℕ → Body
body_at table at =
    record { a = get_or table (at + 1) 0; b = get_or table (at + 2) 0; c = get_or table (at + 3) 0; d = get_or table (at + 4) 0 }

unfoldable pub record_at : List ℕ → ℕ → Record
record_at table at = record_of (kind_at table at) (body_at table at)

-- Where the next record begins.
unfoldable pub past : List ℕ → ℕ → ℕ
past table at = at + 1 + body_length (kind_at table at)
