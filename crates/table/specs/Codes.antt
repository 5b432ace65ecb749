-- What the bytes of a table stand for: the kinds of records, and the comparisons of atoms.
use Rattle.std.specs.Prelude.{ℕ, ◌<◌, ◌≡◌, ◌⊎◌, Result, MatchResult}
use Rattle.table.specs.Format.{last_comparison}
use Rattle.table.specs.declared.codes.Kind.{Kind}
use Rattle.table.specs.declared.codes.Kind.TheVariants.{Header, Location, Invariant, Edge, Guard, Branch, End}
use Rattle.table.specs.declared.codes.Comparison.{Comparison}
use Rattle.table.specs.declared.codes.Comparison.TheVariants.{Less, AtMost, Greater, AtLeast, Equal}
use Rattle.table.specs.declared.refusals.Reason.{Reason}
use Rattle.table.specs.declared.refusals.Reason.TheVariants.{UnknownKind, UnknownComparison}

-- "1 header .. 2 location .. 3 invariant atom .. 4 edge .. 5 guard atom .. 6 branch .. 7 end."
abbrev pub kind_code : Kind → ℕ
kind_code Header = 1
kind_code Location = 2
kind_code Invariant = 3
kind_code Edge = 4
kind_code Guard = 5
kind_code Branch = 6
kind_code End = 7

-- The kind that a byte stands for, or a refusal: no kind has the byte.
abbrev pub DecodesKind : ℕ → Result Kind Reason → Type 0
DecodesKind byte r =
    MatchResult r (λ kind. kind_code kind ≡ byte) (λ e. (e ≡ UnknownKind) × ((byte ≡ 0) ⊎ (7 < byte)))

-- "0 is <, 1 is ≤, 2 is >, 3 is ≥ and 4 is =."
abbrev pub comparison_code : Comparison → ℕ
comparison_code Less = 0
comparison_code AtMost = 1
comparison_code Greater = 2
comparison_code AtLeast = 3
comparison_code Equal = 4

-- The comparison that a byte stands for, or a refusal: no comparison has the byte.
abbrev pub DecodesComparison : ℕ → Result Comparison Reason → Type 0
DecodesComparison byte r =
    MatchResult r (λ comparison. comparison_code comparison ≡ byte) (λ e. (e ≡ UnknownComparison) × (last_comparison < byte))
