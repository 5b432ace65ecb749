-- `at` meets its contract: a branch that was counted stands so many records after the first. Assumes nothing.
use mathlib.Core.Path.{sym, ◌∙◌, ap, subst}
use native.Mathlib.Omega.{arith}
use Rattle.std.specs.Prelude.{ℕ, ◌+◌, ◌*◌, ◌<◌, ◌≡◌, length, cond}
use Rattle.std.proofs.lemmas.Bool.{eq-eqb}
use Rattle.table.specs.Format.{body_length, body_lengths, max_branches}
use Rattle.table.specs.Records.{branch_of, body_at, kind_at}
use Rattle.table.specs.Access.{branch_at, branch_count, passed, no_branch, read_branch, item_or, walk_to}
use Rattle.table.specs.declared.access.Branches.{Branches}
use Rattle.table.proofs.Laws.Walks.{StandsAt, passed-at, inside}
use Rattle.table.proofs.Laws.Reads.{branch_read}
use Rattle.table.proofs.access.Branches.at.Goals as goal

-- A branch that was counted is one that the walk passes.
stands : (b : Branches) (i : ℕ) → i < b.count → StandsAt b.table.now b.first 6 i
unfolding branch_count
stands b i h =
    passed-at b.table.now b.first 6 max_branches i
    (subst (λ n. i < n) (b.count_is ∙ ap (passed 6 max_branches b.table.now) (sym b.first_is)) h)

-- Its record begins within the table.
within : (b : Branches) (i : ℕ) → i < b.count → b.first + 5 * i < length b.table.now
unfolding body_length body_lengths
within b i h = inside b.table.now (b.first + 5 * i) 6 (stands b i h).1 (omega arith)

-- What is read there is the branch that the walk comes to.
read : (b : Branches) (i : ℕ) → i < b.count → branch_of (body_at b.table.now (b.first + 5 * i)) ≡ branch_at b.table.now b.place i
unfolding branch_at body_length body_lengths
read b i h =
    let at = stands b i h in
    sym
    (ap (λ n. item_or 6 no_branch read_branch b.table.now (walk_to 6 i b.table.now n)) (sym b.first_is)
    ∙ ap (item_or 6 no_branch read_branch b.table.now) at.0
    ∙ ap (λ t. cond t (read_branch b.table.now (b.first + 5 * i)) no_branch) (eq-eqb (kind_at b.table.now (b.first + 5 * i)) 6 at.1))

pub overflow_mul-i : goal.overflow_mul-i
overflow_mul-i c = omega (arith, within c.args.self c.args.i (omega (arith, c.if-i-self.true)), c.ranges.self)

pub overflow_add-self : goal.overflow_add-self
overflow_add-self c = omega (arith, within c.args.self c.args.i (omega (arith, c.if-i-self.true)), c.ranges.self)

pub body_at-requires : goal.body_at-requires
body_at-requires c = omega (arith, within c.args.self c.args.i (omega (arith, c.if-i-self.true)))

pub returns-then-i-self-clause-value : goal.returns-then-i-self-clause-value
returns-then-i-self-clause-value c =
    let self = c.args.self in
    c.branch-body_at.ensures
    ∙ ap branch_of c.body_at.ensures
    ∙ ap (λ n. branch_of (body_at self.table.now n)) (omega arith)
    ∙ read self c.args.i (omega (arith, c.if-i-self.true))

pub returns-then-i-self-clause-value_2 : goal.returns-then-i-self-clause-value_2
returns-then-i-self-clause-value_2 c =
    let self = c.args.self in
    λ m e reads.
    c.branch-body_at.ensures
    ∙ ap branch_of c.body_at.ensures
    ∙ ap (λ n. branch_of (body_at self.table.now n)) (omega arith)
    ∙ read self c.args.i (omega (arith, c.if-i-self.true))
    ∙ branch_read self.table.now m self.of_bytes self.place e reads c.args.i
