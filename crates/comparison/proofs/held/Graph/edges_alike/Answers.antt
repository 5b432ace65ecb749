-- `edges_alike` meets its contract: what the two landings compare is what their graph, list and edges say.
use Rattle.std.proofs.Common.{ℕ, ◌≡◌, sym, ◌∙◌, Bor, List}
use Rattle.bisimulation.specs.Finite.{all_below}
use Rattle.comparison.specs.declared.held.Graph.{Graph}
use Rattle.comparison.specs.Compare.{balanced, balanced_over}
use Rattle.comparison.specs.Graphs.{count, target_at}
use Rattle.comparison.specs.Shares.{balanced_by}
use Rattle.comparison.specs.Laws.Compare.{alike-action, alike-fails, alike-on}
use Rattle.comparison.proofs.held.Graph.edges_alike.Goals as goal

module _ {g one other : Graph} {list ones others : Bor (List ℕ)} {x e y f x' e' y' f' : ℕ}
    (first : (one ≡ g) × (ones ≡ list) × (x' ≡ x) × (e' ≡ e))
    (second : (other ≡ g) × (others ≡ list) × (y' ≡ y) × (f' ≡ f)) where
  there : all_below (count one e') (λ i. balanced_by one ones.now x' e' other others.now y' f' (target_at one x' e' i))
      ≡ balanced_over list.now g.resets.now g.spots.now g.rows.now x e x e y f
  unfolding balanced balanced_over
  there i =
      all_below (count (first.0 i) (first.3 i))
      (λ j. balanced_by (first.0 i) (first.1 i).now (first.2 i) (first.3 i) (second.0 i) (second.1 i).now (second.2 i) (second.3 i)
      (target_at (first.0 i) (first.2 i) (first.3 i) j))

  back : all_below (count other f') (λ i. balanced_by one ones.now x' e' other others.now y' f' (target_at other y' f' i))
      ≡ balanced_over list.now g.resets.now g.spots.now g.rows.now y f x e y f
  unfolding balanced balanced_over
  back i =
      all_below (count (second.0 i) (second.3 i))
      (λ j. balanced_by (first.0 i) (first.1 i).now (first.2 i) (first.3 i) (second.0 i) (second.1 i).now (second.2 i) (second.3 i)
      (target_at (second.0 i) (second.2 i) (second.3 i) j))

pub returns-then-action_at : goal.returns-then-action_at
returns-then-action_at c =
    let args = c.args in
    let g = args.self in
    sym (alike-action args.list.now g.resets.now g.spots.now g.rows.now args.x args.e args.y args.f
    (λ h. c.if-action_at.true (c.action_at.ensures.0 ∙ h ∙ sym c.action_at-2.ensures.0)))

pub returns-then-is_balanced_there : goal.returns-then-is_balanced_there
returns-then-is_balanced_there c =
    let args = c.args in
    let g = args.self in
    let one = c.new-one.ensures in
    let other = c.new-other.ensures in
    let told = sym c.is_balanced_there.ensures ∙ c.if-is_balanced_there.true in
    c.is_balanced_back.ensures told
    ∙ back one other
    ∙ sym (alike-on args.list.now g.resets.now g.spots.now g.rows.now args.x args.e args.y args.f
    (sym c.action_at.ensures.0 ∙ c.if-action_at.false ∙ c.action_at-2.ensures.0) (sym (there one other) ∙ told))

pub returns-else-is_balanced_there : goal.returns-else-is_balanced_there
returns-else-is_balanced_there c =
    let args = c.args in
    let g = args.self in
    let told = sym c.is_balanced_there.ensures ∙ c.if-is_balanced_there.false in
    c.if-is_balanced_there.false
    ∙ sym (alike-fails args.list.now g.resets.now g.spots.now g.rows.now args.x args.e args.y args.f
    (sym c.action_at.ensures.0 ∙ c.if-action_at.false ∙ c.action_at-2.ensures.0) (sym (there c.new-one.ensures c.new-other.ensures) ∙ told))
