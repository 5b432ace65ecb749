-- The raw form means the edge's step.
use Rattle.std.proofs.Common.{◌≡◌, ◌∙◌, ap, ap₂}
use Rattle.graph.specs.Readers.{class_of, edge_at}
use Rattle.signatures.specs.Structure.{edge_of, step_at}
use Rattle.signatures.specs.Pass.{State}
use Rattle.signatures.specs.Raw.{raw_step}
use Rattle.signatures.specs.Laws.Raw.{landed-whole}
use Rattle.signatures.proofs.pass.Pass.step_id.Goals as goal

pub returns-clause-told : goal.returns-clause-told
unfolding step_at
returns-clause-told c =
    let x = c.args.x in
    let rank = c.args.rank in
    let s = c.args.self.now in
    let inside = c.self.inside in
    let edge-is = c.edge_at-edge.ensures.0 ∙ ap (λ l. edge_at inside.graph.now l rank) c.location_of-location.ensures.0 in
    let e : raw_step s.edges c.raw_form-raw.result.items ≡ step_at s.graph s.edges s.names (class_of s.graph x) (edge_of s.graph x rank) =
    landed-whole c.raw_form-raw.ensures s.edges
    ∙ ap₂ (λ k e. step_at inside.graph.now s.edges inside.names.now k e) c.class_of-class.ensures.0 edge-is
    ∙ ap (λ (p : State). step_at p.graph s.edges p.names (class_of p.graph x) (edge_of p.graph x rank)) c.self.view_is in
    rw (← e) (rw c.as_slice.ensures.value at c.noted_id.ensures.told)
