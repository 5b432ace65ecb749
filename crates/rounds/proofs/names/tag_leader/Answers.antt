-- A new leader is tagged by its own number, and may swap it for the tag of its old block.
use Rattle.std.proofs.Common.{◌≡◌, ◌≤◌, ◌+◌, get_or, set, length, inl, arith, sym, ◌∙◌}
use Rattle.std.proofs.Common.{length-set}
use Rattle.std.proofs.Math.Logic.{⊎_map}
use Rattle.rounds.specs.Names.{Reached}
use Rattle.rounds.specs.Laws.Names.{tagged-on, tagged-new, tagged-swap}
use Rattle.rounds.proofs.names.tag_leader.Goals as goal

pub returns-then-at-x : goal.returns-then-at-x
returns-then-at-x c =
    let args = c.args in
    λ n hx few tagged. tagged-on n args.old.now args.new.now args.tags.now args.x hx (omega (arith, c.told-tags, few)) tagged
    (⊎_map (λ o e. o (c.at.ensures ∙ e)) (λ p. sym c.at-lead.ensures ∙ p.1) c.then-at-x.either)

pub returns-then-outgrows : goal.returns-then-outgrows
returns-then-outgrows c =
    let args = c.args in
    let x = args.x in
    λ n hx few tagged.
    let led : get_or args.new.now x 0 ≡ x = sym c.at.ensures ∙ c.if-at-x.false in
    let long : n ≤ length args.tags.now = omega (arith, c.told-tags, few) in
    let own = tagged-new n args.old.now args.new.now args.tags.now x hx long tagged led (λ e. c.if-lead-x.false (c.at-lead.ensures ∙ e)) in
    let (below, leads) = c.outgrows.ensures c.if-outgrows.true in
    rw c.swap.ensures.after
    (tagged-swap n (Reached args.old.now args.new.now (x + 1)) (set args.tags.now x x) x c.unwrap_or-holder.result hx
    (omega (arith, below, hx)) (led, inl (omega arith)) (leads, inl (omega (arith, below)))
    (omega (arith, length-set args.tags.now x x, long)) own)

pub returns-else-outgrows : goal.returns-else-outgrows
returns-else-outgrows c =
    let args = c.args in
    let x = args.x in
    λ n hx few tagged.
    let led : get_or args.new.now x 0 ≡ x = sym c.at.ensures ∙ c.if-at-x.false in
    tagged-new n args.old.now args.new.now args.tags.now x hx (omega (arith, c.told-tags, few)) tagged led
    (λ e. c.if-lead-x.false (c.at-lead.ensures ∙ e))
