-- The item is placed by its own lead, or by that of a kin, or by a search.
use Rattle.std.proofs.Common.{get_or, set, arith, refl, sym}
use Rattle.bisimulation.specs.Finite.{next}
use Rattle.std.proofs.Common.{get_or-set_same}
use Rattle.rounds.specs.Laws.Rounds.{linked-below, chains-cleared, placed-own, placed-known}
use Rattle.rounds.proofs.rounds.next_lead.Goals as goal

pub returns-then-x-start-clause-value : goal.returns-then-x-start-clause-value
returns-then-x-start-clause-value c =
    let args = c.args in
    let s = args.sorting in
    let n = args.graph.n in
    let x = args.x in
    λ F equipped sorted chains reps known hx.
    let d = next F s.names.now in
    let cleared = chains-cleared d n s.mid.now sorted.step args.links.now x hx chains in
    let (own, linked) = placed-own d n s.mid.now sorted.step (set args.links.now x 0) x hx cleared c.if-x-start.true
    (get_or-set_same args.links.now x 0 0 (omega (arith, c.told-links, c.requires))) in
    (own, linked, equipped)

pub returns-then-sorting-x-eq1-clause-value : goal.returns-then-sorting-x-eq1-clause-value
returns-then-sorting-x-eq1-clause-value c =
    let args = c.args in
    let s = args.sorting in
    let n = args.graph.n in
    let x = args.x in
    λ F equipped sorted chains reps known hx.
    let d = next F s.names.now in
    let cleared = chains-cleared d n s.mid.now sorted.step args.links.now x hx chains in
    let (own, linked) = placed-known d n s.mid.now sorted.step (set args.links.now x 0) x hx cleared (get_or s.mid.now x 0)
    (sorted.joins x hx c.if-sorting-x-eq1.true) c.if-x-start.false in
    (own, linked, equipped)

pub returns-in-Some-clause-value : goal.returns-in-Some-clause-value
returns-in-Some-clause-value c =
    let args = c.args in
    let s = args.sorting in
    let n = args.graph.n in
    let x = args.x in
    λ F equipped sorted chains reps known hx.
    let d = next F s.names.now in
    let cleared = chains-cleared d n s.mid.now sorted.step args.links.now x hx chains in
    let led = c.in-Some.ensures F equipped.keyed.held equipped.keyed.closed sorted.step.classes hx reps known c.if-x-start.false in
    let (own, linked) = placed-known d n s.mid.now sorted.step (set args.links.now x 0) x hx cleared c.in-Some.lead (sym led.0) led.1 in
    (own, linked, equipped)

pub returns-in-Some-kin_lead-clause-value : goal.returns-in-Some-kin_lead-clause-value
returns-in-Some-kin_lead-clause-value c =
    let args = c.args in
    let s = args.sorting in
    let n = args.graph.n in
    let x = args.x in
    λ F equipped sorted chains reps known hx.
    let d = next F s.names.now in
    let cleared = chains-cleared d n s.mid.now sorted.step args.links.now x hx chains in
    let led = c.in-Some-kin_lead.ensures F equipped.keyed.held equipped.keyed.closed sorted.step.classes hx reps known
    (linked-below args.kins.now.heads x c.sign_of-sign.result c.newest.result c.newest.ensures known.heads) in
    let (own, linked) = placed-known d n s.mid.now sorted.step (set args.links.now x 0) x hx cleared c.in-Some-kin_lead.lead
    (sym led.0) led.1 in
    (own, linked, equipped)

pub returns-clause-value : goal.returns-clause-value
returns-clause-value c =
    let args = c.args in
    let s = args.sorting in
    let n = args.graph.n in
    let x = args.x in
    λ F equipped sorted chains reps known hx.
    let d = next F s.names.now in
    let cleared = chains-cleared d n s.mid.now sorted.step args.links.now x hx chains in
    c.search_lead-lead.ensures F s.mid.now equipped sorted.step cleared
    (get_or-set_same args.links.now x 0 0 (omega (arith, c.told-links, c.requires))) hx refl c.if-x-start.false
