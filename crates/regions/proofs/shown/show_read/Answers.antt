-- `show_read` meets its contract. Assumes nothing.
use native.Mathlib.Omega.{arith}
use mathlib.Core.Path.{sym, ◌∙◌, subst}
use mathlib.Core.List.{List}
use lib.ListN.{length}
use Rattle.regions.specs.Call.{room_for}
use Rattle.regions.specs.Shown.{ShownIn}
use Rattle.regions.specs.Laws.Bytes.{room_fits}
use Rattle.regions.specs.Laws.Shown.{list-found, all_listed, few-found, bytes-found}
use Rattle.clocks.specs.declared.region.Region.{Region}
use Rattle.regions.proofs.shown.show_read.Goals as goal

pub returns-clause-shown : goal.returns-clause-shown
returns-clause-shown c =
    let graph-of = c.graph_of in
    let show-found = c.show_found in
    let bytes = c.args.model.now.bytes.now in
    let entries = c.args.entries.now in
    let now = graph-of.new.entries in
    λ m found reads is room.
    let done = graph-of.ensures m reads in
    let answer = sym c.in_ok-n.was ∙ done.0 in
    let cap = room_for (length entries) in
    subst (λ (k : List Region). ShownIn m k show-found.new.graph)
    (list-found bytes entries now m cap reads.answer _ answer done.1 found is)
    (show-found.ensures.shown m reads
    (all_listed bytes entries now m cap reads.answer _ answer done.1 found is)
    (few-found bytes entries now m cap reads.answer _ answer done.1 found is (omega arith))
    (bytes-found bytes entries now m cap reads.answer _ answer done.1 found is (room_fits (length entries)))
    room)
