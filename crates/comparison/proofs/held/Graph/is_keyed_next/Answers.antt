-- `is_keyed_next` answers by what is plainly alike, by keys that differ, or by the test of the next round.
use Rattle.std.proofs.Common.{arith, sym, ◌∙◌, ne_eqb}
use Rattle.comparison.specs.Laws.KeyLoops.{known-old}
use Rattle.comparison.specs.Laws.Keyed.{keys-part, twins-meet, keyed-on}
use Rattle.comparison.proofs.held.Graph.is_keyed_next.Goals as goal

pub returns-then-is_twin-clause-value : goal.returns-then-is_twin-clause-value
returns-then-is_twin-clause-value c =
    let args = c.args in
    λ F equipped hx hy.
    let keyed = equipped.keyed in (
      sym (twins-meet keyed.held keyed.closed args.names.now args.x args.y hx hy
          (c.is_twin.ensures.y_value c.if-is_twin.true keyed.held.onward keyed.held.opened hx hy)),
      equipped,
    )

pub returns-else-one-known-clause-value : goal.returns-else-one-known-clause-value
returns-else-one-known-clause-value c =
    let g = c.args.self in
    let args = c.args in
    let key = c.known_key-one in
    λ F equipped hx hy.
    let keyed = equipped.keyed in
    let (one, known, shelved) = key.ensures.value keyed.held.opened hx keyed.keyed equipped.shelved in
    let other = c.at-2.ensures
    ∙ known-old g.n g.k args.names.now key.new.keys g.nexts.now g.flags.now g.resets.now g.spots.now g.rows.now known args.y hy
    (λ none. omega (arith, c.at-2.ensures, none)) in (
      ne_eqb key.result c.at-2.result c.if-one-known.false
          ∙ sym (keys-part keyed args.x args.y key.result c.at-2.result hx hy one other c.if-one-known.false),
      record {
        keyed = keyed-on keyed key.new.keys known;
        shelved = shelved;
      },
    )
