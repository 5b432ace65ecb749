-- `is_newly_keyed_next` compares the keys, then the delays, then the edges.
use Rattle.std.proofs.Common.{arith, ℕ, sym, ◌∙◌}
use Rattle.std.proofs.lemmas.List.{length-replicate}
use Rattle.comparison.specs.Laws.Compare.{next-held}
use Rattle.comparison.specs.Laws.Codes.{answers-tell, own-none, next-fails, next-edges}
use Rattle.comparison.specs.Laws.KeyLoops.{known-new}
use Rattle.comparison.specs.Laws.Keyed.{keys-part, keyed-on}
use Rattle.comparison.proofs.held.Graph.is_newly_keyed_next.Goals as goal
use Rattle.comparison.proofs.held.Graph.is_newly_keyed_next.Goals.{
  then-one-other-via-then-one-other,
  then-one-other-via-else-one-other+then-not-may_be_next,
}

pub returns-then-one-other-clause-value : goal.returns-then-one-other-clause-value
returns-then-one-other-clause-value c =
    let g = c.args.self in
    let args = c.args in
    let names = args.names.now in
    let key = c.coded_key-other in
    λ F equipped hx hy one.
    let keyed = equipped.keyed in
    let back = answers-tell F g.n g.k names g.labels.now g.nexts.now g.flags.now g.resets.now g.spots.now g.rows.now keyed.held
    keyed.closed args.y args.x hy hx in
    let (other, shelved, _, _, _) = key.ensures.value keyed.held.opened hx hy (omega (arith, length-replicate {A = ℕ} 128 0))
    equipped.shelved back (own-none g.k names g.flags.now g.resets.now g.spots.now g.rows.now args.x args.y 128) in (
      elim c.then-one-other.branch [
        | then-one-other-via-then-one-other w ↦ sym (keys-part keyed args.x args.y args.one key.result hx hy one other w.if-one-other.true)
        | then-one-other-via-else-one-other+then-not-may_be_next w ↦
            sym (next-fails g.n g.k names g.nexts.now g.flags.now g.resets.now g.spots.now g.rows.now args.x args.y
            (sym (w.may_be_next.ensures keyed.below keyed.held.onward hx hy) ∙ w.if-not-may_be_next.true))
            ∙ next-held F g.n g.k names g.labels.now g.nexts.now g.flags.now g.resets.now g.spots.now g.rows.now keyed.held keyed.closed
            args.x args.y hx hy
      ],
      record {
        keyed = keyed-on keyed key.new.keys
            (rw key.ensures.keys_after.0 (known-new g.n g.k names args.keys.now g.nexts.now g.flags.now g.resets.now g.spots.now g.rows.now
            keyed.keyed args.y key.result other));
        shelved = shelved;
      },
    )

pub returns-clause-value : goal.returns-clause-value
returns-clause-value c =
    let g = c.args.self in
    let args = c.args in
    let names = args.names.now in
    let key = c.coded_key-other in
    λ F equipped hx hy one.
    let keyed = equipped.keyed in
    let there = answers-tell F g.n g.k names g.labels.now g.nexts.now g.flags.now g.resets.now g.spots.now g.rows.now keyed.held
    keyed.closed args.x args.y hx hy in
    let back = answers-tell F g.n g.k names g.labels.now g.nexts.now g.flags.now g.resets.now g.spots.now g.rows.now keyed.held
    keyed.closed args.y args.x hy hx in
    let (other, shelved, ones, others, own) = key.ensures.value keyed.held.opened hx hy (omega (arith, length-replicate {A = ℕ} 128 0))
    equipped.shelved back (own-none g.k names g.flags.now g.resets.now g.spots.now g.rows.now args.x args.y 128) in (
      c.edges_agree.ensures keyed.held.opened hx hy ones others there back own
          ∙ sym (next-edges g.n g.k names g.nexts.now g.flags.now g.resets.now g.spots.now g.rows.now args.x args.y
          (sym (c.may_be_next.ensures keyed.below keyed.held.onward hx hy) ∙ c.if-not-may_be_next.false))
          ∙ next-held F g.n g.k names g.labels.now g.nexts.now g.flags.now g.resets.now g.spots.now g.rows.now keyed.held keyed.closed
          args.x args.y hx hy,
      record {
        keyed = keyed-on keyed key.new.keys
            (rw key.ensures.keys_after.0 (known-new g.n g.k names args.keys.now g.nexts.now g.flags.now g.resets.now g.spots.now g.rows.now
            keyed.keyed args.y key.result other));
        shelved = shelved;
      },
    )
