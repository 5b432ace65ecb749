-- `link_all` meets its contract. Assumes nothing.
use native.Mathlib.Omega.{arith}
use mathlib.Core.Path.{◌∙◌, ap, subst}
use lib.ListN.{length, length-set}
use Rattle.std.proofs.Common.{rules}
use Rattle.regions.specs.Index.{Index, indexed-none, linked_on}
use Rattle.regions.proofs.moves.link_all.Goals as goal

pub loop-x-init : goal.loop-x-init
loop-x-init c =
    let links = c.args.links.now in
    let none = c.requires.none.1 in
    record {
      index = subst (Index c.args.entries.now links.heads links.nexts) none
          (indexed-none c.args.entries.now links c.requires.none.0 none);
      count = none;
      long = search rules;
    }

pub loop-x-preserved : goal.loop-x-preserved
loop-x-preserved c =
    let pre = c.requires.entries in
    let loop = c.loop-x in
    let before = loop.invariant in
    let made = c.push.ensures in
    record {
      index = linked_on c.args.entries.now loop.links c.push.new.self loop.x before.index before.count
          (omega (arith, c.loop-x-test.true, pre.0)) (omega (arith, c.loop-x-test.true, pre.1))
          (omega (arith, c.loop-x-test.true, pre.0, before.long)) c.read_entry.result c.read_entry.ensures made.0 made.1;
      count = omega (arith, made.2, before.count);
      long = ap length made.1 ∙ length-set loop.links.nexts _ _ ∙ before.long;
    }
