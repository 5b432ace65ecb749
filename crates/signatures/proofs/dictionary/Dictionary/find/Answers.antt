-- Loop: if the list is held, it stands before this link along its bucket. Measure: the links along a bucket fall.
use Rattle.std.proofs.Common.{◌≡◌, ◌-◌, ◌<◌, ◌∙◌, ap, sym, [], length, get_or, arith}
use Rattle.std.proofs.lemmas.Bool.{false≢true}
use Rattle.signatures.specs.Dictionary.{entry_of}
use Rattle.signatures.specs.Laws.Dictionary.{count-is, held_entry, sound, walk_start, walk-on, walk-falls, walk_none}
use Rattle.signatures.proofs.dictionary.Dictionary.find.Goals as goal

pub loop-link-init : goal.loop-link-init
loop-link-init c = rw c.bucket_of.ensures.0 (walk_start c.self.invariant c.args.list.now)

pub is_entry-requires : goal.is_entry-requires
is_entry-requires c =
    omega (arith, c.loop-link.invariant.within, count-is c.self.invariant, ap length c.self.view_is)

pub returns-then-is_entry : goal.returns-then-is_entry
returns-then-is_entry c =
    record {
      found = (
        omega (arith, c.loop-link.invariant.within, count-is c.self.invariant, ap length c.self.view_is),
        c.is_entry.ensures.0 c.if-is_entry.true,
      );
      sound = rw (← c.self.view_is) (sound c.self.invariant);
    }

pub loop-link-smaller : goal.loop-link-smaller
loop-link-smaller c =
    let loop = c.loop-link in
    rw c.from.ensures (walk-falls c.self.invariant c.args.list.now loop.link loop.invariant (omega arith))

pub loop-link-preserved : goal.loop-link-preserved
loop-link-preserved c =
    let loop = c.loop-link in
    let d = c.self.invariant in
    let j = loop.link - 1 in
    let some : 0 < loop.link = omega arith in
    let is : get_or c.args.self.now j [] ≡ entry_of c.self.inside.index.now c.self.inside.numbers.now j =
    rw (← c.self.view_is) (held_entry d j (omega (arith, loop.invariant.within))) in
    rw c.from.ensures
    (walk-on d c.args.list.now loop.link loop.invariant some (λ e. false≢true (sym c.if-is_entry.false ∙ c.is_entry.ensures.1 (is ∙ e))))

pub returns : goal.returns
returns c =
    record {
      found = rw (← c.self.view_is) (walk_none c.self.invariant c.args.list.now c.loop-link.link c.loop-link.invariant (omega arith));
      sound = rw (← c.self.view_is) (sound c.self.invariant);
    }
