-- The clocks that were met are those of the region's two arrays, side by side.
use Rattle.std.proofs.Common.{ℕ, ◌≡◌, ◌∙◌, ap, arith, rules, List, length, take}
use Rattle.std.specs.List.{zip}
use Rattle.std.specs.declared.iter.Take.{Take}
use Rattle.std.specs.declared.iter.Zip.{Zip}
use Rattle.std.specs.declared.slice.Iter.{Iter}
use Rattle.std.specs.Iterator.Adapters.{take_source, take_count, take_steps, zip_first, zip_second}
use Rattle.std.specs.Slice.Iter.{iter_rest}
use Rattle.std.proofs.iter.Yields.{fronts}
use Rattle.std.proofs.lemmas.List.{length_push}
use Rattle.std.proofs.lemmas.Iterator.{YieldsList, YieldsList-from_slice, YieldsList-from_take, YieldsList-from_zip, zips}
use Rattle.std.proofs.lemmas.Iterator.Consumers.{YieldsList-turn, YieldsList-end}
use Rattle.text.specs.Text.{each}
use Rattle.text.specs.Laws.Writer.{puts_then, puts_same}
use Rattle.listing.specs.Printed.{clock_field, clocks_at}
use Rattle.listing.specs.Laws.Texts.{clocks-on, clock_at, clocks-count}
use Rattle.listing.proofs.lines.put_clocks.Goals as goal

clocks-from : (whole rank : List ℕ) (n : ℕ) {s : Take (Zip (Iter ℕ) (Iter ℕ))} → iter_rest (zip_first (take_source s)) ≡ whole
    → iter_rest (zip_second (take_source s)) ≡ rank → take_count s ≡ n
    → YieldsList (take_steps (zips fronts fronts)) (λ p. (p.0.now, p.1.now)) s (take n (zip whole rank))
clocks-from whole rank n first second few =
    YieldsList-from_take n (YieldsList-from_zip (YieldsList-from_slice whole first) (YieldsList-from_slice rank second)) few

pub loop-whole-preserved : goal.loop-whole-preserved
loop-whole-preserved c =
    let whole = c.args.region.now.whole in
    let rank = c.args.region.now.rank in
    let turn =
    YieldsList-turn (clocks-from whole rank c.args.n {s = c.into_iter-whole-iterator.result} (search rules) (search rules) (cc))
    c.loop-whole.yielded _ c.loop-whole.yielded_by _ c.next.new.self (c.in-Some.whole, c.in-Some.rank) c.in-Some.is c.next.ensures.steps in
    let clock = clock_at whole rank c.args.n _ _ turn.0 turn.1 in
    rw (length_push c.loop-whole.yielded (c.in-Some.whole, c.in-Some.rank))
    (puts_same (clocks-on whole rank (length c.loop-whole.yielded))
    (puts_then c.loop-whole.invariant (rw (clock.0, clock.1) at c.put_clock.ensures)))

pub returns : goal.returns
returns c =
    let whole = c.args.region.now.whole in
    let rank = c.args.region.now.rank in
    let end =
    YieldsList-end (clocks-from whole rank c.args.n {s = c.into_iter-whole-iterator.result} (search rules) (search rules) (cc))
    c.loop-whole.yielded _ c.loop-whole.yielded_by _ c.next.new.self c.in-None.is c.next.ensures.steps in
    let all = end.1 ∙ clocks-count whole rank c.args.n (omega arith) (omega arith) in
    puts_same (ap (λ (k : ℕ). each clock_field (clocks_at k c.args.region.now)) all) c.loop-whole.invariant
