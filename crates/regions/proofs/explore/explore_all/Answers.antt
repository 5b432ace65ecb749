-- `explore_all` meets its contract: the start is listed, and then what it leads to. Assumes nothing.
use Prim.Native.Nat.{ℕ}
use native.Mathlib.Omega.{arith}
use mathlib.Core.Path.{◌≡◌, sym, ◌∙◌, ap}
use mathlib.Core.List.{List}
use lib.ListN.{length}
use Rattle.std.specs.Prelude.{Result, Ok, Err}
use Rattle.std.proofs.Common.{rules}
use Rattle.table.specs.Model.{Model}
use Rattle.regions.specs.declared.explore.Full.{Full}
use Rattle.regions.specs.Of.{Of}
use Rattle.regions.specs.Entries.{region_at}
use Rattle.regions.specs.Index.{indexed-none}
use Rattle.regions.specs.Graph.{next_of}
use Rattle.regions.specs.Call.{room_for}
use Rattle.regions.specs.Worklist.{complete, full, explore}
use Rattle.regions.specs.Laws.Worklist.{full-room}
use Rattle.regions.specs.Explore.{same_region, same_true, same_refl, listed, listed-length, so_far, found_of, count_of}
use Rattle.regions.specs.Explore.{first-listed, explored, explored-none}
use Rattle.regions.proofs.explore.explore_all.Goals as goal
use Rattle.regions.proofs.explore.explore_all.Goals.{After-explore_listed}

pub returns-then-cap-eq0-clause-found : goal.returns-then-cap-eq0-clause-found
returns-then-cap-eq0-clause-found c =
    let es = c.args.entries.now in
    let none : room_for (length es) ≡ 0 = omega (arith, c.min-cap.ensures, c.if-cap-eq0.true) in
    λ m reads.
    ap (λ (k : ℕ). explore same_region (next_of m) k c.args.start) none
    ∙ explored-none (next_of m) c.args.start es
    ∙ sym (ap (λ (k : ℕ). full (listed es k)) none)

pub invariant_of-found : goal.invariant_of-found
invariant_of-found c =
    record {
      room = record {
        index = indexed-none c.args.entries.now c.new.result c.new.ensures.0 c.new.ensures.1;
        room = omega (arith, c.new.ensures.1);
        few = omega (arith, c.min-cap.ensures);
        fits = omega (arith, c.min-cap.ensures);
      };
    }

-- Exploring gives what the loop found.
explores : (c : After-explore_listed) (m : Model) → Of c.args.model.now m
    → explore same_region (next_of m) (room_for (length c.args.entries.now)) c.args.start
    ≡ found_of c.explore_listed.result (so_far c.explore_listed.new.found)
explores c m reads =
    let start = c.args.start in
    let begun = c.add.new.self in
    let cap : begun.cap ≡ room_for (length c.args.entries.now) = omega (arith, c.add.ensures.cap, c.min-cap.ensures) in
    let one = first-listed begun.entries.now start
    (ap (region_at begun.entries.now) (sym c.new.ensures.1) ∙ c.add.ensures.added.entry) in
    ap (λ (k : ℕ). explore same_region (next_of m) k start) (sym cap)
    ∙ explored (next_of m) begun.cap start (listed begun.entries.now 1) _ (omega (arith, c.add.ensures.cap, c.if-cap-eq0.false)) one
    (c.explore_listed.ensures.found m start reads)

-- What the entries that were lent hold at the end.
module _ (c : After-explore_listed) (m : Model) (reads : Of c.args.model.now m) (es : List ℕ)
    (is : es ≡ c.explore_listed.new.found.entries.now) where
  abbrev count : ℕ
  count = c.explore_listed.new.found.links.count

  abbrev room : ℕ
  room = room_for (length c.args.entries.now)

  told : explore same_region (next_of m) room c.args.start ≡ found_of c.explore_listed.result (listed es count)
  told = explores c m reads ∙ sym (ap (λ l. found_of c.explore_listed.result (listed l count)) is)

  told-whole : (x : Unit) → c.explore_listed.result ≡ Ok x → explore same_region (next_of m) room c.args.start ≡ complete (listed es count)
  told-whole x was = told ∙ ap (λ (r : Result Unit Full). found_of r (listed es count)) was

  told-full : (d : Full) → c.explore_listed.result ≡ Err d → (r : Result ℕ Full) → r ≡ Err d
      → explore same_region (next_of m) room c.args.start ≡ found_of r (listed es (count_of room r))
  told-full d was r same =
      let all : explore same_region (next_of m) room c.args.start ≡ full (listed es count) =
      told ∙ ap (λ (r : Result Unit Full). found_of r (listed es count)) was in
      let fills = (full-room same_region (next_of m) same_true same_refl room c.args.start (listed es count) all).fills in
      let whole : count ≡ room = sym (listed-length es count) ∙ fills in
      all
      ∙ ap (λ (k : ℕ). full (listed es k)) whole
      ∙ sym (ap (λ (r : Result ℕ Full). found_of r (listed es (count_of room r))) same)

pub returns-in_err-explore_listed-clause-found : goal.returns-in_err-explore_listed-clause-found
returns-in_err-explore_listed-clause-found c =
    λ m reads.
    told-full (goal.at.returns-in_err-explore_listed-clause-found c).After-explore_listed m reads _ (search rules) _
    c.in_err-explore_listed.was _ (search rules)

pub returns-clause-found : goal.returns-clause-found
returns-clause-found c =
    λ m reads.
    told-whole (goal.at.returns-clause-found c).After-explore_listed m reads _ (search rules) _ c.in_ok-explore_listed.was
