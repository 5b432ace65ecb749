-- Counts that can be those of what is lent are; a table that was read has at most four clocks.
use Rattle.std.proofs.Common.{ℕ, ◌≡◌, sym, ◌∙◌, ap, arith, rules, Err, length, take, length-take-le}
use Rattle.partition.specs.Passed.{listed}
use Rattle.partition.specs.Laws.View.{few-clocks, read-model, read-refused}
use Rattle.listing.specs.Parts.{part_text}
use Rattle.listing.specs.Laws.Parts.{gives_same, borne-parts, parted-read, parted-not, parted-refused}
use Rattle.listing.proofs.parts.write_part.Goals as goal

pub returns-in_err-clocks : goal.returns-in_err-clocks
returns-in_err-clocks c =
    let args = c.args in
    let r = c.in_err-clocks.field-0.0 in
    let same : c.from_residual.result ≡ Err r = search rules in
    rw same
    (parted-refused args.bytes.now args.entries.now args.list.now args.regions args.blocks args.rounds args.part args.buffer.now r
    (read-refused args.bytes.now r c.in_err-clocks.ensures))

pub returns-then-not-is_borne : goal.returns-then-not-is_borne
returns-then-not-is_borne c =
    let args = c.args in
    let (m, read, _) = read-model args.bytes.now c.in_ok-clocks.clocks c.in_ok-clocks.ensures in
    parted-not args.bytes.now args.entries.now args.list.now args.regions args.blocks args.rounds args.part args.buffer.now m read
    (sym c.is_borne.ensures ∙ c.if-not-is_borne.true)

pub invariant_of-listed : goal.invariant_of-listed
invariant_of-listed c =
    let args = c.args in
    let borne = sym c.is_borne.ensures ∙ c.if-not-is_borne.false in
    let parts = borne-parts args.regions args.blocks (length args.entries.now) (length args.list.now) borne in
    let (m, read, clocks) = read-model args.bytes.now c.in_ok-clocks.clocks c.in_ok-clocks.ensures in
    record {
      few_clocks = omega (arith, few-clocks args.bytes.now m read, clocks);
      entries_of_all = omega (arith, parts.1, length-take-le args.regions args.list.now parts.2);
    }

pub returns : goal.returns
returns c =
    let args = c.args in
    let borne = sym c.is_borne.ensures ∙ c.if-not-is_borne.false in
    let parts = borne-parts args.regions args.blocks (length args.entries.now) (length args.list.now) borne in
    let long : length (take args.regions args.list.now) ≡ args.regions = length-take-le args.regions args.list.now parts.2 in
    let (m, read, clocks) = read-model args.bytes.now c.in_ok-clocks.clocks c.in_ok-clocks.ensures in
    parted-read args.bytes.now args.entries.now args.list.now args.regions args.blocks args.rounds args.part args.buffer.now m read borne
    _ _ (gives_same args.buffer.now _ _
    (ap (λ (n : ℕ). part_text m (listed args.entries.now n) (take args.regions args.list.now) args.blocks args.rounds args.part) long)
    (c.part.ensures m read clocks))
