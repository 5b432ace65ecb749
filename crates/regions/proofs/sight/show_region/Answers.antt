-- `show_region` meets its contract. Assumes nothing.
use mathlib.Core.Path.{◌≡◌, refl, sym, ◌∙◌, ap, subst}
use lib.ListN.{length}
use Rattle.std.specs.Prelude.{Err}
use Rattle.std.proofs.Common.{rules}
use Rattle.table.specs.Model.{Model}
use Rattle.table.proofs.Laws.Reads.{refusal-of, reads_of}
use Rattle.regions.specs.Sight.{is_seen, sight_of, Sighted}
use Rattle.regions.specs.Laws.Sight.{refused-not}
use Rattle.regions.proofs.sight.show_region.Goals as goal

pub returns-in_err-shape : goal.returns-in_err-shape
returns-in_err-shape c =
    let args = c.args in
    let same : c.from_residual.result ≡ Err c.in_err-shape.field-0.0 = search rules in
    let out = refusal-of args.bytes.now _ (sym c.in_err-shape.was ∙ c.read.ensures) in
    record {
      value = same ∙ sym (ap (sight_of (is_seen args.n args.x (length args.entries.now) (length args.delays.now) (length
          args.rows.now)) args.entries.now args.n args.x) out);
      sighted = λ m answer seen. absurd (refused-not _ _ m (sym out ∙ answer));
      by_index = λ reason place answer. (refl, refl);
      delays_unchanged = λ none. (refl, refl);
    }

pub returns : goal.returns
returns c =
    let args = c.args in
    let see-read = c.see_read in
    let (m, reads) = reads_of args.bytes.now _ (sym c.in_ok-shape.was ∙ c.read.ensures) in
    record {
      value = see-read.ensures.value m reads ∙ sym (ap (sight_of (is_seen args.n args.x (length args.entries.now) (length
          args.delays.now) (length args.rows.now)) args.entries.now args.n args.x) reads.answer);
      sighted = λ k answer seen. let same : m ≡ k = cc (reads.answer, answer) in subst (λ (y : Model). Sighted y args.entries.now
          args.n args.x args.delays.now see-read.new.delays see-read.new.rows)
          same
          (see-read.ensures.sighted m reads seen);
      by_index = λ reason place answer. absurd (refused-not reason place m (sym answer ∙ reads.answer));
      delays_unchanged = λ none. see-read.ensures.delays_unchanged
          none;
    }
