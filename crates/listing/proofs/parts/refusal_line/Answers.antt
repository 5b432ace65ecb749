-- 128 bytes hold the line of any two numbers.
use Rattle.std.proofs.Common.{ℕ, ◌∙◌, ap, List, length}
use Rattle.listing.specs.Parts.{fitted, buffer_after}
use Rattle.listing.specs.Laws.Lengths.{refusal-fits}
use Rattle.listing.specs.Laws.Parts.{put-written}
use Rattle.listing.proofs.parts.refusal_line.Goals as goal

pub returns : goal.returns
returns c =
    let room = refusal-fits c.args.number c.args.place c.ranges.number.fits c.ranges.place.fits in
    let is =
    put-written 128 c.new-text.ensures.front c.new-text.ensures.text c.put_refusal.ensures room c.written.result.now c.written.ensures in
    record {
      value = c.deliver.ensures.value ∙ ap (λ (l : List ℕ). fitted l (length c.args.buffer.now)) is;
      buffer_after = c.deliver.ensures.buffer_after ∙ ap (λ (l : List ℕ). buffer_after l c.args.buffer.now) is;
      place_len_bound = room;
    }
