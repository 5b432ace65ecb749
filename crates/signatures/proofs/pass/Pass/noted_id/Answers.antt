-- What is noted is right: the raw form has the id of its step.
use Rattle.std.proofs.Common.{Ok}
use Rattle.signatures.specs.Raw.{raw_step}
use Rattle.signatures.specs.Laws.Book.{told-grows}
use Rattle.signatures.specs.Laws.Memo.{noted-grows, noted-note}
use Rattle.signatures.proofs.pass.Pass.noted_id.Goals as goal

pub invariant_of-self-2 : goal.invariant_of-self-2
invariant_of-self-2 c =
    let ready = c.self.invariant in
    let meaning = raw_step c.self.inside.edges.now in
    let raw = c.args.raw.now in
    let told = rw (c.as_slice.ensures.value, c.step_of-step.ensures) at c.in_ok-id.ensures.told in
    record {
      noted = rw c.note.ensures
          (noted-note _ c.cell_of-cell.result raw c.in_ok-id.id ready.noted.size c.cell_of-cell.ensures c.requires.1 meaning _
          (noted-grows meaning _ _ _ (told-grows (meaning raw) _ _ (Ok c.in_ok-id.id) told) ready.noted) told.0);
      sound = c.in_ok-id.ensures.sound;
      items-few = ready.items-few;
    }
