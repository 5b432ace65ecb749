-- The newest kin of a sign comes before those that were there.
use Rattle.rounds.specs.Laws.Rounds.{kins-put}
use Rattle.rounds.proofs.kins.put_kin.Goals as goal

pub returns-then-keys-x-ne0 : goal.returns-then-keys-x-ne0
returns-then-keys-x-ne0 c =
    λ i h known. rw c.put.ensures.after (kins-put c.args.kins.now c.args.x c.args.sign i h known)
