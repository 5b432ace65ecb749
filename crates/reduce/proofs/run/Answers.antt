-- As many bytes are printed as the listing has: of all its parts, or of the line of a refusal.
use Rattle.std.proofs.Common.{refl, ◌∙◌}
use Rattle.std.proofs.lemmas.Result.{IfOk-weaker}
use Rattle.reduce.proofs.Printing.{printed-all, refused-all}
use Rattle.reduce.proofs.run.Goals as goal

pub returns-in-Ok : goal.returns-in-Ok
returns-in-Ok g c =
    IfOk-weaker c.print_listing.result _ _ (λ bytes p. printed-all _ _ _ _ _ _ _ refl _ _ _ bytes c.in-Ok.ensures p) c.print_listing.ensures

pub returns-in-Err : goal.returns-in-Err
returns-in-Err g c =
    IfOk-weaker c.print_refusal.result _ _
    (λ bytes e. e ∙ refused-all _ _ _ _ _ _ _ refl c.in-Err.refusal c.in-Err.ensures refl refl) c.print_refusal.ensures
