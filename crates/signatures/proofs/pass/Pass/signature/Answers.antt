-- The steps, the delays and the whole are held one after the other, or one of them is refused.
use Rattle.std.proofs.Common.{arith, ℕ, ◌≡◌, ◌∙◌, ap, ap₂, List, [], ◌∷◌, ◌++◌, append_assoc, Ok}
use Rattle.std.proofs.lemmas.Result.{err_from_is_err_and}
use Rattle.signatures.specs.Pass.{State}
use Rattle.signatures.specs.Steps.{name_of}
use Rattle.signatures.specs.Named.{reached_from}
use Rattle.signatures.specs.Book.{Told}
use Rattle.signatures.specs.Laws.Book.{grows_then, told-grows}
use Rattle.signatures.specs.Laws.Named.{delays-full, whole-listed}
use Rattle.signatures.proofs.pass.Pass.signature.Goals as goal

pub returns-in_err-whole-clause-signed : goal.returns-in_err-whole-clause-signed
returns-in_err-whole-clause-signed c =
    let names = c.args.self.now.names in
    let exit = err_from_is_err_and c.from_residual.result c.from_residual.ensures.1 in
    rw exit.1 (c.in_err-whole.ensures.listed (name_of names c.args.x) (reached_from names c.args.x))

pub returns-in_err-delays-clause-signed : goal.returns-in_err-delays-clause-signed
returns-in_err-delays-clause-signed c =
    let names = c.args.self.now.names in
    let exit = err_from_is_err_and c.from_residual-in_err-delays.result c.from_residual-in_err-delays.ensures.1 in
    let delays = rw c.in_ok-whole.ensures.keeps.stays at c.in_err-delays.ensures in
    rw exit.1
    (delays-full c.in_ok-whole.ensures.listed (omega arith) (name_of names c.args.x) (reached_from names c.args.x)
    c.delay_id.new.self.held delays.few delays.told)

-- The lists that are held as the whole is put together.
before : (c : goal.After-intern) → c.self.inside.dictionary ≡ c.delay_id.new.self.held
before c = ap (λ (p : State). p.held) c.self.view_is

-- What is known of the delays.
delayed : (c : goal.After-intern) → Told (reached_from c.args.self.now.names c.args.x) c.step_ids.new.self.held
    c.delay_id.new.self.held (Ok c.in_ok-delays.delays)
delayed c = rw c.in_ok-whole.ensures.keeps.stays at c.in_ok-delays.ensures.told

pub returns-clause-grows : goal.returns-clause-grows
returns-clause-grows c =
    grows_then _ _ _ c.in_ok-whole.ensures.grows (grows_then _ _ _ (told-grows _ _ _ (Ok c.in_ok-delays.delays) (delayed c))
    (told-grows c.as_slice.result.now _ _ c.intern.result (rw (before c) at c.intern.ensures.told)))

pub returns-clause-signed : goal.returns-clause-signed
returns-clause-signed c =
    let names = c.args.self.now.names in
    let x = c.args.x in
    let name = name_of names x in
    let whole = c.in_ok-whole.whole.items in
    let delays = c.in_ok-delays.delays in
    let names-are : c.self.inside.names.now ≡ names =
    ap (λ (p : State). p.names)
    (c.self.view_is ∙ c.in_ok-delays.ensures.keeps.stays
    ∙ ap (λ (p : State). record p { held = c.delay_id.new.self.held }) c.in_ok-whole.ensures.keeps.stays) in
    let name-is : c.from.result ≡ name = c.from.ensures ∙ c.at.ensures ∙ ap (λ l. name_of l x) names-are in
    let list-is : c.as_slice.result.now ≡ whole ++ (name ∷ delays ∷ []) =
    c.as_slice.ensures.value ∙ c.push-2.ensures.items
    ∙ ap₂ (λ (l : List ℕ) (d : ℕ). l ++ (d ∷ [])) (c.push.ensures.items ∙ ap (λ (n : ℕ). whole ++ (n ∷ [])) name-is) c.from-2.ensures
    ∙ append_assoc whole (name ∷ []) (delays ∷ []) in
    whole-listed c.in_ok-whole.ensures.listed name (reached_from names x) c.delay_id.new.self.held delays c.intern.new.self
    c.intern.result (rw c.in_ok-whole.ensures.keeps.stays at c.in_ok-delays.ensures.few) (delayed c)
    (rw (before c, list-is) at c.intern.ensures.told)
