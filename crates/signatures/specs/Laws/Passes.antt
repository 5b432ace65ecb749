-- A pass, item by item: one more has its id, or none.
use Rattle.std.specs.Prelude.{ℕ, ◌+◌, ◌≤◌, ◌<◌, ◌≡◌, refl, Bool, cond, List, [], ◌⊎◌, length, get_or}
use Rattle.std.specs.Prelude.{set}
use Rattle.std.proofs.Common.{arith, sym, ◌∙◌, ap, subst, inl, inr, length-set, get_or-set_same, get_or-set_other, lt-ltb}
use Rattle.std.specs.Prelude.{Result, Ok, Err}
use Rattle.std.specs.Result.{result_unwrap_or}
use Rattle.signatures.specs.declared.dictionary.NoRoom.{NoRoom}
use Rattle.signatures.specs.Book.{Grows, Sound}
use Rattle.signatures.specs.Steps.{name_of}
use Rattle.signatures.specs.Named.{Named, Refused, Signed, reached_from, steps_from, no_id, number_of, Passing, Signs, Signing, Passed}
use Rattle.signatures.specs.Dictionary.{entries_of}
use Rattle.signatures.specs.Laws.Dictionary.{count-is, all-different}
use Rattle.signatures.specs.Laws.Order.{decide}
use Rattle.signatures.specs.Laws.Named.{named-grows, refused-grows}

number-id : (id : ℕ) → id < 8192 → number_of (Ok id) ≡ id
number-id id h = ap (λ (b : Bool). cond b id no_id) (lt-ltb id no_id (omega (arith, h)))

-- It is what stands for the answer, or 65,535 for none.
pub number-is : (answer : Result ℕ NoRoom) → ((id : ℕ) → answer ≡ Ok id → id < 8192) → result_unwrap_or answer no_id ≡ number_of answer
number-is (Ok id) small = sym (number-id id (small id refl))
number-is (Err _) small = refl

pub passing-none : (graph edges names items : List ℕ) (held : List (List ℕ)) → Passing graph edges names items items held 0
passing-none graph edges names items held =
    record {
      size = refl;
      id = λ j h. absurd (omega arith);
      refused = λ j h. absurd (omega arith);
      rest = λ j h. refl;
      first = λ h. absurd (omega arith);
    }

module _ (graph edges names items items' : List ℕ) (held held' : List (List ℕ)) (k : ℕ) (p : Passing graph edges names items items' held k)
    (room : k < length items) (grows : Grows held held') (empty : k ≡ 0 → held ≡ []) where
  abbrev name : ℕ → ℕ
  name j = name_of names (get_or items j 0)

  abbrev delays : ℕ → List ℕ
  delays j = reached_from names (get_or items j 0)

  abbrev steps : ℕ → List (List ℕ)
  steps j = steps_from graph edges names (get_or items j 0)

  -- What is stored for an answer.
  stored-id : (answer : Result ℕ NoRoom) (number : ℕ) → ((id : ℕ) → answer ≡ Ok id → id < 8192) → number ≡ number_of answer
      → Signed held held' (name k) (delays k) (steps k) answer → (number ≡ no_id → ⊥) → Named held' (name k) (delays k) (steps k) number
  stored-id (Ok id) number small is signed some =
      subst (λ (n : ℕ). Named held' (name k) (delays k) (steps k) n) (sym (is ∙ number-id id (small id refl))) signed
  stored-id (Err _) number small is signed some = absurd (some is)

  stored-full : (answer : Result ℕ NoRoom) (number : ℕ) → ((id : ℕ) → answer ≡ Ok id → id < 8192) → number ≡ number_of answer
      → Signed held held' (name k) (delays k) (steps k) answer → number ≡ no_id → Refused held' (name k) (delays k) (steps k) ×
      (held ≡ [] → ⊥)
  stored-full (Ok id) number small is signed none = absurd (omega (arith, sym (is ∙ number-id id (small id refl)) ∙ none, small id refl))
  stored-full (Err _) number small is signed none = signed

  pub passing-on : (answer : Result ℕ NoRoom) (number x : ℕ) → ((id : ℕ) → answer ≡ Ok id → id < 8192) → number ≡ number_of answer
      → x ≡ get_or items' k 0 → Signed held held' (name_of names x) (reached_from names x) (steps_from graph edges names x) answer
      → Passing graph edges names items (set items' k number) held' (k + 1)
  passing-on answer number x small is at signed₀ =
      record {
        size = length-set items' k number ∙ p.size;
        id = λ j h. ids j h (decide j k);
        refused = λ j h. full j h (decide j k);
        rest = λ j h. get_or-set_other items' k j number 0 (omega (arith, h)) ∙ p.rest j (omega (arith, h));
        first = λ h. start (decide 0 k);
      }
    where
      inside : k < length items'
      inside = omega (arith, room, p.size)

      here : get_or (set items' k number) k 0 ≡ number
      here = get_or-set_same items' k number 0 inside

      other : (j : ℕ) → (j ≡ k → ⊥) → get_or (set items' k number) j 0 ≡ get_or items' j 0
      other j d = get_or-set_other items' k j number 0 d

      item : x ≡ get_or items k 0
      item = at ∙ p.rest k (omega arith)

      signed : Signed held held' (name k) (delays k) (steps k) answer
      signed = subst (λ (y : ℕ). Signed held held' (name_of names y) (reached_from names y)
          (steps_from graph edges names y) answer) item signed₀

      ids : (j : ℕ) → j < k + 1 → (j ≡ k) ⊎ (j ≡ k → ⊥) → (get_or (set items' k number) j 0 ≡ no_id → ⊥)
          → Named held' (name j) (delays j) (steps j) (get_or (set items' k number) j 0)
      ids j h (inl e) some =
          rw e (subst (λ (n : ℕ). Named held' (name k) (delays k) (steps k) n) (sym here)
          (stored-id answer number small is signed
          (λ none. some (ap (λ (i : ℕ). get_or (set items' k number) i 0) e ∙ here ∙ none))))
      ids j h (inr d) some =
          subst (λ (n : ℕ). Named held' (name j) (delays j) (steps j) n) (sym (other j d))
          (named-grows grows (p.id j (omega (arith, h, d)) (λ none. some (other j d ∙ none))))

      full : (j : ℕ) → j < k + 1 → (j ≡ k) ⊎ (j ≡ k → ⊥) → get_or (set items' k number) j 0 ≡ no_id → Refused held' (name j) (delays j)
          (steps j)
      full j h (inl e) none =
          rw e (stored-full answer number small is signed
          (sym here ∙ sym (ap (λ (i : ℕ). get_or (set items' k number) i 0) e) ∙ none)).0
      full j h (inr d) none = refused-grows grows (p.refused j (omega (arith, h, d)) (sym (other j d) ∙ none))

      start : (0 ≡ k) ⊎ (0 ≡ k → ⊥) → get_or (set items' k number) 0 0 ≡ no_id → ⊥
      start (inl e) none =
          (stored-full answer number small is signed
          (sym here ∙ sym (ap (λ (i : ℕ). get_or (set items' k number) i 0) e) ∙ none)).1 (empty (sym e))
      start (inr d) none = p.first (omega (arith, d)) (sym (other 0 d) ∙ none)

-- An id is below the most that the dictionary has.
pub signs-small : {graph edges names : List ℕ} {x : ℕ} {index numbers list index' numbers' memo' list' : List ℕ} {answer : Result ℕ NoRoom}
    → Signs graph edges names x index numbers list index' numbers' memo' list' answer → (id : ℕ) → answer ≡ Ok id → id < 8192
signs-small {graph} {edges} {names} {x} {index} {numbers} {list} {index'} {numbers'} s id e =
    let named : Named (entries_of index' numbers') (name_of names x) (reached_from names x) (steps_from graph edges names x) id =
    subst (λ (a : Result ℕ NoRoom). Signed (entries_of index numbers) (entries_of index' numbers') (name_of names x) (reached_from names x)
    (steps_from graph edges names x) a) e s.signed in
    omega (arith, named.whole.0, count-is s.kept, s.kept.few)

-- The same of what was signed in a dictionary with so many lists.
pub signed-small : (held : List (List ℕ)) {held' : List (List ℕ)} (name : ℕ) (delays : List ℕ) (steps : List (List ℕ))
    (answer : Result ℕ NoRoom) → Sound held' → Signed held held' name delays steps answer → (id : ℕ) → answer ≡ Ok id → id < 8192
signed-small held {held'} name delays steps answer sound signed id e =
    let named : Named held' name delays steps id =
    subst (λ (a : Result ℕ NoRoom). Signed held held' name delays steps a) e signed in
    omega (arith, named.whole.0, sound.few)

pub passed : (graph edges names items list index numbers memo list' items' : List ℕ) (k : ℕ)
    → Signing graph edges names items list index numbers memo list' items' k → length items' ≤ k → Passed graph edges names items items'
passed graph edges names items list index numbers memo list' items' k s past =
    let whole : k ≡ length items = omega (arith, s.within, past, s.passing.size) in
    record {
      held = entries_of index numbers;
      different = all-different s.kept;
      few = omega (arith, count-is s.kept, s.kept.few);
      all = subst (λ (j : ℕ). Passing graph edges names items items' (entries_of index numbers) j) whole s.passing;
    }
