-- What a pass works over.
use Rattle.std.specs.Prelude.{ℕ, ◌≤◌, ◌≡◌, List}
use Rattle.signatures.specs.Book.{Sound}
use Rattle.signatures.specs.Raw.{raw_step}
use Rattle.signatures.specs.Memo.{Noted}
use Rattle.signatures.specs.Named.{items_in}

-- The graph, its edges and the names, and the lists that are held.
pub record State : Type 0 where
  pub graph : List ℕ
  pub edges : List ℕ
  pub names : List ℕ
  pub held : List (List ℕ)

-- The memo is right, the lists are different and within what there is room for, and so are the items.
pub record Ready (edges names : List ℕ) (held : List (List ℕ)) (memo : List ℕ) : Type 0 where
  pub noted : Noted (raw_step edges) held memo
  pub sound : Sound held
  pub items-few : items_in names ≤ 4096

-- A pass goes on: all but the lists that are held stays, and these are different.
pub record Keeps (s s' : State) : Type 0 where
  pub stays : s' ≡ record s { held = s'.held }
  pub sound : Sound s'.held
