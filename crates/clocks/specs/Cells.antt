-- A clock as a cell, and what delay and reset do to the clocks of a region (document 01, "Regions"). A cell carries the bound of
-- its own clock: document 01 has one M for all. The fraction of a cell is a number that orders the clocks: in a region it is the
-- rank, in a state any numerator over a common denominator.
use Rattle.std.specs.Prelude.{ℕ, zero, suc, ◌+◌, ◌-◌, ◌≤◌, ◌<◌, max, ◌≡◌, refl, Bool, true, false}
use Rattle.std.specs.Prelude.{cond, ◌&&◌, ◌||◌, List, [], ◌∷◌, map, eqb, ltb}
use Rattle.std.specs.List.{list_any}
use Rattle.std.proofs.Common.{arith, add-one, sym, ◌∙◌, ap₂, eqb-true, eq-eqb, ne_eqb}
use Rattle.std.proofs.lemmas.Bool.{eqb-false}
use Rattle.table.specs.Model.{reset_in}

-- "A clock above M is *over*. Else it has an integer part and a rank."
pub data Cell : Type 0 where
  over : (bound : ℕ) → Cell
  at : (bound whole fraction : ℕ) → Cell

-- An over clock has no fraction: it counts as 0, which has no place among the non-zero fractions.
abbrev pub fraction_of : Cell → ℕ
fraction_of (over m) = 0
fraction_of (at m w f) = f

-- ---- Ranks

abbrev pub member : ℕ → List ℕ → Bool
member k [] = false
member k (x ∷ l) = eqb k x || member k l

-- "0 if its fraction is zero, otherwise the place of its fraction among the different non-zero fractions of clocks not over, from
-- 1, smallest first": how many of 1 to f are fractions of the list.
abbrev pub rank : List ℕ → ℕ → ℕ
rank fs zero = 0
rank fs (suc f) = cond (member (suc f) fs) (suc (rank fs f)) (rank fs f)

abbrev pub closed : List ℕ → Cell → Cell
closed fs (over m) = over m
closed fs (at m w f) = at m w (rank fs f)

-- "The ranks left are closed up": fractions become ranks.
abbrev pub close : List Cell → List Cell
close cs = map (closed (map fraction_of cs)) cs

-- ---- Reset

abbrev pub restart : Cell → Cell
restart (over m) = at m 0 0
restart (at m w f) = at m 0 0

-- The clocks from number i on, with those of the mask at 0.
abbrev pub restarted : ℕ → ℕ → List Cell → List Cell
restarted mask i [] = []
restarted mask i (c ∷ cs) = cond (reset_in mask i) (restart c) c ∷ restarted mask (suc i) cs

-- "Reset. The clocks become 0 with rank 0, and the ranks left are closed up."
abbrev pub reset : ℕ → List Cell → List Cell
reset mask cs = close (restarted mask 0 cs)

-- ---- Cells of a region

-- A cell that a clock of a region may be: at most its bound, and at the bound only with rank 0.
abbrev pub Proper : Cell → Type 0
Proper (over m) = Unit
Proper (at m w f) = (w ≤ m) × (w ≡ m → f ≡ 0)

-- Ranks without gaps: with a rank, every smaller one from 1 on is there.
abbrev pub NoGap : List Cell → Type 0
NoGap cs = (f : ℕ) → member f (map fraction_of cs) ≡ true → (k : ℕ) → 0 < k → k ≤ f → member k (map fraction_of cs) ≡ true

-- ---- Delay

abbrev pub is_over : Cell → Bool
is_over (over m) = true
is_over (at m w f) = false

-- A clock not over has rank 0.
abbrev pub standing : Cell → Bool
standing (over m) = false
standing (at m w f) = eqb f 0

-- It has rank 0 and is below its bound: it gets rank 1 and does not become over.
abbrev pub leaving : Cell → Bool
leaving (over m) = false
leaving (at m w f) = eqb f 0 && ltb w m

abbrev pub all : (Cell → Bool) → List Cell → Bool
all p [] = true
all p (c ∷ cs) = p c && all p cs

abbrev pub some : (Cell → Bool) → List Cell → Bool
some p [] = false
some p (c ∷ cs) = p c || some p cs

-- "Those of them at M become over, the rest get rank 1, and the older ranks rise by one if any did."
abbrev pub leave : Bool → Cell → Cell
leave any (over m) = over m
leave any (at m w zero) = cond (ltb w m) (at m w 1) (over m)
leave any (at m w (suc f)) = at m w (cond any (suc (suc f)) (suc f))

abbrev pub highest : List Cell → ℕ
highest [] = 0
highest (c ∷ cs) = max (fraction_of c) (highest cs)

-- "Otherwise the clocks of highest rank gain one in integer part and get rank 0."
abbrev pub arrive : ℕ → Cell → Cell
arrive top (over m) = over m
arrive top (at m w f) = cond (eqb f top) (at m (suc w) 0) (at m w f)

-- What may follow.
pub data Follow : Type 0 where
  nothing : Follow
  cells : List Cell → Follow

-- "Delay. If every clock is over (so also if n is 0), nothing follows. If some clock not over has rank 0 .. Otherwise .."
unfoldable pub delay : List Cell → Follow
delay cs =
    cond (all is_over cs) nothing
    (cond (some standing cs) (cells (map (leave (some leaving cs)) cs)) (cells (map (arrive (highest cs)) cs)))

-- What a clock of another rank than 0 does at the beginning of a delay.
pub leave-ranked : (any : Bool) (m w f : ℕ) → (f ≡ 0 → ⊥) → leave any (at m w f) ≡ at m w (cond any (suc f) f)
leave-ranked any m w zero e = absurd (e refl)
leave-ranked any m w (suc f) e = refl

-- A number is among others, by a test of each.
pub member-any : (k : ℕ) (fs : List ℕ) → list_any (λ x. eqb x k) fs ≡ member k fs
member-any k [] = refl
member-any k (x ∷ fs) = ap₂ (λ a b. a || b) (turned (eqb x k) refl) (member-any k fs)
  where
    turned : (b : Bool) → eqb x k ≡ b → b ≡ eqb k x
    turned true e = sym (eq-eqb k x (sym (eqb-true x k e)))
    turned false e = sym (ne_eqb k x (λ q. eqb-false x k e (sym q)))

-- One more number is looked at in finding a rank.

pub rank_found : (fs : List ℕ) (k : ℕ) → 0 < k → list_any (λ x. eqb x k) fs ≡ true → rank fs k ≡ rank fs (k - 1) + 1
rank_found fs zero h e = absurd (omega arith)
rank_found fs (suc k) h e =
    let back : suc k - 1 ≡ k = omega arith in
    rw (sym (member-any (suc k) fs) ∙ e, back, add-one)

pub rank_absent : (fs : List ℕ) (k : ℕ) → 0 < k → list_any (λ x. eqb x k) fs ≡ false → rank fs k ≡ rank fs (k - 1)
rank_absent fs zero h e = absurd (omega arith)
rank_absent fs (suc k) h e =
    let back : suc k - 1 ≡ k = omega arith in
    rw (sym (member-any (suc k) fs) ∙ e, back)

-- The three cases of delay.

pub delay-nothing : (cs : List Cell) → all is_over cs ≡ true → delay cs ≡ nothing
unfolding delay
delay-nothing cs e = rw e

pub delay-leaves : (cs : List Cell) → all is_over cs ≡ false → some standing cs ≡ true → delay cs ≡ cells (map (leave (some leaving cs)) cs)
unfolding delay
delay-leaves cs e s = rw (e, s)

pub delay-arrives : (cs : List Cell) → all is_over cs ≡ false → some standing cs ≡ false → delay cs ≡ cells (map (arrive (highest cs)) cs)
unfolding delay
delay-arrives cs e s = rw (e, s)
