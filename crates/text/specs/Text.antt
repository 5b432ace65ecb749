-- Text, as a list of bytes.
use Rattle.std.specs.Prelude.{ℕ, zero, suc, ◌+◌, ◌/◌, ◌%◌, ◌<◌, Bool, cond, ltb}
use mathlib.Core.List.{List, [], ◌∷◌, ◌++◌, Memᴰ}

-- ---- Signs and words

abbrev pub line_feed : ℕ
line_feed = 10

abbrev pub blank : ℕ
blank = 32

-- `+`
abbrev pub plus : ℕ
plus = 43

-- `:`
abbrev pub colon : ℕ
colon = 58

-- `>`
abbrev pub above : ℕ
above = 62

-- `regions`, ` blocks`, ` rounds`: the words of the first line, and of the totals.
abbrev pub regions_word : List ℕ
regions_word = 114 ∷ 101 ∷ 103 ∷ 105 ∷ 111 ∷ 110 ∷ 115 ∷ []

abbrev pub blocks_word : List ℕ
blocks_word = 32 ∷ 98 ∷ 108 ∷ 111 ∷ 99 ∷ 107 ∷ 115 ∷ []

abbrev pub rounds_word : List ℕ
rounds_word = 32 ∷ 114 ∷ 111 ∷ 117 ∷ 110 ∷ 100 ∷ 115 ∷ []

-- `region`
abbrev pub region_word : List ℕ
region_word = 114 ∷ 101 ∷ 103 ∷ 105 ∷ 111 ∷ 110 ∷ []

-- `block`
abbrev pub block_word : List ℕ
block_word = 98 ∷ 108 ∷ 111 ∷ 99 ∷ 107 ∷ []

-- `delay`
abbrev pub delay_word : List ℕ
delay_word = 100 ∷ 101 ∷ 108 ∷ 97 ∷ 121 ∷ []

-- `step`
abbrev pub step_word : List ℕ
step_word = 115 ∷ 116 ∷ 101 ∷ 112 ∷ []

-- `label`
abbrev pub label_word : List ℕ
label_word = 108 ∷ 97 ∷ 98 ∷ 101 ∷ 108 ∷ []

-- `all`
abbrev pub all_word : List ℕ
all_word = 97 ∷ 108 ∷ 108 ∷ []

-- `refused`, ` place`: the words of a refusal's line.
abbrev pub refused_word : List ℕ
refused_word = 114 ∷ 101 ∷ 102 ∷ 117 ∷ 115 ∷ 101 ∷ 100 ∷ []

abbrev pub place_word : List ℕ
place_word = 32 ∷ 112 ∷ 108 ∷ 97 ∷ 99 ∷ 101 ∷ []

-- ---- Numbers

-- The decimal digits of a number, without a zero in front: its last digit stands after those of a tenth of it.
abbrev pub digits_by : (fuel n : ℕ) → List ℕ
digits_by zero n = []
digits_by (suc fuel) n = cond (ltb n 10) ((48 + n) ∷ []) (digits_by fuel (n / 10) ++ ((48 + n % 10) ∷ []))

-- A number n above 0 has at most n digits, and 0 has one: suc n steps are enough.
unfoldable pub decimal : ℕ → List ℕ
decimal n = digits_by (suc n) n

-- "Fields are parted by one blank": a field is a blank and its number.
abbrev pub field : ℕ → List ℕ
field n = blank ∷ decimal n

-- ---- Texts one after the other

-- What the numbers 0, 1, .. n - 1 give, one after the other.
abbrev pub up_to : {A : Type 0} → (ℕ → List A) → ℕ → List A
up_to f zero = []
up_to f (suc n) = up_to f n ++ f n

-- The numbers below n that pass a test, rising.
abbrev pub rising : (ℕ → Bool) → ℕ → List ℕ
rising p n = up_to (λ c. cond (p c) (c ∷ []) []) n

-- The texts of the items of a list.
abbrev pub each : {A : Type 0} → (A → List ℕ) → List A → List ℕ
each f [] = []
each f (x ∷ l) = f x ++ each f l

-- Each number of a list is below all that come after it: they rise, and none stands twice.
pub data Rises : List ℕ → Type 0 where
  risen : Rises []
  rise : {x : ℕ} {l : List ℕ} → ((y : ℕ) → Memᴰ y l → x < y) → Rises l → Rises (x ∷ l)
