-- The slots by mask and target: after the slots below n were listed one after the other, a slot is met from the head of a mask and a target
-- exactly if it was listed with these.
use Prim.Native.Nat.{ℕ, suc, ◌+◌, ◌*◌, ◌/◌, ◌%◌, ◌≤◌, ◌<◌}
use native.Mathlib.Omega.{arith}
use Rattle.std.proofs.Common.{mod-lt, mod-eq_of_lt, sym, ◌∙◌, ap, ap₂, inl, inr}
use Rattle.std.specs.Prelude.{◌≡◌, Bool, true, ◌⊎◌, ◌↔◌, eqb, length}
use Rattle.std.proofs.Math.Path.{refl}
use mathlib.Core.List.{List, Memᴰ}
use borrow.Author.Tests.{eqb-true, eq-eqb, ne_eqb}
use Rattle.graph.specs.Columns.{nothing, load, store, most_locations, most_slots, slot_keys, slot_locations, key_heads, key_links}
use Rattle.graph.specs.Readers.{key_of, key_head, key_link, keys_of}
use Rattle.graph.specs.Writers.{with_slot}
use Rattle.graph.proofs.Laws.Columns.{Lent, Kept, store_length, load_stored, load-other, store_keeps}
use Rattle.graph.proofs.Laws.Latest.{latest, cases, latest-ways}
use Rattle.graph.proofs.Laws.Stores.{slot-below, key_below, slot-length}
use Rattle.graph.proofs.Laws.Chains.{Chain, chain-none, chain_more, chain-met}

-- A key is told by its mask and its target, and these by it.
pub key-tells : (mask target by to : ℕ) → key_of by to ≡ key_of mask target
    → (by % 16 ≡ mask % 16) × (to % most_locations ≡ target % most_locations)
unfolding key_of
key-tells mask target by to e = go (cases (by % 16) (mask % 16))
  where
    go : (by % 16 < mask % 16) ⊎ ((by % 16 ≡ mask % 16) ⊎ (mask % 16 < by % 16))
        → (by % 16 ≡ mask % 16) × (to % most_locations ≡ target % most_locations)
    go (inl h) = absurd (omega (arith, e, h, mod-lt to {m = 64} (omega arith)))
    go (inr (inl h)) = (h, omega (arith, e, h))
    go (inr (inr h)) = absurd (omega (arith, e, h, mod-lt target {m = 64} (omega arith)))

pub key-same : (mask target by to : ℕ) → by % 16 ≡ mask % 16 → to % most_locations ≡ target % most_locations
    → key_of by to ≡ key_of mask target
unfolding key_of
key-same mask target by to e f = ap₂ (λ (a b : ℕ). 64 * a + b) e f

key_split : (key : ℕ) → key < 1024 → key_of (key / 64) (key % 64) ≡ key
unfolding key_of
key_split key h = omega (arith, h)

-- ---- What a slot stores

module _ (graph : List ℕ) (slot location mask target : ℕ) where
  heads-other : (key : ℕ) → key < 1024 → (key ≡ key_of mask target → ⊥)
      → load key_heads (with_slot graph slot location mask target) key ≡ load key_heads graph key
  unfolding with_slot
  heads-other key h differs =
      load-other key_heads _ (key_of mask target) slot key differs
      ∙ store_keeps key_links _ (slot % most_slots) (key_head graph mask target) key_heads refl (slot-below slot) key h
      ∙ store_keeps slot_locations _ (slot % most_slots) location key_heads refl (slot-below slot) key h
      ∙ store_keeps slot_keys graph (slot % most_slots) (key_of mask target) key_heads refl (slot-below slot) key h

  pub key-head-stored : Lent key_heads graph → slot < 65536 → key_head (with_slot graph slot location mask target) mask target ≡ slot
  unfolding with_slot key_head
  key-head-stored lent small =
      load_stored key_heads (store key_links (store slot_locations (store slot_keys graph (slot % most_slots) (key_of mask target))
      (slot % most_slots) location) (slot % most_slots) (key_head graph mask target)) (key_of mask target) slot (key_below mask target)
      (omega (
        arith,
        lent,
        store_length key_links (store slot_locations (store slot_keys graph (slot % most_slots) (key_of mask target))
            (slot % most_slots) location) (slot % most_slots) (key_head graph mask target),
        store_length slot_locations (store slot_keys graph (slot % most_slots) (key_of mask target)) (slot % most_slots) location,
        store_length slot_keys graph (slot % most_slots) (key_of mask target),
      ))
      small

  pub key-head-other : (by to : ℕ) → ((by % 16 ≡ mask % 16) × (to % most_locations ≡ target % most_locations) → ⊥)
      → key_head (with_slot graph slot location mask target) by to ≡ key_head graph by to
  unfolding key_head
  key-head-other by to differs = heads-other (key_of by to) (key_below by to) (λ e. differs (key-tells mask target by to e))

  pub key-link-stored : Lent key_links graph → key_head graph mask target < 65536
      → key_link (with_slot graph slot location mask target) slot ≡ key_head graph mask target
  unfolding with_slot key_link
  key-link-stored lent small =
      store_keeps key_heads _ (key_of mask target) slot key_links refl (key_below mask target) (slot % most_slots) (slot-below slot)
      ∙ load_stored key_links (store slot_locations (store slot_keys graph (slot % most_slots) (key_of mask target))
      (slot % most_slots) location)
      (slot % most_slots) (key_head graph mask target) (slot-below slot)
      (omega (
        arith,
        lent,
        store_length slot_locations (store slot_keys graph (slot % most_slots) (key_of mask target)) (slot % most_slots) location,
        store_length slot_keys graph (slot % most_slots) (key_of mask target),
      ))
      small

  pub key-link-other : (other : ℕ) → (other % most_slots ≡ slot % most_slots → ⊥)
      → key_link (with_slot graph slot location mask target) other ≡ key_link graph other
  unfolding with_slot key_link
  key-link-other other differs =
      store_keeps key_heads _ (key_of mask target) slot key_links refl (key_below mask target) (other % most_slots) (slot-below other)
      ∙ load-other key_links _ (slot % most_slots) (key_head graph mask target) (other % most_slots) differs
      ∙ store_keeps slot_locations _ (slot % most_slots) location key_links refl (slot-below slot) (other % most_slots) (slot-below other)
      ∙ store_keeps slot_keys graph (slot % most_slots) (key_of mask target) key_links refl (slot-below slot) (other % most_slots)
      (slot-below other)

-- ---- Slots listed one after the other

-- Does a slot have a key?
abbrev pub has_key : (mask target : ℕ → ℕ) → (key slot : ℕ) → Bool
has_key mask target key slot = eqb (key_of (mask slot) (target slot)) key

-- The slots below n were listed, slot s with the mask `mask s` and the target `target s`.
pub record ListedSlots (graph : List ℕ) (mask target : ℕ → ℕ) (n : ℕ) : Type 0 where
  pub lent : Lent key_links graph
  pub few : n ≤ most_slots
  pub chain : Chain (load key_heads graph) (key_link graph) (has_key mask target) 1024 n

pub listed-none : (graph : List ℕ) (mask target : ℕ → ℕ) → Lent key_links graph → ((by to : ℕ) → key_head graph by to ≡ nothing)
    → ListedSlots graph mask target 0
unfolding key_head
listed-none graph mask target lent fresh =
    record {
      lent = lent;
      few = omega arith;
      chain = chain-none (load key_heads graph) (key_link graph) (has_key mask target) 1024
          (λ key h. ap (load key_heads graph) (sym (key_split key h)) ∙ fresh (key / 64) (key % 64));
    }

module _ {graph : List ℕ} {mask target : ℕ → ℕ} {n : ℕ} (keyed : ListedSlots graph mask target n) where
  -- What keeps the two columns keeps the keys.
  pub listed_kept : (graph' : List ℕ) → length graph ≤ length graph' → Kept key_heads graph graph' → Kept key_links graph graph'
      → ListedSlots graph' mask target n
  unfolding key_link
  listed_kept graph' longer heads links =
      record {
        lent = omega (arith, keyed.lent, longer);
        few = keyed.few;
        chain =
            record {
              heads = λ key h. heads key h ∙ keyed.chain.heads key h;
              links = λ key x h l is. links (x % most_slots) (slot-below x) ∙ keyed.chain.links key x h l is;
            };
      }

  -- One slot more.
  pub listed_more : (location : ℕ) → n < most_slots → ListedSlots (with_slot graph n location (mask n) (target n)) mask target (suc n)
  unfolding key_head
  listed_more location room =
      record {
        lent = omega (arith, keyed.lent, slot-length graph n location (mask n) (target n));
        few = room;
        chain =
            chain_more keyed.chain (load key_heads (with_slot graph n location (mask n) (target n)))
            (key_link (with_slot graph n location (mask n) (target n))) own (key_below (mask n) (target n))
            (eq-eqb own own refl)
            (λ key h differs. ne_eqb own key (λ e. differs (sym e)))
            (key-head-stored graph n location (mask n) (target n) (omega (arith, keyed.lent)) (omega (arith, room)))
            (heads-other graph n location (mask n) (target n))
            (key-link-stored graph n location (mask n) (target n) keyed.lent (head_small (latest-ways (has_key mask target own) n)))
            (λ x h. key-link-other graph n location (mask n) (target n) x (away x h));
      }
    where
      own : ℕ
      own = key_of (mask n) (target n)

      is : load key_heads graph own ≡ latest (has_key mask target own) n
      is = keyed.chain.heads own (key_below (mask n) (target n))

      head_small : (latest (has_key mask target own) n ≡ nothing)
          ⊎ ((latest (has_key mask target own) n < n) × (has_key mask target own (latest (has_key mask target own) n) ≡ true))
          → load key_heads graph own < 65536
      head_small (inl none) = omega (arith, is, none)
      head_small (inr some) = omega (arith, is, some.0, room)

      away : (x : ℕ) → x < n → x % most_slots ≡ n % most_slots → ⊥
      away x h e =
          let at : x % most_slots ≡ x = mod-eq_of_lt (omega (arith, h, room)) in
          let last : n % most_slots ≡ n = mod-eq_of_lt room in absurd (omega (arith, e, at, last, h))

  -- The slots of a mask and a target: those that were listed with them.
  pub keys-have : (slot by to : ℕ) → Memᴰ slot (keys_of graph by to)
      ↔ ((slot < n) × (mask slot % 16 ≡ by % 16) × (target slot % most_locations ≡ to % most_locations))
  unfolding keys_of key_head
  keys-have slot by to =
      let met = chain-met keyed.chain (omega (arith, keyed.few)) (key_of by to) (key_below by to) most_slots slot keyed.few in (
        λ is. let listed = met.0 is in
            let same = key-tells by to (mask slot) (target slot) (eqb-true (key_of (mask slot) (target slot)) (key_of by to) listed.1) in
            (listed.0, same.0, same.1),
        λ is. met.1 (
          is.0,
          eq-eqb (key_of (mask slot) (target slot)) (key_of by to)
              (key-same by to (mask slot) (target slot) is.1 is.2),
        ),
      )
