-- Laws for the code of the graph call: entries that were listed are the bytes of their regions, and how its steps are put together.
use Rattle.std.specs.Prelude.{ℕ, zero, suc, ◌+◌, ◌*◌, ◌≤◌, ◌≡◌, refl, true, false}
use Rattle.std.specs.Prelude.{List, [], ◌∷◌, ◌++◌, length, get_or, take, drop, Ok, Err}
use Rattle.std.proofs.Common.{arith, sym, ◌∙◌, ap, ap₂, append_assoc, append-nil, take-append-drop}
use Rattle.std.proofs.Common.{length-drop, take-add, get_or-drop, ext_get_or}
use Rattle.table.specs.Model.{Model}
use Rattle.table.specs.Reading.{accepted}
use Rattle.regions.specs.Entries.{entry_bytes, bytes_of, region_at}
use Rattle.regions.specs.Graph.{bounds_of, meets, next_of, first}
use Rattle.regions.specs.Worklist.{complete, full, explore}
use Rattle.regions.specs.Explore.{same_region, listed, listed-length, Left}
use Rattle.table.specs.Reasons.{refusal_at}
use Rattle.table.specs.declared.refusals.Reason.TheVariants.{BrokenStart, TooManyRegions}
use Rattle.clocks.specs.declared.region.Region.{Region}
use Rattle.regions.specs.Call.{from_found, refused, from_answer, graph_of, flat, entries_after}

-- ---- Entries that were listed are the bytes of their regions

nine : (l : List ℕ) → 9 ≤ length l → take 9 l
    ≡ get_or l 0 0 ∷ get_or l 1 0 ∷ get_or l 2 0 ∷ get_or l 3 0 ∷ get_or l 4 0 ∷
    get_or l 5 0 ∷ get_or l 6 0 ∷ get_or l 7 0 ∷ get_or l 8 0 ∷ []
nine [] h = absurd (omega arith)
nine (a ∷ []) h = absurd (omega arith)
nine (a ∷ b ∷ []) h = absurd (omega arith)
nine (a ∷ b ∷ c ∷ []) h = absurd (omega arith)
nine (a ∷ b ∷ c ∷ d ∷ []) h = absurd (omega arith)
nine (a ∷ b ∷ c ∷ d ∷ e ∷ []) h = absurd (omega arith)
nine (a ∷ b ∷ c ∷ d ∷ e ∷ f ∷ []) h = absurd (omega arith)
nine (a ∷ b ∷ c ∷ d ∷ e ∷ f ∷ g ∷ []) h = absurd (omega arith)
nine (a ∷ b ∷ c ∷ d ∷ e ∷ f ∷ g ∷ i ∷ []) h = absurd (omega arith)
nine (a ∷ b ∷ c ∷ d ∷ e ∷ f ∷ g ∷ i ∷ j ∷ l) h = refl

entry-bytes : (es : List ℕ) (n : ℕ) → entry_bytes * n + entry_bytes ≤ length es
    → bytes_of (region_at es n) ≡ take entry_bytes (drop (entry_bytes * n) es)
unfolding region_at
entry-bytes es n h =
    let at : ℕ = entry_bytes * n in
    let byte : (i j : ℕ) → j ≡ at + i → get_or es j 0 ≡ get_or (drop at es) i 0 =
    λ i j e. ap (λ (k : ℕ). get_or es k 0) e ∙ sym (get_or-drop at es i 0) in
    rw (
      byte 0 at (omega arith),
      byte 1 (at + 1) refl,
      byte 2 (at + 1 + 1) (omega arith),
      byte 3 (at + 1 + 2) (omega arith),
      byte 4 (at + 1 + 3) (omega arith),
      byte 5 (at + 5) refl,
      byte 6 (at + 5 + 1) (omega arith),
      byte 7 (at + 5 + 2) (omega arith),
      byte 8 (at + 5 + 3) (omega arith),
    ) (sym (nine (drop at es) (rw length-drop (omega arith))))

flat_append : (a b : List Region) → flat (a ++ b) ≡ flat a ++ flat b
flat_append [] b = refl
flat_append (r ∷ a) b = ap (λ l. bytes_of r ++ l) (flat_append a b) ∙ sym (append_assoc (bytes_of r) (flat a) (flat b))

flat-listed : (es : List ℕ) (n : ℕ) → entry_bytes * n ≤ length es → flat (listed es n) ≡ take (entry_bytes * n) es
unfolding listed
flat-listed es zero h = refl
flat-listed es (suc n) h =
    let more : entry_bytes * n + entry_bytes ≡ entry_bytes * suc n = omega arith in
    flat_append (listed es n) (region_at es n ∷ [])
    ∙ ap₂ (λ (x y : List ℕ). x ++ y) (flat-listed es n (omega arith))
    (append-nil (bytes_of (region_at es n)) ∙ entry-bytes es n (omega arith))
    ∙ sym (take-add (entry_bytes * n) entry_bytes es)
    ∙ ap (λ k. take k es) more

-- What exploring leaves in the entries.
pub left_is : (es es' : List ℕ) (count : ℕ) → Left es es' count → es' ≡ flat (listed es' count) ++ drop (entry_bytes * count) es
left_is es es' count left =
    let at : ℕ = entry_bytes * count in
    sym (take-append-drop at es')
    ∙ ap₂ (λ (x y : List ℕ). x ++ y) (sym (flat-listed es' count (omega (arith, left.fits, left.entries))))
    (ext_get_or 0 (drop at es') (drop at es) (rw (length-drop, length-drop, left.entries) refl)
    (λ i h. get_or-drop at es' i 0 ∙ left.after (at + i) (omega arith) ∙ sym (get_or-drop at es i 0)))

-- ---- The steps of the code, put together

module _ (cap : ℕ) (es : List ℕ) (m : Model) where
  pub breaks : meets (bounds_of m) m.invariants (first m) ≡ false → from_answer cap (accepted m) ≡ refused BrokenStart 0
  breaks h = rw h

  pub explores : meets (bounds_of m) m.invariants (first m) ≡ true
      → from_answer cap (accepted m) ≡ from_found (explore same_region (next_of m) cap (first m))
  explores h = rw h

  -- There was no room for all regions.
  pub is_cut : meets (bounds_of m) m.invariants (first m) ≡ true → (es' : List ℕ) (count : ℕ) → Left es es' count
      → explore same_region (next_of m) cap (first m) ≡ full (listed es' count)
      → (Err (refusal_at TooManyRegions 0) ≡ graph_of (from_answer cap (accepted m)))
      × (es' ≡ entries_after es (from_answer cap (accepted m)))
  is_cut h es' count left e =
      let out = explores h ∙ ap from_found e in (
        sym (ap graph_of out),
        left_is es es' count left
            ∙ ap (λ k. flat (listed es' count) ++ drop (entry_bytes * k) es) (sym (listed-length es' count))
            ∙ sym (ap (entries_after es) out),
      )

  -- All regions are listed.
  pub is_whole : meets (bounds_of m) m.invariants (first m) ≡ true → (es' : List ℕ) (count : ℕ) → Left es es' count
      → explore same_region (next_of m) cap (first m) ≡ complete (listed es' count)
      → (Ok count ≡ graph_of (from_answer cap (accepted m))) × (es' ≡ entries_after es (from_answer cap (accepted m)))
  is_whole h es' count left e =
      let out = explores h ∙ ap from_found e in (
        ap Ok (sym (listed-length es' count)) ∙ sym (ap graph_of out),
        left_is es es' count left
            ∙ ap (λ k. flat (listed es' count) ++ drop (entry_bytes * k) es) (sym (listed-length es' count))
            ∙ sym (ap (entries_after es) out),
      )
