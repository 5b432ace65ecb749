-- Gathering numbers into a set: its start, a turn, and its end.
use Rattle.std.specs.Prelude.{ℕ, ◌≡◌, ◌⊎◌}
use Rattle.std.proofs.Common.{arith, sym, subst, inl, inr}
use mathlib.Core.List.{List, [], ◌∷◌, Memᴰ}
use Rattle.signatures.specs.Sets.{put_in, set_of}
use Rattle.signatures.specs.Walked.{Walked}
use Rattle.signatures.specs.Laws.Sets.{put_has, put-in, put_keeps, put-rises, rising-same, set-rises, set-has, set-in}

pub walked_start : (whole : List ℕ) → Walked whole [] whole
walked_start whole = record { rises = omega arith; to = λ u m. elim m [ ]; rest-to = λ u m. m; from = λ u m. inr m }

pub walked_on : (whole so_far rest : List ℕ) (v : ℕ) → Walked whole so_far (v ∷ rest) → Walked whole (put_in v so_far) rest
walked_on whole so_far rest v w =
    record {
      rises = put-rises v so_far w.rises;
      to = λ u m. elim (put_has v u so_far m) [ inl e ↦ w.rest-to u (Memᴰ.head e) | inr k ↦ w.to u k ];
      rest-to = λ u m. w.rest-to u (Memᴰ.tail m);
      from = λ u m. go u (w.from u m);
    }
  where
    go : (u : ℕ) → Memᴰ u so_far ⊎ Memᴰ u (v ∷ rest) → Memᴰ u (put_in v so_far) ⊎ Memᴰ u rest
    go u (inl k) = inl (put_keeps v u so_far k)
    go u (inr (Memᴰ.head e)) = inl (subst (λ (s : ℕ). Memᴰ s (put_in v so_far)) (sym e) (put-in v so_far))
    go u (inr (Memᴰ.tail k)) = inr k

pub walked_end : (whole so_far : List ℕ) → Walked whole so_far [] → so_far ≡ set_of whole
walked_end whole so_far w =
    rising-same so_far (set_of whole) w.rises (set-rises whole) (λ u m. set-in u whole (w.to u m))
    (λ u m. there u (w.from u (set-has u whole m)))
  where
    there : (u : ℕ) → Memᴰ u so_far ⊎ Memᴰ u [] → Memᴰ u so_far
    there u (inl k) = k
    there u (inr k) = elim k [ ]
