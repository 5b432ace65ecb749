-- What the slices of the graph of a table of bytes hold: the laws of specs/Laws/Shown, whose edges fit there (`edge-fits`).
use Rattle.std.specs.Prelude.{ℕ, suc, ◌<◌, ◌≡◌, List, length, get_or}
use Rattle.table.specs.Model.{Model}
use Rattle.table.specs.Written.{Bytes}
use Rattle.table.specs.Reading.{read_table, accepted}
use Rattle.table.specs.Reads.{edge_of}
use Rattle.regions.specs.Entries.{region_at}
use Rattle.regions.specs.Graph.{bounds_of, available}
use Rattle.regions.specs.Explore.{listed}
use Rattle.regions.specs.View.{label_of, delay_numbers}
use Rattle.regions.specs.Shown.{Shown, followers, open_below}
use Rattle.regions.specs.Filling.{Blocks, RowsTo, Distinct, Targeted}
use Rattle.regions.specs.Order.{AllRegions}
use Rattle.regions.specs.Laws.Rows.{edge-fits}
use Rattle.regions.specs.Laws.Shown as S

module _ (table : List ℕ) (m : Model) (bytes : Bytes table) (read : read_table table ≡ accepted m) (es : List ℕ) (n : ℕ)
    (all : AllRegions m (listed es n)) where
  -- The regions are different, and at locations below 64.
  pub distinct : Distinct es n
  distinct = S.distinct table m read (edge-fits table m bytes read) es n all

  module _ (labels nexts flags resets spots rows : List ℕ)
      (named : (x : ℕ) → x < n → get_or labels x 0 ≡ label_of m (region_at es x))
      (delays : (x : ℕ) → x < n → delay_numbers m (listed es n) (region_at es x) ≡ followers n (get_or nexts x 0))
      (marked : Blocks 128 (length m.edges) n (λ x e v. v ≡ open_below (λ f. available m (edge_of m f) (region_at es x)) (suc e)) flags)
      (listing : RowsTo m (length m.edges) rows)
      (targets : Distinct es n → Targeted es n (bounds_of m) rows (length m.edges) resets spots) where
    pub shown : Shown m (listed es n) labels nexts flags resets spots rows
    shown =
        S.shown table m read (edge-fits table m bytes read) es n all labels nexts flags resets spots rows named delays marked listing
        targets
