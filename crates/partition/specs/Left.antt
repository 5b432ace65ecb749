-- What a partition call that succeeded left, said for the layer above.
use Rattle.std.specs.Prelude.{ℕ, ◌*◌, ◌≤◌, ◌<◌, ◌≡◌, List, length, take}
use Rattle.regions.specs.Entries.{entry_bytes, max_entries}
use Rattle.regions.specs.Explore.{listed}
use Rattle.bisimulation.specs.Finite.{rounds, last_blocks, block_count}
use Rattle.partition.specs.Instances.{graph}
use Rattle.partition.specs.Calls.{Accepted}

-- The counts n, b and k, the entries and one of the two lists, after a call that succeeded on a table with room for `cap` regions:
-- they are those of the graph of the model that the table was read as.
pub record Left (table : List ℕ) (cap n b k : ℕ) (entries list : List ℕ) : Type 0 where
  pub from : Accepted table cap
  pub regions-are : n ≡ length from.found
  pub blocks-are : b ≡ block_count (graph from.model from.found) (rounds (graph from.model from.found))
  pub rounds-are : k ≡ rounds (graph from.model from.found)
  pub entries-hold : listed entries n ≡ from.found
  pub list-holds : take n list ≡ last_blocks (graph from.model from.found)
  -- What was lent is long enough, and the counts are within their bounds.
  pub entries-long : entry_bytes * n ≤ length entries
  pub list-long : n ≤ length list
  pub few-regions : n ≤ max_entries
  pub few-blocks : b ≤ n
  pub some-blocks : 0 < b
