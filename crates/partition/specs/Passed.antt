-- What the layer above needs of the layers beneath: tables as they are read, regions in entries, and the theory's finite structures.
pub use Rattle.table.specs.Reasons.{number, refusal_at}
pub use Rattle.table.specs.declared.refusals.Reason.{Reason}
pub use Rattle.table.specs.declared.refusals.Refusal.{Refusal}
pub use Rattle.regions.specs.Passed.{Model, Answer, refusal, accepted, Region}
pub use Rattle.regions.specs.declared.sight.Seen.{Seen}
pub use Rattle.regions.specs.Call.{room_for, entries_after, whole}
pub use Rattle.regions.specs.Entries.{entry_bytes, max_entries, region_at}
pub use Rattle.regions.specs.Explore.{listed}
pub use Rattle.bisimulation.specs.Structures.{Branch}
pub use Rattle.bisimulation.specs.Finite.{Finite}
pub use Rattle.comparison.specs.Held.{row_room}
pub use Rattle.comparison.specs.Laws.Steps.{cond_yes, cond_no}
unfoldable pub use Rattle.regions.specs.Passed.{read_table}
unfoldable pub use Rattle.regions.specs.Call.{outcome_of}
unfoldable pub use Rattle.regions.specs.Graph.{first}
unfoldable pub use Rattle.bisimulation.specs.Finite.{rounds, last_blocks, block_count}
-- ---- For the table of points alone, which stands in the listing layer

-- What its rows say.
pub use Rattle.regions.specs.Passed.{All, none, also, Bounds, Cell, over, at, reset, cells}
pub use Rattle.states.specs.States.{State}
pub use Rattle.regions.specs.Call.{Outcome, cut}
pub use Rattle.regions.specs.Example.{printed, printed_model}
pub use Rattle.bisimulation.specs.Finite.{alike}
-- What reading a table is computed by.
unfoldable pub use Rattle.regions.specs.Passed.{body_length, body_lengths, record_of, body_at, record_at, past, rows_of, next_step, step_at}
unfoldable pub use Rattle.regions.specs.Passed.{item_at, run, run_table, add, gather, model_of, reset_in}
-- What regions, their delays and edges and their numbers are computed by.
unfoldable pub use Rattle.regions.specs.Passed.{delay, atom, clock_at, delayed, after_reset}
unfoldable pub use Rattle.states.specs.Placing.{state_cell, placed}
unfoldable pub use Rattle.regions.specs.Graph.{largest_constant, bounds_of, meets, fits, landing, lands, delay_next, edge_next, next_of}
unfoldable pub use Rattle.regions.specs.Explore.{same_region}
unfoldable pub use Rattle.regions.specs.Worklist.{explore_from, explore}
unfoldable pub use Rattle.regions.specs.View.{number_in, label_of}
-- What blocks are computed by.
unfoldable pub use Rattle.bisimulation.specs.Finite.{blocks}
