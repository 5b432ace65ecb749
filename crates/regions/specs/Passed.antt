-- What the layers above need of the layers beneath: the model, its edges by number, that a table was read as a model, and a region as
-- the code holds it.
pub use Rattle.table.specs.Model.{Model, Edge, total}
pub use Rattle.table.specs.Reading.{Answer, refusal, accepted}
pub use Rattle.table.specs.Reads.{edge_of}
pub use Rattle.table.specs.Access.{no_branch}
pub use Rattle.table.specs.declared.model.Branch.{Branch}
pub use Rattle.clocks.specs.declared.region.Region.{Region}
unfoldable pub use Rattle.table.specs.Model.{reset_in}
unfoldable pub use Rattle.table.specs.Reading.{read_table}
unfoldable pub use Rattle.clocks.specs.Cells.{delay}
unfoldable pub use Rattle.clocks.specs.Atoms.{atom}
unfoldable pub use Rattle.clocks.specs.Packed.{clock_at, delayed, after_reset}
-- For the table of points alone, which stands in the listing layer: cells, what reading a table is computed by, and the list of proofs.
pub use Rattle.clocks.specs.Cells.{Cell, over, at, reset, cells}
pub use Rattle.clocks.specs.declared.region.Bounds.{Bounds}
unfoldable pub use Rattle.table.specs.Format.{body_length, body_lengths}
unfoldable pub use Rattle.table.specs.Records.{record_of, body_at, record_at, past}
unfoldable pub use Rattle.table.specs.Refusals.{rows_of, next_of as next_step, step_at}
unfoldable pub use Rattle.table.specs.Reading.{item_at, run, run_table, add, gather, model_of}
pub use Rattle.table.specs.Sound.{All, none, also}
