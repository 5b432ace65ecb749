-- The numbers of the reasons of refusals, and a refusal of a reason and a place: passed on from Refusals.
pub use Rattle.table.specs.Refusals.{number, refusal_at}
