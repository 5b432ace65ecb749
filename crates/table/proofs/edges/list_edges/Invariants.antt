-- The loop's invariant: storing the edges from here on comes to what storing all edges comes to, of the edges that the list has
-- room for.
use Rattle.std.specs.Prelude.{[], min}
use Rattle.table.specs.Edges.{edge_list}
use Rattle.table.specs.Access.{read_edge}
use Rattle.table.specs.Format.{max_edges}
use Rattle.table.proofs.Laws.Edges.{Comes}
use Rattle.table.proofs.edges.list_edges.Given as goal

abbrev pub invariant-loop-i : goal.invariant-loop-i
invariant-loop-i l = Comes l.table (min l.fn.shape.edges max_edges) l.initial.at (read_edge l.table) (edge_list []) l.at l.i l.edges
