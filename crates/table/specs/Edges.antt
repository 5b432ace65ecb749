-- The edges by number: what the edge list holds.
use Rattle.std.specs.Prelude.{List, replicate}
use Rattle.std.proofs.lemmas.List.Edits.{sets}
use Rattle.table.specs.Format.{max_edges}
use Rattle.table.specs.Access.{no_edge_struct}
use Rattle.table.specs.declared.model.Edge.{Edge as EdgeStruct}

-- The edge list that holds some edges: edges of zeros, over which these are stored from number 0 on. (`set` past the end of a list
-- changes nothing, so of more than 128 edges it has the first 128.)
unfoldable pub edge_list : List EdgeStruct → List EdgeStruct
edge_list edges = sets (replicate max_edges no_edge_struct) 0 edges
