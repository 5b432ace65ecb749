-- Laws on the definitions of the region layer:
--   Graph      what an edge and a delay come to, by the tests of the code
--   Every      for loops that test every item of a list
--   Worklist   exploring lists exactly what is reached, once each; more room only adds at the end
--   Answered   for the code of the graph call
--   Call       what the answer of the graph call says about the regions that are reached
--   Order      the numbers of the regions: one list has document 01's order, and the graph call gives that one
--   Numbers    what the number that the graph call answers says about its outcome
--   Bounds     the bound M is the largest constant of the table, and at most 15; every atom has a verdict
--   Formed     every region that is reached is well formed
--   Locations  every region that is reached is at a location that exists, which has a label
--   Bytes      the entries that the graph call leaves hold its regions, and the bytes after them stay
--   Filling    for the loops that fill the slices of the graph
--   Rows       for the code that fills the rows of the edges
--   Shown      what the slices of the graph then hold
--   Reach      for the code that lists what a region reaches by delay
--   Sight      for the code that says what is known of one region
--   View       numbers and labels of regions; in a graph that was listed whole, delays and steps lead to numbers of regions
pub mod Graph
pub mod Every
pub mod Worklist
pub mod Answered
pub mod Call
pub mod Order
pub mod Numbers
pub mod Bounds
pub mod Formed
pub mod Locations
pub mod Bytes
pub mod View
pub mod Filling
pub mod Rows
pub mod Shown
pub mod Reach
pub mod Sight
