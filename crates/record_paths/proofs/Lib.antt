-- sums over paths
pub mod PathSums
-- counts that are in range
pub mod RunFields
-- what a sound record of kind 5 or 6 says
pub mod PathsSound
-- the bytes and the range of δ
pub mod FallBounds
-- the bytes that components take
pub mod PathWidths
-- a loop of two paths with its argument, on file
pub mod PathSamples
-- the edges of both kinds
pub mod PathEdges
