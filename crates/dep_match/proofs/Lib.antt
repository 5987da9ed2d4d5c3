pub mod BestSoFar
pub mod OrderedTrees
pub mod Trees
